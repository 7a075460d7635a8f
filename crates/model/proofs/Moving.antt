-- What the arena holds after bytes of it are moved: byte by byte, and to which writes that comes.
-- Assumes nothing.
use mathlib.Core.Path.{◌≡◌, sym, ap, ◌∙◌}
use mathlib.Core.Bool.{true, false}
use mathlib.Core.List.{List, []}
use Prim.Native.Nat.{ℕ, ◌+◌, ◌-◌, ◌≤◌, ◌<◌, min}
use native.Mathlib.Omega.{arith}
use lib.Dec.{leb, ltb}
use lib.ListN.{length, get_or, replicate, length-replicate}
use lib.Seq.{ext_get_or, paste-zero}
use borrow.Author.Tests.{le-leb, lt-leb, lt-ltb}
use Rattle.std.specs.Prelude.{if◌then◌else◌, ◌&&◌}
use Rattle.model.specs.Arena.{written, zeroed, slice, disjoint, moved}
use Rattle.model.proofs.Choosing.{split, tests, parts}
use Rattle.model.proofs.Bytes.{length_written, written_each, length_zeroed, zeroed_each, length_slice, byte_slice, written_apart}

-- Of the k bytes from x on, as many as m of them moved to y.
module _ (x k y m : ℕ) (arena : List ℕ) (from : x + k ≤ length arena) (to : y + m ≤ length arena) where
  part_long : length (slice x (min k m) arena) ≡ min k m
  part_long = length_slice x (min k m) arena (omega arith)

  fits : y + min k m ≤ length (zeroed x k arena)
  fits = omega (arith, length_zeroed x k arena from)

  -- The arena keeps its length.
  pub length_moved : length (moved x k y m arena) ≡ length arena
  length_moved = length_written y (min k m) (slice x (min k m) arena) (zeroed x k arena) part_long fits ∙ length_zeroed x k arena from

  -- A byte is one that came along, zero if it is another of the k, and else as it was.
  pub moved_each : (i : ℕ) → get_or (moved x k y m arena) i 0
      ≡ (if leb y i && ltb i (y + min k m) then get_or arena (x + (i - y)) 0 else if leb x i && ltb i (x + k) then 0 else get_or arena i 0)
  moved_each i =
      written_each y (min k m) (slice x (min k m) arena) (zeroed x k arena) part_long fits i
      ∙ rw (zeroed_each x k arena from i)
      (split (leb y i && ltb i (y + min k m))
      (λ q. let low : leb y i ≡ true = search parts in
      let high : ltb i (y + min k m) ≡ true = search parts in
      rw q (byte_slice x (min k m) arena (i - y) (omega tests)))
      (λ q. rw q))

  -- So byte j of those that come along stands at y + j,
  pub moved_in : (j : ℕ) → j < min k m → get_or (moved x k y m arena) (y + j) 0 ≡ get_or arena (x + j) 0
  moved_in j q =
      let z : y + j - y ≡ j = omega arith in
      moved_each (y + j) ∙ rw (le-leb y (y + j) (omega arith), lt-ltb (y + j) (y + min k m) (omega arith), z)

  -- and each other byte is zero if it is one of the k, and else as it was.
  pub moved_out : (i : ℕ) → (leb y i && ltb i (y + min k m)) ≡ false
      → get_or (moved x k y m arena) i 0 ≡ (if leb x i && ltb i (x + k) then 0 else get_or arena i 0)
  moved_out i e = moved_each i ∙ rw e

-- The place of k bytes zeroed and its first m put back: the others are zeroed.
put_back : (x k m : ℕ) (arena : List ℕ) → m ≤ k → x + k ≤ length arena → written x (slice x m arena) (zeroed x k arena) ≡ zeroed (x + m) (k - m) arena
put_back x k m arena h g =
    let ls : length (slice x m arena) ≡ m = length_slice x m arena (omega arith) in
    let lz : length (zeroed x k arena) ≡ length arena = length_zeroed x k arena g in
    let ll : length (written x (slice x m arena) (zeroed x k arena)) ≡ length arena = length_written x m (slice x m arena) (zeroed x k arena) ls (omega arith) ∙ lz in
    let lr : length (zeroed (x + m) (k - m) arena) ≡ length arena = length_zeroed (x + m) (k - m) arena (omega arith) in
    ext_get_or 0 _ _ (ll ∙ sym lr)
    (λ i t. rw (
      written_each x m (slice x m arena) (zeroed x k arena) ls (omega arith) i,
      zeroed_each x k arena g i,
      zeroed_each (x + m) (k - m) arena (omega arith) i,
    )
    (split (leb x i)
    (λ a. split (ltb i (x + m))
    (λ b. rw (a, b, lt-leb (x + m) i (omega tests)) (byte_slice x m arena (i - x) (omega tests) ∙ ap (λ (n : ℕ). get_or arena n 0) (omega tests)))
    (λ b. let z : x + m + (k - m) ≡ x + k = omega arith in
    rw (a, b, le-leb (x + m) i (omega tests), z)))
    (λ a. rw (a, lt-leb (x + m) i (omega tests)))))

-- Bytes moved to their own place where there is no room for them all: those past the room are zeroed.
pub moved_shorter : (x k m : ℕ) (arena : List ℕ) → m ≤ k → x + k ≤ length arena → moved x k x m arena ≡ zeroed (x + m) (k - m) arena
moved_shorter x k m arena h g = let z : min k m ≡ m = omega arith in rw z (put_back x k m arena h g)

-- Bytes moved to their own place where there is room for them all: nothing changes.
pub moved_longer : (x k m : ℕ) (arena : List ℕ) → k ≤ m → x + k ≤ length arena → moved x k x m arena ≡ arena
moved_longer x k m arena h g =
    let z : min k m ≡ k = omega arith in
    let y : k - k ≡ 0 = omega arith in
    rw z (put_back x k k arena (omega arith) g ∙ rw y (sym (paste-zero arena (x + k) [])))

-- Bytes moved to a place apart: they are copied there, and their own place is zeroed.
pub moved_apart : (x k y m : ℕ) (arena : List ℕ) → k ≤ m → x + k ≤ length arena → y + k ≤ length arena → disjoint x k y k ≡ true
    → zeroed x k (written y (slice x k arena) arena) ≡ moved x k y m arena
moved_apart x k y m arena h g e d =
    let z : min k m ≡ k = omega arith in
    rw z (written_apart x k y k (replicate k 0) (slice x k arena) arena (length-replicate k 0) (length_slice x k arena g) g e d)
