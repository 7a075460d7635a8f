-- What the arena holds after a part of it is written, byte by byte, and a slice of it.
-- Assumes nothing.
use mathlib.Core.Path.{◌≡◌, sym, ap, ◌∙◌}
use mathlib.Core.Bool.{true}
use mathlib.Core.List.{List, ◌++◌}
use Prim.Native.Nat.{ℕ, ◌+◌, ◌-◌, ◌≤◌, ◌<◌}
use native.Mathlib.Omega.{arith}
use lib.Dec.{leb, ltb}
use lib.ListN.{length, get_or, take, drop, length-append, length-drop, length-replicate, get_or-replicate, get_or-append}
use lib.Seq.{length-take-le, get_or-append-add, get_or-take, get_or-drop, ext_get_or}
use Rattle.std.specs.Prelude.{if◌then◌else◌, ◌&&◌}
use Rattle.model.specs.Arena.{written, zeroed, slice, disjoint}
use Rattle.model.proofs.Choosing.{split, tests, parts, one_holds}

-- Of a part of k bytes from x on.
module _ (x k : ℕ) (part arena : List ℕ) (l : length part ≡ k) (h : x + k ≤ length arena) where
  front : length (take x arena ++ part) ≡ x + k
  front = length-append (take x arena) part ∙ (omega (arith, l, length-take-le x arena (omega arith)))

  -- The arena keeps its length.
  pub length_written : length (written x part arena) ≡ length arena
  length_written = length-append (take x arena ++ part) (drop (x + length part) arena) ∙ (omega (arith, l, front, length-drop (x + length part) arena))

  -- Byte j of the part stands at x + j.
  pub byte_in : (i j : ℕ) → i ≡ x + j → j < k → get_or (written x part arena) i 0 ≡ get_or part j 0
  byte_in i j e q =
      get_or-append (take x arena ++ part) (drop (x + length part) arena) 0 i (omega (arith, front))
      ∙ ap (λ (n : ℕ). get_or (take x arena ++ part) n 0) (omega (arith, length-take-le x arena (omega arith)))
      ∙ get_or-append-add (take x arena) part j 0

  -- Each byte before the part is as it was.
  pub byte_before : (i : ℕ) → i < x → get_or (written x part arena) i 0 ≡ get_or arena i 0
  byte_before i q =
      get_or-append (take x arena ++ part) (drop (x + length part) arena) 0 i (omega (arith, front))
      ∙ get_or-append (take x arena) part 0 i (omega (arith, length-take-le x arena (omega arith)))
      ∙ get_or-take x arena i 0 q

  -- Each byte after it is as it was.
  pub byte_after : (i : ℕ) → x + k ≤ i → get_or (written x part arena) i 0 ≡ get_or arena i 0
  byte_after i q =
      let d : ℕ = i - (x + k) in
      let e : i ≡ length (take x arena ++ part) + d = omega (arith, front) in
      ap (λ (n : ℕ). get_or (written x part arena) n 0) e
      ∙ get_or-append-add (take x arena ++ part) (drop (x + length part) arena) d 0
      ∙ get_or-drop (x + length part) arena d 0
      ∙ ap (λ (n : ℕ). get_or arena n 0) (omega (arith, l))

  -- So a byte is the part's if it is in its place, and else as it was.
  pub written_each : (i : ℕ) → get_or (written x part arena) i 0 ≡ (if leb x i && ltb i (x + k) then get_or part (i - x) 0 else get_or arena i 0)
  written_each i =
      split (leb x i)
      (λ p. split (ltb i (x + k)) (λ q. rw (p, q) (byte_in i (i - x) (omega tests) (omega tests))) (λ q. rw (p, q) (byte_after i (omega tests))))
      (λ p. rw p (byte_before i (omega tests)))

-- Of k zeros from x on.
module _ (x k : ℕ) (arena : List ℕ) (h : x + k ≤ length arena) where
  -- The arena keeps its length.
  pub length_zeroed : length (zeroed x k arena) ≡ length arena
  length_zeroed = length_written x k _ arena (length-replicate k _) h

  -- Each of the k bytes is zero.
  pub zeroed_in : (i : ℕ) → x ≤ i → i < x + k → get_or (zeroed x k arena) i 0 ≡ 0
  zeroed_in i p q =
      byte_in x k _ arena (length-replicate k _) h i (i - x) (omega arith) (omega arith) ∙ get_or-replicate k (i - x) _ 0 (omega arith)

  -- Each byte before them is as it was.
  pub zeroed_before : (i : ℕ) → i < x → get_or (zeroed x k arena) i 0 ≡ get_or arena i 0
  zeroed_before i p = byte_before x k _ arena (length-replicate k _) h i p

  -- Each byte after them is as it was.
  pub zeroed_after : (i : ℕ) → x + k ≤ i → get_or (zeroed x k arena) i 0 ≡ get_or arena i 0
  zeroed_after i p = byte_after x k _ arena (length-replicate k _) h i p

  -- So a byte is zero if it is one of the k, and else as it was.
  pub zeroed_each : (i : ℕ) → get_or (zeroed x k arena) i 0 ≡ (if leb x i && ltb i (x + k) then 0 else get_or arena i 0)
  zeroed_each i =
      split (leb x i)
      (λ p. split (ltb i (x + k)) (λ q. rw (p, q) (zeroed_in i (omega tests) (omega tests))) (λ q. rw (p, q) (zeroed_after i (omega tests))))
      (λ p. rw p (zeroed_before i (omega tests)))

-- Of the k bytes from x on.
module _ (x k : ℕ) (arena : List ℕ) where
  -- There are k of them.
  pub length_slice : x + k ≤ length arena → length (slice x k arena) ≡ k
  length_slice h = length-take-le k (drop x arena) (simp length-drop (omega arith))

  -- Byte j of them is byte x + j of the arena.
  pub byte_slice : (j : ℕ) → j < k → get_or (slice x k arena) j 0 ≡ get_or arena (x + j) 0
  byte_slice j q = get_or-take k (drop x arena) j 0 q ∙ get_or-drop x arena j 0

-- Two parts whose places have no byte in common are written in either order.
pub written_apart : (x k y m : ℕ) (p q arena : List ℕ) → length p ≡ k → length q ≡ m → x + k ≤ length arena → y + m ≤ length arena → disjoint x k y m ≡ true
    → written x p (written y q arena) ≡ written y q (written x p arena)
written_apart x k y m p q arena lp lq h g d =
    let lx : length (written x p arena) ≡ length arena = length_written x k p arena lp h in
    let ly : length (written y q arena) ≡ length arena = length_written y m q arena lq g in
    let lxy : length (written x p (written y q arena)) ≡ length arena = length_written x k p (written y q arena) lp (omega arith) ∙ ly in
    let lyx : length (written y q (written x p arena)) ≡ length arena = length_written y m q (written x p arena) lq (omega arith) ∙ lx in
    ext_get_or 0 _ _ (lxy ∙ sym lyx)
    (λ i t. rw (
      written_each x k p (written y q arena) lp (omega arith) i,
      written_each y m q arena lq g i,
      written_each y m q (written x p arena) lq (omega arith) i,
      written_each x k p arena lp h i,
    )
    (split (leb x i && ltb i (x + k))
    (λ a. split (leb y i && ltb i (y + m))
    (λ b. let a₁ : leb x i ≡ true = search parts in
    let a₂ : ltb i (x + k) ≡ true = search parts in
    let b₁ : leb y i ≡ true = search parts in
    let b₂ : ltb i (y + m) ≡ true = search parts in
    absurd (omega (tests, one_holds)))
    (λ b. rw (a, b)))
    (λ a. rw a)))
