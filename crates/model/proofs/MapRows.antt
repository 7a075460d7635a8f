-- How many rows a map has: at most two for each block and one more, no more without a block, and with one placed one for a gap before it and one for a rest after it.
-- Assumes nothing.
use mathlib.Core.Path.{◌≡◌}
use mathlib.Core.Bool.{Bool, true}
use mathlib.Core.List.{List, [], ◌∷◌}
use Prim.Native.Nat.{ℕ, ◌+◌, ◌*◌, ◌-◌, ◌≤◌}
use native.Mathlib.Omega.{arith}
use lib.Dec.{ltb}
use lib.ListN.{length, length-append}
use borrow.Author.Tests.{lt-ltb, lt-leb}
use Rattle.std.specs.Prelude.{if◌then◌else◌, ◌&&◌, filter}
use Rattle.std.specs.List.{list_all}
use Rattle.model.specs.Quantities.{Config}
use Rattle.model.specs.Allocation.{clear_of, insert}
use Rattle.model.specs.SegmentMap.{gap, map_from}
use Rattle.model.proofs.Choosing.{split, tests, every_head, every_tail}
use Rattle.model.proofs.Ordered.{Ordered, ends, long, clear_before, clear_after, after_clear, clear_all}
use Rattle.model.specs.declared.Segment.{Segment}

-- 1 where the test holds, else 0.
abbrev pub one : Bool → ℕ
one t = if t then 1 else 0

gap_length : (s e : ℕ) → length (gap s e) ≡ one (ltb s e)
gap_length s e = split (ltb s e) (λ q. rw q) (λ q. rw q)

pub gap_short : (s e : ℕ) → length (gap s e) ≤ 1
gap_short s e = rw (gap_length s e) (split (ltb s e) (λ q. rw q (omega arith)) (λ q. rw q (omega arith)))

pub rows_most_lem : (e s : ℕ) (bs : List Segment) → length (map_from e s bs) ≤ 2 * length bs + 1
rows_most_lem e s [] = omega (arith, gap_short s e)
rows_most_lem e s (b ∷ bs) =
    rw (length-append (gap s b.start) (b ∷ map_from e (b.start + b.length) bs))
    (omega (arith, gap_short s b.start, rows_most_lem e (b.start + b.length) bs))

-- from an earlier start there is at most one row more
rows_earlier : (e s t : ℕ) (bs : List Segment) → length (map_from e t bs) ≤ 1 + length (map_from e s bs)
rows_earlier e s t [] = omega (arith, gap_short t e)
rows_earlier e s t (b ∷ bs) =
    rw (length-append (gap s b.start) (b ∷ map_from e (b.start + b.length) bs), length-append (gap t b.start) (b ∷ map_from e (b.start + b.length) bs))
    (omega (arith, gap_short t b.start))

-- to take a block away adds no row
pub rows_only : (p : Segment → Bool) (e s : ℕ) (bs : List Segment) → length (map_from e s (filter p bs)) ≤ length (map_from e s bs)
rows_only p e s [] = omega arith
rows_only p e s (b ∷ bs) =
    let r : length (map_from e (b.start + b.length) (filter p bs)) ≤ length (map_from e (b.start + b.length) bs) = rows_only p e (b.start + b.length) bs in
    rw (length-append (gap s b.start) (b ∷ map_from e (b.start + b.length) bs))
    (split (p b)
    (λ q. rw (q, length-append (gap s b.start) (b ∷ map_from e (b.start + b.length) (filter p bs))) (omega arith))
    (λ q. rw q (omega (arith, rows_earlier e (b.start + b.length) s (filter p bs)))))

-- Granule x is in the arena, and in no live block.
abbrev pub is_free_granule : Config → List Segment → ℕ → Bool
is_free_granule c bs x = ltb x c.granules && list_all (clear_of x 1) bs

-- There is a gap before a block that is to be placed: the granule before it is free.
abbrev pub gap_before : Config → List Segment → Segment → Bool
gap_before c bs b = ltb 0 b.start && is_free_granule c bs (b.start - 1)

-- There is a rest after it: the granule after it is free.
abbrev pub rest_after : Config → List Segment → Segment → Bool
rest_after c bs b = is_free_granule c bs (b.start + b.length)

module _ (c : Config) (b : Segment) (hb : 1 ≤ b.length) (k : b.start + b.length ≤ c.granules) where
  pub rows_from : (s : ℕ) (bs : List Segment) → s ≤ b.start → list_all (clear_of b.start b.length) bs ≡ true → Ordered c s bs
      → length (map_from c.granules s (insert b bs))
      ≡ length (map_from c.granules s bs) + one (ltb s b.start && list_all (clear_of (b.start - 1) 1) bs) + one (rest_after c bs b)
  rows_from s [] h e o =
      let all : one (ltb s c.granules) ≡ 1 = rw (lt-ltb s c.granules (omega arith)) in
      let gb : one (ltb s b.start && true) ≡ one (ltb s b.start) = split (ltb s b.start) (λ p. rw p) (λ p. rw p) in
      let ra : one (rest_after c [] b) ≡ one (ltb (b.start + b.length) c.granules) =
      split (ltb (b.start + b.length) c.granules) (λ p. rw p) (λ p. rw p) in
      rw (length-append (gap s b.start) (b ∷ map_from c.granules (b.start + b.length) []))
      (omega (arith, gap_length s b.start, gap_length (b.start + b.length) c.granules, gap_length s c.granules))
  rows_from s (x ∷ xs) h e o =
      let ce : list_all (clear_of b.start b.length) xs ≡ true = every_tail (clear_of b.start b.length) x xs e in
      let cx : clear_of b.start b.length x ≡ true = every_head (clear_of b.start b.length) x xs e in
      let r : ℕ = length (map_from c.granules (x.start + x.length) xs) in
      split (ltb b.start x.start)
      (λ q. rw q (
      let z : b.start + b.length ≤ x.start = clear_before b.start b.length x cx (omega tests) in
      let in_use : length (map_from c.granules s (x ∷ xs)) ≡ 2 + r =
      rw (length-append (gap s x.start) (x ∷ map_from c.granules (x.start + x.length) xs), lt-ltb s x.start (omega tests)) (omega arith) in
      let gb : one (ltb s b.start && list_all (clear_of (b.start - 1) 1) (x ∷ xs)) ≡ one (ltb s b.start) =
      split (ltb s b.start) (λ p. rw (p, clear_all c (b.start - 1) 1 x.start (x ∷ xs) (omega tests) (omega arith, o.1, o.2))) (λ p. rw p) in
      let ra : one (rest_after c (x ∷ xs) b) ≡ one (ltb (b.start + b.length) x.start) =
      split (ltb (b.start + b.length) x.start)
      (λ p. rw (p, lt-ltb (b.start + b.length) c.granules (omega (tests, ends c (x.start + x.length) xs o.2)), clear_all c (b.start + b.length) 1 x.start (x ∷ xs) (omega tests) (omega arith, o.1, o.2)))
      (λ p. rw (p, lt-leb (b.start + b.length + 1) x.start (omega tests), lt-leb (x.start + x.length) (b.start + b.length) (omega (tests, long c x o.1)))
      (split (ltb (b.start + b.length) c.granules) (λ t. rw t) (λ t. rw t))) in
      rw (length-append (gap s b.start) (b ∷ map_from c.granules (b.start + b.length) (x ∷ xs)), length-append (gap (b.start + b.length) x.start) (x ∷ map_from c.granules (x.start + x.length) xs))
      (omega (arith, in_use, gb, ra, gap_length s b.start, gap_length (b.start + b.length) x.start))))
      (λ q. rw q (
      let z : x.start + x.length ≤ b.start = clear_after b.start b.length x cx (omega tests) in
      let gb : one (ltb s b.start && list_all (clear_of (b.start - 1) 1) (x ∷ xs)) ≡ one (ltb (x.start + x.length) b.start && list_all (clear_of (b.start - 1) 1) xs) =
      rw (lt-ltb s b.start (omega (arith, long c x o.1)))
      (split (ltb (x.start + x.length) b.start)
      (λ p. rw (p, after_clear (b.start - 1) 1 x (omega tests)))
      (λ p. rw (p, lt-leb (b.start - 1 + 1) x.start (omega (tests, long c x o.1)), lt-leb (x.start + x.length) (b.start - 1) (omega (tests, long c x o.1))))) in
      let ra : one (rest_after c (x ∷ xs) b) ≡ one (rest_after c xs b) = rw (after_clear (b.start + b.length) 1 x (omega arith)) in
      rw (length-append (gap s x.start) (x ∷ map_from c.granules (x.start + x.length) (insert b xs)), length-append (gap s x.start) (x ∷ map_from c.granules (x.start + x.length) xs))
      (omega (arith, gb, ra, rows_from (x.start + x.length) xs z ce o.2))))
