-- What is done to the rows in use when a block is lent, given back or resized.
-- Assumes nothing.
use Rattle.std.specs.Prelude.{◌≡◌, ℕ, ◌+◌, ◌-◌, ◌<◌, ◌≤◌, true, if◌then◌else◌, ◌&&◌, List, [], ◌∷◌, ◌++◌, length, take, drop, nat_lt}
use Rattle.model.specs.Quantities.{Config}
use Rattle.model.specs.Allocation.{room}
use Rattle.model.specs.SegmentMap.{is_free, is_live, free_run, gap}
use Rattle.segments.specs.Rows.{nth_row}
use Rattle.segments.specs.Tiling.{well_formed, is_map}
use Rattle.segments.specs.Search.{others}
use Rattle.model.specs.declared.Segment.{Segment}

-- The k rows from row i on are replaced by others.
abbrev pub replaced : ℕ → ℕ → List Segment → List Segment → List Segment
replaced i k new xs = take i xs ++ (new ++ drop (i + k) xs)

-- A row is inserted at row i, and the rows from there on stand one higher.
abbrev pub inserted : ℕ → Segment → List Segment → List Segment
inserted i x xs = replaced i 0 (x ∷ []) xs

-- Row i is removed, and the rows after it stand one lower.
abbrev pub removed : ℕ → List Segment → List Segment
removed i xs = replaced i 1 [] xs

-- A row that is cut exactly for a block in it: what is left of it before the block, the block, what is left after it.
abbrev pub cut : Segment → Segment → List Segment
cut x b = gap x.start b.start ++ (b ∷ gap (b.start + b.length) (x.start + x.length))

-- The first two rows become one free run if both are free.
abbrev pub join_first : List Segment → List Segment
join_first [] = []
join_first (x ∷ []) = x ∷ []
join_first (x ∷ y ∷ ys) = if is_free x && is_free y then free_run x.start (x.length + y.length) ∷ ys else x ∷ y ∷ ys

-- Rows i and i + 1 become one free run if both are free.
abbrev pub joined : ℕ → List Segment → List Segment
joined i xs = take i xs ++ join_first (drop i xs)

-- The first row becomes a free run.
abbrev pub free_first : List Segment → List Segment
free_first [] = []
free_first (x ∷ xs) = free_run x.start x.length ∷ xs

-- Row i becomes a free run.
abbrev pub freed : ℕ → List Segment → List Segment
freed i xs = take i xs ++ free_first (drop i xs)

-- Row i becomes a free run, and is joined with the row after it and the row before it, each if that is free.
abbrev pub released : ℕ → List Segment → List Segment
released i xs = if nat_lt 0 i then joined (i - 1) (joined i (freed i xs)) else joined i (freed i xs)

-- A block may take the place of the one in row i of a map: there is room for it beside the other blocks.
pub record Replaceable (c : Config) (xs : List Segment) (i : ℕ) (b : Segment) : Type 0 where
  pub in_use : i < length xs
  pub map : is_map c xs ≡ true
  pub small : c.granules ≤ 4294967295
  pub old : is_live (nth_row xs i) ≡ true
  pub formed : well_formed c b ≡ true
  pub live : is_live b ≡ true
  pub fits : room c (others xs i) b.length b.start ≡ true
