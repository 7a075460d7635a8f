-- What is looked for in the rows: the row of a granule, the place that first fit names, and the start of a block with another length.
-- Assumes nothing.
use Rattle.std.specs.Prelude.{◌≡◌, ℕ, ◌+◌, ◌<◌, ◌≤◌, true, if◌then◌else◌, List, filter, length, Option, Some, IfSome}
use Rattle.std.specs.Option.{option_map}
use Rattle.model.specs.Quantities.{Config}
use Rattle.model.specs.Allocation.{room, lowest_start, offset, has_granule, without}
use Rattle.model.specs.SegmentMap.{is_live}
use Rattle.segments.specs.Rows.{nth_row}
use Rattle.segments.specs.Tiling.{tiles}
use Rattle.model.specs.declared.Segment.{Segment}
use Rattle.segments.specs.declared.searching.Place.{Place}

-- One of the rows, and the one with granule x if they tile an arena that has x.
pub record RowOf (xs : List Segment) (x row : ℕ) : Type 0 where
  pub in_use : row < length xs
  pub has : (e : ℕ) → tiles 0 e xs ≡ true → x < e → has_granule x (nth_row xs row) ≡ true

-- One of the rows is free, and has g granules from s on.
pub record Room (xs : List Segment) (g row s : ℕ) : Type 0 where
  pub in_use : row < length xs
  pub free : (nth_row xs row).owner ≡ 0
  pub from : (nth_row xs row).start ≤ s
  pub up_to : s + g ≤ (nth_row xs row).start + (nth_row xs row).length

-- What first fit finds in rows that are a map: the lowest start that serves g granules on a boundary of a bytes beside the live blocks, and its row.
pub record Found (c : Config) (xs : List Segment) (g a : ℕ) (found : Option Place) : Type 0 where
  pub lowest : lowest_start c (filter is_live xs) g a ≡ option_map (λ p. p.start) found
  pub room : IfSome found (λ p. Room xs g p.row p.start)

-- The blocks but for the one in row i.
abbrev pub others : List Segment → ℕ → List Segment
others xs i = without (offset (nth_row xs i)) (filter is_live xs)

-- The block in row i with g granules starts where it does if there is room beside the other blocks, else at the lowest start clear of all, if there is one.
abbrev pub refit_start : Config → List Segment → ℕ → ℕ → Option ℕ
refit_start c xs i g =
    if room c (others xs i) g (nth_row xs i).start then Some (nth_row xs i).start else lowest_start c (filter is_live xs) g 16
