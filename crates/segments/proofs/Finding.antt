-- What a caller makes of what it found in the rows: the block over a granule, and the map with a block placed where first fit said.
-- Assumes nothing.
use Rattle.std.proofs.Common.{◌≡◌, ℕ, ◌+◌, ◌-◌, ◌<◌, ◌≤◌, Bool, true, not, List, ◌∷◌, ◌++◌, length, take, drop, ap, ◌∙◌, subst, arith}
use Rattle.std.specs.Prelude.{None, Some, if◌then◌else◌, filter}
use Rattle.std.specs.List.{list_all}
use Rattle.model.specs.Quantities.{Config}
use Rattle.model.specs.Allocation.{has_granule, block_over, insert}
use Rattle.model.specs.SegmentMap.{is_live, map_of, rows_of}
use Rattle.model.proofs.Choosing.{split, tests, parts, every_only, every_weaker, only_append, first_back, first_none}
use Rattle.model.proofs.Ordered.{Live}
use Rattle.model.proofs.Offsets.{granule_in, in_granule, granule_before, granule_after}
use Rattle.segments.specs.Rows.{nth_row}
use Rattle.segments.specs.Tiling.{tiles, is_map, IsMapWithin}
use Rattle.segments.specs.Search.{RowOf, Found}
use Rattle.segments.specs.Changes.{replaced, cut}
use Rattle.segments.proofs.Reading.{row_parted, row_end, ends_by, tiles_end}
use Rattle.segments.proofs.Parted.{Parted, part, starts_from, tiles_from}
use Rattle.segments.proofs.TilesMap.{First, first}
use Rattle.segments.proofs.Splitting.{split_rows, split_count}
use Rattle.model.specs.declared.Segment.{Segment}
use Rattle.segments.specs.declared.searching.Place.{Place}

-- a segment without granule i
abbrev pub lacks : ℕ → Segment → Bool
lacks i y = not (has_granule i y)

-- The segments of a tiling lack a granule from its end on, and one before its start.
pub lacks_after : (s e i : ℕ) (xs : List Segment) → tiles s e xs ≡ true → e ≤ i → list_all (lacks i) xs ≡ true
lacks_after s e i xs t h = every_weaker (ends_by e) (lacks i) (λ y k. rw (granule_after i y (omega tests))) xs (tiles_end s e xs t)

pub lacks_before : (s e i : ℕ) (xs : List Segment) → tiles s e xs ≡ true → i < s → list_all (lacks i) xs ≡ true
lacks_before s e i xs t h = every_weaker (starts_from s) (lacks i) (λ y k. rw (granule_before i y (omega tests))) xs (tiles_from s s e xs (omega arith) t)

-- The block over granule i of the arena is the row of that granule if that is live, and else there is none.
pub over_row : (c : Config) (xs : List Segment) (i row : ℕ) → is_map c xs ≡ true → i < c.granules → RowOf xs i row
    → block_over i (filter is_live xs) ≡ (if is_live (nth_row xs row) then Some (nth_row xs row) else None)
over_row c xs i row m h r =
    let ys : List Segment = take row xs in
    let s : Segment = nth_row xs row in
    let zs : List Segment = drop (row + 1) xs in
    let t : tiles 0 c.granules xs ≡ true = search parts in
    let g : (s.start ≤ i) × (i < s.start + s.length) = granule_in i s (r.has c.granules t h) in
    let e : xs ≡ ys ++ (s ∷ zs) = row_parted xs row r.in_use in
    let p : Parted 0 c.granules ys (s ∷ zs) = part 0 c.granules ys (s ∷ zs) (subst (λ (k : List Segment). tiles 0 c.granules k ≡ true) e t) in
    let f : First p.at c.granules s zs = first p.at c.granules s zs p.back in
    let before : list_all (lacks i) (filter is_live ys) ≡ true =
    every_only (lacks i) is_live ys (lacks_after 0 p.at i ys p.front (omega arith)) in
    let after : list_all (lacks i) (filter is_live zs) ≡ true =
    every_only (lacks i) is_live zs (lacks_before (s.start + s.length) c.granules i zs f.rest (omega arith)) in
    ap (λ (k : List Segment). block_over i (filter is_live k)) e
    ∙ rw (only_append is_live ys (s ∷ zs))
    (first_back (has_granule i) (filter is_live ys) (filter is_live (s ∷ zs)) before
    ∙ split (is_live s)
    (λ q. rw (q, in_granule i s g.0 g.1))
    (λ q. rw q (first_none (has_granule i) (filter is_live zs) after)))

-- The place that first fit found, cut for a block: the map with that block.
pub found_cut : (c : Config) (xs : List Segment) (g a : ℕ) (p : Place) (b : Segment) → is_map c xs ≡ true → Found c xs g a (Some p)
    → Live c b → b.start ≡ p.start → b.length ≡ g → replaced p.row 1 (cut (nth_row xs p.row) b) xs ≡ map_of c (insert b (filter is_live xs))
found_cut c xs g a p b m f l s q =
    split_rows c xs p.row b f.room.in_use m f.room.free l (omega (arith, f.room.from)) (omega (arith, f.room.up_to))

-- The rows are then those before, less the one cut, and those that it is cut into.
pub found_count : (c : Config) (xs : List Segment) (g a : ℕ) (p : Place) (b : Segment) → is_map c xs ≡ true → Found c xs g a (Some p)
    → Live c b → b.start ≡ p.start → b.length ≡ g → rows_of c (insert b (filter is_live xs)) ≡ length xs - 1 + length (cut (nth_row xs p.row) b)
found_count c xs g a p b m f l s q =
    split_count c xs p.row b f.room.in_use m f.room.free l (omega (arith, f.room.from)) (omega (arith, f.room.up_to))

-- No row of a map ends after the arena.
pub row_inside : (c : Config) (xs : List Segment) (i : ℕ) → is_map c xs ≡ true → i < length xs → (nth_row xs i).start + (nth_row xs i).length ≤ c.granules
row_inside c xs i m h = row_end c.granules xs i (search parts) h

-- So none ends after the granules that an arena of which the rows are a map has at most.
pub row_within : (most : ℕ) (xs : List Segment) (i : ℕ) (x : Segment) → IsMapWithin most xs → i < length xs → x ≡ nth_row xs i → x.start + x.length ≤ most
row_within most xs i x m h e = rw e (omega (arith, m.small, row_inside m.arena xs i m.map h))
