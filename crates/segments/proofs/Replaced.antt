-- A block that may take the place of the one in a row: where it lies, how many rows there are with it, and the row given back and another cut for it.
-- Assumes nothing.
use Rattle.std.proofs.Common.{◌≡◌, ℕ, ◌+◌, ◌-◌, ◌*◌, ◌≤◌, true, leb, List, length, sym, ap, ◌∙◌, subst, arith, eqb-true}
use Rattle.std.specs.Prelude.{Some, if◌then◌else◌, filter}
use borrow.Author.Tests.{not-true}
use Rattle.model.specs.Quantities.{Config}
use Rattle.model.specs.Allocation.{insert, has_granule, block_over}
use Rattle.model.specs.SegmentMap.{is_free, is_live, map_of, rows_of}
use Rattle.model.proofs.Choosing.{split, tests, both_left}
use Rattle.model.proofs.Ordered.{Live, long}
use Rattle.segments.specs.Rows.{segment_at, nth_row, segments_in, Rewritten}
use Rattle.segments.specs.Tiling.{tiles, is_map}
use Rattle.segments.specs.Search.{RowOf, others}
use Rattle.segments.specs.Changes.{replaced, cut, released, Replaceable}
use Rattle.segments.specs.Steps.{run_around}
use Rattle.segments.proofs.MapTiles.{live_map}
use Rattle.segments.proofs.TilesMap.{formed_live}
use Rattle.segments.proofs.Rows.{length_segments}
use Rattle.segments.proofs.Reading.{row_got}
use Rattle.segments.proofs.Cuts.{cut_length}
use Rattle.segments.proofs.Rewriting.{rows_read, change}
use Rattle.segments.proofs.Splitting.{split_rows, split_count}
use Rattle.segments.proofs.Releasing.{release_rows}
use Rattle.segments.proofs.Around.{around_bounds, ordered, map_others, over_around, segment_over, around_count, around_few, target_free, target_bounds, exchanged_count}
use Rattle.model.specs.declared.Segment.{Segment}

module _ {c : Config} {xs : List Segment} {i : ℕ} {b : Segment} (r : Replaceable c xs i b) where
  abbrev blocks : List Segment
  blocks = others xs i

  live_block : Live c b
  live_block = formed_live c b (not-true (is_free b) r.live) r.formed

  -- It ends in the arena.
  pub inside : b.start + b.length ≤ c.granules
  inside = let z : leb (b.start + b.length) c.granules ≡ true = both_left _ _ r.fits in omega tests

  -- A row of the map without the old block that is over the new one's start.
  module _ {t : Segment} (over : block_over b.start (map_of c blocks) ≡ Some t) where
    bounds : (t.start ≤ b.start) × (b.start + b.length ≤ t.start + t.length) × (t.start + t.length ≤ c.granules)
    bounds = target_bounds c xs i r.in_use r.map r.old b t live_block r.fits over

  -- The old block and the free run around it, as they are read.
  module _ {old run : Segment} (old_is : old ≡ nth_row xs i) (run_is : run ≡ run_around xs i) where
    cut_is : length (cut run old) ≡ length (cut (run_around xs i) (nth_row xs i))
    cut_is j = length (cut (run_is j) (old_is j))

    -- The run ends in the arena, and the block in it,
    pub read_inside : (old.start + old.length ≤ c.granules) × (run.start + run.length ≤ c.granules)
    read_inside =
        let a = around_bounds c xs i r.in_use r.map in
        let o = ap (λ (x : Segment). x.start + x.length) old_is in
        let e = ap (λ (x : Segment). x.start + x.length) run_is in
        (omega arith, omega arith)

    -- and it is cut into no more rows than there are.
    pub cut_few : length (cut run old) ≤ length xs
    cut_few = omega (arith, cut_is, around_few c xs i r.in_use r.map r.old)

    -- The new block begins in the run, or else in the row in which it begins now.
    module _ {at : ℕ} (w : RowOf xs b.start at) {before t : Segment} (before_is : before ≡ nth_row xs at) (is : t ≡ (if has_granule b.start run then run else before)) where
      over : block_over b.start (map_of c blocks) ≡ Some t
      over =
          let m : tiles 0 c.granules xs ≡ true = both_left _ _ (both_left _ _ r.map) in
          let g : has_granule b.start (nth_row xs at) ≡ true = w.has c.granules m (omega (arith, inside, long c b live_block)) in
          let e : t ≡ (if has_granule b.start (run_around xs i) then run_around xs i else nth_row xs at) =
          is ∙ (λ j. if has_granule b.start (run_is j) then run_is j else before_is j) in
          over_around c xs i r.in_use r.map r.old b.start
          ∙ split (has_granule b.start (run_around xs i))
          (λ q. rw q (ap Some (sym (e ∙ rw q))))
          (λ q. rw q (segment_over c xs b.start at r.map w.in_use g ∙ ap Some (sym (e ∙ rw q))))

      -- That row ends in the arena, and the rows with the block follow from it.
      pub target_inside : t.start + t.length ≤ c.granules
      target_inside = (bounds over).2

      pub rows_counted : rows_of c (insert b blocks) + length (cut run old) ≡ length xs + length (cut t b)
      rows_counted = omega (arith, cut_is, exchanged_count c xs i r.in_use r.map r.old b t live_block r.fits over)

-- Row i given back, and the row over the block's start cut for it.
module _ {c : Config} {n i : ℕ} {b : Segment} {ws : List ℕ} (r : Replaceable c (segments_in n ws) i b) where
  module _ {m : ℕ} {part : List ℕ} (q : Rewritten n ws (released i (segments_in n ws)) m part) where
    freed_is : segments_in m part ≡ map_of c (blocks r)
    freed_is = rows_read q ∙ release_rows c (segments_in n ws) i r.in_use r.map r.old

    freed_map : is_map c (segments_in m part) ≡ true
    freed_map = rw freed_is (map_others c (segments_in n ws) i r.in_use r.map r.old)

    freed_count : m ≡ rows_of c (blocks r)
    freed_count = sym (length_segments m part) ∙ ap length freed_is

    freed_blocks : filter is_live (segments_in m part) ≡ blocks r
    freed_blocks = ap (filter is_live) freed_is ∙ live_map c 0 (blocks r) (ordered c (segments_in n ws) i r.in_use r.map r.old)

    -- The rows left are some, and no more than before.
    pub freed_some : (1 ≤ m) × (m ≤ n)
    freed_some =
        let count = around_count c (segments_in n ws) i r.in_use r.map r.old in
        let few = around_few c (segments_in n ws) i r.in_use r.map r.old in
        let least = cut_length (run_around (segments_in n ws) i) (nth_row (segments_in n ws) i) in
        (omega (arith, freed_count, length_segments n ws), omega (arith, freed_count, length_segments n ws))

    module _ {at : ℕ} (a : RowOf (segments_in m part) b.start at) where
      abbrev target_row : Segment
      target_row = nth_row (segments_in m part) at

      over_target : block_over b.start (map_of c (blocks r)) ≡ Some target_row
      over_target =
          let t : tiles 0 c.granules (segments_in m part) ≡ true = both_left _ _ (both_left _ _ freed_map) in
          ap (block_over b.start) (sym freed_is)
          ∙ segment_over c (segments_in m part) b.start at freed_map a.in_use (a.has c.granules t (omega (arith, inside r, long c b (live_block r))))

      within : (target_row.start ≤ b.start) × (b.start + b.length ≤ target_row.start + target_row.length) × (target_row.start + target_row.length ≤ c.granules)
      within = bounds r over_target

      free : target_row.owner ≡ 0
      free = eqb-true _ 0 (target_free c (segments_in n ws) i r.in_use r.map r.old b target_row (live_block r) r.fits over_target)

      -- It is the segment in its four words.
      target_is : target_row ≡ segment_at part at
      target_is = row_got m at part (omega (arith, a.in_use, length_segments m part))

      -- That row may be cut for the block: nothing wraps, and the table has the rows.
      pub may_cut : 4 * rows_of c (insert b (blocks r)) ≤ length ws → (b.start + b.length ≤ 4294967295)
          × ((segment_at part at).start + (segment_at part at).length ≤ 4294967295)
          × (4 * (m - 1 + length (cut (segment_at part at) b)) ≤ length ws)
      may_cut h =
          subst (λ (x : Segment). (b.start + b.length ≤ 4294967295) × (x.start + x.length ≤ 4294967295) × (4 * (m - 1 + length (cut x b)) ≤ length ws)) target_is
          (let count = split_count c (segments_in m part) at b a.in_use freed_map free (live_block r) within.0 within.1 in
          let same = ap (λ (k : List Segment). rows_of c (insert b k)) freed_blocks in
          (omega (arith, inside r, r.small), omega (arith, within, r.small), omega (arith, length_segments m part)))

      -- The rows are then the map with the block.
      pub replaced_rows : {k : ℕ} {after : List ℕ} → Rewritten m part (replaced at 1 (cut (segment_at part at) b) (segments_in m part)) k after
          → Rewritten n ws (map_of c (insert b (blocks r))) k after
      replaced_rows {k} {after} w =
          let e : replaced at 1 (cut (segment_at part at) b) (segments_in m part) ≡ map_of c (insert b (blocks r)) =
          ap (λ (x : Segment). replaced at 1 (cut x b) (segments_in m part)) (sym target_is)
          ∙ split_rows c (segments_in m part) at b a.in_use freed_map free (live_block r) within.0 within.1 ∙ ap (λ (bs : List Segment). map_of c (insert b bs)) freed_blocks in
          change (λ (xs : List Segment). map_of c (insert b (blocks r))) q (subst (λ (xs : List Segment). Rewritten m part xs k after) e w) (omega (arith, freed_some, q.rows))
