-- `segments::replacing::replace_row` meets its contract: the row given back, and the row over the block's start cut for the block.
-- Assumes nothing.
use Rattle.std.proofs.Common.{List, length, ap, subst, arith}
use Rattle.segments.specs.Rows.{segments_in}
use Rattle.segments.proofs.Parted.{map_granules}
use Rattle.segments.proofs.Replaced.{freed_some, may_cut, replaced_rows}
use Rattle.segments.proofs.Rows.{length_segments}
use Rattle.segments.specs.Search.{RowOf}
use Rattle.model.specs.declared.Segment.{Segment}
use Rattle.segments.proofs.replacing.replace_row.Goals as goal

pub release_row-n-requires-clause-in_use : goal.release_row-n-requires-clause-in_use
release_row-n-requires-clause-in_use c = omega (arith, c.requires.block.1.in_use, length_segments c.args.rows c.args.table.now)

pub release_row-n-requires-clause-granules : goal.release_row-n-requires-clause-granules
release_row-n-requires-clause-granules c =
    let r = c.requires.block.1 in
    omega (arith, map_granules c.requires.block.0 (segments_in c.args.rows c.args.table.now) r.map, r.small)

pub new-requires : goal.new-requires
new-requires c =
    omega (arith, c.requires.words, freed_some c.requires.block.1 c.release_row-n.ensures)

pub row_of-at-requires : goal.row_of-at-requires
row_of-at-requires c =
    let s = freed_some c.requires.block.1 c.release_row-n.ensures in
    omega (arith, s, ap length c.new.ensures, length_segments c.release_row-n.result c.release_row-n.new.table)

pub split_row-requires : goal.split_row-requires
split_row-requires c =
    let p = c.requires.block in
    let a = subst (λ (xs : List Segment). RowOf xs c.args.block.start c.row_of-at.result) c.new.ensures c.row_of-at.ensures in
    let m = may_cut p.1 c.release_row-n.ensures a p.2 in
    let few = freed_some p.1 c.release_row-n.ensures in
    record { in_use = omega (arith, a.in_use, few, length_segments c.release_row-n.result c.release_row-n.new.table); block = m.0; row = m.1; words = omega arith }

pub returns : goal.returns
returns c = λ config r.
    let a = subst (λ (xs : List Segment). RowOf xs c.args.block.start c.row_of-at.result) c.new.ensures c.row_of-at.ensures in
    replaced_rows r c.release_row-n.ensures a c.split_row.ensures
