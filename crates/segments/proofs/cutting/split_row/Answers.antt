-- `segments::cutting::split_row` meets its contract: the row set to the block, then the rest after it inserted, then the rest before it.
-- Assumes nothing.
use Rattle.std.proofs.Common.{arith}
use Rattle.segments.specs.Rows.{segment_at}
use Rattle.segments.proofs.Cuts.{cut_length}
use Rattle.segments.proofs.Rewriting.{cut_rows}
use Rattle.segments.proofs.cutting.split_row.Goals as goal

pub returns : goal.returns
returns c =
    let a = c.args in
    let fits = cut_length (segment_at a.table.now a.i) a.block in
    let s = c.row-s.ensures in
    let e = c.put_row.ensures in
    cut_rows a.rows a.table.now (omega arith) a.i c.requires.in_use _ a.block _ _ _ _ _ s e
    c.insert_gap-n.ensures.rewritten c.insert_gap.ensures.rewritten
