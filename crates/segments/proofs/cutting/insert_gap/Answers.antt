-- `segments::cutting::insert_gap` meets its contract: a row inserted if there is a gap.
-- Assumes nothing.
use Rattle.std.proofs.Common.{arith}
use Rattle.segments.proofs.Rewriting.{gap_more, gap_less}
use Rattle.segments.proofs.cutting.insert_gap.Goals as goal

pub returns-then-from-to-clause-rewritten : goal.returns-then-from-to-clause-rewritten
returns-then-from-to-clause-rewritten c =
    let a = c.args in
    (gap_more a.rows a.table.now (omega arith) a.i a.from a.to _ _ c.requires.in_use c.if-from-to.true c.free_run.ensures c.insert_row.ensures).1

pub returns-clause-rewritten : goal.returns-clause-rewritten
returns-clause-rewritten c =
    let a = c.args in
    (gap_less a.rows a.table.now (omega arith) a.i a.from a.to c.if-from-to.false).1
