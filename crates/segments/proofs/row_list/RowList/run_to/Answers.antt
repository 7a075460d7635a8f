-- `segments::row_list::RowList::run_to` meets its contract: no row of a map ends after the arena, so no sum wraps.
-- Assumes nothing.
use Rattle.std.proofs.Common.{◌+◌, arith}
use Rattle.segments.proofs.Finding.{row_within}
use Rattle.segments.proofs.row_list.RowList.run_to.Goals as goal

pub overflow_add-result : goal.overflow_add-result
overflow_add-result c =
    omega (arith, row_within _ c.args.self.now c.args.i c.get-s.result c.requires.map c.requires.in_use c.get-s.ensures)

pub overflow_add-result-then-after-eq0 : goal.overflow_add-result-then-after-eq0
overflow_add-result-then-after-eq0 c =
    omega (arith, row_within _ c.args.self.now (c.args.i + 1) c.get-after.result c.requires.map (omega arith) c.get-after.ensures)

pub overflow_add-result-else-after-eq0 : goal.overflow_add-result-else-after-eq0
overflow_add-result-else-after-eq0 c =
    omega (arith, row_within _ c.args.self.now c.args.i c.get-s.result c.requires.map c.requires.in_use c.get-s.ensures)
