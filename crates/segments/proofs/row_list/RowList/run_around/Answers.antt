-- `segments::row_list::RowList::run_around` meets its contract: the run does not end before it begins, since the row lies in it.
-- Assumes nothing.
use Rattle.std.proofs.Common.{arith}
use Rattle.segments.proofs.Around.{around_bounds}
use Rattle.segments.proofs.row_list.RowList.run_around.Goals as goal

pub overflow_sub-to : goal.overflow_sub-to
overflow_sub-to c =
    omega (arith, around_bounds c.requires.map.arena c.args.self.now c.args.i c.requires.in_use c.requires.map.map, c.run_from-from.ensures, c.run_to-to.ensures)
