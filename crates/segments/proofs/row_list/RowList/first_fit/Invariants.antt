-- `segments::row_list::RowList::first_fit` meets its contract. The loop's invariant: no row before row `i` is a hit.
-- The measure is the rows left. Assumes nothing.
use Rattle.std.proofs.Common.{◌-◌, ◌/◌, ◌≤◌, length}
use Rattle.segments.proofs.Scanned.{Passed}
use Rattle.segments.proofs.row_list.RowList.first_fit.Given as goal

abbrev pub invariant-loop-i : goal.invariant-loop-i
invariant-loop-i l = (l.i ≤ length l.self) × Passed l.need l.unit (l.base / 16) l.i l.self

abbrev pub decreases-loop-i : goal.decreases-loop-i
decreases-loop-i l = length l.self - l.i
