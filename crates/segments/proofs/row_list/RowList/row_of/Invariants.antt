-- `segments::row_list::RowList::row_of` meets its contract. The loop's invariant: row `low` is row 0 or does not start after the granule, and row `high`, if in use, starts after it.
-- The measure is the rows between. Assumes nothing.
use Rattle.std.proofs.Common.{◌-◌, ◌<◌, ◌≤◌, length}
use Rattle.segments.specs.Rows.{nth_row}
use Rattle.segments.proofs.row_list.RowList.row_of.Given as goal

abbrev pub invariant-loop-high : goal.invariant-loop-high
invariant-loop-high l =
    (l.low < l.high) × (l.high ≤ length l.self) × (0 < l.low → (nth_row l.self l.low).start ≤ l.granule) × (l.high < length l.self → l.granule < (nth_row l.self l.high).start)

abbrev pub decreases-loop-high : goal.decreases-loop-high
decreases-loop-high l = l.high - l.low
