-- `segments::row_list::RowList::row_of` meets its contract. The loop's invariant: row `low` is row 0 or does not start after the granule, and row `high`, if in use, starts after it.
-- The measure is the rows between. Assumes nothing.
use Rattle.std.proofs.Common.{◌≡◌, ◌+◌, arith}
use Rattle.segments.proofs.Tiled.{row_has}
use Rattle.segments.proofs.row_list.RowList.row_of.Goals as goal

pub returns : goal.returns
returns c =
    let l = c.loop-high in
    let z : l.high ≡ l.low + 1 = omega arith in
    row_has (omega arith) l.invariant.2 (λ h. rw (← z) (l.invariant.3 (omega arith)))
