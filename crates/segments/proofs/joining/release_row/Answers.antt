-- `segments::joining::release_row` meets its contract: the row set free, joined with the row after it, and with the row before it if there is one.
-- Assumes nothing.
use Rattle.std.proofs.Common.{arith}
use Rattle.segments.proofs.Reading.{row_read}
use Rattle.segments.proofs.Rewriting.{freed_granules, joined_once, released_first, released_rows}
use Rattle.segments.proofs.joining.release_row.Goals as goal

pub join_rows-n-requires-clause-granules : goal.join_rows-n-requires-clause-granules
join_rows-n-requires-clause-granules c =
    let r = c.requires in
    omega (arith, r.granules, freed_granules c.args.rows c.args.table.now r.words c.args.i r.in_use _ _ _ (row_read c.args.rows c.args.table.now c.requires.in_use c.row-s.ensures) c.free_run.ensures c.put_row.ensures)

pub join_rows-requires : goal.join_rows-requires
join_rows-requires c =
    let r = c.requires in
    let once = joined_once c.args.rows c.args.table.now r.words c.args.i r.in_use _ _ _ (row_read c.args.rows c.args.table.now c.requires.in_use c.row-s.ensures) c.free_run.ensures c.put_row.ensures _ _ c.join_rows-n.ensures in
    record { in_use = omega arith; words = omega arith; granules = omega arith }

pub returns-then-i-gt0 : goal.returns-then-i-gt0
returns-then-i-gt0 c =
    let r = c.requires in
    released_rows c.args.rows c.args.table.now r.words c.args.i r.in_use _ _ _ (row_read c.args.rows c.args.table.now c.requires.in_use c.row-s.ensures) c.free_run.ensures c.put_row.ensures _ _ c.join_rows-n.ensures
    (omega arith) _ _ c.join_rows.ensures

pub returns : goal.returns
returns c =
    let r = c.requires in
    released_first c.args.rows c.args.table.now r.words c.args.i r.in_use _ _ _ (row_read c.args.rows c.args.table.now c.requires.in_use c.row-s.ensures) c.free_run.ensures c.put_row.ensures _ _ c.join_rows-n.ensures (omega arith)
