-- `segments::row_list::RowList::rows_after_replace` meets its contract.
-- Assumes nothing.
use Rattle.std.proofs.Common.{arith}
use Rattle.segments.proofs.Replaced.{inside, read_inside, cut_few, target_inside, rows_counted}
use Rattle.segments.proofs.row_list.RowList.rows_after_replace.Goals as goal

pub row_without-room-requires : goal.row_without-room-requires
row_without-room-requires c =
    let r = c.requires.1 in
    omega (arith, read_inside r c.get-old.ensures c.run_around-run.ensures, r.small)

pub pieces-requires : goal.pieces-requires
pieces-requires c =
    let r = c.requires.1 in
    let e = read_inside r c.get-old.ensures c.run_around-run.ensures in
    record { block = omega (arith, e, r.small); row = omega (arith, e, r.small) }

pub pieces-requires-2 : goal.pieces-requires-2
pieces-requires-2 c =
    let r = c.requires.1 in
    let e = read_inside r c.get-old.ensures c.run_around-run.ensures in
    let t = target_inside r c.get-old.ensures c.run_around-run.ensures c.row_of-at.ensures c.get-before.ensures c.row_without-room.ensures in
    record { block = omega (arith, inside r, e, r.small); row = omega (arith, t, e, r.small) }

pub returns : goal.returns
returns c = λ config r.
    let count = rows_counted r c.get-old.ensures c.run_around-run.ensures c.row_of-at.ensures c.get-before.ensures c.row_without-room.ensures in
    omega (arith, count, cut_few r c.get-old.ensures c.run_around-run.ensures, c.pieces.ensures.answer, c.pieces-2.ensures.answer)
