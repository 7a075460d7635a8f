-- `script::lines_out::Out::put_closing` meets its contract.
-- Assumes nothing.
use Rattle.std.proofs.Common.{◌≤◌, [], ◌∷◌, length, arith}
use Rattle.script.specs.Text.{ascii, line_of}
use Rattle.script.proofs.Writing.{four_most, put_length, rows_lent, rows_few, closing_rows}
use Rattle.script.proofs.lines_out.Out.put_closing.Goals as goal

pub new-requires : goal.new-requires
new-requires c = (rows_lent c.args.script _ _ c.words_lent-n.ensures _ c.totals.ensures.answer _ c.in-Ok.is).1

pub put_rows-requires : goal.put_rows-requires
put_rows-requires c =
    let r = rows_few c.args.script _ _ c.words_lent-n.ensures _ c.totals.ensures.answer _ c.in-Ok.is c.new.ensures in
    omega (arith, r)

pub put_line-requires : goal.put_line-requires
put_line-requires c =
    let t = c.in-Ok.totals in
    let r = rows_few c.args.script _ _ c.words_lent-n.ensures _ c.totals.ensures.answer _ c.in-Ok.is c.new.ensures in
    let h : length (line_of (ascii "sum") (t.used ∷ t.free ∷ t.peak ∷ t.longest ∷ [])) ≤ 50 = four_most (ascii "sum") _ _ _ _ (omega arith) (omega arith) (omega arith) (omega arith) in
    omega (arith, h, r, c.put_rows.ensures.most, put_length c.put_rows.ensures.put)

pub returns-clause-put : goal.returns-clause-put
returns-clause-put c = closing_rows c.args.script _ _ c.words_lent-n.ensures _ c.totals.ensures.answer _ c.in-Ok.is c.new.ensures c.put_rows.ensures.put c.put_line.ensures.put

pub returns-clause-most : goal.returns-clause-most
returns-clause-most c =
    let t = c.in-Ok.totals in
    let r = rows_few c.args.script _ _ c.words_lent-n.ensures _ c.totals.ensures.answer _ c.in-Ok.is c.new.ensures in
    let h : length (line_of (ascii "sum") (t.used ∷ t.free ∷ t.peak ∷ t.longest ∷ [])) ≤ 50 = four_most (ascii "sum") _ _ _ _ (omega arith) (omega arith) (omega arith) (omega arith) in
    omega (arith, h, r, c.put_rows.ensures.most, c.put_line.ensures.put.end)
