-- `script::lines_out::Out::put_rows` meets its contract.
-- Assumes nothing.
use Rattle.std.proofs.Common.{◌≤◌, length, ◌∙◌, arith}
use Rattle.script.specs.Text.{ascii}
use Rattle.script.specs.Machine.{seg_line}
use Rattle.script.proofs.Writing.{four_most, put_length, put_row}
use Rattle.script.proofs.lines_out.Out.put_rows.Goals as goal

pub put_line-requires : goal.put_line-requires
put_line-requires c =
    let h : length (seg_line c.get-s.result) ≤ 50 = four_most (ascii "seg") _ _ _ _ (omega arith) (omega arith) (omega arith) (omega arith) in
    omega (arith, h, put_length c.loop-i.invariant.put, c.loop-i.invariant.most)

pub loop-i-preserved : goal.loop-i-preserved
loop-i-preserved c =
    let h : length (seg_line c.get-s.result) ≤ 50 = four_most (ascii "seg") _ _ _ _ (omega arith) (omega arith) (omega arith) (omega arith) in
    let l = c.loop-i in
    record {
      same_reference = c.put_line.ensures.same_reference ∙ l.invariant.same_reference;
      most = omega (arith, h, c.put_line.ensures.put.end, l.invariant.most);
      put = put_row l.i _ _ (omega (arith, c.loop-i-test.true, c.len-i-end.ensures.count)) c.get-s.ensures l.invariant.put c.put_line.ensures.put;
    }
