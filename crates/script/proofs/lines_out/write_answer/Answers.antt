-- `script::lines_out::write_answer` meets its contract.
-- Assumes nothing.
use Rattle.std.proofs.Common.{rules, arith}
use Rattle.script.proofs.Finishing.{write_bytes}
use Rattle.script.proofs.lines_out.write_answer.Goals as goal

pub returns : goal.returns
returns c =
    let p = c.put_answer.ensures in
    write_bytes _ _ _ _ _ (omega arith) (omega (arith, p.put.end, p.most)) (search (rules, p.put))
