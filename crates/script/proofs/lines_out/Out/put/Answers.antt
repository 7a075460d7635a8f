-- `script::lines_out::Out::put` meets its contract.
-- Assumes nothing.
use Rattle.std.proofs.Common.{refl, arith}
use Rattle.script.proofs.Lists.{copied}
use Rattle.script.proofs.lines_out.Out.put.Goals as goal

pub returns-clause-put : goal.returns-clause-put
returns-clause-put c =
    let a = c.args in
    record { end = refl; bytes = copied a.self.now.bytes.now a.text.now _ a.self.now.end _ (omega arith) c.copy_from_slice.ensures.after (omega arith) }
