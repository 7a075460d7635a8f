-- `script::carrying_out::Script::back` meets its contract.
-- Assumes nothing.
use Rattle.script.proofs.Carrying.{back_done}
use Rattle.script.proofs.carrying_out.Script.back.Goals as goal

pub returns-clause-answer : goal.returns-clause-answer
returns-clause-answer c =
    let d = c.free-out.ensures in
    (back_done c.args.self.now _ _ _ _ c.words_lent-n.ensures c.bytes_lent-k.ensures _ _ _ _ _ (record { answer = d.answer; numbered = d.numbered; heap = d.heap; table = d.table; arena = d.arena })).0
