-- `script::carrying_out::Script::make` meets its contract.
-- Assumes nothing.
use Rattle.std.proofs.Common.{rules, ◌≡◌, Err}
use Rattle.heap.specs.Promises.{InitDone}
use Rattle.script.proofs.Carrying.{make_refused, make_done}
use Rattle.script.proofs.carrying_out.Script.make.Goals as goal

pub returns-in_err-made-clause-answer : goal.returns-in_err-made-clause-answer
returns-in_err-made-clause-answer c =
    let d : InitDone _ _ _ _ _ _ = let e = c.init-made.ensures in record { answer = e.answer; numbered = e.numbered; heap = e.heap; table = e.table; arena = e.arena } in
    let e : c.from_residual.result ≡ Err c.in_err-made.field-0.0 = search rules in
    rw e (make_refused _ _ _ _ _ _ _ (rw c.min.ensures at c.part-n.ensures.part) c.words_part-k.ensures.part _ _ _ (rw c.plan.ensures at d) _ c.in_err-made.was).0

pub returns-in_err-made-clause-leaves : goal.returns-in_err-made-clause-leaves
returns-in_err-made-clause-leaves c =
    let d : InitDone _ _ _ _ _ _ = let e = c.init-made.ensures in record { answer = e.answer; numbered = e.numbered; heap = e.heap; table = e.table; arena = e.arena } in
    (make_refused _ _ _ _ _ _ _ (rw c.min.ensures at c.part-n.ensures.part) c.words_part-k.ensures.part _ _ _ (rw c.plan.ensures at d) _ c.in_err-made.was).1

pub returns-clause-answer : goal.returns-clause-answer
returns-clause-answer c =
    let d : InitDone _ _ _ _ _ _ = let e = c.init-made.ensures in record { answer = e.answer; numbered = e.numbered; heap = e.heap; table = e.table; arena = e.arena } in
    (make_done _ _ _ _ _ _ _ (rw c.min.ensures at c.part-n.ensures.part) c.words_part-k.ensures.part _ _ _ (rw c.plan.ensures at d) c.in_ok-made.was).0

pub returns-clause-leaves : goal.returns-clause-leaves
returns-clause-leaves c =
    let d : InitDone _ _ _ _ _ _ = let e = c.init-made.ensures in record { answer = e.answer; numbered = e.numbered; heap = e.heap; table = e.table; arena = e.arena } in
    (make_done _ _ _ _ _ _ _ (rw c.min.ensures at c.part-n.ensures.part) c.words_part-k.ensures.part _ _ _ (rw c.plan.ensures at d) c.in_ok-made.was).1
