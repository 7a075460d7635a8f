-- The input was fed from the session's start on, and then finished.
-- Assumes nothing.
use Rattle.std.proofs.lemmas.Result.{on_ok_weaker, on_err_weaker}
use Rattle.heapscript.proofs.Steps.{AnswersScript-end, StopsScript-end}
use Rattle.heapscript.proofs.answer_script.Goals as goal

pub returns-clause-ok : goal.returns-clause-ok
returns-clause-ok g c =
    on_ok_weaker c.write_end.result
    (λ h. AnswersScript-end _ _ _ _ _ _ _ _ _ _ _ c.start-session.ensures.script c.start-session.ensures.count c.in_ok-answer_input.ensures.ok h)
    c.write_end.ensures.ok

pub returns-clause-err : goal.returns-clause-err
returns-clause-err g c =
    on_err_weaker c.write_end.result
    (λ h. StopsScript-end _ _ _ _ _ _ _ _ _ _ _ c.start-session.ensures.script c.start-session.ensures.count c.in_ok-answer_input.ensures.ok h)
    c.write_end.ensures.err
