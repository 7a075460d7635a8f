-- Each part goes on with what was read and written so far.
-- Assumes nothing.
use Rattle.std.proofs.Common.{arith}
use Rattle.heapscript.proofs.Steps.{OnErr-anyhow, SoFar-none, SoFar-more, AnswersInput-end, StopsInput-end}
use Rattle.heapscript.proofs.answer_input.Goals as goal

pub returns-then-branch-eq0-clause-ok : goal.returns-then-branch-eq0-clause-ok
returns-then-branch-eq0-clause-ok g c =
    AnswersInput-end _ _ _ _ _ _ _ _ _ _ _ _ _ _ _ _ _ c.loop-part.invariant c.in_ok-answer_part.ensures.ok c.if-branch-eq0.true

pub loop-part-preserved : goal.loop-part-preserved
loop-part-preserved g c =
    SoFar-more _ _ _ _ _ _ _ _ _ _ _ _ _ _ _ _ _ c.loop-part.invariant c.in_ok-answer_part.ensures.ok (omega arith)

pub loop-part-init : goal.loop-part-init
loop-part-init g c = SoFar-none _ _ _ _ _

pub returns-in_err-answer_part-clause-err : goal.returns-in_err-answer_part-clause-err
returns-in_err-answer_part-clause-err g c =
    OnErr-anyhow c.from_residual.result (StopsInput-end _ _ _ _ _ _ _ _ _ _ _ _ _ c.loop-part.invariant c.in_err-answer_part.ensures.err)
