-- The bytes so far, and those that were just taken.
-- Assumes nothing.
use Rattle.std.proofs.Common.{refl}
use Rattle.script.proofs.Lists.{rest_part}
use Rattle.heapscript.proofs.Steps.{OnErr-anyhow, Written-more, Written-kept, Written-first}
use Rattle.heapscript.proofs.write_out.Goals as goal

pub returns-in_err-n-clause-err : goal.returns-in_err-n-clause-err
returns-in_err-n-clause-err g c =
    OnErr-anyhow c.from_residual.result (Written-first _ _ _ _ (Written-kept _ _ _ _ _ c.loop-rest.invariant c.in_err-n.ensures.bytes))

pub returns-then-n-eq0-clause-err : goal.returns-then-n-eq0-clause-err
returns-then-n-eq0-clause-err g c = Written-first _ _ _ _ (Written-more _ _ _ _ _ _ c.loop-rest.invariant c.in_ok-n.ensures.bytes _ refl)

pub loop-rest-preserved : goal.loop-rest-preserved
loop-rest-preserved g c =
    Written-more _ _ _ _ _ _ c.loop-rest.invariant c.in_ok-n.ensures.bytes _ (rest_part c.loop-rest.rest.now c.in_ok-n.n)
