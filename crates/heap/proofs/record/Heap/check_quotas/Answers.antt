-- `heap::Heap::check_quotas` meets its contract.
-- Assumes nothing.
use Rattle.std.proofs.Common.{sym, ◌∙◌}
use native.Mathlib.Omega.{arith}
use Rattle.model.proofs.Choosing.{tests}
use Rattle.heap.proofs.Asking.{granules_exceed, within_limits}
use Rattle.heap.proofs.record.Heap.check_quotas.Goals as goal

pub returns-then-exceeds : goal.returns-then-exceeds
returns-then-exceeds c ws e =
    let x = sym c.exceeds.ensures ∙ c.if-exceeds.true in
    granules_exceed _ ws _ e c.args.owner c.requires.owner c.args.size (omega arith) (omega tests)

pub returns : goal.returns
returns c ws e =
    let x = sym c.exceeds.ensures ∙ c.if-exceeds.false in
    within_limits _ ws _ e c.args.owner c.requires.owner c.args.size (omega arith) (omega tests)
