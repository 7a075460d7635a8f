-- `heap::Heap::holding` meets its contract.
-- Assumes nothing.
use Prim.Native.Nat.{◌-◌}
use Rattle.std.proofs.Common.{rules, sym, ◌∙◌}
use native.Mathlib.Omega.{arith}
use Rattle.heap.proofs.Asking.{small, holding_invalid, holding_refused, holding_told}
use Rattle.heap.proofs.record.Heap.holding.Goals as goal

pub returns-in_err-k : goal.returns-in_err-k
returns-in_err-k c =
    let d = holding_invalid c.args.self c.args.table.now c.in_err-k.ensures.0 c.args.owner _ (search rules) in
    record { answer = d.answer; numbered = d.numbered }

pub returns-then-not-is_owner : goal.returns-then-not-is_owner
returns-then-not-is_owner c =
    let d = holding_refused _ _ _ c.in_ok-k.ensures _ (sym c.is_owner.ensures ∙ c.if-not-is_owner.true) in
    record { answer = d.answer; numbered = d.numbered }

pub overflow_mul-result : goal.overflow_mul-result
overflow_mul-result c =
    let b = small _ _ _ c.in_ok-k.ensures in
    omega (arith, b.held (c.args.owner - 1), b.granules)

pub returns : goal.returns
returns c =
    let d = holding_told _ _ _ c.in_ok-k.ensures _ (sym c.is_owner.ensures ∙ c.if-not-is_owner.false) _ _ (omega arith) (omega arith) in
    record { answer = d.answer; numbered = d.numbered }
