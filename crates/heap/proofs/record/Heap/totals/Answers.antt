-- `heap::Heap::totals` meets its contract.
-- Assumes nothing.
use Rattle.std.proofs.Common.{rules}
use native.Mathlib.Omega.{arith}
use Rattle.heap.proofs.Asking.{Small, small, totals_invalid, totals_told}
use Rattle.heap.proofs.record.Heap.totals.Goals as goal

pub returns-in_err-k : goal.returns-in_err-k
returns-in_err-k c =
    let d = totals_invalid c.args.self c.args.table.now c.in_err-k.ensures.0 _ (search rules) in
    record { answer = d.answer; numbered = d.numbered }

pub overflow_mul-result : goal.overflow_mul-result
overflow_mul-result c = let b : Small c.args.self c.in_ok-k.k = small _ _ _ c.in_ok-k.ensures in omega arith

pub overflow_sub-result : goal.overflow_sub-result
overflow_sub-result c = let b : Small c.args.self c.in_ok-k.k = small _ _ _ c.in_ok-k.ensures in omega arith

pub overflow_mul-result-2 : goal.overflow_mul-result-2
overflow_mul-result-2 c = let b : Small c.args.self c.in_ok-k.k = small _ _ _ c.in_ok-k.ensures in omega arith

pub overflow_mul-result-3 : goal.overflow_mul-result-3
overflow_mul-result-3 c = let b : Small c.args.self c.in_ok-k.k = small _ _ _ c.in_ok-k.ensures in omega arith

pub overflow_mul-result-4 : goal.overflow_mul-result-4
overflow_mul-result-4 c = let b : Small c.args.self c.in_ok-k.k = small _ _ _ c.in_ok-k.ensures in omega arith

pub returns : goal.returns
returns c =
    let d = totals_told _ _ _ c.in_ok-k.ensures _ _ _ _ (omega arith) (omega arith) (omega arith) (omega arith) in
    record { answer = d.answer; numbered = d.numbered }
