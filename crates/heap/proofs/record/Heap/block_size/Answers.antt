-- `heap::Heap::block_size` meets its contract: after 1 the rest of its order is that of `find_owned`.
-- Assumes nothing.
use Rattle.std.proofs.Common.{rules}
use native.Mathlib.Omega.{arith}
use Rattle.heap.proofs.Frees.{size_invalid, size_not, size_row, size_bytes}
use Rattle.heap.proofs.record.Heap.block_size.Goals as goal

pub returns-in_err-examine : goal.returns-in_err-examine
returns-in_err-examine c =
    let a = c.args in
    let d = size_invalid a.self a.table.now a.owner a.offset c.in_err-examine.ensures.0 _ (search rules) in
    record { answer = d.answer; numbered = d.numbered }

pub returns-in_err-block : goal.returns-in_err-block
returns-in_err-block c =
    let a = c.args in
    let d = size_not a.self a.table.now a.owner a.offset c.in_ok-examine.ensures.valid _ c.find_owned.ensures _ c.in_err-block.was _ (search rules) in
    record { answer = d.answer; numbered = d.numbered }

pub overflow_mul-result : goal.overflow_mul-result
overflow_mul-result c =
    omega (arith, size_bytes _ _ c.args.owner _ c.in_ok-examine.ensures.valid _ c.find_owned.ensures _ c.in_ok-block.was)

pub returns : goal.returns
returns c =
    let a = c.args in
    let d = size_row a.self a.table.now a.owner a.offset c.in_ok-examine.ensures.valid _ c.find_owned.ensures _ c.in_ok-block.was _ _ (omega arith) (omega arith) in
    record { answer = d.answer; numbered = d.numbered }
