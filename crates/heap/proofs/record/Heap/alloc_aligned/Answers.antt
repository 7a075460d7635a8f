-- `heap::Heap::alloc_aligned` meets its contract.
-- Assumes nothing.
use native.Mathlib.Omega.{arith}
use Rattle.heap.proofs.Placing.{guards_few, row_asked, guard_asked, used_fits, offset_fits, rows_fit, alloc_done}
use Rattle.heap.proofs.record.Heap.alloc_aligned.Goals as goal

pub new_block-block-requires : goal.new_block-block-requires
new_block-block-requires c =
    let a = c.args in
    guards_few a.self a.table.now a.arena.now a.owner a.size a.align c.find_place-place.result c.find_place-place.ensures _ c.in-Ok.is

pub split_row-rows-requires : goal.split_row-rows-requires
split_row-rows-requires c =
    let a = c.args in
    let r = row_asked a.self a.table.now a.arena.now a.owner a.size a.align c.find_place-place.result c.find_place-place.ensures _ c.in-Ok.is _ c.new_block-block.ensures in
    record { in_use = r.0; block = r.1; row = r.2; words = r.3 }

pub fill_guard-requires : goal.fill_guard-requires
fill_guard-requires c =
    let a = c.args in
    let g = guard_asked a.self a.table.now a.arena.now a.owner a.size a.align c.find_place-place.result c.find_place-place.ensures _ c.in-Ok.is _ c.new_block-block.ensures in
    record { few = g.0; inside = g.1 }

pub overflow_mul-result : goal.overflow_mul-result
overflow_mul-result c =
    let a = c.args in
    omega (arith, offset_fits a.self a.table.now a.arena.now a.owner a.size a.align c.find_place-place.result c.find_place-place.ensures _ c.in-Ok.is _ c.new_block-block.ensures)

pub overflow_add-self : goal.overflow_add-self
overflow_add-self c =
    let a = c.args in
    omega (arith, used_fits a.self a.table.now a.arena.now a.owner a.size a.align c.find_place-place.result c.find_place-place.ensures _ c.in-Ok.is _ c.new_block-block.ensures)

pub updated-requires : goal.updated-requires
updated-requires c =
    let a = c.args in
    rows_fit a.self a.table.now a.arena.now a.owner a.size a.align c.find_place-place.result c.find_place-place.ensures _ c.in-Ok.is _ c.new_block-block.ensures _ _ c.split_row-rows.ensures

pub returns-in-Ok : goal.returns-in-Ok
returns-in-Ok c =
    let a = c.args in
    let d = alloc_done a.self a.table.now a.arena.now a.owner a.size a.align c.find_place-place.result c.find_place-place.ensures _ c.in-Ok.is _ c.new_block-block.ensures _ _ c.split_row-rows.ensures
    _ _ c.updated.ensures (omega arith) _ (omega arith) _ c.fill_guard.ensures in
    record { answer = d.answer; numbered = d.numbered; heap = d.heap; table = d.table; arena = d.arena }
