-- `heap::Heap::free` meets its contract: the row that was found is given back, and the rows left are the map of the other blocks.
-- Assumes nothing.
use native.Mathlib.Omega.{arith}
use Rattle.heap.proofs.Changing.{bounds}
use Rattle.heap.proofs.Frees.{free_found, free_rows, free_inside, free_left, free_row}
use Rattle.heap.proofs.record.Heap.free.Goals as goal

pub overflow_mul-bytes : goal.overflow_mul-bytes
overflow_mul-bytes c = omega (arith, (free_found _ _ _ _ _ _ c.find_freed-freed.ensures _ c.in-Ok.is).2)

pub fill-requires : goal.fill-requires
fill-requires c = free_inside _ _ _ _ _ _ c.find_freed-freed.ensures _ c.in-Ok.is

pub release_row-rows-requires : goal.release_row-rows-requires
release_row-rows-requires c =
    let f = free_found _ _ _ _ _ _ c.find_freed-freed.ensures _ c.in-Ok.is in
    let b = bounds _ _ f.0 in
    record { in_use = f.1; words = omega (arith, b.words, b.rows_most); granules = omega (arith, b.whole) }

pub overflow_sub-self : goal.overflow_sub-self
overflow_sub-self c = omega (arith, free_left _ _ _ _ _ _ c.find_freed-freed.ensures _ c.in-Ok.is)

pub updated-requires : goal.updated-requires
updated-requires c = omega (arith, free_rows _ _ _ _ _ _ c.find_freed-freed.ensures _ c.in-Ok.is _ _ c.release_row-rows.ensures)

pub returns-in-Ok : goal.returns-in-Ok
returns-in-Ok c =
    let d = free_row _ _ _ _ _ _ c.find_freed-freed.ensures _ c.in-Ok.is _ _ c.release_row-rows.ensures
    _ _ c.updated.ensures (omega (arith, free_left _ _ _ _ _ _ c.find_freed-freed.ensures _ c.in-Ok.is)) _ (omega arith) _ _ c.fill.ensures (omega arith) in
    record { answer = d.answer; numbered = d.numbered; heap = d.heap; table = d.table; arena = d.arena }
