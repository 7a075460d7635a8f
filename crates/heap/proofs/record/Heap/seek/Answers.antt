-- `heap::Heap::seek` meets its contract.
-- Assumes nothing.
use Rattle.std.proofs.Common.{◌+◌, List, length, refl, ap, ◌∙◌, arith, rules}
use Rattle.model.specs.Orders.{request_order}
use Rattle.model.proofs.Refusing.{no_reason}
use Rattle.model.proofs.Allocated.{proper}
use Rattle.model.specs.declared.Segment.{Segment}
use Rattle.segments.specs.Rows.{nth_row}
use Rattle.segments.proofs.Rows.{length_segments}
use Rattle.heap.specs.Stored.{config_of}
use Rattle.heap.proofs.Changing.{bounds}
use Rattle.heap.proofs.Placing.{no_place_lem, lowest_at, table_full_lem, place_there}
use Rattle.heap.proofs.record.Heap.seek.Goals as goal

pub granules_with-need-requires : goal.granules_with-need-requires
granules_with-need-requires c =
    (bounds c.args.self c.args.table.now c.requires.valid).guards

pub first_fit-requires : goal.first_fit-requires
first_fit-requires c =
    let a = c.args in
    let b = bounds a.self a.table.now c.requires.valid in
    let l = proper a.owner a.size a.align (no_reason (request_order a.owner a.size a.align) c.requires.proper) in
    record { base = b.base; some = omega arith; need = omega arith; align = l.alignment }

pub new-rows-requires : goal.new-rows-requires
new-rows-requires c =
    let b = bounds c.args.self c.args.table.now c.requires.valid in
    omega (arith, b.words, b.rows_most)

pub get-s-requires : goal.get-s-requires
get-s-requires c =
    let a = c.args in
    let at = lowest_at a.self a.table.now a.owner a.size a.align c.requires.valid c.requires.proper _ c.new-rows.ensures _ c.granules_with-need.ensures _ c.first_fit.ensures _ c.in-Some.is in
    omega (arith, at.room.in_use, ap length c.new-rows.ensures)

pub new_block-wanted-requires : goal.new_block-wanted-requires
new_block-wanted-requires c =
    (bounds c.args.self c.args.table.now c.requires.valid).guards

pub overflow_sub-len : goal.overflow_sub-len
overflow_sub-len c =
    omega (arith, (bounds c.args.self c.args.table.now c.requires.valid).rows_least, ap length c.new-rows.ensures, length_segments c.args.self.rows c.args.table.now)

pub pieces-requires : goal.pieces-requires
pieces-requires c =
    let a = c.args in
    let b = bounds a.self a.table.now c.requires.valid in
    let at = lowest_at a.self a.table.now a.owner a.size a.align c.requires.valid c.requires.proper _ c.new-rows.ensures _ c.granules_with-need.ensures _ c.first_fit.ensures _ c.in-Some.is in
    let row = ap (λ (x : Segment). x.start + x.length) (c.get-s.ensures ∙ ap (λ (xs : List Segment). nth_row xs c.in-Some.at.row) c.new-rows.ensures) in
    let block = ap (λ (x : Segment). x.start + x.length) (c.new_block-wanted.ensures (config_of a.self) refl) in
    let end = b.row c.in-Some.at.row (omega (arith, at.room.in_use, length_segments a.self.rows a.table.now)) in
    record { block = omega (arith, block, end, at.room.up_to, b.granules); row = omega (arith, row, end, b.granules) }

pub returns-in_default : goal.returns-in_default
returns-in_default c =
    let a = c.args in
    no_place_lem a.self a.table.now a.owner a.size a.align c.requires.valid c.requires.proper _ c.new-rows.ensures _ c.granules_with-need.ensures _ c.first_fit.ensures (search rules)

pub returns-then-self-len : goal.returns-then-self-len
returns-then-self-len c =
    let a = c.args in
    table_full_lem a.self a.table.now a.owner a.size a.align c.requires.valid c.requires.proper _ c.new-rows.ensures _ c.granules_with-need.ensures _ c.first_fit.ensures _ c.in-Some.is
    _ _ c.get-s.ensures (c.new_block-wanted.ensures (config_of a.self) refl) _ c.pieces.ensures.answer
    (omega (arith, ap length c.new-rows.ensures, length_segments a.self.rows a.table.now))

pub returns : goal.returns
returns c =
    let a = c.args in
    place_there a.self a.table.now a.owner a.size a.align c.requires.valid c.requires.proper _ c.new-rows.ensures _ c.granules_with-need.ensures _ c.first_fit.ensures _ c.in-Some.is
    _ _ c.get-s.ensures (c.new_block-wanted.ensures (config_of a.self) refl) _ c.pieces.ensures.answer
    (omega (arith, ap length c.new-rows.ensures, length_segments a.self.rows a.table.now))
