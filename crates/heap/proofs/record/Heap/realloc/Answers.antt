-- `heap::Heap::realloc` meets its contract: to size 0 it is a free, and else what was decided is carried out in the table and in the arena.
-- Assumes nothing.
use mathlib.Core.Path.{refl}
use Prim.Native.Nat.{◌≤◌}
use native.Mathlib.Omega.{arith}
use Rattle.std.proofs.Common.{rules}
use Rattle.heap.specs.Stored.{config_of}
use Rattle.heap.proofs.Reallocating.{realloc_zero, new_asked, replace_words, replace_asked, carry_asked, new_inside, arena_most, used_fits, rows_fit, realloc_done}
use Rattle.heap.proofs.record.Heap.realloc.Goals as goal

pub returns-then-size-eq0 : goal.returns-then-size-eq0
returns-then-size-eq0 c =
    let a = c.args in
    let f = c.free-out.ensures in
    let d = realloc_zero a.self a.table.now a.arena.now a.owner a.offset a.size (omega arith) c.free-out.result _ _ (record { answer = f.answer; numbered = f.numbered; heap = f.heap; table = f.table; arena = f.arena }) _ (search rules) refl in
    record { answer = d.answer; numbered = d.numbered; heap = d.heap; table = d.table; arena = d.arena }

pub new_block-new-requires : goal.new_block-new-requires
new_block-new-requires c =
    let size : 1 ≤ c.args.size = omega (arith, c.if-size-eq0.false) in
    new_asked _ _ _ _ _ _ size _ c.find_resize-refitted.ensures _ c.in-Ok.is

pub replace_row-rows-requires : goal.replace_row-rows-requires
replace_row-rows-requires c =
    let size : 1 ≤ c.args.size = omega (arith, c.if-size-eq0.false) in
    let new = c.new_block-new.ensures (config_of c.args.self) refl in
    record {
      words = replace_words _ _ _ _ _ _ size _ c.find_resize-refitted.ensures _ c.in-Ok.is _ new;
      block = replace_asked _ _ _ _ _ _ size _ c.find_resize-refitted.ensures _ c.in-Ok.is _ new;
    }

pub carry_bytes-requires : goal.carry_bytes-requires
carry_bytes-requires c =
    let size : 1 ≤ c.args.size = omega (arith, c.if-size-eq0.false) in
    let r = carry_asked _ _ _ _ _ _ size _ c.find_resize-refitted.ensures _ c.in-Ok.is _ (c.new_block-new.ensures (config_of c.args.self) refl) in
    record { guards = r.0; old_guard = r.1; new_guard = r.2; old = r.3; new = r.4; apart = r.5 }

pub overflow_sub-others : goal.overflow_sub-others
overflow_sub-others c =
    let size : 1 ≤ c.args.size = omega (arith, c.if-size-eq0.false) in
    (used_fits _ _ _ _ _ _ size _ c.find_resize-refitted.ensures _ c.in-Ok.is _ (c.new_block-new.ensures (config_of c.args.self) refl)).0

pub overflow_add-others : goal.overflow_add-others
overflow_add-others c =
    let size : 1 ≤ c.args.size = omega (arith, c.if-size-eq0.false) in
    omega (arith, used_fits _ _ _ _ _ _ size _ c.find_resize-refitted.ensures _ c.in-Ok.is _ (c.new_block-new.ensures (config_of c.args.self) refl))

pub updated-requires : goal.updated-requires
updated-requires c =
    let size : 1 ≤ c.args.size = omega (arith, c.if-size-eq0.false) in
    rows_fit _ _ _ _ _ _ size _ c.find_resize-refitted.ensures _ c.in-Ok.is _ (c.new_block-new.ensures (config_of c.args.self) refl) _ _ c.replace_row-rows.ensures

pub overflow_mul-to : goal.overflow_mul-to
overflow_mul-to c =
    let size : 1 ≤ c.args.size = omega (arith, c.if-size-eq0.false) in
    omega (arith, new_inside _ _ _ _ _ _ size _ c.find_resize-refitted.ensures _ c.in-Ok.is _ (c.new_block-new.ensures (config_of c.args.self) refl), arena_most _ _ _ _ _ _ size _ c.find_resize-refitted.ensures _ c.in-Ok.is _ (c.new_block-new.ensures (config_of c.args.self) refl))

pub returns-in-Ok : goal.returns-in-Ok
returns-in-Ok c =
    let size : 1 ≤ c.args.size = omega (arith, c.if-size-eq0.false) in
    let u = used_fits _ _ _ _ _ _ size _ c.find_resize-refitted.ensures _ c.in-Ok.is _ (c.new_block-new.ensures (config_of c.args.self) refl) in
    let d = realloc_done _ _ _ _ _ _ size _ c.find_resize-refitted.ensures _ c.in-Ok.is _ (c.new_block-new.ensures (config_of c.args.self) refl) _ _ c.replace_row-rows.ensures _ _ c.updated.ensures (omega (arith, u)) _ (omega arith) _ c.carry_bytes.ensures in
    record { answer = d.answer; numbered = d.numbered; heap = d.heap; table = d.table; arena = d.arena }
