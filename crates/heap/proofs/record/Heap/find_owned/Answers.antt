-- `heap::Heap::find_owned` meets its contract: the row with the granule of the offset says what the offset gets.
-- Assumes nothing.
use Rattle.std.proofs.Common.{rules, length, sym, ap, ◌∙◌}
use native.Mathlib.Omega.{arith}
use Prim.Native.Nat.{◌*◌}
use Rattle.heap.specs.Steps.{segment_order}
use Rattle.model.proofs.Refusing.{refused_by, passed_by}
use Rattle.segments.proofs.Rows.{length_segments}
use Rattle.heap.proofs.Changing.{bounds}
use Rattle.heap.proofs.Frees.{owned_not, offset_refused, offset_passed}
use Rattle.heap.proofs.record.Heap.find_owned.Goals as goal

pub new-rows-requires : goal.new-rows-requires
new-rows-requires c = let b = bounds _ _ c.requires in omega (arith, b.words, b.rows_most)

pub row_of-i-requires : goal.row_of-i-requires
row_of-i-requires c =
    omega (arith, (bounds _ _ c.requires).rows_least, ap length c.new-rows.ensures, length_segments c.args.self.rows c.args.table.now)

pub overflow_mul-self : goal.overflow_mul-self
overflow_mul-self c = omega (arith, (bounds _ _ c.requires).granules)

pub returns-in_err-check_offset : goal.returns-in_err-check_offset
returns-in_err-check_offset c =
    let a = c.args in
    owned_not a.self a.table.now a.owner a.offset _ _ (search rules)
    (offset_refused a.self a.table.now a.owner a.offset c.requires (sym c.is_owner.ensures ∙ c.if-not-is_owner.false) _ c.new-rows.ensures _ c.row_of-i.ensures _ c.get-block.ensures _ (refused_by (segment_order c.get-block.result (16 * a.self.granules) a.owner a.offset) _ c.in_err-check_offset.ensures))

pub returns : goal.returns
returns c =
    let a = c.args in
    offset_passed a.self a.table.now a.owner a.offset c.requires (sym c.is_owner.ensures ∙ c.if-not-is_owner.false) _ c.new-rows.ensures _ c.row_of-i.ensures _ c.get-block.ensures (passed_by (segment_order c.get-block.result (16 * a.self.granules) a.owner a.offset) c.in_ok-check_offset.ensures)
