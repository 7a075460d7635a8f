-- `heap::Heap::check_resize` meets its contract.
-- Assumes nothing.
use Rattle.std.proofs.Common.{sym, ◌∙◌}
use native.Mathlib.Omega.{arith}
use Rattle.heap.proofs.Changing.{bounds}
use Rattle.heap.proofs.Refitting.{held_without, resize_exceeds, resize_within}
use Rattle.heap.proofs.record.Heap.check_resize.Goals as goal

pub overflow_sub-others : goal.overflow_sub-others
overflow_sub-others c =
    let x = c.requires.old in
    omega (arith, held_without _ _ c.requires.examined.valid c.args.owner c.requires.owner c.args.size c.requires.size x.0 _ x.1 _ c.requires.examined c.requires.owned)

pub granules_with-requires : goal.granules_with-requires
granules_with-requires c = (bounds _ _ c.requires.examined.valid).guards

pub returns-then-exceeds : goal.returns-then-exceeds
returns-then-exceeds c x row =
    resize_exceeds _ _ c.requires.examined.valid c.args.owner c.requires.owner c.args.size c.requires.size x _ row _ c.requires.examined c.requires.owned _ (omega (arith, held_without _ _ c.requires.examined.valid c.args.owner c.requires.owner c.args.size c.requires.size x _ row _ c.requires.examined c.requires.owned)) _ c.granules_with.ensures (sym c.exceeds.ensures ∙ c.if-exceeds.true)

pub returns : goal.returns
returns c x row =
    resize_within _ _ c.requires.examined.valid c.args.owner c.requires.owner c.args.size c.requires.size x _ row _ c.requires.examined c.requires.owned _ (omega (arith, held_without _ _ c.requires.examined.valid c.args.owner c.requires.owner c.args.size c.requires.size x _ row _ c.requires.examined c.requires.owned)) _ c.granules_with.ensures (sym c.exceeds.ensures ∙ c.if-exceeds.false) c.seek_refit.result (c.seek_refit.ensures x row)
