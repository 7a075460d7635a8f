-- `heap::Heap::seek_refit` meets its contract.
-- Assumes nothing.
use Rattle.std.proofs.Common.{length, refl, ap, arith, rules}
use Rattle.segments.proofs.Rows.{length_segments}
use Rattle.heap.specs.Stored.{config_of}
use Rattle.heap.proofs.ValidStored.{valid_map}
use Rattle.heap.proofs.Changing.{bounds}
use Rattle.heap.proofs.Refitting.{replaceable, replace_nowhere, refit_at, replace_full, replace_there}
use Rattle.heap.proofs.record.Heap.seek_refit.Goals as goal

pub granules_with-need-requires : goal.granules_with-need-requires
granules_with-need-requires c = (bounds c.args.self c.args.table.now c.requires.valid).guards

pub new-rows-requires : goal.new-rows-requires
new-rows-requires c =
    let d = bounds c.args.self c.args.table.now c.requires.valid in
    omega (arith, d.words, d.rows_most)

pub refit-requires : goal.refit-requires
refit-requires c =
    let a = c.args in
    let d = bounds a.self a.table.now c.requires.valid in
    let m = valid_map a.self a.table.now c.requires.valid in
    record {
      in_use = omega (arith, c.requires.old.1.in_use, ap length c.new-rows.ensures, length_segments a.self.rows a.table.now);
      some = omega (arith, c.requires.size);
      need = omega (arith, d.guards);
      map = record { arena = config_of a.self; small = d.granules; map = rw c.new-rows.ensures m };
    }

pub new_block-wanted-requires : goal.new_block-wanted-requires
new_block-wanted-requires c =
    (bounds c.args.self c.args.table.now c.requires.valid).guards

pub rows_after_replace-requires : goal.rows_after_replace-requires
rows_after_replace-requires c =
    let a = c.args in
    let x = c.requires.old in
    let e = refit_at a.self a.table.now c.requires.valid a.owner c.requires.owner a.size c.requires.size x.0 a.old x.1 _ c.new-rows.ensures _ c.granules_with-need.ensures _ c.refit.ensures _ c.in-Some.is in
    let r = replaceable a.self a.table.now c.requires.valid a.owner c.requires.owner a.size c.requires.size x.0 a.old x.1 _ e _ (c.new_block-wanted.ensures (config_of a.self) refl) in
    (config_of a.self, rw c.new-rows.ensures r)

pub returns-in_default : goal.returns-in_default
returns-in_default c x row =
    let a = c.args in
    replace_nowhere a.self a.table.now c.requires.valid a.owner c.requires.owner a.size c.requires.size x a.old row _ c.new-rows.ensures _ c.granules_with-need.ensures _ c.refit.ensures (search rules)

pub returns-then-self-rows_after_replace : goal.returns-then-self-rows_after_replace
returns-then-self-rows_after_replace c x row =
    let a = c.args in
    let e = refit_at a.self a.table.now c.requires.valid a.owner c.requires.owner a.size c.requires.size x a.old row _ c.new-rows.ensures _ c.granules_with-need.ensures _ c.refit.ensures _ c.in-Some.is in
    replace_full a.self a.table.now c.requires.valid a.owner c.requires.owner a.size c.requires.size x a.old row _ e _ (c.new_block-wanted.ensures (config_of a.self) refl) _ _ c.new-rows.ensures c.rows_after_replace.ensures (omega arith)

pub returns : goal.returns
returns c x row =
    let a = c.args in
    let e = refit_at a.self a.table.now c.requires.valid a.owner c.requires.owner a.size c.requires.size x a.old row _ c.new-rows.ensures _ c.granules_with-need.ensures _ c.refit.ensures _ c.in-Some.is in
    replace_there a.self a.table.now c.requires.valid a.owner c.requires.owner a.size c.requires.size x a.old row _ e _ (c.new_block-wanted.ensures (config_of a.self) refl) _ _ c.new-rows.ensures c.rows_after_replace.ensures (omega arith)
