-- `segments::editing::remove_row` meets its contract: the rows after row `i` moved down, and the last row zeroed.
-- Assumes nothing.
use Rattle.std.proofs.Common.{◌≡◌, ℕ, ◌-◌, ◌*◌, length, take, drop, replicate, length-take, length-drop, ap, ◌∙◌, arith}
use borrow.Rule.Slice.PartMut.{put_mid}
use Rattle.segments.proofs.Written.{row_less}
use Rattle.segments.proofs.editing.remove_row.Goals as goal

pub returns : goal.returns
returns c =
    let a = c.args in
    let four : 4 * a.rows - (4 * a.rows - 4) ≡ 4 = omega arith in
    let last : length (take (4 * a.rows - (4 * a.rows - 4)) (drop (4 * a.rows - 4) c.copy_within.new.self)) ≡ 4 = simp (length-take, length-drop) (omega arith) in
    let zeros : c.fill.new.self ≡ replicate 4 0 = c.fill.ensures.after (λ y e. e) ∙ ap (λ (k : ℕ). replicate k 0) last in
    (λ j. put_mid (4 * a.rows - 4) (four j) (c.copy_within.ensures.after j) (zeros j))
    ∙ row_less a.rows a.table.now c.requires.words a.i c.requires.in_use
