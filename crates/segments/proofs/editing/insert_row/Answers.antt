-- `segments::editing::insert_row` meets its contract: the rows from row `i` on moved up, and the row set.
-- Assumes nothing.
use Rattle.std.proofs.Common.{ℕ, List, ap, ◌∙◌, arith}
use Rattle.segments.specs.Rows.{with_row}
use Rattle.segments.proofs.Written.{row_more}
use Rattle.segments.proofs.editing.insert_row.Goals as goal

pub returns : goal.returns
returns c =
    let a = c.args in
    c.put_row.ensures ∙ ap (λ (t : List ℕ). with_row t a.i a.s) c.copy_within.ensures.after
    ∙ row_more a.rows a.table.now (omega arith) a.i a.s c.requires.words c.requires.in_use
