-- `segments::row_list::RowList::len` meets its contract.
-- Assumes nothing.
use Rattle.std.proofs.Common.{length, sym, ap, ◌∙◌}
use Rattle.segments.proofs.Rows.{length_segments}
use Rattle.segments.proofs.row_list.RowList.len.Goals as goal

pub returns-clause-count : goal.returns-clause-count
returns-clause-count c = sym (length_segments c.self.inside.count c.self.inside.words.now) ∙ ap length c.self.view_is
