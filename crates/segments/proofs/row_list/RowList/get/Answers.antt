-- `segments::row_list::RowList::get` meets its contract.
-- Assumes nothing.
use Rattle.std.proofs.Common.{◌<◌, List, length, sym, ap, ◌∙◌, arith}
use Rattle.segments.specs.Rows.{nth_row}
use Rattle.segments.proofs.Rows.{length_segments}
use Rattle.segments.proofs.Reading.{row_got}
use Rattle.model.specs.declared.Segment.{Segment}
use Rattle.segments.proofs.row_list.RowList.get.Goals as goal

pub row-requires : goal.row-requires
row-requires c = omega (arith, c.self.invariant, length_segments c.self.inside.count c.self.inside.words.now, ap length c.self.view_is)

pub returns : goal.returns
returns c =
    let r = c.self.inside in
    let low : c.args.i < r.count = omega (arith, length_segments r.count r.words.now, ap length c.self.view_is) in
    c.row.ensures ∙ sym (row_got r.count c.args.i r.words.now low) ∙ ap (λ (xs : List Segment). nth_row xs c.args.i) c.self.view_is
