-- `segments::row_list::RowList::refit` meets its contract.
-- Assumes nothing.
use Rattle.std.proofs.Common.{◌≡◌, rules, refl, ap, ◌∙◌, arith}
use Rattle.std.specs.Prelude.{Some}
use Rattle.std.specs.Option.{option_map}
use Rattle.model.proofs.BaseLaws.{at_base}
use Rattle.segments.proofs.Finding.{row_within}
use Rattle.segments.proofs.Around.{refit_stays, refit_goes}
use Rattle.model.specs.declared.Segment.{Segment}
use Rattle.segments.proofs.row_list.RowList.refit.Goals as goal

pub overflow_add-s : goal.overflow_add-s
overflow_add-s c =
    omega (arith, row_within _ c.args.self.now c.args.i c.get-s.result c.requires.map c.requires.in_use c.get-s.ensures)

pub returns-then-s-need : goal.returns-then-s-need
returns-then-s-need c k whole small map live =
    ap Some (ap (λ (x : Segment). x.start) c.get-s.ensures)
    ∙ refit_stays k _ _ c.requires.in_use map live c.args.need (omega (arith, ap (λ (x : Segment). x.start) c.get-s.ensures))

pub returns : goal.returns
returns c k whole small map live =
    let found : c.map.result ≡ option_map (λ p. p.start) c.first_fit.result = search rules in
    found ∙ refit_goes k _ _ c.requires.in_use map live c.args.need (omega (arith, ap (λ (x : Segment). x.start) c.get-s.ensures)) c.first_fit.result 0 whole (c.first_fit.ensures (at_base 0 k) refl (omega arith) map)
