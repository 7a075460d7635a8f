-- `heap::Heap::examine` meets its contract.
-- Assumes nothing.
use Rattle.std.specs.Prelude.{◌≡◌, List, Some, is_some, false}
use Rattle.std.proofs.Common.{refl, sym, subst, ◌∙◌, rules}
use Rattle.segments.specs.Counting.{Counted}
use Rattle.model.specs.declared.Segment.{Segment}
use Rattle.heap.specs.Stored.{config_of}
use Rattle.heap.proofs.Validating.{not_framed, no_map, agrees_valid, examined}
use Rattle.heap.proofs.record.Heap.examine.Goals as goal

pub returns-then-not-is_framed : goal.returns-then-not-is_framed
returns-then-not-is_framed c =
    (not_framed c.args.self c.args.table.now (sym c.is_framed.ensures ∙ c.if-not-is_framed.true), refl)

pub returns-in_default : goal.returns-in_default
returns-in_default c =
    let k = subst (λ (xs : List Segment). Counted (config_of c.args.self) xs c.take_census.result) c.new-rows.ensures (c.take_census.ensures (config_of c.args.self) refl refl) in
    let n : is_some c.take_census.result ≡ false = search rules in
    (no_map c.args.self c.args.table.now (sym k.map ∙ n), refl)

pub returns-then-not-agrees : goal.returns-then-not-agrees
returns-then-not-agrees c =
    let k = subst (λ (xs : List Segment). Counted (config_of c.args.self) xs (Some c.in-Some.k)) c.new-rows.ensures (c.in-Some.ensures (config_of c.args.self) refl refl) in
    (sym (agrees_valid c.args.self c.args.table.now c.in-Some.k (sym k.map) k.figures (sym c.is_framed.ensures ∙ c.if-not-is_framed.false)) ∙ sym c.agrees.ensures ∙ c.if-not-agrees.true, refl)

pub returns : goal.returns
returns c =
    let k = subst (λ (xs : List Segment). Counted (config_of c.args.self) xs (Some c.in-Some.k)) c.new-rows.ensures (c.in-Some.ensures (config_of c.args.self) refl refl) in
    examined c.args.self c.args.table.now c.in-Some.k (sym k.map) k.figures (sym c.is_framed.ensures ∙ c.if-not-is_framed.false) (sym c.agrees.ensures ∙ c.if-not-agrees.false)
