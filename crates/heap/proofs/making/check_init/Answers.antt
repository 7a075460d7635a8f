-- `heap::making::check_init` meets its contract: each reason in turn.
-- Assumes nothing.
use mathlib.Core.Path.{◌≡◌, sym, ◌∙◌}
use mathlib.Core.Bool.{true}
use Rattle.model.specs.Quantities.{is_arena, is_base, is_table}
use Rattle.model.specs.Orders.{init_order}
use Rattle.heap.proofs.Makes.{base_granules}
use Rattle.heap.proofs.making.check_init.Goals as goal

pub returns-then-not-is_arena : goal.returns-then-not-is_arena
unfolding init_order
returns-then-not-is_arena c arena words a w = rw (a, sym c.is_arena.ensures ∙ c.if-not-is_arena.true)

pub returns-then-not-is_base : goal.returns-then-not-is_base
unfolding init_order
returns-then-not-is_base c arena words a w =
    let p = c.args in
    let good : is_arena c.args.bytes ≡ true = sym c.is_arena.ensures ∙ c.if-not-is_arena.false in
    rw (a, good, base_granules p.bytes p.plan.base good ∙ sym c.is_base.ensures ∙ c.if-not-is_base.true)

pub returns-then-not-is_table : goal.returns-then-not-is_table
unfolding init_order
returns-then-not-is_table c arena words a w =
    rw (a, w, (let h : is_arena c.args.bytes ≡ true = sym c.is_arena.ensures ∙ c.if-not-is_arena.false in h), (let h : (let p = c.args in is_base p.bytes p.plan.base ≡ true) = let p = c.args in base_granules p.bytes p.plan.base ((let h : is_arena c.args.bytes ≡ true = sym c.is_arena.ensures ∙ c.if-not-is_arena.false in h)) ∙ sym c.is_base.ensures ∙ c.if-not-is_base.false in h), sym c.is_table.ensures ∙ c.if-not-is_table.true)

pub returns-then-not-quotas_in_range : goal.returns-then-not-quotas_in_range
unfolding init_order
returns-then-not-quotas_in_range c arena words a w =
    rw (a, w, (let h : is_arena c.args.bytes ≡ true = sym c.is_arena.ensures ∙ c.if-not-is_arena.false in h), (let h : (let p = c.args in is_base p.bytes p.plan.base ≡ true) = let p = c.args in base_granules p.bytes p.plan.base ((let h : is_arena c.args.bytes ≡ true = sym c.is_arena.ensures ∙ c.if-not-is_arena.false in h)) ∙ sym c.is_base.ensures ∙ c.if-not-is_base.false in h), (let h : is_table c.args.words ≡ true = sym c.is_table.ensures ∙ c.if-not-is_table.false in h), sym c.quotas_in_range.ensures ∙ c.if-not-quotas_in_range.true)

pub returns : goal.returns
unfolding init_order
returns c arena words a w =
    rw (a, w, (let h : is_arena c.args.bytes ≡ true = sym c.is_arena.ensures ∙ c.if-not-is_arena.false in h), (let h : (let p = c.args in is_base p.bytes p.plan.base ≡ true) = let p = c.args in base_granules p.bytes p.plan.base ((let h : is_arena c.args.bytes ≡ true = sym c.is_arena.ensures ∙ c.if-not-is_arena.false in h)) ∙ sym c.is_base.ensures ∙ c.if-not-is_base.false in h), (let h : is_table c.args.words ≡ true = sym c.is_table.ensures ∙ c.if-not-is_table.false in h), sym c.quotas_in_range.ensures ∙ c.if-not-quotas_in_range.false)
