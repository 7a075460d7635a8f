-- `heap::Heap::init` meets its contract.
-- Assumes nothing.
use Rattle.std.specs.Prelude.{◌≡◌, Bool, true, false, if◌then◌else◌, Ok}
use mir.Val.{bool_byte}
use Rattle.std.proofs.Common.{rules, refl, sym, ap, ◌∙◌}
use native.Mathlib.Omega.{arith}
use Rattle.model.specs.Rules as model
use Rattle.model.specs.Numbers.{made_numbered}
use Rattle.model.proofs.Ranges.{some_rows, few_granules, few_rows}
use Rattle.heap.proofs.Makes.{init_range, done_leaves}
use Rattle.heap.proofs.record.Heap.init.Goals as goal

-- the granules of a guard, as a flag says them
byte_of : (b : Bool) → bool_byte b ≡ (if b then 1 else 0)
byte_of true = refl
byte_of false = refl

pub overflow_cast-granules : goal.overflow_cast-granules
overflow_cast-granules c =
    let a = c.args in
    let e : c.check_init-answer.result ≡ Ok tt = search rules in
    let r = init_range a.arena.now a.table.now a.plan (sym (c.check_init-answer.ensures _ _ refl refl) ∙ e) in
    omega (arith, few_granules (model.init_config a.arena.now a.table.now a.plan) r)

pub reset-requires : goal.reset-requires
reset-requires c =
    let a = c.args in
    let e : c.check_init-answer.result ≡ Ok tt = search rules in
    let r = init_range a.arena.now a.table.now a.plan (sym (c.check_init-answer.ensures _ _ refl refl) ∙ e) in
    omega (arith, some_rows (model.init_config a.arena.now a.table.now a.plan) r)

pub overflow_cast-result : goal.overflow_cast-result
overflow_cast-result c =
    let a = c.args in
    let e : c.check_init-answer.result ≡ Ok tt = search rules in
    let r = init_range a.arena.now a.table.now a.plan (sym (c.check_init-answer.ensures _ _ refl refl) ∙ e) in
    omega (arith, few_rows (model.init_config a.arena.now a.table.now a.plan) r)

pub returns : goal.returns
returns c =
    let a = c.args in
    let e : c.check_init-answer.result ≡ Ok tt = search rules in
    let d = done_leaves a.arena.now a.table.now a.plan (sym (c.check_init-answer.ensures _ _ refl refl) ∙ e) _ _ c.from.result _ (c.from.ensures ∙ byte_of a.plan.guarded) c.fill.ensures (omega arith) c.reset.ensures in
    record { answer = e ∙ d.answer; numbered = ap made_numbered e ∙ d.numbered; heap = d.heap; table = d.table; arena = d.arena }
