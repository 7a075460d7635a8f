-- `script::text::fields_of` meets its contract: each call takes the next of the line's fields.
-- Assumes nothing.
use Rattle.std.proofs.Common.{rules, tests, ℕ, Bool, sym, ◌∙◌, eqb, subst}
use Rattle.std.specs.Fn.{ComputesKey}
use Rattle.script.proofs.Reading.{pieces_split, next_part, same_test}
use Rattle.script.proofs.text.fields_of.Goals as goal

pub returns : goal.returns
returns c =
    let s = c.split-fields in
    let p : ℕ → Bool = λ b. eqb b 32 in
    let one = next_part _ p _ _ _ c.next.ensures.steps (subst (ComputesKey _ p) (sym s.ensures.closure) (same_test _ p _ (λ x r q k. search (rules, tests)))) in
    let two = next_part _ p _ _ _ c.next-2.ensures.steps one.0 in
    let three = next_part _ p _ _ _ c.next-3.ensures.steps two.0 in
    let four = next_part _ p _ _ _ c.next-4.ensures.steps three.0 in
    let five = next_part _ p _ _ _ c.next-5.ensures.steps four.0 in
    rw (pieces_split, ← s.ensures.rest) (sym ((rw s.ensures.done at (one.1 4)) ∙ rw (two.1 3, three.1 2, four.1 1, five.1 0)))
