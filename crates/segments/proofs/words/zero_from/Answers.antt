-- `segments::words::zero_from` meets its contract.
-- Assumes nothing.
use Rattle.std.proofs.Common.{◌≡◌, ◌-◌, ◌∙◌, length, take, drop, arith, length-drop, take_all, rules}
use Rattle.std.specs.Prelude.{◌==◌}
use Rattle.std.proofs.lemmas.Iterator.{YieldsList-from_slice}
use Rattle.std.proofs.lemmas.Iterator.Search.{all_from_yields_List}
use Rattle.segments.proofs.Tests.{every_is}
use Rattle.segments.proofs.words.zero_from.Goals as goal

pub returns-else-table-from : goal.returns-else-table-from
returns-else-table-from c =
    let a = c.args in
    let whole : take (length a.table.now - a.from) (drop a.from a.table.now) ≡ drop a.from a.table.now =
    take_all (length a.table.now - a.from) (drop a.from a.table.now) (simp length-drop (omega arith)) in
    all_from_yields_List (λ x. x == 0) _ _ c.all.result c.all.ensures.ran (YieldsList-from_slice _ (c.iter.ensures.rest ∙ whole)) (λ x b q k. search rules)
    ∙ every_is 0 (drop a.from a.table.now)
