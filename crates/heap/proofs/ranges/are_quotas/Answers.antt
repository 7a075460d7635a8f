-- `heap::ranges::are_quotas` meets its contract.
-- Assumes nothing.
use Rattle.std.specs.Prelude.{◌≡◌, ℕ, length, nat_le}
use Rattle.std.specs.List.{list_all}
use Rattle.std.proofs.Common.{rules, arith, ◌∙◌}
use Rattle.std.proofs.lemmas.Iterator.{YieldsList-from_slice}
use Rattle.std.proofs.lemmas.Iterator.Search.{all_from_yields_List}
use borrow.Author.Tests.{le-leb}
use Rattle.model.specs.Quantities.{within}
use Rattle.heap.proofs.ranges.are_quotas.Goals as goal

-- every number is at least 0
from_0 : (most x : ℕ) → nat_le x most ≡ within 0 most x
from_0 most x = rw (le-leb 0 x (omega arith))

pub returns : goal.returns
returns c =
    let n : length c.args.quotas.now ≡ 8 = search rules in
    rw n (all_from_yields_List (λ x. nat_le x c.args.most) _ _ c.all.result c.all.ensures.ran (YieldsList-from_slice _ c.iter.ensures.rest) (λ x b q k. search rules)
    ∙ (λ i. list_all (λ x. from_0 c.args.most x i) c.args.quotas.now))
