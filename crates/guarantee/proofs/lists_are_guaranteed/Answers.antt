-- `guarantee::lists_are_guaranteed` meets its contract: it is the law.
-- Assumes nothing.
use Rattle.guarantee.proofs.Guarantee.{guarantee}
use Rattle.guarantee.proofs.lists_are_guaranteed.Goals as goal

pub returns : goal.returns
returns c = guarantee
