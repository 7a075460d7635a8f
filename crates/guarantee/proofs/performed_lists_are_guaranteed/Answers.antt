-- `guarantee::performed_lists_are_guaranteed` meets its contract: it is the law.
-- Assumes nothing.
use Rattle.guarantee.proofs.Performed.{performed_guaranteed}
use Rattle.guarantee.proofs.performed_lists_are_guaranteed.Goals as goal

pub returns : goal.returns
returns c = performed_guaranteed
