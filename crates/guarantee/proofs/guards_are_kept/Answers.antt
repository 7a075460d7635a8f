-- `guarantee::guards_are_kept` meets its contract: it is the law.
-- Assumes nothing.
use Rattle.guarantee.proofs.Guards.{guards_hold}
use Rattle.guarantee.proofs.guards_are_kept.Goals as goal

pub returns : goal.returns
returns c = guards_hold
