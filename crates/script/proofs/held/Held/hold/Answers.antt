-- `script::held::Held::hold` meets its contract.
-- Assumes nothing.
use Rattle.std.proofs.Common.{◌≡◌, length, arith}
use Rattle.script.proofs.Holding.{held_done}
use Rattle.script.proofs.held.Held.hold.Goals as goal

pub returns : goal.returns
returns c =
    let whole : length c.args.self.now.line ≡ 81 = omega arith in
    held_done _ _ _ _ whole c.min-from.ensures c.min-n.ensures _ _ c.copy_from_slice.ensures.after (omega arith)
