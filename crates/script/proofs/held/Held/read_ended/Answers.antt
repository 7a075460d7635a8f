-- `script::held::Held::read_ended` meets its contract.
-- Assumes nothing.
use Rattle.std.proofs.Common.{ap, ◌∙◌}
use Rattle.script.specs.Commands.{read_line}
use Rattle.script.specs.Session.{held_bytes}
use Rattle.script.specs.declared.held.Held.{Held}
use Rattle.script.specs.declared.command.Command.{Command}
use Rattle.std.specs.Prelude.{Option}
use Rattle.script.proofs.Holding.{read_held_with}
use Rattle.script.proofs.held.Held.read_ended.Goals as goal

pub returns : goal.returns
returns c =
    let read : Held → Option Command = λ h. read_line (held_bytes h) in
    c.read_line-2.ensures ∙ ap read_line c.as_slice.ensures ∙ ap read c.hold.ensures ∙ read_held_with c.args.self.now c.args.part.now
