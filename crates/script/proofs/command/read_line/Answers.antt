-- `script::command::read_line` meets its contract.
-- Assumes nothing.
use Rattle.std.proofs.Common.{◌∙◌}
use Rattle.script.proofs.Reading.{long_line, short_line}
use Rattle.script.proofs.command.read_line.Goals as goal

pub returns-then-line-gt80 : goal.returns-then-line-gt80
returns-then-line-gt80 c = long_line _ c.if-line-gt80.true

pub returns : goal.returns
returns c = c.command_of.ensures ∙ short_line _ c.if-line-gt80.false
