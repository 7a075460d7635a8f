-- `script::carrying_out::Script::carry_out` meets its contract. Each command is carried out by its function.
-- Assumes nothing.
use Rattle.std.proofs.Common.{rules, sym, ap, ◌∙◌, Option, Some}
use Rattle.script.specs.Commands.{answer_numbered}
use Rattle.script.specs.Machine.{machine, answer_to}
use Rattle.script.specs.declared.command.Command.{Command}
use Rattle.script.proofs.Carrying.{called, answer_numbered_lem}
use Rattle.script.proofs.carrying_out.Script.carry_out.Goals as goal

pub returns-in-Limit-clause-answer : goal.returns-in-Limit-clause-answer
returns-in-Limit-clause-answer c =
    let a = c.args in
    called c.limit.result c.map_err.result _ (λ e w h. search rules) c.map_err.ensures.cases
    ∙ c.limit.ensures.answer a.table.now a.arena.now
    ∙ ap (λ (k : Option Command). answer_to (machine a.self.now a.table.now a.arena.now) k) (sym (c.in-Some.is ∙ ap Some c.in-Limit.is))

pub returns-in-Limit-clause-numbered : goal.returns-in-Limit-clause-numbered
returns-in-Limit-clause-numbered c =
    let a = c.args in
    ap answer_numbered (returns-in-Limit-clause-answer c) ∙ answer_numbered_lem (machine a.self.now a.table.now a.arena.now) a.command
