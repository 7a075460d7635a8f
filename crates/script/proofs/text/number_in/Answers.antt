-- `script::text::number_in` meets its contract.
-- Assumes nothing.
use Rattle.std.proofs.Common.{◌+◌, ◌-◌, ◌*◌, get_or, drop, arith}
use Rattle.script.proofs.Reading.{no_number, value_least, value_more}
use Rattle.script.proofs.text.number_in.Goals as goal

pub returns-then-value-gt4294967295 : goal.returns-then-value-gt4294967295
returns-then-value-gt4294967295 c =
    let f = c.args.field.now in
    let l = c.loop-b in
    no_number f (λ r. omega (arith, value_least (10 * l.value + (get_or f l.b-index 0 - 48)) (drop (l.b-index + 1) f), value_more l.value f l.b-index (omega arith)))
