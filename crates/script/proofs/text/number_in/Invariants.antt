-- `script::text::number_in` meets its contract. The loop's invariant: `value` is that of the digits passed, and it fits.
-- Assumes nothing.
use Rattle.std.proofs.Common.{◌≡◌, ◌≤◌, drop}
use Rattle.std.specs.List.{list_all}
use Rattle.script.specs.Text.{is_digit, value_of, value_from}
use Rattle.script.proofs.text.number_in.Given as goal

abbrev pub invariant-loop-b : goal.invariant-loop-b
invariant-loop-b l = (l.value ≤ 4294967295) × (list_all is_digit l.field ≡ list_all is_digit (drop l.b-index l.field)) × (value_of l.field ≡ value_from l.value (drop l.b-index l.field))
