-- `script::lines_out::Out::put_spaced` meets its contract. std writes the digits.
-- Assumes nothing.
use Rattle.std.proofs.Common.{◌≡◌, length, ap, sym, ◌∙◌, [], arith, length-append, append-nil}
use Rattle.script.specs.Text.{decimal}
use Rattle.script.proofs.Writing.{put_append, put_same, put_length, decimal_std}
use Rattle.script.proofs.lines_out.Out.put_spaced.Goals as goal

pub put-requires-2 : goal.put-requires-2
put-requires-2 c =
    let digits : c.as_bytes-digits.result.now ≡ decimal c.args.n = c.as_bytes-digits.ensures.value ∙ c.format.ensures.text ∙ decimal_std c.args.n (omega arith) in
    omega (arith, ap length digits, put_length c.put.ensures.put, c.put.ensures.put.end, length-append (decimal c.args.n) [])

pub returns-clause-put : goal.returns-clause-put
returns-clause-put c =
    let digits : c.as_bytes-digits.result.now ≡ decimal c.args.n = c.as_bytes-digits.ensures.value ∙ c.format.ensures.text ∙ decimal_std c.args.n (omega arith) in
    put_append c.put.ensures.put (put_same (digits ∙ sym (append-nil (decimal c.args.n))) c.put-2.ensures.put)
