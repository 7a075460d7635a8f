-- `script::lines_out::Out::put_answer` meets its contract.
-- Assumes nothing.
use Rattle.std.proofs.Common.{refl, sym, ap, ◌∙◌, [], ◌∷◌, arith}
use Rattle.script.specs.Text.{ascii, line_of}
use Rattle.script.specs.Commands.{answer_line}
use Rattle.script.proofs.Writing.{one_most, why_line, put_line}
use Rattle.script.proofs.lines_out.Out.put_answer.Goals as goal

pub put_line-requires : goal.put_line-requires
put_line-requires c = omega (arith, one_most (ascii "ok") c.in-Ok.value (omega arith))

pub put_line-requires-in-Err : goal.put_line-requires-in-Err
put_line-requires-in-Err c = omega (arith, one_most (ascii "no") c.number.result (omega arith))

pub returns-in-Ok-clause-put : goal.returns-in-Ok-clause-put
returns-in-Ok-clause-put c =
    (put_line (ascii "ok") c.in-Ok.value (ap answer_line c.in-Ok.is) refl (omega arith) c.put_line.ensures.put).0

pub returns-in-Ok-clause-most : goal.returns-in-Ok-clause-most
returns-in-Ok-clause-most c =
    (put_line (ascii "ok") c.in-Ok.value (ap answer_line c.in-Ok.is) refl (omega arith) c.put_line.ensures.put).1

pub returns-in-Err-clause-put : goal.returns-in-Err-clause-put
returns-in-Err-clause-put c =
    let n = c.number in
    (put_line (ascii "no") n.result (ap answer_line c.in-Err.is ∙ why_line c.in-Err.why ∙ ap (λ k. line_of (ascii "no") (k ∷ [])) (sym n.ensures)) refl (omega arith) c.put_line-in-Err.ensures.put).0

pub returns-in-Err-clause-most : goal.returns-in-Err-clause-most
returns-in-Err-clause-most c =
    let n = c.number in
    (put_line (ascii "no") n.result (ap answer_line c.in-Err.is ∙ why_line c.in-Err.why ∙ ap (λ k. line_of (ascii "no") (k ∷ [])) (sym n.ensures)) refl (omega arith) c.put_line-in-Err.ensures.put).1
