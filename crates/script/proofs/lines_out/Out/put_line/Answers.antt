-- `script::lines_out::Out::put_line` meets its contract.
-- Assumes nothing.
use Rattle.std.proofs.Common.{◌≡◌, [], ◌∷◌, ◌++◌, length, take, ap, ◌∙◌, arith, length-append, append_assoc}
use lib.Seq.{take_all}
use Rattle.script.specs.Text.{spaced}
use Rattle.script.proofs.Writing.{put_append, put_same, put_length, put_number, spaced_most}
use Rattle.script.proofs.lines_out.Out.put_line.Goals as goal

pub put_spaced-requires : goal.put_spaced-requires
put_spaced-requires c =
    let l = c.loop-n in
    let a = c.args in
    omega (
      arith,
      put_length l.invariant.put,
      l.invariant.put.end,
      length-append a.word.now (spaced (take l.n-index a.numbers.now)),
      length-append a.word.now (spaced a.numbers.now ++ (10 ∷ [])),
      length-append (spaced a.numbers.now) (10 ∷ []),
      spaced_most a.numbers.now l.n-index (omega arith),
    )

pub loop-n-preserved : goal.loop-n-preserved
loop-n-preserved c =
    let l = c.loop-n in
    record {
      same_reference = c.put_spaced.ensures.same_reference ∙ l.invariant.same_reference;
      put = put_number c.args.word.now c.args.numbers.now l.n-index (omega arith) l.invariant.put c.put_spaced.ensures.put;
    }

pub put-requires-2 : goal.put-requires-2
put-requires-2 c =
    let l = c.loop-n in
    let a = c.args in
    let all : take l.n-index a.numbers.now ≡ a.numbers.now = take_all l.n-index a.numbers.now (omega arith) in
    omega (
      arith,
      put_length l.invariant.put,
      l.invariant.put.end,
      ap (λ ns. length (a.word.now ++ spaced ns)) all,
      length-append a.word.now (spaced a.numbers.now),
      length-append a.word.now (spaced a.numbers.now ++ (10 ∷ [])),
      length-append (spaced a.numbers.now) (10 ∷ []),
    )

pub returns-clause-put : goal.returns-clause-put
returns-clause-put c =
    let l = c.loop-n in
    let a = c.args in
    let all : take l.n-index a.numbers.now ≡ a.numbers.now = take_all l.n-index a.numbers.now (omega arith) in
    put_same (append_assoc a.word.now (spaced a.numbers.now) (10 ∷ [])) (put_append (put_same (ap (λ ns. a.word.now ++ spaced ns) all) l.invariant.put) c.put-2.ensures.put)
