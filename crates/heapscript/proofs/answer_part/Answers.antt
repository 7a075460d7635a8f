-- The part is what was read; it was fed, and what that put was written.
-- Assumes nothing.
use Rattle.std.proofs.Common.{take, refl, arith}
use Rattle.std.proofs.lemmas.Grind.{common_steps}
use Rattle.heapscript.proofs.Steps.{OnErr-anyhow, Feeds-whole, StopsPart-read, StopsPart-write}
use Rattle.heapscript.proofs.answer_part.Goals as goal

pub returns-clause-ok : goal.returns-clause-ok
returns-clause-ok g c =
    record {
      part = take c.in_ok-n.n c.read.new.buf;
      size = grind (arith, common_steps);
      read = c.in_ok-n.ensures.bytes.0;
      end = λ none. c.in_ok-n.ensures.bytes.1 none (omega arith);
      fed = Feeds-whole _ _ _ _ _ _ _ _ _ _ (c.answer_whole-fed.ensures.taken, c.answer_whole-fed.ensures.fed);
      session = refl;
      table = refl;
      arena = refl;
      written = c.in_ok-write_out.ensures.ok;
    }

pub returns-in_err-n-clause-err : goal.returns-in_err-n-clause-err
returns-in_err-n-clause-err g c =
    OnErr-anyhow c.from_residual.result (StopsPart-read _ _ _ _ _ _ c.in_err-n.ensures.bytes)

pub returns-in_err-write_out-clause-err : goal.returns-in_err-write_out-clause-err
returns-in_err-write_out-clause-err g c =
    OnErr-anyhow c.from_residual-in_err-write_out.result
    (StopsPart-write _ _ _ _ _ _ _ (take c.in_ok-n.n c.read.new.buf) (Feeds-whole _ _ _ _ _ _ _ _ _ _ (c.answer_whole-fed.ensures.taken, c.answer_whole-fed.ensures.fed)) c.in_err-write_out.ensures.err.0 c.in_ok-n.ensures.bytes.0
    c.in_err-write_out.ensures.err.1)
