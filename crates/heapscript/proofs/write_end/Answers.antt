-- What was put was written.
-- Assumes nothing.
use Rattle.std.proofs.lemmas.Result.{on_ok_weaker, on_err_weaker}
use Rattle.script.specs.Performed.{Finishes}
use Rattle.heapscript.proofs.write_end.Goals as goal

pub returns : goal.returns
returns g c =
    let finished : Finishes c.args.session c.args.table.now c.args.arena.now =
    record {
      room = _;
      out = c.in-Some.n;
      words_after = c.finish.new.table;
      bytes_after = c.finish.new.arena;
      room_after = c.finish.new.out;
      done = c.in-Some.ensures;
    } in
    record {
      ok = on_ok_weaker c.write_out.result (λ h. record { finished = finished; written = h }) c.write_out.ensures.ok;
      err = on_err_weaker c.write_out.result (λ h. record { finished = finished; count = h.0; written = h.1 }) c.write_out.ensures.err;
    }
