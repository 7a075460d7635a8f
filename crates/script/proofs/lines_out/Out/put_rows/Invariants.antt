-- `script::lines_out::Out::put_rows` meets its contract. The loop's invariant: the lines of the rows passed are put, each of at most 50 bytes.
-- Assumes nothing.
use Rattle.std.proofs.Common.{◌≡◌, ◌+◌, ◌*◌, ◌≤◌, take}
use Rattle.script.specs.Machine.{seg_lines}
use Rattle.script.specs.Steps.{Put}
use Rattle.script.proofs.lines_out.Out.put_rows.Given as goal

abbrev pub invariant-loop-i : goal.invariant-loop-i
invariant-loop-i l =
    record {
      same_reference : l.self.bytes.ghost_name ≡ l.fn.self.bytes.ghost_name;
      most : l.self.end ≤ l.fn.self.end + 50 * l.i;
      put : Put (seg_lines (take l.i l.rows)) l.fn.self.bytes.now l.fn.self.end l.self.end l.self.bytes.now;
    }
