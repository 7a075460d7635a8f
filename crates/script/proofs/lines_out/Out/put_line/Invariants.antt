-- `script::lines_out::Out::put_line` meets its contract. The loop's invariant: the word and the numbers passed are put.
-- Assumes nothing.
use Rattle.std.proofs.Common.{◌≡◌, ◌++◌, take}
use Rattle.script.specs.Text.{spaced}
use Rattle.script.specs.Steps.{Put}
use Rattle.script.proofs.lines_out.Out.put_line.Given as goal

abbrev pub invariant-loop-n : goal.invariant-loop-n
invariant-loop-n l =
    record {
      same_reference : l.self.bytes.ghost_name ≡ l.fn.self.bytes.ghost_name;
      put : Put (l.word ++ spaced (take l.n-index l.numbers)) l.fn.self.bytes.now l.fn.self.end l.self.end l.self.bytes.now;
    }
