-- `script::session::Session::feed` meets its contract. The loop's invariant: what is written and left so far, with what the rest of the part comes to, is what
-- the whole part comes to. The measure is what is left of the part. Assumes nothing.
use Rattle.std.proofs.Common.{◌≡◌, length, take}
use Rattle.script.specs.Machine.{machine}
use Rattle.script.specs.Session.{held}
use Rattle.script.proofs.Feeding.{Feeding}
use Rattle.script.proofs.session.Session.feed.Given as goal

abbrev pub invariant-loop-n : goal.invariant-loop-n
invariant-loop-n l =
    record {
      same_reference : l.out.bytes.ghost_name ≡ l.initial.out.bytes.ghost_name;
      size : length l.out.bytes.now ≡ length l.initial.out.bytes.now;
      line : l.self.held.line ≡ l.fn.self.held.line;
      feeding : Feeding (machine l.fn.self.script l.fn.table l.fn.arena) (held l.fn.self) (take l.taken l.input) l.initial.out.bytes.now (machine l.self.script l.table l.arena) (held l.self) l.out.bytes.now l.out.end l.rest;
    }

abbrev pub decreases-loop-n : goal.decreases-loop-n
decreases-loop-n l = length l.rest
