-- What stands before the rest is written.
-- Assumes nothing.
use Rattle.std.proofs.Common.{length}
use Rattle.heapscript.proofs.Steps.{Written}
use Rattle.heapscript.proofs.write_out.Given as goal

abbrev pub invariant-loop-rest : goal.invariant-loop-rest
invariant-loop-rest g l = Written (g.W.Write.contents l.initial.writer) (g.W.Write.contents l.writer) l.bytes l.rest

abbrev pub decreases-loop-rest : goal.decreases-loop-rest
decreases-loop-rest g l = length l.rest
