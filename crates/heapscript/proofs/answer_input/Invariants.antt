-- What was read so far was fed, and what that put was written.
-- Assumes nothing.
use Rattle.heapscript.proofs.Steps.{SoFar}
use Rattle.heapscript.proofs.answer_input.Given as goal

abbrev pub invariant-loop-part : goal.invariant-loop-part
invariant-loop-part g l =
    SoFar (g.R.Read.remaining l.initial.reader) (g.R.Read.remaining l.reader) (g.W.Write.contents l.initial.writer) (g.W.Write.contents l.writer) l.initial.session l.initial.table l.initial.arena l.session l.table l.arena l._part
