-- `driver::realloc` meets its contract: the number is that of the core's answer.
-- Assumes nothing.
use Rattle.std.proofs.Common.{ap, ◌∙◌}
use Rattle.heap.specs.Stored.{handed}
use Rattle.heap.specs.Calls.{numbered_realloc}
use Rattle.heap.specs.declared.record.Heap.{Heap}
use Rattle.driver.proofs.realloc.Goals as goal

pub returns-clause-numbered : goal.returns-clause-numbered
returns-clause-numbered c =
    let a = c.args in
    c.realloc-out.ensures.numbered ∙ ap (λ (r : Heap). numbered_realloc (handed r a.table.now) a.arena.now a.owner a.offset a.size) c.record_of.ensures
