-- `heap::Heap::check_guard` meets its contract.
-- Assumes nothing.
use Rattle.heap.proofs.Changing.{bounds}
use Rattle.heap.proofs.Frees.{row_found, guard_lies}
use Rattle.heap.proofs.record.Heap.check_guard.Goals as goal

pub is_broken-requires : goal.is_broken-requires
is_broken-requires c =
    let b = c.requires.found.1 in
    record { few = (bounds _ _ c.requires.valid).guards; inside = λ g. guard_lies (row_found b) c.requires.valid c.args.arena.now c.requires.arena _ b.there }
