-- `heap::Heap::find_freed` meets its contract: 1, and then the order of `find_block`.
-- Assumes nothing.
use Rattle.std.proofs.Common.{rules}
use Rattle.heap.proofs.Frees.{freed_not, free_invalid}
use Rattle.heap.proofs.record.Heap.find_freed.Goals as goal

pub returns-in_err-examine : goal.returns-in_err-examine
returns-in_err-examine c =
    freed_not c.args.self c.args.table.now c.args.owner c.args.offset c.args.arena.now _ _ (search rules) (free_invalid c.args.self c.args.table.now c.args.owner c.args.offset c.args.arena.now c.in_err-examine.ensures.0)
