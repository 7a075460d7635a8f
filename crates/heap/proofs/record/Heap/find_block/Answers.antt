-- `heap::Heap::find_block` meets its contract: 11, then the order of `find_owned`, and then that of `check_guard`.
-- Assumes nothing.
use Rattle.std.specs.Prelude.{[], ◌∷◌}
use Rattle.std.proofs.Common.{rules}
use Rattle.model.specs.Reasons.{other_arena}
use Rattle.model.proofs.Refusing.{refused_by, passed_by}
use Rattle.heap.specs.Stored.{config_of}
use Rattle.heap.proofs.Frees.{valid_not, free_11, free_lent, free_undecided, free_block, free_broken, free_passed}
use Rattle.heap.proofs.record.Heap.find_block.Goals as goal

pub returns-in_err-check_arena : goal.returns-in_err-check_arena
returns-in_err-check_arena c =
    valid_not c.args.self c.args.table.now c.args.owner c.args.offset c.args.arena.now _ _ (search rules) (free_11 c.args.self c.args.table.now c.args.owner c.args.offset c.args.arena.now _ (refused_by (other_arena (config_of c.args.self) c.args.arena.now ∷ []) _ c.in_err-check_arena.ensures))

pub returns-in_err-found : goal.returns-in_err-found
returns-in_err-found c =
    let a = free_lent c.args.self c.args.arena.now (passed_by (other_arena (config_of c.args.self) c.args.arena.now ∷ []) c.in_ok-check_arena.ensures) in
    valid_not c.args.self c.args.table.now c.args.owner c.args.offset c.args.arena.now _ _ (search rules) (free_undecided c.args.self c.args.table.now c.args.owner c.args.offset c.args.arena.now a _ c.find_owned.ensures _ c.in_err-found.was)

pub returns-in_err-check_guard : goal.returns-in_err-check_guard
returns-in_err-check_guard c =
    let a = free_lent c.args.self c.args.arena.now (passed_by (other_arena (config_of c.args.self) c.args.arena.now ∷ []) c.in_ok-check_arena.ensures) in
    let b = free_block c.args.self c.args.table.now c.args.owner c.args.offset c.args.arena.now a _ c.find_owned.ensures _ c.in_ok-found.was in
    valid_not c.args.self c.args.table.now c.args.owner c.args.offset c.args.arena.now _ _ (search rules)
    (free_broken c.args.self c.args.table.now c.args.owner c.args.offset c.args.arena.now a _ c.find_owned.ensures _ c.in_ok-found.was _ (c.in_err-check_guard.ensures c.args.offset b))

pub returns : goal.returns
returns c =
    let a = free_lent c.args.self c.args.arena.now (passed_by (other_arena (config_of c.args.self) c.args.arena.now ∷ []) c.in_ok-check_arena.ensures) in
    let b = free_block c.args.self c.args.table.now c.args.owner c.args.offset c.args.arena.now a _ c.find_owned.ensures _ c.in_ok-found.was in
    free_passed c.args.self c.args.table.now c.args.owner c.args.offset c.args.arena.now a _ c.find_owned.ensures _ c.in_ok-found.was (c.in_ok-check_guard.ensures c.args.offset b)
