-- Resizes on the heap of P5 to P13, each with its figures: used is granted minus returned, and the peak counts what is live after a call.
-- Assumes nothing.
use Rattle.std.specs.Prelude.{Err}
use mathlib.Core.Path.{◌≡◌, refl}
use mathlib.Core.List.{List, [], ◌∷◌, ◌++◌}
use Prim.Native.Nat.{ℕ}
use native.Mathlib.Omega.{arith}
use lib.ListN.{replicate}
use Rattle.model.specs.Quantities.{Config}
use Rattle.model.specs.Allocation.{State, fresh}
use Rattle.model.specs.Orders.{alloc_order, free_order, realloc_order, init_order}
use Rattle.model.specs.Rules.{init_config}
use Rattle.model.specs.Run.{summed}
use Rattle.model.specs.Numbers.{Numbered}
use Rattle.heap.specs.Stored.{Stored}
use Rattle.heap.specs.Valid.{valid}
use Rattle.heap.specs.Calls as calls
use Rattle.guarantee.specs.Lists.{Call, alloc, realloc, by_rules, execute, granted, returned, numbered}
use Rattle.guarantee.specs.Guarantee.{stored_after}
use Rattle.guarantee.specs.Cases.{arena, plan, small}
use Rattle.guarantee.proofs.Guarantee.{guarantee}
use Rattle.guarantee.proofs.SecondFree.{resized_gets_17}
use Rattle.model.specs.declared.Refusal.TheVariants as refusal

-- A call's line: its answer, the granules that it is granted and returns, and used and peak after it.
abbrev Line : Type 0
Line = Numbered × ℕ × ℕ × ℕ × ℕ

-- The heap is made with 8 granules, and owner 1 has a quota of 5.
abbrev c : Config
c = init_config arena (replicate 32 0) plan

-- The lines of a list.
abbrev lines : Stored → State → List Call → List Line
lines s h [] = []
lines s h (k ∷ ks) =
    (numbered k (execute s k).0, granted c h k, returned c h k, (execute s k).1.heap.used, (execute s k).1.heap.peak) ∷ lines (execute s k).1 (by_rules c h k).1 ks

-- Two owners are lent a granule each, at 0 and 16.
abbrev lent : List Call
lent = alloc arena 1 16 ∷ alloc arena 2 16 ∷ []

-- Owner 1 lengthens its block to 3 granules, which move to 32; shortens it to 2; lengthens it to 3 again, in its place; is refused 6, which exceed its quota; and owner 2 resizes its own to size 0.
abbrev resizes : List Call
resizes = realloc arena 1 0 48 ∷ realloc arena 1 32 17 ∷ realloc arena 1 32 33 ∷ realloc arena 1 32 96 ∷ realloc arena 2 16 0 ∷ []

-- The move makes used and peak 4, and not the 5 that its old place, its new one and owner 2's block are together.
pub resized_lines : lines small fresh (lent ++ resizes)
    ≡ ((0, 0 ∷ []), 1, 0, 1, 1)
    ∷ ((0, 16 ∷ []), 1, 0, 2, 2)
    ∷ ((0, 32 ∷ []), 3, 1, 4, 4)
    ∷ ((0, 32 ∷ []), 2, 3, 3, 4)
    ∷ ((0, 32 ∷ []), 3, 2, 4, 4)
    ∷ ((6, 0 ∷ []), 0, 0, 4, 4)
    ∷ ((0, 16 ∷ []), 0, 1, 3, 4)
    ∷ []
unfolding valid alloc_order free_order realloc_order init_order
resized_lines = refl

-- In total 10 granules are granted,
pub granted_10 : summed (by_rules c) (granted c) fresh (lent ++ resizes) ≡ 10
unfolding alloc_order free_order realloc_order
granted_10 = refl

-- 7 returned,
pub returned_7 : summed (by_rules c) (returned c) fresh (lent ++ resizes) ≡ 7
unfolding alloc_order free_order realloc_order
returned_7 = refl

-- and 3 used.
pub used_3 : (stored_after small (lent ++ resizes)).heap.used ≡ 3
unfolding init_order
used_3 = omega (arith, (guarantee arena (replicate 32 0) plan refl (lent ++ resizes)).used, granted_10, returned_7)

-- A free of the old place of the moved block gets 17,
pub moved_17 : calls.free (calls.after_realloc (stored_after small lent) arena 1 0 48) arena 1 0 ≡ Err refusal.FreeMemory
unfolding valid alloc_order free_order realloc_order init_order
moved_17 = (resized_gets_17 arena (replicate 32 0) plan refl lent arena 1 0 48 32 refl [] _ refl 0 (omega arith) (omega arith) refl refl refl arena 1 refl refl).0

-- and so does the tail of the shortened one.
pub shortened_17 : calls.free (calls.after_realloc (stored_after small (lent ++ (realloc arena 1 0 48 ∷ []))) arena 1 32 17) arena 1 64 ≡ Err refusal.FreeMemory
unfolding valid alloc_order free_order realloc_order init_order
shortened_17 = (resized_gets_17 arena (replicate 32 0) plan refl (lent ++ (realloc arena 1 0 48 ∷ [])) arena 1 32 17 32 refl [] _ refl 64 (omega arith) (omega arith) refl refl refl arena 1 refl refl).0
