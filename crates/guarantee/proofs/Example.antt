-- Two enquiries of the heap that document 01's script example leaves. (What the example prints is `example` of the crate `script`.)
-- Assumes nothing.
use mathlib.Core.Path.{◌≡◌, refl, ap, ◌∙◌}
use mathlib.Core.List.{List, [], ◌∷◌}
use lib.ListN.{replicate}
use Rattle.model.specs.Allocation.{State}
use Rattle.model.specs.Orders.{alloc_order, free_order, init_order, block_size_order, holding_order}
use Rattle.model.specs.Rules.{init_config}
use Rattle.model.specs.Numbers.{Numbered}
use Rattle.heap.specs.Stored.{Stored, store}
use Rattle.heap.specs.Valid.{valid}
use Rattle.guarantee.specs.Lists.{Call, block_size, holding, execute, numbered}
use Rattle.guarantee.specs.Guarantee.{state_after, stored_after}
use Rattle.guarantee.specs.Cases.{Case, P, size, call, condition, arena, plan, small, cases}
use Rattle.guarantee.proofs.Guarantee.{guarantee}

-- The calls among the cases: P5 to P13.
abbrev calls_of : List Case → List Call
calls_of [] = []
calls_of (P i (size n) e ∷ ps) = calls_of ps
calls_of (P i (call k) e ∷ ps) = k ∷ calls_of ps
calls_of (P i (condition c g m) e ∷ ps) = calls_of ps

-- The state that the calls leave.
abbrev end : State
end = record { blocks = record { start = 0; length = 2; owner = 2; requested = 32 } ∷ record { start = 4; length = 1; owner = 2; requested = 16 } ∷ record { start = 5; length = 2; owner = 1; requested = 17 } ∷ []; peak = 6 }

ends : state_after (init_config arena (replicate 32 0) plan) (calls_of cases) ≡ end
unfolding alloc_order free_order
ends = refl

stored_end : stored_after small (calls_of cases) ≡ store (init_config arena (replicate 32 0) plan) end
unfolding init_order
stored_end = (guarantee arena (replicate 32 0) plan refl (calls_of cases)).stored ∙ ap (store (init_config arena (replicate 32 0) plan)) ends

-- The number and values of a call after them.
abbrev answer : Stored → Call → Numbered
answer s k = numbered k (execute s k).0

-- The block of 17 bytes at 80 holds 32.
pub size_answered : answer (stored_after small (calls_of cases)) (block_size 1 80) ≡ (0, 17 ∷ 32 ∷ [])
unfolding valid block_size_order
size_answered = rw stored_end

-- Owner 2 holds two blocks, 48 bytes.
pub holding_answered : answer (stored_after small (calls_of cases)) (holding 2) ≡ (0, 2 ∷ 48 ∷ [])
unfolding valid holding_order
holding_answered = rw stored_end
