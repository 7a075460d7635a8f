-- A resize to size 0 is a return: by its order, by what it answers and by what it leaves.
-- Assumes nothing.
use mathlib.Core.Path.{◌≡◌, refl}
use mathlib.Core.Bool.{Bool}
use mathlib.Core.List.{List}
use Prim.Native.Nat.{ℕ}
use Rattle.model.specs.Quantities.{Config}
use Rattle.model.specs.Allocation.{State}
use Rattle.model.specs.Orders.{first_reason, free_order, realloc_order}
use Rattle.model.specs.Rules.{releasing, resizing, as_resize, free, after_free, arena_after_free, realloc, after_realloc, arena_after_realloc}
use Rattle.model.proofs.Choosing.{split_option}

-- To size 0 it leaves no block in place of the one at x.
pub zero_resizing : (c : Config) (h : State) (o x : ℕ) → resizing c h o x 0 ≡ releasing h x
zero_resizing c h o x = refl

module _ (v : Bool) (c : Config) (h : State) (arena : List ℕ) (o x : ℕ) where
  -- A resize to size 0 has the free's order,
  pub zero_order : realloc_order v c h arena o x 0 ≡ free_order v c h arena o x
  unfolding realloc_order free_order
  zero_order = refl

  -- answers as it,
  pub zero_answer : realloc v c h arena o x 0 ≡ as_resize (free v c h arena o x)
  zero_answer = rw zero_order (split_option (first_reason (free_order v c h arena o x)) (λ q. rw q) (λ r q. rw q))

  -- leaves the state that it leaves,
  pub zero_state : after_realloc v c h arena o x 0 ≡ after_free v c h arena o x
  zero_state = rw zero_order

  -- and the arena.
  pub zero_arena : arena_after_realloc v c h arena o x 0 ≡ arena_after_free v c h arena o x
  zero_arena = rw zero_order
