-- Each order of refusal, as the line of numbers that document 01 has, with those that document 02 puts into it.
-- Assumes nothing.
use mathlib.Core.Path.{◌≡◌, refl}
use mathlib.Core.Bool.{Bool}
use mathlib.Core.List.{List, [], ◌∷◌}
use Prim.Native.Nat.{ℕ, ◌≤◌}
use native.Mathlib.Omega.{arith}
use borrow.Author.Tests.{ne_eqb}
use Rattle.model.specs.Quantities.{Config}
use Rattle.model.specs.Allocation.{State}
use Rattle.model.specs.Orders.{Order, alloc_order, free_order, realloc_order, init_order, block_size_order, totals_order, holding_order}
use Rattle.model.specs.Numbers.{number_of, init_number_of}
use Rattle.model.proofs.Refinement.{alloc_order01, free_order01, guarded_free_order01, block_size_order01}
use Rattle.model.specs.declared.Plan.{Plan}

-- The numbers of an order.
abbrev pub line : {R : Type 0} → (R → ℕ) → Order R → List ℕ
line number [] = []
line number (r ∷ rs) = number r.1 ∷ line number rs

module _ (v : Bool) (c : Config) (h : State) (arena words : List ℕ) (p : Plan) (o n a x : ℕ) where
  -- Order for an ask; its 11 applies only in a heap with guards.
  pub alloc_line : line number_of (alloc_order v c h arena o n a) ≡ 1 ∷ 11 ∷ 2 ∷ 3 ∷ 4 ∷ 5 ∷ 6 ∷ 7 ∷ 8 ∷ []
  unfolding alloc_order
  alloc_line = refl

  -- For a return.
  pub free_line : line number_of (free_order v c h arena o x) ≡ 1 ∷ 11 ∷ 2 ∷ 15 ∷ 16 ∷ 17 ∷ 9 ∷ 10 ∷ 19 ∷ []
  unfolding free_order
  free_line = refl

  -- For a resize,
  pub realloc_line : 1 ≤ n → line number_of (realloc_order v c h arena o x n) ≡ 1 ∷ 11 ∷ 2 ∷ 15 ∷ 16 ∷ 17 ∷ 9 ∷ 10 ∷ 19 ∷ 6 ∷ 7 ∷ 8 ∷ []
  unfolding realloc_order free_order
  realloc_line hn = rw (ne_eqb n 0 (omega arith))

  -- and for one to size 0, which is a return.
  pub realloc_line_0 : line number_of (realloc_order v c h arena o x 0) ≡ 1 ∷ 11 ∷ 2 ∷ 15 ∷ 16 ∷ 17 ∷ 9 ∷ 10 ∷ 19 ∷ []
  unfolding realloc_order free_order
  realloc_line_0 = refl

  -- For making.
  pub init_line : line init_number_of (init_order arena words p) ≡ 11 ∷ 18 ∷ 12 ∷ 13 ∷ []
  unfolding init_order
  init_line = refl

  -- For a block's size.
  pub block_size_line : line number_of (block_size_order v c h o x) ≡ 1 ∷ 2 ∷ 15 ∷ 16 ∷ 17 ∷ 9 ∷ 10 ∷ []
  unfolding block_size_order
  block_size_line = refl

  -- For the totals.
  pub totals_line : line number_of (totals_order v) ≡ 1 ∷ []
  unfolding totals_order
  totals_line = refl

  -- For one owner's blocks and bytes held.
  pub holding_line : line number_of (holding_order v o) ≡ 1 ∷ 2 ∷ []
  unfolding holding_order
  holding_line = refl

  -- For an ask, a return and a block's size, as document 01 has them by itself.
  pub alloc_line_01 : line number_of (alloc_order01 v c h o n a) ≡ 1 ∷ 2 ∷ 3 ∷ 4 ∷ 5 ∷ 6 ∷ 7 ∷ 8 ∷ []
  alloc_line_01 = refl

  pub free_line_01 : line number_of (free_order01 v c h arena o x) ≡ 1 ∷ 11 ∷ 2 ∷ 9 ∷ 10 ∷ []
  free_line_01 = refl

  pub block_size_line_01 : line number_of (block_size_order01 v c h o x) ≡ 1 ∷ 2 ∷ 9 ∷ 10 ∷ []
  block_size_line_01 = refl

  -- For a return, as document 01 has it, with document 02's 19.
  pub guarded_free_line_01 : line number_of (guarded_free_order01 v c h arena o x) ≡ 1 ∷ 11 ∷ 2 ∷ 9 ∷ 10 ∷ 19 ∷ []
  guarded_free_line_01 = refl
