-- The orders of refusal of documents 01 and 02, each as one list to lay beside its line, and 01's "proper" and "within limits".
-- Assumes nothing.
use Rattle.std.specs.Prelude.{ℕ, Bool, if◌then◌else◌, List, [], ◌∷◌, ◌++◌, eqb, Option, None, Some}
use Rattle.std.specs.Option.{option_map_or}
use Rattle.model.specs.Quantities.{Config}
use Rattle.model.specs.Allocation.{State, fit, without, refit}
use Rattle.model.specs.Reasons.{Reason, invalid_heap, bad_owner, zero_size, bad_alignment, block_quota_reached, granule_quota_exceeded, no_place, table_full, past_end, not_aligned, free_memory, inside_block, other_owner, broken_guard, other_arena, other_guarded_arena, bad_arena, bad_base, bad_table, bad_quota}
use Rattle.model.specs.declared.Plan.{Plan}
use Rattle.model.specs.declared.Refusal.{Refusal}
use Rattle.model.specs.declared.InitRefusal.{InitRefusal}

-- An order of refusal is a list of reasons.
abbrev pub Order : Type 0 → Type 0
Order R = List (Reason R)

-- For an owner's offset, wherever it is asked of one: 15, 16, 17, 9, 10.
abbrev pub offset_order : Config → State → ℕ → ℕ → Order Refusal
offset_order c h o x =
    past_end c x ∷ not_aligned x ∷ free_memory h.blocks x ∷ inside_block h.blocks x ∷ other_owner h.blocks o x ∷ []

-- For the new length of the block at x: 6 with that in place of the old, 7, 8 by the rows afterwards.
abbrev pub new_length_order : Config → State → ℕ → ℕ → ℕ → Order Refusal
new_length_order c h o x n =
    granule_quota_exceeded c (without x h.blocks) o n
    ∷ no_place (refit c h.blocks o x n)
    ∷ table_full c (without x h.blocks) (refit c h.blocks o x n)
    ∷ []

-- A call on a heap is told whether the record and the table are a valid heap, what that was made with, and its state.
module _ (is_valid : Bool) (c : Config) (h : State) where
  -- For an allocation: 1, 11 in a heap with guards, 2, 3, 4, 5, 6, 7, 8.
  unfoldable pub alloc_order : List ℕ → ℕ → ℕ → ℕ → Order Refusal
  alloc_order arena o n a =
      invalid_heap is_valid
      ∷ other_guarded_arena c arena
      ∷ bad_owner o
      ∷ zero_size n
      ∷ bad_alignment a
      ∷ block_quota_reached c h.blocks o
      ∷ granule_quota_exceeded c h.blocks o n
      ∷ no_place (fit c h.blocks o n a)
      ∷ table_full c h.blocks (fit c h.blocks o n a)
      ∷ []

  -- For a free: 1, 11, 2, then those of the offset: 15, 16, 17, 9, 10; then 19.
  unfoldable pub free_order : List ℕ → ℕ → ℕ → Order Refusal
  free_order arena o x =
      invalid_heap is_valid ∷ other_arena c arena ∷ bad_owner o ∷ offset_order c h o x ++ broken_guard c h.blocks arena x ∷ []

  -- For a resize, as for a free: 1, 11, 2, 15, 16, 17, 9, 10, 19; then, unless the size is 0, 6, 7, 8.
  unfoldable pub realloc_order : List ℕ → ℕ → ℕ → ℕ → Order Refusal
  realloc_order arena o x n =
      free_order arena o x ++ (if eqb n 0 then [] else new_length_order c h o x n)

  -- For a block's size: 1, 2, then 15, 16, 17, 9, 10.
  unfoldable pub block_size_order : ℕ → ℕ → Order Refusal
  block_size_order o x =
      invalid_heap is_valid ∷ bad_owner o ∷ offset_order c h o x

-- For making: 11, 18, 12, 13.
unfoldable pub init_order : List ℕ → List ℕ → Plan → Order InitRefusal
init_order arena words p = bad_arena arena ∷ bad_base arena p ∷ bad_table words ∷ bad_quota p ∷ []

-- For the totals: 1.
unfoldable pub totals_order : Bool → Order Refusal
totals_order is_valid = invalid_heap is_valid ∷ []

-- For one owner's blocks and bytes: 1, 2.
unfoldable pub holding_order : Bool → ℕ → Order Refusal
holding_order is_valid o = invalid_heap is_valid ∷ bad_owner o ∷ []

-- The first reason that applies is given, and none is given otherwise.
abbrev pub first_reason : {R : Type 0} → Order R → Option R
first_reason [] = None
first_reason (r ∷ rs) = if r.0 then Some r.1 else first_reason rs

-- A call comes to its value where no reason applies, else to what is made of the first that does.
abbrev pub unless : {R A : Type 0} → Order R → A → (R → A) → A
unless order a refused = option_map_or refused (first_reason order) a

-- 2, 3 and 4 are asked of an allocation's numbers alone.
abbrev pub request_order : ℕ → ℕ → ℕ → Order Refusal
request_order o n a = bad_owner o ∷ zero_size n ∷ bad_alignment a ∷ []

-- Of document 01's "proper" this is the part about what an allocation is handed beside the record and the table: none of 11, 2, 3, 4 applies.
abbrev pub proper_order : Config → List ℕ → ℕ → ℕ → ℕ → Order Refusal
proper_order c arena o n a = other_guarded_arena c arena ∷ request_order o n a

-- A proper allocation is document 01's "within limits" if neither of 5, 6 applies.
abbrev pub quota_order : Config → State → ℕ → ℕ → Order Refusal
quota_order c h o n = block_quota_reached c h.blocks o ∷ granule_quota_exceeded c h.blocks o n ∷ []

-- 7 and 8 are the last of an allocation's order.
abbrev pub place_order : Config → State → ℕ → ℕ → ℕ → Order Refusal
place_order c h o n a = no_place (fit c h.blocks o n a) ∷ table_full c h.blocks (fit c h.blocks o n a) ∷ []

-- 7 and 8 are the last of a resize's order.
abbrev pub replace_order : Config → State → ℕ → ℕ → ℕ → Order Refusal
replace_order c h o x n =
    no_place (refit c h.blocks o x n) ∷ table_full c (without x h.blocks) (refit c h.blocks o x n) ∷ []

-- 2, 15, 16, 17, 9 and 10 are the last of a block size's order, and of a free's but for 19: what is asked of an owner and an offset.
abbrev pub block_order : Config → State → ℕ → ℕ → Order Refusal
block_order c h o x = bad_owner o ∷ offset_order c h o x
