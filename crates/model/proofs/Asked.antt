-- What is asked of an owner's offset, by the block over its granule and by the block that begins at it.
-- Assumes nothing.
use mathlib.Core.Path.{◌≡◌, refl, ◌∙◌}
use mathlib.Core.Bool.{true, false}
use mathlib.Core.List.{List, [], ◌∷◌, ◌++◌}
use Rattle.std.specs.Prelude.{None, Some}
use Prim.Native.Nat.{ℕ, ◌*◌, ◌/◌, ◌%◌, ◌<◌}
use native.Mathlib.Omega.{arith}
use lib.Dec.{leb}
use borrow.Author.Tests.{lt-leb, lt-ltb, le-ltb, eq-eqb}
use Rattle.model.specs.Quantities.{is_owner, Config}
use Rattle.model.specs.Allocation.{State, block_at, block_over}
use Rattle.model.specs.Arena.{has_recorded_length}
use Rattle.model.specs.Reasons.{past_end, not_aligned, free_memory, inside_block, other_owner, broken_guard}
use Rattle.model.specs.Orders.{Order, first_reason, free_order, block_size_order, block_order}
use Rattle.model.proofs.Refusing.{first_then, first_stays}
use Rattle.model.proofs.Offsets.{Begins, begins}
use Rattle.model.proofs.Kept.{Kept}
use Rattle.model.specs.declared.Segment.{Segment}
use Rattle.model.specs.declared.Refusal.{Refusal}
use Rattle.model.specs.declared.Refusal.TheVariants as refusal

-- A free of a valid heap that is lent the whole arena is asked of its owner and its offset, and then of the guard of the block there,
pub free_asks : (c : Config) (h : State) (arena : List ℕ) (o x : ℕ) → has_recorded_length c arena ≡ true
    → first_reason (free_order true c h arena o x) ≡ first_reason (block_order c h o x ++ (broken_guard c h.blocks arena x ∷ []))
unfolding free_order
free_asks c h arena o x whole = rw whole

-- so what refuses its owner or its offset refuses it,
pub block_refuses : (c : Config) (h : State) (arena : List ℕ) (o x : ℕ) → has_recorded_length c arena ≡ true
    → (why : Refusal) → first_reason (block_order c h o x) ≡ Some why → first_reason (free_order true c h arena o x) ≡ Some why
block_refuses c h arena o x whole why e =
    free_asks c h arena o x whole ∙ first_stays (block_order c h o x) (broken_guard c h.blocks arena x ∷ []) why e

-- and where nothing does, the guard decides;
pub guard_decides : (c : Config) (h : State) (arena : List ℕ) (o x : ℕ) → has_recorded_length c arena ≡ true
    → first_reason (block_order c h o x) ≡ None → first_reason (free_order true c h arena o x) ≡ first_reason (broken_guard c h.blocks arena x ∷ [])
guard_decides c h arena o x whole e =
    free_asks c h arena o x whole ∙ first_then (block_order c h o x) (broken_guard c h.blocks arena x ∷ []) e

-- and an enquiry for a size of a valid heap of its owner and its offset only.
pub size_asks : (c : Config) (h : State) (o x : ℕ) → first_reason (block_size_order true c h o x) ≡ first_reason (block_order c h o x)
unfolding block_size_order
size_asks c h o x = refl

-- Where a live block begins none of 15, 16, 17 and 9 applies.
pub none_of_the_four : (c : Config) (h : State) (x : ℕ) → Kept c h → (b : Segment) → block_at x h.blocks ≡ Some b → (rest : Order Refusal)
    → first_reason (past_end c x ∷ not_aligned x ∷ free_memory h.blocks x ∷ inside_block h.blocks x ∷ rest) ≡ first_reason rest
none_of_the_four c h x k b e rest =
    let r : Begins c 0 x h.blocks b = begins c 0 x h.blocks b k.ordered e in
    let past : leb (16 * c.granules) x ≡ false = lt-leb (16 * c.granules) x (omega (arith, r.first, r.inside, r.long)) in
    rw (past, eq-eqb (x % 16) 0 (omega (arith, r.first)), r.over, le-ltb b.start (x / 16) (omega (arith, r.first)))

module _ (c : Config) (h : State) (o x : ℕ) (owner : is_owner o ≡ true) where
  -- the first byte of a live block
  pub first_byte : Kept c h → (b : Segment) → block_at x h.blocks ≡ Some b → first_reason (block_order c h o x) ≡ first_reason (other_owner h.blocks o x ∷ [])
  first_byte k b e = rw owner (none_of_the_four c h x k b e (other_owner h.blocks o x ∷ []))

  -- the first byte of granule i of the arena
  module _ (i : ℕ) (at : x ≡ 16 * i) (in_arena : i < c.granules) where
    pub free_memory_lem : block_over i h.blocks ≡ None → first_reason (block_order c h o x) ≡ Some refusal.FreeMemory
    free_memory_lem e = let z : x / 16 ≡ i = omega arith in rw (owner, lt-leb (16 * c.granules) x (omega arith), eq-eqb (x % 16) 0 (omega arith), z, e)

    pub inside_block_lem : (b : Segment) → block_over i h.blocks ≡ Some b → b.start < i → first_reason (block_order c h o x) ≡ Some refusal.InsideBlock
    inside_block_lem b e p =
        let z : x / 16 ≡ i = omega arith in rw (owner, lt-leb (16 * c.granules) x (omega arith), eq-eqb (x % 16) 0 (omega arith), z, e, lt-ltb b.start i p)
