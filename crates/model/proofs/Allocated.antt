-- An allocation within limits, and one that is not refused: what each has.
-- Assumes nothing.
use mathlib.Core.Path.{◌≡◌, refl}
use mathlib.Core.Bool.{Bool, true, false}
use mathlib.Core.List.{List, ◌++◌}
use Rattle.std.specs.Prelude.{None, Some}
use Prim.Native.Nat.{ℕ, ◌+◌, ◌*◌, ◌≤◌, ◌<◌}
use lib.Dec.{ltb}
use lib.ListN.{length}
use borrow.Author.Tests.{not-false, leb-true, eqb-true, lt-ltb}
use Rattle.model.specs.Choose.{total}
use Rattle.model.specs.Quantities.{is_owner, is_alignment, Config, quota}
use Rattle.model.specs.Allocation.{needed, charge, State, lowest_start, block, fit, insert, owned_by}
use Rattle.model.specs.Arena.{has_recorded_length}
use Rattle.model.specs.SegmentMap.{rows_of}
use Rattle.model.specs.Orders.{first_reason, request_order, proper_order, quota_order, place_order, alloc_order}
use Rattle.model.proofs.Choosing.{split_option, tests, parts, clash}
use Rattle.model.proofs.Refusing.{NoReason, no_reason, no_first, no_second}

-- an allocation whose numbers are proper
pub record Proper (o n a : ℕ) : Type 0 where
  pub owned : 1 ≤ o
  pub known : o ≤ 8
  pub size : 1 ≤ n
  pub alignment : is_alignment a ≡ true

pub proper : (o n a : ℕ) → NoReason (request_order o n a) → Proper o n a
proper o n a r =
    let owner : is_owner o ≡ true = not-false (is_owner o) r.0 in
    record {
      owned = leb-true 1 o (search parts);
      known = leb-true o 8 (search parts);
      size = omega tests;
      alignment = not-false (is_alignment a) r.1.1.0;
    }

module _ (c : Config) (h : State) where
  -- an allocation within limits
  pub record Limits (o n a : ℕ) : Type 0 where
    pub owned : 1 ≤ o
    pub known : o ≤ 8
    pub size : 1 ≤ n
    pub alignment : is_alignment a ≡ true
    pub blocks : length (owned_by o h.blocks) < quota c.block_quotas o
    pub granules : total (charge c) (owned_by o h.blocks) + needed c n ≤ quota c.granule_quotas o

  pub limits : (arena : List ℕ) (o n a : ℕ) → NoReason (proper_order c arena o n a ++ quota_order c h o n) → Limits o n a
  limits arena o n a r =
      let p : Proper o n a = proper o n a (no_first (request_order o n a) (quota_order c h o n) r.1) in
      record {
        owned = p.owned;
        known = p.known;
        size = p.size;
        alignment = p.alignment;
        blocks = omega tests;
        granules = omega tests;
      }

  pub fit_at : (o n a s : ℕ) → lowest_start c h.blocks (needed c n) a ≡ Some s → fit c h.blocks o n a ≡ Some (block c o n s)
  fit_at o n a s e = rw e

  -- an allocation that is not refused
  pub record Allocated (o n a : ℕ) : Type 0 where
    pub limited : Limits o n a
    pub start : ℕ
    pub lowest : lowest_start c h.blocks (needed c n) a ≡ Some start
    pub fits : fit c h.blocks o n a ≡ Some (block c o n start)
    pub rows : rows_of c (insert (block c o n start) h.blocks) ≤ c.capacity

  pub allocated : (v : Bool) (arena : List ℕ) (o n a : ℕ) → first_reason (alloc_order v c h arena o n a) ≡ None → Allocated o n a
  unfolding alloc_order
  allocated v arena o n a e =
      let r : NoReason (alloc_order v c h arena o n a) = no_reason (alloc_order v c h arena o n a) e in
      let p : NoReason (place_order c h o n a) = no_second (proper_order c arena o n a ++ quota_order c h o n) (place_order c h o n a) r.1 in
      split_option (lowest_start c h.blocks (needed c n) a)
      (λ q. absurd (clash true refl (rw q at p.0)))
      (λ s q. let t : ltb c.capacity (rows_of c (insert (block c o n s) h.blocks)) ≡ false = rw q at p.1.0 in
      record {
        limited = limits arena o n a (no_first (proper_order c arena o n a ++ quota_order c h o n) (place_order c h o n a) r.1);
        start = s;
        lowest = q;
        fits = fit_at o n a s q;
        rows = omega tests;
      })

  -- In a heap with guards it is lent the whole arena.
  pub allocated_whole : (v : Bool) (arena : List ℕ) (o n a : ℕ) → first_reason (alloc_order v c h arena o n a) ≡ None → 1 ≤ c.guards → length arena ≡ 16 * c.granules
  unfolding alloc_order
  allocated_whole v arena o n a e g =
      let r : NoReason (alloc_order v c h arena o n a) = no_reason (alloc_order v c h arena o n a) e in
      eqb-true (length arena) (16 * c.granules) (not-false (has_recorded_length c arena) (rw (lt-ltb 0 c.guards g) at r.1.0))
