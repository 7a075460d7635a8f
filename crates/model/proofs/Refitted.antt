-- A resize by its order of refusal, and what is known of one that is not refused.
-- Assumes nothing.
use mathlib.Core.Path.{◌≡◌, refl, sym, ap, ◌∙◌, subst}
use mathlib.Core.Bool.{Bool, true, false, not}
use mathlib.Core.List.{List, [], ◌++◌}
use Rattle.std.specs.Prelude.{None, Some, is_none, if◌then◌else◌}
use Rattle.std.specs.List.{list_all}
use Prim.Native.Nat.{ℕ, ◌+◌, ◌/◌, ◌≤◌}
use native.Mathlib.Omega.{arith}
use lib.Dec.{ltb, eqb}
use borrow.Author.Tests.{leb-true, ne_eqb}
use Rattle.model.specs.Choose.{total}
use Rattle.model.specs.Quantities.{Config, quota}
use Rattle.model.specs.Allocation.{needed, charge, State, clear_of, lowest_start, block, insert, offset, without, stays, refit, resize, owned_by}
use Rattle.model.specs.SegmentMap.{rows_of}
use Rattle.model.specs.Orders.{Order, first_reason, free_order, new_length_order, realloc_order}
use Rattle.model.proofs.Choosing.{split, split_option, tests, parts, clash, every_only}
use Rattle.model.proofs.Ordered.{Place, lowest_place}
use Rattle.model.proofs.Refusing.{NoReason, no_reason, reason_none, no_first, first_then, first_stays}
use Rattle.model.proofs.Released.{Released, released}
use Rattle.model.specs.declared.Segment.{Segment}
use Rattle.model.specs.declared.Refusal.{Refusal}

module _ (c : Config) (h : State) (o x n : ℕ) where
  -- where a accepted block is
  pub record Refit : Type 0 where
    pub start : ℕ
    pub fits : refit c h.blocks o x n ≡ Some (block c o n start)
    pub inside : start + needed c n ≤ c.granules
    pub clear : list_all (clear_of start (needed c n)) (without x h.blocks) ≡ true

  -- There is such a place unless 7 applies,
  pub refitted : is_none (refit c h.blocks o x n) ≡ false → Refit
  refitted e =
      split (stays c h.blocks x n)
      (λ q. record { start = x / 16; fits = rw q; inside = leb-true (x / 16 + needed c n) c.granules (search parts); clear = search parts })
      (λ q. split_option (lowest_start c h.blocks (needed c n) 16)
      (λ p. absurd (clash true refl (rw (q, p) at e)))
      (λ s p. let w : Place c h.blocks (needed c n) 16 s = lowest_place c h.blocks (needed c n) 16 s p in
      record {
        start = s;
        fits = rw (q, p);
        inside = w.inside;
        clear = every_only (clear_of s (needed c n)) (λ (b : Segment). not (eqb (offset b) x)) h.blocks w.clear;
      }))

  -- and the block that is left has it.
  pub refitted_at : (s : ℕ) → refit c h.blocks o x n ≡ Some (block c o n s)
      → (s + needed c n ≤ c.granules) × (list_all (clear_of s (needed c n)) (without x h.blocks) ≡ true)
  refitted_at s e =
      let r : Refit = refitted (rw e) in
      let z : block c o n r.start ≡ block c o n s = cc in
      subst (λ (b : Segment). (b.start + needed c n ≤ c.granules) × (list_all (clear_of b.start (needed c n)) (without x h.blocks) ≡ true)) z (r.inside, r.clear)

-- A resize that leaves a block is not to size 0,
pub resize_size : (c : Config) (bs : List Segment) (o x n : ℕ) (b : Segment) → resize c bs o x n ≡ Some b → 1 ≤ n
resize_size c bs o x n b e =
    split (eqb n 0) (λ q. let z : None ≡ Some b = rw q at e in let w : ◌≡◌ {A = ℕ} 0 1 = cc in absurd (omega arith)) (λ q. omega tests)

-- and that block is the owner's of n bytes at some start,
resize_block : (c : Config) (bs : List Segment) (o x n : ℕ) (b : Segment) → resize c bs o x n ≡ Some b → (s : ℕ) × (block c o n s ≡ b)
resize_block c bs o x n b e =
    split (eqb n 0)
    (λ q. let z : None ≡ Some b = rw q at e in let w : ◌≡◌ {A = ℕ} 0 1 = cc in absurd (omega arith))
    (λ q. split (stays c bs x n)
    (λ t. let z : Some (block c o n (x / 16)) ≡ Some b = rw (q, t) at e in let y : block c o n (x / 16) ≡ b = cc in (x / 16, y))
    (λ t. split_option (lowest_start c bs (needed c n) 16)
    (λ p. let z : None ≡ Some b = rw (q, t, p) at e in let w : ◌≡◌ {A = ℕ} 0 1 = cc in absurd (omega arith))
    (λ s p. let z : Some (block c o n s) ≡ Some b = rw (q, t, p) at e in let y : block c o n s ≡ b = cc in (s, y))))

-- so it is as long as its bytes need,
pub resize_length : (c : Config) (bs : List Segment) (o x n : ℕ) (b : Segment) → resize c bs o x n ≡ Some b → b.length ≡ needed c n
resize_length c bs o x n b e = ap (λ (d : Segment). d.length) (sym (resize_block c bs o x n b e).1)

-- and has n bytes requested.
pub resize_requested : (c : Config) (bs : List Segment) (o x n : ℕ) (b : Segment) → resize c bs o x n ≡ Some b → b.requested ≡ n
resize_requested c bs o x n b e = ap (λ (d : Segment). d.requested) (sym (resize_block c bs o x n b e).1)

module _ (v : Bool) (c : Config) (h : State) (arena : List ℕ) (o x n : ℕ) where
  -- what a resize is asked beyond a free
  abbrev rest : Order Refusal
  rest = if eqb n 0 then [] else new_length_order c h o x n

  -- What does not refuse a resize does not refuse the free,
  pub free_first_lem : first_reason (realloc_order v c h arena o x n) ≡ None → first_reason (free_order v c h arena o x) ≡ None
  unfolding realloc_order
  free_first_lem e =
      let f : Order Refusal = free_order v c h arena o x in
      reason_none f (no_first f rest (no_reason (f ++ rest) e))

  -- what refuses the free refuses it,
  pub free_refuses : (why : Refusal) → first_reason (free_order v c h arena o x) ≡ Some why → first_reason (realloc_order v c h arena o x n) ≡ Some why
  unfolding realloc_order
  free_refuses why e = first_stays (free_order v c h arena o x) rest why e

  -- and where nothing does, the new size decides.
  pub size_decides : 1 ≤ n → first_reason (free_order v c h arena o x) ≡ None → first_reason (realloc_order v c h arena o x n) ≡ first_reason (new_length_order c h o x n)
  unfolding realloc_order
  size_decides hn e = first_then (free_order v c h arena o x) rest e ∙ rw (ne_eqb n 0 (omega arith))

  -- a resize that is not refused, and no return
  pub record Accepted : Type 0 where
    pub freed : Released v c h arena o x
    pub place : Refit c h o x n
    pub granules : total (charge c) (owned_by o (without x h.blocks)) + needed c n ≤ quota c.granule_quotas o
    pub rows : rows_of c (insert (block c o n place.start) (without x h.blocks)) ≤ c.capacity

  -- What such a resize has.
  pub accepted : 1 ≤ n → first_reason (realloc_order v c h arena o x n) ≡ None → Accepted
  accepted hn e =
      let f : first_reason (free_order v c h arena o x) ≡ None = free_first_lem e in
      let r : NoReason (new_length_order c h o x n) = no_reason (new_length_order c h o x n) (sym (size_decides hn f) ∙ e) in
      let p : Refit c h o x n = refitted c h o x n r.1.0 in
      let t : ltb c.capacity (rows_of c (insert (block c o n p.start) (without x h.blocks))) ≡ false = rw p.fits at r.1.1.0 in
      record { freed = released v c h arena o x f; place = p; granules = omega tests; rows = omega tests }
