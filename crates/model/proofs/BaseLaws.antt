-- What the definitions of a base come to, for a reader: the address of an allocated block is on the boundary asked, how little of the base a call depends on, and when a making is refused for it.
-- Assumes nothing.
use mathlib.Core.Path.{◌≡◌, refl, sym, ap, ◌∙◌}
use mathlib.Core.Bool.{Bool, true}
use mathlib.Core.List.{List, [], ◌∷◌, ◌++◌}
use mathlib.Core.Logic.{◌↔◌, ◌⊎◌, inl, inr, ⊎_elim}
use Rattle.std.specs.Prelude.{Option, Ok, Err}
use Rattle.std.specs.Option.{option_map_or}
use Prim.Native.Nat.{ℕ, ◌+◌, ◌*◌, ◌%◌, ◌≤◌, ◌<◌}
use native.Mathlib.Omega.{arith}
use native.Mathlib.Nat.{mod-add-mod, dvd_of_mod-eq-zero, mod-mod_of_dvd}
use lib.Dec.{leb, eqb}
use lib.ListN.{length}
use borrow.Author.Tests.{not-false, le-leb, lt-leb, eq-eqb, ne_eqb}
use Rattle.model.specs.Quantities.{within, is_arena, is_base, is_table, is_alignment, quotas_in_range, Config, in_range}
use Rattle.model.specs.Allocation.{needed, State, serves, lowest_start, fit, put, offset, refit, resize, bytes, changed, without}
use Rattle.model.specs.Arena.{zeroed, moved, with_guard}
use Rattle.model.specs.Reasons.{invalid_heap, bad_table, bad_quota}
use Rattle.model.specs.Orders.{first_reason, unless, alloc_order, free_order, realloc_order, block_size_order, init_order, proper_order, quota_order, place_order}
use Rattle.model.specs.Rules.{init, init_config, bytes_at, without_guard_at, alloc, after_alloc, granted_alloc, arena_after_alloc, free, after_free, returned_free, arena_after_free, block_size, realloc, after_realloc, granted_realloc, returned_realloc, arena_after_realloc, totals_of, holding_of}
use Rattle.model.specs.Numbers.{made_numbered}
use Rattle.model.specs.Bound.{rows_suffice, bound}
use Rattle.model.proofs.Choosing.{split, split_option, tests, parts, ne_of_eqb, least_same}
use Rattle.model.proofs.Ranges.{zero_base, base_whole, base_ends}
use Rattle.model.proofs.Refusing.{NoReason, no_reason, reason_none}
use Rattle.model.proofs.Ordered.{lowest_place}
use Rattle.model.proofs.Allocated.{Allocated, allocated}
use Rattle.model.proofs.Served.{alignment_divides}
use Rattle.model.specs.declared.Segment.{Segment}
use Rattle.model.specs.declared.Plan.{Plan}
use Rattle.model.specs.declared.Refusal.{Refusal}
use Rattle.model.specs.declared.Resized.TheVariants as resized
use Rattle.model.specs.declared.InitRefusal.TheVariants as init_refusal

-- The address of a block that an allocation is granted, the base plus the offset answered, is on the boundary asked.
pub alloc_address : (v : Bool) (c : Config) (h : State) (arena : List ℕ) (o n a x : ℕ) → alloc v c h arena o n a ≡ Ok x → (c.base + x) % a ≡ 0
alloc_address v c h arena o n a x e =
    split_option (first_reason (alloc_order v c h arena o n a))
    (λ q. let r : Allocated c h o n a = allocated c h v arena o n a q in
    let e' : Ok (16 * r.start) ≡ Ok x = rw (q, r.fits) at e in
    let at : 16 * r.start ≡ x = cc in
    rw (← at) (lowest_place c h.blocks (needed c n) a r.start r.lowest).aligned)
    (λ r q. let e' : Err r ≡ Ok x = rw q at e in let z : ◌≡◌ {A = ℕ} 0 1 = cc in absurd (omega arith))

-- What a heap is made with, the same but for the base.
abbrev pub at_base : ℕ → Config → Config
at_base b c = record { granules = c.granules; base = b; guards = c.guards; capacity = c.capacity; granule_quotas = c.granule_quotas; block_quotas = c.block_quotas }

-- Of two bases with the same remainder by a:
module _ (c : Config) (b a : ℕ) (e : c.base % a ≡ b % a) (bs : List Segment) where
  -- the same starts serve on a boundary of a bytes,
  pub serves_alike : (g s : ℕ) → serves c bs g a s ≡ serves (at_base b c) bs g a s
  serves_alike g s =
      let z : (c.base + 16 * s) % a ≡ (b + 16 * s) % a =
      sym (mod-add-mod c.base a (16 * s)) ∙ ap (λ r. (r + 16 * s) % a) e ∙ mod-add-mod b a (16 * s) in
      rw z

  -- the lowest of them is the same,
  pub lowest_alike : (g : ℕ) → lowest_start c bs g a ≡ lowest_start (at_base b c) bs g a
  lowest_alike g = least_same (serves c bs g a) (serves (at_base b c) bs g a) 0 c.granules (λ s p. serves_alike g s)

  -- and an allocation gets the same block.
  pub fit_alike : (o n : ℕ) → fit c bs o n a ≡ fit (at_base b c) bs o n a
  fit_alike o n = rw (lowest_alike (needed c n))

-- Two numbers with the same remainder by 4,096 have the same remainder by each alignment.
pub remainder_alike : (x y a : ℕ) → is_alignment a ≡ true → x % 4096 ≡ y % 4096 → x % a ≡ y % a
remainder_alike x y a h e =
    let d = dvd_of_mod-eq-zero a (alignment_divides a h) in
    sym (mod-mod_of_dvd a x d) ∙ ap (λ r. r % a) e ∙ mod-mod_of_dvd a y d

-- Of two bases with the same remainder by 4,096 an allocation, on whatever boundary:
module _ (c : Config) (b : ℕ) (e : c.base % 4096 ≡ b % 4096) (v : Bool) (h : State) (arena : List ℕ) (o n a : ℕ) where
  -- on an alignment the block is the same
  same_fit : is_alignment a ≡ true → fit c h.blocks o n a ≡ fit (at_base b c) h.blocks o n a
  same_fit q = fit_alike c b a (remainder_alike c.base b a q e) h.blocks o n

  -- is refused for the same reason, if for any (for 4 at the latest, if a is no alignment),
  pub order_alike : first_reason (alloc_order v c h arena o n a) ≡ first_reason (alloc_order v (at_base b c) h arena o n a)
  unfolding alloc_order
  order_alike = split (is_alignment a) (λ q. rw (same_fit q)) (λ q. rw q)

  -- what is made of the order and of the block is the same
  allocates : {A : Type 0} (f : Option Segment → A) (refused : Refusal → A)
      → unless (alloc_order v c h arena o n a) (f (fit c h.blocks o n a)) refused
      ≡ unless (alloc_order v (at_base b c) h arena o n a) (f (fit (at_base b c) h.blocks o n a)) refused
  allocates f refused =
      rw (← order_alike) (split_option (first_reason (alloc_order v c h arena o n a))
      (λ q. rw q (ap f (same_fit (allocated c h v arena o n a q).limited.alignment)))
      (λ r q. rw q))

  -- answers the same,
  pub alloc_alike : alloc v c h arena o n a ≡ alloc v (at_base b c) h arena o n a
  alloc_alike = allocates (λ f. Ok (option_map_or offset f 0)) Err

  -- leaves the same state,
  pub after_alloc_alike : after_alloc v c h arena o n a ≡ after_alloc v (at_base b c) h arena o n a
  after_alloc_alike = allocates (λ f. changed h (put f h.blocks)) (λ r. h)

  -- is granted the same granules
  pub granted_alloc_alike : granted_alloc v c h arena o n a ≡ granted_alloc v (at_base b c) h arena o n a
  granted_alloc_alike = allocates (λ f. option_map_or (λ (d : Segment). d.length) f 0) (λ r. 0)

  -- and leaves the same arena.
  pub arena_alloc_alike : arena_after_alloc v c h arena o n a ≡ arena_after_alloc v (at_base b c) h arena o n a
  arena_alloc_alike = allocates (λ f. option_map_or (λ d. with_guard c d arena) f arena) (λ r. arena)

-- Whatever the base, a free:
module _ (c : Config) (b : ℕ) (v : Bool) (h : State) (arena : List ℕ) (o x : ℕ) where
  -- has the same order of refusal,
  pub free_order_alike : free_order v c h arena o x ≡ free_order v (at_base b c) h arena o x
  unfolding free_order
  free_order_alike = refl

  -- answers the same,
  pub free_alike : free v c h arena o x ≡ free v (at_base b c) h arena o x
  free_alike = rw free_order_alike

  -- leaves the same state,
  pub after_free_alike : after_free v c h arena o x ≡ after_free v (at_base b c) h arena o x
  after_free_alike = rw free_order_alike

  -- returns the same granules
  pub returned_free_alike : returned_free v c h arena o x ≡ returned_free v (at_base b c) h arena o x
  returned_free_alike = rw free_order_alike

  -- and leaves the same arena.
  pub arena_free_alike : arena_after_free v c h arena o x ≡ arena_after_free v (at_base b c) h arena o x
  arena_free_alike = rw free_order_alike

-- Whatever the base:
module _ (c : Config) (b : ℕ) where
  -- an enquiry for a size answers the same,
  pub size_alike : (v : Bool) (h : State) (o x : ℕ) → block_size v c h o x ≡ block_size v (at_base b c) h o x
  unfolding block_size_order
  size_alike v h o x = refl

  -- so do those for the totals
  pub totals_alike : (v : Bool) (h : State) → totals_of v c h ≡ totals_of v (at_base b c) h
  totals_alike v h = refl

  -- and for what one owner holds,
  pub holding_alike : (v : Bool) (h : State) (o : ℕ) → holding_of v c h o ≡ holding_of v (at_base b c) h o
  holding_alike v h o = refl

  -- of an allocation's order, but for 1, which is handed in, only 7 and 8 depend on it, by the place,
  pub order_at : (v : Bool) (h : State) (arena : List ℕ) (o n a : ℕ)
      → alloc_order v (at_base b c) h arena o n a ≡ invalid_heap v ∷ (proper_order c arena o n a ++ (quota_order c h o n ++ place_order (at_base b c) h o n a))
  unfolding alloc_order
  order_at v h arena o n a = refl

  -- and demand 3's condition
  pub bound_alike : (g m : ℕ) → bound c g m ≡ bound (at_base b c) g m
  bound_alike g m = refl

  -- and the rows that it wants are the same.
  pub rows_suffice_alike : rows_suffice c ≡ rows_suffice (at_base b c)
  rows_suffice_alike = refl

-- Of two bases with the same remainder by 16, as any two multiples of 16 have, a resize:
module _ (c : Config) (b : ℕ) (e : c.base % 16 ≡ b % 16) where
  -- leaves the same block,
  pub refit_alike : (bs : List Segment) (o x n : ℕ) → refit c bs o x n ≡ refit (at_base b c) bs o x n
  refit_alike bs o x n = rw (fit_alike c b 16 e bs o n)

  module _ (v : Bool) (h : State) (arena : List ℕ) (o x n : ℕ) where
    -- has the same order of refusal,
    pub realloc_order_alike : realloc_order v c h arena o x n ≡ realloc_order v (at_base b c) h arena o x n
    unfolding realloc_order
    realloc_order_alike = rw (free_order_alike c b v h arena o x, refit_alike h.blocks o x n)

    -- what is made of the order and of the block that is left is the same
    resizes : {A : Type 0} (f : Option Segment → A) (refused : Refusal → A)
        → unless (realloc_order v c h arena o x n) (f (resize c h.blocks o x n)) refused
        ≡ unless (realloc_order v (at_base b c) h arena o x n) (f (resize (at_base b c) h.blocks o x n)) refused
    resizes f refused = rw (realloc_order_alike, refit_alike h.blocks o x n)

    -- answers the same,
    pub realloc_alike : realloc v c h arena o x n ≡ realloc v (at_base b c) h arena o x n
    realloc_alike = resizes (λ f. option_map_or (λ d. Ok (resized.At (offset d))) f (Ok (resized.Freed (bytes_at h x)))) Err

    -- leaves the same state,
    pub after_realloc_alike : after_realloc v c h arena o x n ≡ after_realloc v (at_base b c) h arena o x n
    after_realloc_alike = resizes (λ f. changed h (put f (without x h.blocks))) (λ r. h)

    -- is granted the same granules,
    pub granted_realloc_alike : granted_realloc v c h arena o x n ≡ granted_realloc v (at_base b c) h arena o x n
    granted_realloc_alike = resizes (λ f. option_map_or (λ (d : Segment). d.length) f 0) (λ r. 0)

    -- returns the same granules
    pub returned_realloc_alike : returned_realloc v c h arena o x n ≡ returned_realloc v (at_base b c) h arena o x n
    returned_realloc_alike = rw realloc_order_alike

    -- and leaves the same arena.
    pub arena_realloc_alike : arena_after_realloc v c h arena o x n ≡ arena_after_realloc v (at_base b c) h arena o x n
    arena_realloc_alike =
        resizes (λ f. option_map_or (λ d. with_guard c d (moved x (bytes_at h x) (offset d) (bytes d) (without_guard_at c h x arena))) f (zeroed x (bytes_at h x) arena)) (λ r. arena)

-- Of an arena whose length is allowed a making is refused with 18 exactly if the base is not a multiple of 16 or the arena ends past 4,294,967,296.
pub eighteen_exactly : (arena words : List ℕ) (p : Plan) → is_arena (length arena) ≡ true
    → (init arena words p ≡ Err init_refusal.BadBase) ↔ ((¬ (p.base % 16 ≡ 0)) ⊎ (4294967296 < p.base + length arena))
unfolding init_order
eighteen_exactly arena words p allowed = (
  λ e. split (eqb (p.base % 16) 0)
      (λ q. split (leb (p.base + length arena) 4294967296) (λ r. absurd (later (rw (allowed, q, r) at e))) (λ r. inr (omega tests)))
      (λ q. inl (ne_of_eqb (p.base % 16) 0 q)),
  λ w. ⊎_elim
      (λ n. rw (allowed, ne_eqb (p.base % 16) 0 n))
      (λ l. split (eqb (p.base % 16) 0) (λ q. rw (allowed, q, lt-leb (p.base + length arena) 4294967296 l)) (λ q. rw (allowed, q)))
      w,
)
  where
    -- no later reason is 18
    later : unless (bad_table words ∷ bad_quota p ∷ []) (Ok (tt {0})) Err ≡ Err init_refusal.BadBase → ⊥
    later e =
        let z : (made_numbered (unless (bad_table words ∷ bad_quota p ∷ []) (Ok (tt {0})) Err)).0 ≡ 18 = ap (λ m. (made_numbered m).0) e in
        split (is_table (length words))
        (λ t. split (quotas_in_range p.granule_quotas p.block_quotas) (λ u. omega (arith, rw (t, u) at z)) (λ u. omega (arith, rw (t, u) at z)))
        (λ t. omega (arith, rw t at z))

-- The address of each byte of a heap's arena fits 32 bits.
pub base_inside : (c : Config) → in_range c ≡ true → (x : ℕ) → x < 16 * c.granules → c.base + x ≤ 4294967295
base_inside c ranged x l = omega (arith, base_ends c ranged)

-- A plan with the same guards and quotas, and another base.
abbrev pub plan_at : ℕ → Plan → Plan
plan_at b p = record { base = b; guarded = p.guarded; granule_quotas = p.granule_quotas; block_quotas = p.block_quotas }

-- A heap is made with the base of its plan, and else as with any other base.
pub made_at : (arena words : List ℕ) (p : Plan) (b : ℕ) → init_config arena words (plan_at b p) ≡ at_base b (init_config arena words p)
made_at arena words p b = refl

-- What a heap is made with, if it is in range with base 0, is so exactly if its base is a multiple of 16 and its arena ends at 4,294,967,296 at most.
pub range_exactly : (c : Config) → in_range (at_base 0 c) ≡ true → (in_range c ≡ true) ↔ ((c.base % 16 ≡ 0) × (c.base + 16 * c.granules ≤ 4294967296))
range_exactly c e = (
  λ ranged. (base_whole c ranged, base_ends c ranged),
  λ w. let q : quotas_in_range c.granule_quotas c.block_quotas ≡ true = search parts in
      let a : is_arena (16 * c.granules) ≡ true = search parts in
      let t : is_table (4 * c.capacity) ≡ true = search parts in
      let g : within 0 1 c.guards ≡ true = search parts in
      rw (q, a, g, t, eq-eqb (c.base % 16) 0 w.0, le-leb (c.base + 16 * c.granules) 4294967296 w.1),
)

-- With another base that is allowed exactly if its own is, a making answers the same.
pub init_alike : (arena words : List ℕ) (p : Plan) (b : ℕ) → is_base (length arena) p.base ≡ is_base (length arena) b → init arena words p ≡ init arena words (plan_at b p)
unfolding init_order
init_alike arena words p b e = rw e

-- A making that is not refused is not refused with base 0 either.
pub with_base_0 : (arena words : List ℕ) (p : Plan) → init arena words p ≡ Ok tt → init arena words (plan_at 0 p) ≡ Ok tt
unfolding init_order
with_base_0 arena words p done =
    split_option (first_reason (init_order arena words p))
    (λ q. let r : NoReason (init_order arena words p) = no_reason (init_order arena words p) q in
    let zero : is_base (length arena) 0 ≡ true = zero_base (length arena) (not-false (is_arena (length arena)) r.0) in
    rw (reason_none (init_order arena words (plan_at 0 p)) (r.0, (rw zero, r.1.1))))
    (λ r q. let e : Err r ≡ Ok tt = rw q at done in let z : ◌≡◌ {A = ℕ} 0 1 = cc in absurd (omega arith))
