-- What a base comes to, for one who calls the heap: the address of the block that is granted, said by the promises alone, and how little of the base the calls depend on, for every record, table and arena.
-- Assumes nothing.
use Rattle.std.specs.Prelude.{Ok, Err}
use mathlib.Core.Path.{◌≡◌, refl, sym, ap, ◌∙◌}
use mathlib.Core.Bool.{Bool, true}
use mathlib.Core.List.{List}
use Prim.Native.Nat.{ℕ, ◌+◌, ◌*◌, ◌/◌, ◌%◌, ◌≤◌}
use native.Mathlib.Omega.{arith}
use lib.Dec.{leb, eqb}
use lib.ListN.{length}
use borrow.Author.Tests.{not-false, le-leb}
use Rattle.model.specs.Quantities.{is_base, Config, in_range}
use Rattle.model.specs.Allocation.{State, needed}
use Rattle.model.specs.Orders.{Order, first_reason, unless, alloc_order, free_order, realloc_order}
use Rattle.model.specs.Rules.{init_config, bytes_at, placing, releasing, resizing}
use Rattle.model.proofs.Choosing.{split, split_option, tests, parts}
use Rattle.model.proofs.Ranges.{base_whole, base_ends}
use Rattle.model.proofs.Refusing.{no_reason}
use Rattle.model.proofs.Ordered.{lowest_place}
use Rattle.model.proofs.Allocated.{allocated}
use Rattle.model.proofs.Refitted.{accepted}
use Rattle.model.proofs.BaseLaws as model
use Rattle.model.proofs.BaseLaws.{remainder_alike, plan_at, with_base_0}
use Rattle.heap.specs.Stored.{Stored, handed, config_of, state_in}
use Rattle.heap.specs.Valid.{valid}
use Rattle.heap.specs.Calls.{is_valid, config, state, afterwards, init, after_init, arena_after_init, alloc_aligned, after_alloc_aligned, arena_after_alloc_aligned, free, after_free, arena_after_free, realloc, after_realloc, arena_after_realloc, block_size, totals_of, holding_of}
use Rattle.heap.specs.Promises.{AllocDone, ReallocDone}
use Rattle.heap.proofs.ValidStored.{valid_range}
use Rattle.heap.proofs.Makes.{none_applies, init_leaves, init_range}
use Rattle.model.specs.declared.Plan.{Plan}
use Rattle.model.specs.declared.Refusal.{Refusal}
use Rattle.model.specs.declared.Resized.TheVariants as resized
use Rattle.heap.specs.declared.record.Heap.{Heap}
use Rattle.model.specs.declared.Resized.{Resized}
use Rattle.heap.specs.declared.record.Outcome.{Outcome}

-- Where the function of an allocation keeps its promise and answers the offset x:
module _ (r : Heap) (ws arena : List ℕ) (o n a : ℕ) (out : Outcome ℕ) (words_after arena_after : List ℕ) (d : AllocDone r ws arena o n a out words_after arena_after)
    (x : ℕ) (e : out.answer ≡ Ok x) where
  -- the block's address, the base in the record plus x, is on the boundary asked,
  pub granted_address : (r.base + x) % a ≡ 0
  granted_address = model.alloc_address (valid r ws) (config_of r) (state_in r ws) arena o n a x (sym d.answer ∙ e)

  -- and the block, its guard included, ends at 4,294,967,296 at most, so that the address of each of its bytes fits 32 bits.
  pub granted_end : r.base + x + 16 * needed (config_of r) n ≤ 4294967296
  unfolding alloc_order
  granted_end =
      let order : Order Refusal = alloc_order (valid r ws) (config_of r) (state_in r ws) arena o n a in
      split_option (first_reason order)
      (λ q. let p = allocated (config_of r) (state_in r ws) (valid r ws) arena o n a q in
      let v : valid r ws ≡ true = not-false (valid r ws) (no_reason order q).0 in
      let e' : Ok (16 * p.start) ≡ Ok x = rw (q, p.fits) at (sym d.answer ∙ e) in
      let at : 16 * p.start ≡ x = cc in
      omega (arith, (lowest_place (config_of r) (state_in r ws).blocks (needed (config_of r) n) a p.start p.lowest).inside, base_ends (config_of r) (valid_range r ws v)))
      (λ t q. let e' : Err t ≡ Ok x = rw q at (sym d.answer ∙ e) in let z : ◌≡◌ {A = ℕ} 0 1 = cc in absurd (omega arith))

-- Where the function of a resize keeps its promise and answers the offset y, the block's address is a multiple of 16, and the block, its guard included, ends at 4,294,967,296 at most.
pub resized_address : (r : Heap) (ws bytes : List ℕ) (o x n : ℕ) (out : Outcome Resized) (words_after bytes_after : List ℕ) → ReallocDone r ws bytes o x n out words_after bytes_after
    → (y : ℕ) → out.answer ≡ Ok (resized.At y) → ((r.base + y) % 16 ≡ 0) × (r.base + y + 16 * needed (config_of r) n ≤ 4294967296)
resized_address r ws bytes o x n out words_after bytes_after d y e =
    split_option (first_reason (realloc_order (valid r ws) (config_of r) (state_in r ws) bytes o x n))
    (λ q. split (eqb n 0)
    (λ z. let e' : Ok (resized.Freed (bytes_at (state_in r ws) x)) ≡ Ok (resized.At y) = rw (q, z) at (sym d.answer ∙ e) in let w : ◌≡◌ {A = ℕ} 0 1 = cc in absurd (omega arith))
    (λ z. let p = accepted (valid r ws) (config_of r) (state_in r ws) bytes o x n (omega tests) q in
    let ranged : in_range (config_of r) ≡ true = valid_range r ws p.freed.valid in
    let e' : Ok (resized.At (16 * p.place.start)) ≡ Ok (resized.At y) = rw (q, z, p.place.fits) at (sym d.answer ∙ e) in
    let at : 16 * p.place.start ≡ y = cc in
    (omega (arith, base_whole (config_of r) ranged), omega (arith, p.place.inside, base_ends (config_of r) ranged))))
    (λ t q. let e' : Err t ≡ Ok (resized.At y) = rw q at (sym d.answer ∙ e) in let w : ◌≡◌ {A = ℕ} 0 1 = cc in absurd (omega arith))

-- The same record and table but for the base in the record.
abbrev pub rebased : ℕ → Stored → Stored
rebased b s =
    handed
    (record {
      capacity = s.heap.capacity;
      rows = s.heap.rows;
      granules = s.heap.granules;
      base = b;
      guards = s.heap.guards;
      used = s.heap.used;
      peak = s.heap.peak;
      granule_quotas = s.heap.granule_quotas;
      block_quotas = s.heap.block_quotas;
    })
    s.words

-- A base b is like the one in the record if it is allowed for the recorded granules exactly if that one is, and has the same remainder by 4,096.
pub record Alike (s : Stored) (b : ℕ) : Type 0 where
  pub allowed : is_base (16 * s.heap.granules) s.heap.base ≡ is_base (16 * s.heap.granules) b
  pub remainder : s.heap.base % 4096 ≡ b % 4096

-- With such a base instead, and the same record and table otherwise:
module _ (s : Stored) (b : ℕ) (k : Alike s b) where
  -- validity is the same,
  pub valid_alike : is_valid s ≡ is_valid (rebased b s)
  unfolding valid
  valid_alike = rw k.allowed

  abbrev other : Config
  other = config (rebased b s)

  -- a call leaves the same but for the base if by the rules it has the same first reason and leaves the same state
  leaves : (order : Bool → Config → Order Refusal) (left : Config → State)
      → first_reason (order (is_valid s) (config s)) ≡ first_reason (order (is_valid s) other)
      → unless (order (is_valid s) (config s)) (left (config s)) (λ r. state s) ≡ unless (order (is_valid s) other) (left other) (λ r. state s)
      → afterwards (rebased b s) (order (is_valid (rebased b s)) other) (left other) ≡ rebased b (afterwards s (order (is_valid s) (config s)) (left (config s)))
  leaves order left e f =
      rw (← valid_alike) (split_option (first_reason (order (is_valid s) (config s)))
      (λ q. let z : left (config s) ≡ left other = rw (q, sym e ∙ q) at f in rw (q, sym e ∙ q, z))
      (λ r q. rw (q, sym e ∙ q)))

  -- the remainders by 16 are the same too
  sixteen : s.heap.base % 16 ≡ b % 16
  sixteen = remainder_alike s.heap.base b 16 refl k.remainder

  -- an allocation (one that names no alignment is the one on 16)
  module _ (arena : List ℕ) (o n a : ℕ) where
    -- answers the same,
    pub alloc_alike : alloc_aligned s arena o n a ≡ alloc_aligned (rebased b s) arena o n a
    alloc_alike = rw (← valid_alike) (model.alloc_alike (config s) b k.remainder (is_valid s) (state s) arena o n a)

    -- leaves the same but for the base
    pub after_alloc_alike : after_alloc_aligned (rebased b s) arena o n a ≡ rebased b (after_alloc_aligned s arena o n a)
    after_alloc_alike =
        leaves (λ v c. alloc_order v c (state s) arena o n a) (λ c. placing c (state s) o n a)
        (model.order_alike (config s) b k.remainder (is_valid s) (state s) arena o n a)
        (model.after_alloc_alike (config s) b k.remainder (is_valid s) (state s) arena o n a)

    -- and leaves the same arena,
    pub arena_alloc_alike : arena_after_alloc_aligned s arena o n a ≡ arena_after_alloc_aligned (rebased b s) arena o n a
    arena_alloc_alike = rw (← valid_alike) (model.arena_alloc_alike (config s) b k.remainder (is_valid s) (state s) arena o n a)

  -- a free
  module _ (arena : List ℕ) (o x : ℕ) where
    -- answers the same,
    pub free_alike : free s arena o x ≡ free (rebased b s) arena o x
    free_alike = rw (← valid_alike) (model.free_alike (config s) b (is_valid s) (state s) arena o x)

    -- leaves the same but for the base
    pub after_free_alike : after_free (rebased b s) arena o x ≡ rebased b (after_free s arena o x)
    after_free_alike =
        leaves (λ v c. free_order v c (state s) arena o x) (λ c. releasing (state s) x)
        (ap first_reason (model.free_order_alike (config s) b (is_valid s) (state s) arena o x))
        (model.after_free_alike (config s) b (is_valid s) (state s) arena o x)

    -- and leaves the same arena,
    pub arena_free_alike : arena_after_free s arena o x ≡ arena_after_free (rebased b s) arena o x
    arena_free_alike = rw (← valid_alike) (model.arena_free_alike (config s) b (is_valid s) (state s) arena o x)

  -- a resize
  module _ (arena : List ℕ) (o x n : ℕ) where
    -- answers the same,
    pub realloc_alike : realloc s arena o x n ≡ realloc (rebased b s) arena o x n
    realloc_alike = rw (← valid_alike) (model.realloc_alike (config s) b sixteen (is_valid s) (state s) arena o x n)

    -- leaves the same but for the base
    pub after_realloc_alike : after_realloc (rebased b s) arena o x n ≡ rebased b (after_realloc s arena o x n)
    after_realloc_alike =
        leaves (λ v c. realloc_order v c (state s) arena o x n) (λ c. resizing c (state s) o x n)
        (ap first_reason (model.realloc_order_alike (config s) b sixteen (is_valid s) (state s) arena o x n))
        (model.after_realloc_alike (config s) b sixteen (is_valid s) (state s) arena o x n)

    -- and leaves the same arena,
    pub arena_realloc_alike : arena_after_realloc s arena o x n ≡ arena_after_realloc (rebased b s) arena o x n
    arena_realloc_alike = rw (← valid_alike) (model.arena_realloc_alike (config s) b sixteen (is_valid s) (state s) arena o x n)

  -- a block's size is answered the same,
  pub size_alike : (o x : ℕ) → block_size s o x ≡ block_size (rebased b s) o x
  size_alike o x = rw (← valid_alike) (model.size_alike (config s) b (is_valid s) (state s) o x)

  -- so are the totals,
  pub totals_alike : totals_of s ≡ totals_of (rebased b s)
  totals_alike = rw valid_alike

  -- and so is what an owner holds.
  pub holding_alike : (o : ℕ) → holding_of s o ≡ holding_of (rebased b s) o
  holding_alike o = rw valid_alike

  -- After a call b is still like the base in the record.
  pub still_alike : (order : Order Refusal) (h : State) → Alike (afterwards s order h) b
  still_alike order h =
      split_option (first_reason order)
      (λ q. rw q (record { allowed = k.allowed; remainder = k.remainder }))
      (λ r q. rw q k)

-- 0 is like every base that is allowed and a multiple of 4,096: with such a base every call answers as with base 0.
pub alike_0 : (s : Stored) → is_base (16 * s.heap.granules) s.heap.base ≡ true → s.heap.base % 4096 ≡ 0 → Alike s 0
alike_0 s h e =
    let ends : leb (s.heap.base + 16 * s.heap.granules) 4294967296 ≡ true = search parts in
    record { allowed = rw (h, le-leb (0 + 16 * s.heap.granules) 4294967296 (omega tests)); remainder = e }

-- the base of a making that is not refused is allowed for the granules recorded
allowed_made : (arena words : List ℕ) (p : Plan) → init arena words p ≡ Ok tt → is_base (16 * (length arena / 16)) p.base ≡ true
allowed_made arena words p done = let ranged : in_range (init_config arena words p) ≡ true = init_range arena words p done in search parts

-- Of two makings that differ in the base alone and are not refused:
module _ (arena words : List ℕ) (p : Plan) (b : ℕ) (done : init arena words p ≡ Ok tt) (too : init arena words (plan_at b p) ≡ Ok tt) where
  -- both leave the same record and table but for the base,
  pub init_alike : after_init arena words (plan_at b p) ≡ rebased b (after_init arena words p)
  init_alike = init_leaves arena words (plan_at b p) too ∙ ap (rebased b) (sym (init_leaves arena words p done))

  -- and the same arena,
  pub arena_init_alike : arena_after_init arena words p ≡ arena_after_init arena words (plan_at b p)
  arena_init_alike = rw (none_applies arena words p done, none_applies arena words (plan_at b p) too)

  -- and b is like the other base if they have the same remainder by 4,096.
  pub made_alike : p.base % 4096 ≡ b % 4096 → Alike (after_init arena words p) b
  made_alike e =
      rw (init_leaves arena words p done)
      (record { allowed = allowed_made arena words p done ∙ sym (allowed_made arena words (plan_at b p) too); remainder = e })

-- In particular a making that is not refused is not refused with base 0 either, and leaves the same arena, and the same record and table but for the base.
pub init_0 : (arena words : List ℕ) (p : Plan) → init arena words p ≡ Ok tt
    → (init arena words (plan_at 0 p) ≡ Ok tt)
    × (after_init arena words (plan_at 0 p) ≡ rebased 0 (after_init arena words p))
    × (arena_after_init arena words p ≡ arena_after_init arena words (plan_at 0 p))
init_0 arena words p done =
    let too : init arena words (plan_at 0 p) ≡ Ok tt = with_base_0 arena words p done in
    (too, init_alike arena words p 0 done too, arena_init_alike arena words p 0 done too)
