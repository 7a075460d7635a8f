-- What guards come to: where a guard lies, what filling it does to the arena, when one is broken; and that a heap without guards leaves the arena to the tasks.
-- Assumes nothing.
use mathlib.Core.Path.{◌≡◌, refl, sym, ap, ◌∙◌, subst}
use mathlib.Core.Bool.{Bool, true, false}
use mathlib.Core.List.{List, [], ◌∷◌, ◌++◌, append-nil}
use Rattle.std.specs.Prelude.{None, Some, if◌then◌else◌}
use Rattle.std.specs.List.{list_all}
use Rattle.std.specs.Option.{option_map_or}
use Prim.Native.Nat.{ℕ, zero, suc, ◌+◌, ◌-◌, ◌*◌, ◌≤◌, ◌<◌}
use native.Mathlib.Omega.{arith}
use native.Mathlib.Nat.{add-zero}
use lib.Dec.{leb, ltb, eqb}
use lib.ListN.{length, get_or, take, drop, replicate, length-take, length-drop, length-replicate, get_or-replicate, take-append-drop}
use borrow.Author.Tests.{not-false, eq-eqb, le-leb, lt-leb, lt-ltb, le-ltb}
use Rattle.model.specs.Quantities.{Config}
use Rattle.model.specs.Allocation.{State, needed, block, fit, offset, block_at, resize, bytes}
use Rattle.model.specs.Arena.{slice, zeroed, moved, guard_offset, guard_bytes, in_guard, guard_filled, with_guard, is_broken}
use Rattle.model.specs.Reasons.{broken_guard}
use Rattle.model.specs.Orders.{first_reason, unless, alloc_order, realloc_order}
use Rattle.model.specs.Rules.{bytes_at, without_guard_at, alloc, after_alloc, granted_alloc, arena_after_alloc, arena_after_realloc}
use Rattle.model.proofs.Choosing.{split, split_option, tests, parts, clash, every_head, every_tail}
use Rattle.model.proofs.Ordered.{lowest_place}
use Rattle.model.proofs.Allocated.{Allocated, allocated, allocated_whole}
use Rattle.model.proofs.Bytes.{length_written, written_each, byte_slice}
use Rattle.model.specs.declared.Segment.{Segment}

-- A byte before the guard is not in it,
pub before_guard : (c : Config) (b : Segment) (i : ℕ) → i < guard_offset b → in_guard c i b ≡ false
before_guard c b i h = rw (lt-leb (guard_offset b) i h)

-- nor is one after it.
pub after_guard : (c : Config) (b : Segment) (i : ℕ) → guard_offset b + guard_bytes c ≤ i → in_guard c i b ≡ false
after_guard c b i h = rw (le-leb (guard_offset b) i (omega arith), le-ltb i (guard_offset b + guard_bytes c) h)

-- The guard's bytes are the last of a block that is as long as its bytes requested need.
pub guard_inside : (c : Config) (b : Segment) → b.length ≡ needed c b.requested → guard_offset b + guard_bytes c ≡ 16 * (b.start + b.length)
guard_inside c b sized = omega arith

-- In a heap without guards:
module _ (c : Config) (z : c.guards ≡ 0) where
  -- filling a guard leaves the arena as it is,
  pub no_guard : (b : Segment) (v : ℕ) (arena : List ℕ) → guard_filled c b v arena ≡ arena
  no_guard b v arena =
      rw z (ap (λ (k : ℕ). take (guard_offset b) arena ++ [] ++ drop k arena) (add-zero (guard_offset b))
      ∙ ap (λ (r : List ℕ). r ++ drop (guard_offset b) arena) (append-nil (take (guard_offset b) arena)) ∙ take-append-drop (guard_offset b) arena)

  -- no byte is in a guard,
  pub no_guard_byte : (b : Segment) (i : ℕ) → in_guard c i b ≡ false
  no_guard_byte b i = split (leb (guard_offset b) i) (λ q. after_guard c b i (omega tests)) (λ q. rw q)

  -- and no guard is broken.
  pub never_broken : (arena : List ℕ) (b : Segment) → is_broken c arena b ≡ false
  never_broken arena b = rw z

  -- There an allocation, whichever arena it is lent,
  module _ (v : Bool) (h : State) (arena arena' : List ℕ) (o n a : ℕ) where
    -- has the same order of refusal,
    pub ask_blind : alloc_order v c h arena o n a ≡ alloc_order v c h arena' o n a
    unfolding alloc_order
    ask_blind = rw z

    -- answers the same,
    pub alloc_blind : alloc v c h arena o n a ≡ alloc v c h arena' o n a
    alloc_blind = rw ask_blind

    -- leaves the same state,
    pub after_alloc_blind : after_alloc v c h arena o n a ≡ after_alloc v c h arena' o n a
    after_alloc_blind = rw ask_blind

    -- is granted the same granules,
    pub granted_alloc_blind : granted_alloc v c h arena o n a ≡ granted_alloc v c h arena' o n a
    granted_alloc_blind = rw ask_blind

  -- and leaves the arena as it is.
  pub arena_alloc_blind : (v : Bool) (h : State) (arena : List ℕ) (o n a : ℕ) → arena_after_alloc v c h arena o n a ≡ arena
  arena_alloc_blind v h arena o n a =
      split_option (first_reason (alloc_order v c h arena o n a))
      (λ q. rw q (split_option (fit c h.blocks o n a) (λ p. rw p) (λ b p. rw p (no_guard b 0x77 arena))))
      (λ r q. rw q)

  -- 19 never applies,
  pub no_19 : (bs : List Segment) (arena : List ℕ) (x : ℕ) → (broken_guard c bs arena x).0 ≡ false
  no_19 bs arena x = split_option (block_at x bs) (λ q. rw q) (λ b q. rw q (never_broken arena b))

  -- and a resize leaves the arena as request [2] says, with the block's bytes moved.
  pub arena_realloc_unguarded : (v : Bool) (h : State) (arena : List ℕ) (o x n : ℕ)
      → arena_after_realloc v c h arena o x n
      ≡ unless (realloc_order v c h arena o x n)
      (option_map_or (λ b. moved x (bytes_at h x) (offset b) (bytes b) arena) (resize c h.blocks o x n) (zeroed x (bytes_at h x) arena)) (λ r. arena)
  arena_realloc_unguarded v h arena o x n =
      let bare : without_guard_at c h x arena ≡ arena = split_option (block_at x h.blocks) (λ q. rw q) (λ b q. rw q (no_guard b 0 arena)) in
      split_option (first_reason (realloc_order v c h arena o x n))
      (λ q. rw q (split_option (resize c h.blocks o x n) (λ p. rw p) (λ b p. rw (p, bare) (no_guard b 0x77 (moved x (bytes_at h x) (offset b) (bytes b) arena)))))
      (λ r q. rw q)

-- a list of which each element is v, and an element of such a list
all_at : (v : ℕ) (xs : List ℕ) → ((i : ℕ) → i < length xs → get_or xs i 0 ≡ v) → list_all (eqb v) xs ≡ true
all_at v [] h = refl
all_at v (x ∷ xs) h = rw (eq-eqb v x (sym (h 0 (omega arith)))) (all_at v xs (λ i l. h (suc i) (omega arith)))

at_all : (v : ℕ) (xs : List ℕ) (i : ℕ) → i < length xs → list_all (eqb v) xs ≡ true → get_or xs i 0 ≡ v
at_all v [] i l e = absurd (omega arith)
at_all v (x ∷ xs) zero l e = omega (tests, every_head (eqb v) x xs e)
at_all v (x ∷ xs) (suc i) l e = at_all v xs i (omega arith) (every_tail (eqb v) x xs e)

-- Of a block's guard in an arena that may end before it.
module _ (c : Config) (b : Segment) (arena : List ℕ) where
  -- Of a guard that is not broken every byte in the arena is 0x77;
  pub whole_byte : is_broken c arena b ≡ false → (i : ℕ) → guard_offset b ≤ i → i < guard_offset b + guard_bytes c → i < length arena → get_or arena i 0 ≡ 0x77
  whole_byte e i low high inside =
      let s : List ℕ = slice (guard_offset b) (guard_bytes c) arena in
      let j : ℕ = i - guard_offset b in
      let l : j < length s = simp (length-take, length-drop) (omega arith) in
      ap (λ (k : ℕ). get_or arena k 0) (omega arith) ∙ sym (byte_slice (guard_offset b) (guard_bytes c) arena j (omega arith))
      ∙ at_all 0x77 s j l (not-false (list_all (eqb 0x77) s) e)

  -- so a byte of it in the arena that is not 0x77 makes it broken.
  pub broken_byte : (i : ℕ) → guard_offset b ≤ i → i < guard_offset b + guard_bytes c → i < length arena → ¬ (get_or arena i 0 ≡ 0x77) → is_broken c arena b ≡ true
  broken_byte i low high inside d = split (is_broken c arena b) (λ q. q) (λ q. absurd (d (whole_byte q i low high inside)))

  -- A guard of which every byte in the arena is 0x77 is not broken.
  pub bytes_whole : ((i : ℕ) → guard_offset b ≤ i → i < guard_offset b + guard_bytes c → i < length arena → get_or arena i 0 ≡ 0x77) → is_broken c arena b ≡ false
  bytes_whole f =
      let s : List ℕ = slice (guard_offset b) (guard_bytes c) arena in
      let l : (j : ℕ) → j < length s → (j < guard_bytes c) × (guard_offset b + j < length arena) = λ j q. let q' = simp (length-take, length-drop) at q in (omega arith, omega arith) in
      rw (all_at 0x77 s (λ j q. byte_slice (guard_offset b) (guard_bytes c) arena j (l j q).0 ∙ f (guard_offset b + j) (omega arith) (omega (arith, l j q)) (l j q).1))

-- Of a guard that lies in the arena, filled.
module _ (c : Config) (b : Segment) (v : ℕ) (arena : List ℕ) (fits : guard_offset b + guard_bytes c ≤ length arena) where
  -- The arena keeps its length.
  pub length_filled : length (guard_filled c b v arena) ≡ length arena
  length_filled = length_written (guard_offset b) (guard_bytes c) (replicate (guard_bytes c) v) arena (length-replicate (guard_bytes c) v) fits

  -- A byte is v if it is in the guard, and else as it was.
  pub filled_each : (i : ℕ) → get_or (guard_filled c b v arena) i 0 ≡ (if in_guard c i b then v else get_or arena i 0)
  filled_each i =
      written_each (guard_offset b) (guard_bytes c) (replicate (guard_bytes c) v) arena (length-replicate (guard_bytes c) v) fits i
      ∙ split (in_guard c i b)
      (λ q. let low : leb (guard_offset b) i ≡ true = search parts in
      let high : ltb i (guard_offset b + guard_bytes c) ≡ true = search parts in
      rw q (get_or-replicate (guard_bytes c) (i - guard_offset b) v 0 (omega tests)))
      (λ q. rw q)

-- Just filled, a guard in the arena is not broken.
pub whole : (c : Config) (b : Segment) (arena : List ℕ) → guard_offset b + guard_bytes c ≤ length arena → is_broken c (with_guard c b arena) b ≡ false
whole c b arena fits =
    bytes_whole c b (with_guard c b arena)
    (λ i low high inside. filled_each c b 0x77 arena fits i ∙ rw (le-leb (guard_offset b) i low, lt-ltb i (guard_offset b + guard_bytes c) high))

-- Of two arenas that agree on a guard's bytes, if the guard lies in the one and is not broken there, it is not broken in the other, however long that is;
pub still_whole : (c : Config) (b : Segment) (arena arena' : List ℕ)
    → ((i : ℕ) → guard_offset b ≤ i → i < guard_offset b + guard_bytes c → get_or arena i 0 ≡ get_or arena' i 0)
    → guard_offset b + guard_bytes c ≤ length arena → is_broken c arena b ≡ false → is_broken c arena' b ≡ false
still_whole c b arena arena' alike fits e =
    bytes_whole c b arena' (λ i low high inside. sym (alike i low high) ∙ whole_byte c b arena e i low high (omega arith))

-- and if it lies in both, it is broken in both or in neither. (Bytes past an arena's end are not looked at, so here both are to be long enough.)
pub same_guard : (c : Config) (b : Segment) (arena arena' : List ℕ)
    → ((i : ℕ) → guard_offset b ≤ i → i < guard_offset b + guard_bytes c → get_or arena i 0 ≡ get_or arena' i 0)
    → guard_offset b + guard_bytes c ≤ length arena → guard_offset b + guard_bytes c ≤ length arena' → is_broken c arena b ≡ is_broken c arena' b
same_guard c b arena arena' alike fits fits' =
    split (is_broken c arena b)
    (λ p. split (is_broken c arena' b) (λ q. p ∙ sym q)
    (λ q. absurd (clash (is_broken c arena b) p (still_whole c b arena' arena (λ i low high. sym (alike i low high)) fits' q))))
    (λ p. p ∙ sym (still_whole c b arena arena' alike fits p))

-- An allocation that is not refused, of the block b:
module _ (v : Bool) (c : Config) (h : State) (arena : List ℕ) (o n a : ℕ) (e : first_reason (alloc_order v c h arena o n a) ≡ None)
    (b : Segment) (is : fit c h.blocks o n a ≡ Some b) where
  after : arena_after_alloc v c h arena o n a ≡ with_guard c b arena
  after = rw (e, is)

  -- its guard lies in the arena, if there are guards
  lies : 1 ≤ c.guards → guard_offset b + guard_bytes c ≤ length arena
  lies g =
      let r : Allocated c h o n a = allocated c h v arena o n a e in
      let z : Some (block c o n r.start) ≡ Some b = sym r.fits ∙ is in
      let y : block c o n r.start ≡ b = cc in
      subst (λ (d : Segment). guard_offset d + guard_bytes c ≤ length arena) y
      (omega (arith, allocated_whole c h v arena o n a e g, (lowest_place c h.blocks (needed c n) a r.start r.lowest).inside))

  -- of a law of guards there are none, or they lie in the arena
  by_guards : {G : Type 0} → (c.guards ≡ 0 → G) → (guard_offset b + guard_bytes c ≤ length arena → G) → G
  by_guards f g = split (eqb c.guards 0) (λ q. f (omega tests)) (λ q. g (lies (omega tests)))

  -- the arena keeps its length,
  pub alloc_length : length (arena_after_alloc v c h arena o n a) ≡ length arena
  alloc_length = by_guards (λ z. ap length (arena_alloc_blind c z v h arena o n a)) (λ fits. rw after (length_filled c b 0x77 arena fits))

  -- a byte is 0x77 if it is in the guard of b, and else as it was,
  pub alloc_each : (i : ℕ) → get_or (arena_after_alloc v c h arena o n a) i 0 ≡ (if in_guard c i b then 0x77 else get_or arena i 0)
  alloc_each i =
      by_guards (λ z. ap (λ (r : List ℕ). get_or r i 0) (arena_alloc_blind c z v h arena o n a) ∙ rw (no_guard_byte c z b i)) (λ fits. rw after (filled_each c b 0x77 arena fits i))

  -- and that guard is whole.
  pub alloc_whole : is_broken c (arena_after_alloc v c h arena o n a) b ≡ false
  alloc_whole = by_guards (λ z. never_broken c z (arena_after_alloc v c h arena o n a) b) (λ fits. rw after (whole c b arena fits))
