-- What the calls do to guards: none harms a guard that is whole, and one that is broken is told, by 19, exactly then.
-- Assumes nothing.
use mathlib.Core.Path.{◌≡◌, refl, sym, ap, ◌∙◌, subst}
use mathlib.Core.Bool.{Bool, true, false, not}
use mathlib.Core.List.{List, [], ◌∷◌, ◌++◌}
use mathlib.Core.Logic.{◌↔◌, ◌⊎◌, inl, inr, ⊎_elim}
use Rattle.std.specs.Prelude.{None, Some, Result, Ok, Err, if◌then◌else◌}
use Rattle.std.specs.List.{list_all}
use Rattle.std.specs.Option.{option_map_or}
use Prim.Native.Nat.{ℕ, suc, ◌+◌, ◌/◌, ◌≤◌, ◌<◌}
use native.Mathlib.Omega.{arith}
use lib.Dec.{leb, ltb, eqb}
use lib.ListN.{length, get_or, length-take, length-drop}
use borrow.Author.Tests.{not-false, not-true, eqb-true, eq-eqb, ne_eqb, le-leb, lt-ltb}
use Rattle.model.specs.Quantities.{is_owner, Config}
use Rattle.model.specs.Allocation.{needed, State, clear_of, block, fit, insert, offset, block_at, has_granule, without, resize, bytes}
use Rattle.model.specs.Arena.{has_recorded_length, zeroed, slice, guard_offset, guard_bytes, in_guard, is_broken}
use Rattle.model.specs.Reasons.{Reason, invalid_heap, bad_owner, other_owner, broken_guard, other_arena}
use Rattle.model.specs.Orders.{Order, first_reason, unless, offset_order, new_length_order, alloc_order, free_order, realloc_order, block_size_order, totals_order, holding_order}
use Rattle.model.specs.Rules.{offset_for, bytes_at, requested_at, used_bytes, free_bytes, peak_bytes, longest_bytes, owned_blocks, owned_bytes, alloc, after_alloc, arena_after_alloc, free, after_free, arena_after_free, realloc, after_realloc, arena_after_realloc, block_size, totals_of, holding_of}
use Rattle.model.specs.Numbers.{number_of, value_numbered, resized_numbered, size_numbered, totals_numbered, holding_numbered}
use Rattle.model.proofs.Choosing.{split, split_option, tests, clash, one_holds, every_head, every_tail, every_first}
use Rattle.model.proofs.Refusing.{NoReason, first_then, first_stays}
use Rattle.model.proofs.Ordered.{Ordered, before_clear, after_clear, Place, lowest_place}
use Rattle.model.proofs.Offsets.{granule_before, granule_after, Begins, begins}
use Rattle.model.proofs.Allocated.{Allocated, allocated}
use Rattle.model.proofs.Released.{Released, released}
use Rattle.model.proofs.Refitted.{Accepted, accepted, free_first_lem, free_refuses}
use Rattle.model.proofs.Kept.{Kept}
use Rattle.model.proofs.Asked.{free_asks, none_of_the_four}
use Rattle.model.proofs.Bytes.{zeroed_each, byte_slice}
use Rattle.model.proofs.Guards.{before_guard, after_guard, guard_inside, whole_byte, broken_byte, alloc_each}
use Rattle.model.proofs.Disjoint.{byte_granule}
use Rattle.model.proofs.Laws.{block_inside}
use Rattle.model.proofs.ResizedBytes.{bytes_guard, bytes_elsewhere}
use Rattle.model.specs.declared.Segment.{Segment}
use Rattle.model.specs.declared.Refusal.{Refusal}
use Rattle.model.specs.declared.Refusal.TheVariants as refusal
use Rattle.model.specs.declared.Resized.{Resized}
use Rattle.model.specs.declared.Resized.TheVariants as resized
use Rattle.model.specs.declared.BlockSize.{BlockSize}
use Rattle.model.specs.declared.Totals.{Totals}
use Rattle.model.specs.declared.Holding.{Holding}

-- Every byte of a block's guard is 0x77.
abbrev pub GuardWhole : Config → List ℕ → Segment → Type 0
GuardWhole c arena b = (i : ℕ) → guard_offset b ≤ i → i < guard_offset b + guard_bytes c → get_or arena i 0 ≡ 0x77

-- Every byte of a block's guard is in one arena what it is in another.
abbrev pub GuardSame : Config → List ℕ → List ℕ → Segment → Type 0
GuardSame c found left b = (i : ℕ) → guard_offset b ≤ i → i < guard_offset b + guard_bytes c → get_or left i 0 ≡ get_or found i 0

-- The guards of all live blocks of owner o are whole.
abbrev pub OwnWhole : Config → ℕ → State → List ℕ → Type 0
OwnWhole c o h arena = (x : ℕ) (b : Segment) → block_at x h.blocks ≡ Some b → b.owner ≡ o → GuardWhole c arena b

-- Of a block b that is live at x after a call: if it was before too, its guard is what it was; and it was, or its guard is whole.
pub record Unharmed (c : Config) (h : State) (found left : List ℕ) (x : ℕ) (b : Segment) : Type 0 where
  pub same : block_at x h.blocks ≡ Some b → GuardSame c found left b
  pub or_whole : (block_at x h.blocks ≡ Some b) ⊎ GuardWhole c left b

-- Where each block that is live after a call is so, whole guards stay whole.
pub own_kept : (c : Config) (o : ℕ) (h h' : State) (found left : List ℕ) → ((x : ℕ) (b : Segment) → block_at x h'.blocks ≡ Some b → Unharmed c h found left x b)
    → OwnWhole c o h found → OwnWhole c o h' left
own_kept c o h h' found left f w x b e mine =
    let u : Unharmed c h found left x b = f x b e in
    ⊎_elim (λ was i low high. u.same was i low high ∙ w x b was mine i low high) (λ new. new) u.or_whole

-- a block at x among the live ones and one more is that one, or was there
at_insert : (x : ℕ) (b : Segment) (bs : List Segment) (d : Segment) → block_at x (insert b bs) ≡ Some d → (d ≡ b) ⊎ (block_at x bs ≡ Some d)
at_insert x b [] d e =
    split (eqb (offset b) x)
    (λ q. let e' : Some b ≡ Some d = rw q at e in let z : d ≡ b = cc in inl z)
    (λ q. let e' : None ≡ Some d = rw q at e in inr e')
at_insert x b (a ∷ bs) d e =
    split (ltb b.start a.start)
    (λ p. let e₁ : block_at x (b ∷ a ∷ bs) ≡ Some d = rw p at e in
    split (eqb (offset b) x)
    (λ q. let e₂ : Some b ≡ Some d = rw q at e₁ in let z : d ≡ b = cc in inl z)
    (λ q. inr (rw q at e₁)))
    (λ p. let e₁ : block_at x (a ∷ insert b bs) ≡ Some d = rw p at e in
    split (eqb (offset a) x)
    (λ q. inr (rw q (rw q at e₁)))
    (λ q. ⊎_elim (λ z. inl z) (λ r. inr (rw q r)) (at_insert x b bs d (rw q at e₁))))

-- a block at y without the one at x was there, and is another
at_without : (x y : ℕ) (bs : List Segment) (d : Segment) → block_at y (without x bs) ≡ Some d → (block_at y bs ≡ Some d) × (¬ (y ≡ x))
at_without x y [] d e = let z : ◌≡◌ {A = ℕ} 0 1 = cc in absurd (omega arith)
at_without x y (a ∷ bs) d e =
    split (eqb (offset a) x)
    (λ p. let r : (block_at y bs ≡ Some d) × (¬ (y ≡ x)) = at_without x y bs d (rw p at e) in
    (rw (ne_eqb (offset a) y (λ z. r.1 (omega tests))) r.0, r.1))
    (λ p. let e₁ : block_at y (a ∷ without x bs) ≡ Some d = rw p at e in
    split (eqb (offset a) y)
    (λ q. (rw q (rw q at e₁), λ z. absurd (omega tests)))
    (λ q. let r : (block_at y bs ≡ Some d) × (¬ (y ≡ x)) = at_without x y bs d (rw q at e₁) in (rw q r.0, r.1)))

-- and another than the one at x is there without it
still_at : (x y : ℕ) (bs : List Segment) (d : Segment) → block_at y bs ≡ Some d → ¬ (y ≡ x) → block_at y (without x bs) ≡ Some d
still_at x y [] d e n = e
still_at x y (a ∷ bs) d e n =
    split (eqb (offset a) y)
    (λ q. rw (ne_eqb (offset a) x (λ z. n (omega tests)), q) (rw q at e))
    (λ q. let r : block_at y (without x bs) ≡ Some d = still_at x y bs d (rw q at e) n in
    split (eqb (offset a) x) (λ p. rw p r) (λ p. rw (p, q) r))

module _ (c : Config) where
  -- Of two live blocks the one that begins first ends before the other begins.
  pub apart : (s x y : ℕ) (bs : List Segment) (b d : Segment) → Ordered c s bs → block_at x bs ≡ Some b → block_at y bs ≡ Some d → x < y → b.start + b.length ≤ d.start
  apart s x y [] b d o e f l = let z : ◌≡◌ {A = ℕ} 0 1 = cc in absurd (omega arith)
  apart s x y (a ∷ bs) b d o e f l =
      split (eqb (offset a) x)
      (λ p. let e' : Some a ≡ Some b = rw p at e in let z : a ≡ b = cc in
      let r : Begins c (a.start + a.length) y bs d = begins c (a.start + a.length) y bs d o.2 (rw (ne_eqb (offset a) y (omega tests)) at f) in
      subst (λ (k : Segment). k.start + k.length ≤ d.start) z r.from)
      (λ p. let r : Begins c (a.start + a.length) x bs b = begins c (a.start + a.length) x bs b o.2 (rw p at e) in
      split (eqb (offset a) y)
      (λ q. absurd (omega (tests, r.first, r.from)))
      (λ q. apart (a.start + a.length) x y bs b d o.2 (rw p at e) (rw q at f) l))

  -- So one is clear of another.
  pub clear_other : (x y : ℕ) (bs : List Segment) (b d : Segment) → Ordered c 0 bs → block_at x bs ≡ Some b → block_at y bs ≡ Some d → ¬ (y ≡ x) → clear_of b.start b.length d ≡ true
  clear_other x y bs b d o e f n =
      split (ltb x y)
      (λ q. before_clear b.start b.length d (apart 0 x y bs b d o e f (omega tests)))
      (λ q. after_clear b.start b.length d (apart 0 y x bs d b o f e (omega tests)))

  -- a byte of the guard of a block d that is clear of a block b
  module _ (b d : Segment) (long : b.length ≡ needed c b.requested) (long' : d.length ≡ needed c d.requested) (clear : clear_of b.start b.length d ≡ true)
      (i : ℕ) (low : guard_offset d ≤ i) (high : i < guard_offset d + guard_bytes c) where
    -- is not in b's guard,
    other_guard : in_guard c i b ≡ false
    other_guard =
        split (leb (guard_offset b) i)
        (λ p. after_guard c b i (omega (tests, one_holds, guard_inside c b long, guard_inside c d long')))
        (λ p. before_guard c b i (omega tests))

    -- nor in a granule of b
    other_granule : has_granule (i / 16) b ≡ false
    other_granule =
        split (leb b.start (i / 16))
        (λ p. granule_after (i / 16) b (omega (tests, one_holds, guard_inside c d long')))
        (λ p. granule_before (i / 16) b (omega tests))

-- In a state as every call leaves it:
module _ (c : Config) (h : State) (k : Kept c h) where
  at : (x : ℕ) (b : Segment) → block_at x h.blocks ≡ Some b → Begins c 0 x h.blocks b
  at x b e = begins c 0 x h.blocks b k.ordered e

  -- no byte that a live block was requested with is in the guard of a live block, of the same one or of another.
  pub requested_apart : (x y : ℕ) (b d : Segment) → block_at x h.blocks ≡ Some b → block_at y h.blocks ≡ Some d
      → (i : ℕ) → offset b ≤ i → i < offset b + b.requested → guard_offset d ≤ i → i < guard_offset d + guard_bytes c → ⊥
  requested_apart x y b d e f i from below low high =
      split (eqb y x)
      (λ q. let e' : block_at y h.blocks ≡ Some b = rw (eqb-true y x q) e in
      let s : Some d ≡ Some b = sym f ∙ e' in
      let z : d ≡ b = cc in
      let w : guard_offset b ≤ i = subst (λ (g : Segment). guard_offset g ≤ i) z low in
      absurd (omega arith))
      (λ q. let clear : clear_of b.start b.length d ≡ true = clear_other c x y h.blocks b d k.ordered e f (λ z. absurd (omega tests)) in
      absurd (omega (arith, one_holds, guard_inside c d (at y d f).live.sized, (at x b e).live.sized)))

  -- An allocation, whoever asks and whatever is answered:
  module _ (v : Bool) (arena : List ℕ) (o n a : ℕ) where
    -- the guard of the block that it lends is whole in the arena left,
    pub alloc_fills : first_reason (alloc_order v c h arena o n a) ≡ None → (b : Segment) → fit c h.blocks o n a ≡ Some b → GuardWhole c (arena_after_alloc v c h arena o n a) b
    alloc_fills q b f i low high =
        alloc_each v c h arena o n a q b f i ∙ rw (le-leb (guard_offset b) i low, lt-ltb i (guard_offset b + guard_bytes c) high)

    -- and each block that is live then is unharmed.
    pub alloc_unharmed : (x : ℕ) (d : Segment) → block_at x (after_alloc v c h arena o n a).blocks ≡ Some d → Unharmed c h arena (arena_after_alloc v c h arena o n a) x d
    alloc_unharmed x d e =
        split_option (first_reason (alloc_order v c h arena o n a))
        (λ q. let r : Allocated c h o n a = allocated c h v arena o n a q in
        let b : Segment = block c o n r.start in
        let w : Place c h.blocks (needed c n) a r.start = lowest_place c h.blocks (needed c n) a r.start r.lowest in
        record {
          same = λ was i low high.
              let clear : clear_of b.start b.length d ≡ true = every_first (clear_of r.start (needed c n)) _ h.blocks d w.clear was in
              alloc_each v c h arena o n a q b r.fits i ∙ rw (other_guard c b d refl (at x d was).live.sized clear i low high);
          or_whole =
              ⊎_elim
              (λ z. inr (alloc_fills q d (r.fits ∙ ap Some (sym z))))
              (λ was. inl was)
              (at_insert x b h.blocks d (rw (q, r.fits) at e));
        })
        (λ why q. record { same = λ was i low high. rw q; or_whole = inl (rw q at e) })

  -- a block beside the one at x, in an arena in which that one's bytes are zeroed
  zeroed_unharmed : (arena : List ℕ) (x : ℕ) (b : Segment) → block_at x h.blocks ≡ Some b → has_recorded_length c arena ≡ true
      → (y : ℕ) (d : Segment) → block_at y (without x h.blocks) ≡ Some d → Unharmed c h arena (zeroed x (bytes b) arena) y d
  zeroed_unharmed arena x b found whole y d e =
      let r : (block_at y h.blocks ≡ Some d) × (¬ (y ≡ x)) = at_without x y h.blocks d e in
      let clear : clear_of b.start b.length d ≡ true = clear_other c x y h.blocks b d k.ordered found r.0 r.1 in
      record {
        same = λ was i low high.
            let out : has_granule (i / 16) b ≡ false = other_granule c b d (at x b found).live.sized (at y d was).live.sized clear i low high in
            zeroed_each x (bytes b) arena (block_inside c h k arena x b whole found) i ∙ rw (rw (at x b found).first at (byte_granule i b ∙ out));
        or_whole = inl r.0;
      }

  -- A free:
  module _ (v : Bool) (arena : List ℕ) (o x : ℕ) where
    -- each block that is live then is unharmed.
    pub free_unharmed : (y : ℕ) (d : Segment) → block_at y (after_free v c h arena o x).blocks ≡ Some d → Unharmed c h arena (arena_after_free v c h arena o x) y d
    free_unharmed y d e =
        split_option (first_reason (free_order v c h arena o x))
        (λ q. let r : Released v c h arena o x = released v c h arena o x q in
        rw (q, r.found) (zeroed_unharmed arena x r.block r.found r.whole y d (rw q at e)))
        (λ why q. record { same = λ was i low high. rw q; or_whole = inl (rw q at e) })

  -- A resize:
  module _ (v : Bool) (arena : List ℕ) (o x n : ℕ) where
    -- the guard of the block that it leaves is whole in the arena left,
    pub realloc_fills : first_reason (realloc_order v c h arena o x n) ≡ None → (b : Segment) → resize c h.blocks o x n ≡ Some b → GuardWhole c (arena_after_realloc v c h arena o x n) b
    realloc_fills q b f i low high =
        let r : Released v c h arena o x = released v c h arena o x (free_first_lem v c h arena o x n q) in
        bytes_guard v c h k arena o x n q r.block b r.found f i (rw (le-leb (guard_offset b) i low, lt-ltb i (guard_offset b + guard_bytes c) high))

    -- and each block that is live then is unharmed.
    pub realloc_unharmed : (y : ℕ) (d : Segment) → block_at y (after_realloc v c h arena o x n).blocks ≡ Some d → Unharmed c h arena (arena_after_realloc v c h arena o x n) y d
    realloc_unharmed y d e =
        split_option (first_reason (realloc_order v c h arena o x n))
        (λ q. split (eqb n 0)
        (λ z. let r : Released v c h arena o x = released v c h arena o x (free_first_lem v c h arena o x n q) in
        rw (q, z, r.found) (zeroed_unharmed arena x r.block r.found r.whole y d (rw (q, z) at e)))
        (λ z. let r : Accepted v c h arena o x n = accepted v c h arena o x n (omega tests) q in
        let old : Segment = r.freed.block in
        let was : block_at x h.blocks ≡ Some old = r.freed.found in
        let b : Segment = block c o n r.place.start in
        let left : resize c h.blocks o x n ≡ Some b = rw (z, r.place.fits) in
        let e' : (d ≡ b) ⊎ (block_at y (without x h.blocks) ≡ Some d) = at_insert y b (without x h.blocks) d (rw (q, z, r.place.fits) at e) in
        record {
          same = λ live i low high.
              split (eqb y x)
              (λ p. ⊎_elim
              (λ t. let f : block_at x h.blocks ≡ Some d = rw (eqb-true y x p) at live in
              let s : Some old ≡ Some d = sym was ∙ f in
              let u : old ≡ d = cc in
              let unbroken : is_broken c arena d ≡ false = subst (λ (g : Segment). is_broken c arena g ≡ false) u r.freed.unbroken in
              realloc_fills q d (left ∙ ap Some (sym t)) i low high
              ∙ sym (whole_byte c d arena unbroken i low high (omega (arith, guard_inside c d (at x d f).live.sized, (at x d f).first, block_inside c h k arena x d r.freed.whole f))))
              (λ t. absurd ((at_without x y h.blocks d t).1 (eqb-true y x p)))
              e')
              (λ p. let other : ¬ (y ≡ x) = λ s. absurd (omega tests) in
              let clear : clear_of b.start b.length d ≡ true =
              every_first (clear_of r.place.start (needed c n)) _ (without x h.blocks) d r.place.clear (still_at x y h.blocks d live other) in
              let beside : clear_of old.start old.length d ≡ true = clear_other c x y h.blocks old d k.ordered was live other in
              let long : d.length ≡ needed c d.requested = (at y d live).live.sized in
              bytes_elsewhere v c h k arena o x n q old b was left i (other_granule c b d refl long clear i low high)
              ∙ rw (other_granule c old d (at x old was).live.sized long beside i low high));
          or_whole = ⊎_elim (λ t. inr (realloc_fills q d (left ∙ ap Some (sym t)))) (λ t. inl (at_without x y h.blocks d t).0) e';
        }))
        (λ why q. record { same = λ was i low high. rw q; or_whole = inl (rw q at e) })

  -- So none of the three harms a whole guard: where the guards of all of an owner's live blocks are whole, they are so after the call.
  module _ (owner : ℕ) (v : Bool) (arena : List ℕ) (own : OwnWhole c owner h arena) where
    -- After an allocation,
    pub own_alloc : (o n a : ℕ) → OwnWhole c owner (after_alloc v c h arena o n a) (arena_after_alloc v c h arena o n a)
    own_alloc o n a = own_kept c owner h (after_alloc v c h arena o n a) arena (arena_after_alloc v c h arena o n a) (alloc_unharmed v arena o n a) own

    -- after a free,
    pub own_free : (o x : ℕ) → OwnWhole c owner (after_free v c h arena o x) (arena_after_free v c h arena o x)
    own_free o x = own_kept c owner h (after_free v c h arena o x) arena (arena_after_free v c h arena o x) (free_unharmed v arena o x) own

    -- and after a resize.
    pub own_realloc : (o x n : ℕ) → OwnWhole c owner (after_realloc v c h arena o x n) (arena_after_realloc v c h arena o x n)
    own_realloc o x n = own_kept c owner h (after_realloc v c h arena o x n) arena (arena_after_realloc v c h arena o x n) (realloc_unharmed v arena o x n) own

-- The reason is another than 19.
abbrev pub is_other : Reason Refusal → Bool
is_other r = not (eqb (number_of r.1) 19)

-- If 19 is given, none of the reasons that stand before it applies;
before_19 : (rs ts : Order Refusal) → list_all is_other rs ≡ true → (why : Refusal) → first_reason (rs ++ ts) ≡ Some why → number_of why ≡ 19
    → NoReason rs × (first_reason ts ≡ Some why)
before_19 [] ts others why e n = (tt, e)
before_19 (r ∷ rs) ts others why e n =
    split r.0
    (λ q. let e' : Some r.1 ≡ Some why = rw q at e in
    let z : r.1 ≡ why = cc in
    let t : eqb (number_of r.1) 19 ≡ false = not-true _ (every_head is_other r rs others) in
    let s : number_of r.1 ≡ 19 = ap number_of z ∙ n in
    absurd (omega tests))
    (λ q. let m : NoReason rs × (first_reason ts ≡ Some why) = before_19 rs ts (every_tail is_other r rs others) why (rw q at e) n in ((q, m.0), m.1))

-- so an order in which it does not stand never gives it.
pub never_19 : (rs : Order Refusal) → list_all is_other rs ≡ true → (why : Refusal) → first_reason rs ≡ Some why → ¬ (number_of why ≡ 19)
never_19 rs others why e n =
    let f : None ≡ Some why = (before_19 rs [] others why (first_stays rs [] why e) n).1 in let z : ◌≡◌ {A = ℕ} 0 1 = cc in omega arith

-- A call whose answer has the number 19 found a reason that has it.
reason_19 : {A : Type 0} (order : Order Refusal) (a : A) (refused : Refusal → A) (number : A → ℕ) → number a ≡ 0 → ((r : Refusal) → number (refused r) ≡ number_of r)
    → number (unless order a refused) ≡ 19 → (why : Refusal) × (first_reason order ≡ Some why) × (number_of why ≡ 19)
reason_19 order a refused number f g e =
    split_option (first_reason order)
    (λ q. let e' : number a ≡ 19 = rw q at e in absurd (omega arith))
    (λ why q. (why, q, sym (g why) ∙ (rw q at e)))

-- a list of which not each element is v has an element that is not
not_at : (v : ℕ) (xs : List ℕ) → list_all (eqb v) xs ≡ false → (i : ℕ) × (i < length xs) × (¬ (get_or xs i 0 ≡ v))
not_at v [] e = absurd (clash true refl e)
not_at v (x ∷ xs) e =
    split (eqb v x)
    (λ q. let r : (i : ℕ) × (i < length xs) × (¬ (get_or xs i 0 ≡ v)) = not_at v xs (rw q at e) in (suc r.0, omega (arith, r.1), r.2))
    (λ q. (0, omega arith, λ z. absurd (omega tests)))

-- A broken guard has a byte that differs.
pub differing_byte : (c : Config) (arena : List ℕ) (b : Segment) → is_broken c arena b ≡ true
    → (i : ℕ) × (guard_offset b ≤ i) × (i < guard_offset b + guard_bytes c) × (¬ (get_or arena i 0 ≡ 0x77))
differing_byte c arena b e =
    let s : List ℕ = slice (guard_offset b) (guard_bytes c) arena in
    let r : (j : ℕ) × (j < length s) × (¬ (get_or s j 0 ≡ 0x77)) = not_at 0x77 s (not-true (list_all (eqb 0x77) s) e) in
    let l : r.0 < guard_bytes c = let q = simp (length-take, length-drop) at r.1 in omega arith in
    (guard_offset b + r.0, omega arith, omega (arith, l), λ z. r.2 (byte_slice (guard_offset b) (guard_bytes c) arena r.0 l ∙ z))

module _ (v : Bool) (c : Config) (h : State) (arena : List ℕ) (o x : ℕ) where
  -- A free of the block at x by owner o, of a valid heap and with the whole arena, finds the block o's own and a byte of its guard other than 0x77.
  pub record FoundBroken : Type 0 where
    pub valid : v ≡ true
    pub whole : has_recorded_length c arena ≡ true
    pub owner : is_owner o ≡ true
    pub block : Segment
    pub found : block_at x h.blocks ≡ Some block
    pub owned : block.owner ≡ o
    pub byte : ℕ
    pub low : guard_offset block ≤ byte
    pub high : byte < guard_offset block + guard_bytes c
    pub differs : ¬ (get_or arena byte 0 ≡ 0x77)

  -- A free that is answered 19 finds that,
  pub free_19 : (why : Refusal) → first_reason (free_order v c h arena o x) ≡ Some why → number_of why ≡ 19 → FoundBroken
  unfolding free_order
  free_19 why e n =
      let front : Order Refusal = invalid_heap v ∷ other_arena c arena ∷ bad_owner o ∷ offset_order c h o x in
      let r : NoReason front × (first_reason (broken_guard c h.blocks arena x ∷ []) ≡ Some why) = before_19 front (broken_guard c h.blocks arena x ∷ []) refl why e n in
      split_option (block_at x h.blocks)
      (λ q. let f : None ≡ Some why = rw q at r.1 in let z : ◌≡◌ {A = ℕ} 0 1 = cc in absurd (omega arith))
      (λ b q. split (is_broken c arena b)
      (λ p. let w : (i : ℕ) × (guard_offset b ≤ i) × (i < guard_offset b + guard_bytes c) × (¬ (get_or arena i 0 ≡ 0x77)) = differing_byte c arena b p in
      record {
        valid = not-false v r.0.0;
        whole = not-false (has_recorded_length c arena) r.0.1.0;
        owner = not-false (is_owner o) r.0.1.1.0;
        block = b;
        found = q;
        owned = eqb-true b.owner o (not-false _ (rw q at r.0.1.1.1.1.1.1.1.0));
        byte = w.0;
        low = w.1;
        high = w.2;
        differs = w.3;
      })
      (λ p. let f : None ≡ Some why = rw (q, p) at r.1 in let z : ◌≡◌ {A = ℕ} 0 1 = cc in absurd (omega arith)))

  -- and in a state as every call leaves it one that finds it is answered 19.
  pub told_free : Kept c h → FoundBroken → first_reason (free_order v c h arena o x) ≡ Some refusal.BrokenGuard
  told_free k f =
      let b : Segment = f.block in
      let r : Begins c 0 x h.blocks b = begins c 0 x h.blocks b k.ordered f.found in
      let inside : f.byte < length arena = omega (arith, f.high, guard_inside c b r.live.sized, r.first, block_inside c h k arena x b f.whole f.found) in
      let broken : is_broken c arena b ≡ true = broken_byte c b arena f.byte f.low f.high inside f.differs in
      ap (λ (t : Bool). first_reason (free_order t c h arena o x)) f.valid
      ∙ free_asks c h arena o x f.whole
      ∙ rw f.owner (none_of_the_four c h x k b f.found (other_owner h.blocks o x ∷ broken_guard c h.blocks arena x ∷ [])
      ∙ rw (f.found, eq-eqb b.owner o f.owned, broken))

  -- So a free is answered 19 exactly if it finds that.
  pub free_19_exactly : Kept c h → (first_reason (free_order v c h arena o x) ≡ Some refusal.BrokenGuard) ↔ FoundBroken
  free_19_exactly k = (λ e. free_19 refusal.BrokenGuard e refl, told_free k)

  -- A resize that is answered 19 finds that too.
  pub realloc_19 : (n : ℕ) (why : Refusal) → first_reason (realloc_order v c h arena o x n) ≡ Some why → number_of why ≡ 19 → FoundBroken
  unfolding realloc_order
  realloc_19 n why e m =
      let rest : Order Refusal = if eqb n 0 then [] else new_length_order c h o x n in
      let others : list_all is_other rest ≡ true = split (eqb n 0) (λ q. rw q) (λ q. rw q) in
      split_option (first_reason (free_order v c h arena o x))
      (λ q. absurd (never_19 rest others why (sym (first_then (free_order v c h arena o x) rest q) ∙ e) m))
      (λ r q. let s : Some r ≡ Some why = sym (first_stays (free_order v c h arena o x) rest r q) ∙ e in
      let z : r ≡ why = cc in
      free_19 r q (ap number_of z ∙ m))

  -- So a resize, to whatever size, is answered 19 exactly if it finds that.
  pub realloc_19_exactly : Kept c h → (n : ℕ) → (first_reason (realloc_order v c h arena o x n) ≡ Some refusal.BrokenGuard) ↔ FoundBroken
  realloc_19_exactly k n = (λ e. realloc_19 n refusal.BrokenGuard e refl, λ f. free_refuses v c h arena o x n refusal.BrokenGuard (told_free k f))

  -- Where the guards of all of o's live blocks are whole, it finds no such thing.
  pub none_broken : OwnWhole c o h arena → ¬ FoundBroken
  none_broken own f = f.differs (own x f.block f.found f.owned f.byte f.low f.high)

  -- Where it finds that,
  module _ (k : Kept c h) (f : FoundBroken) where
    -- the free is answered 19 and leaves the state and the arena as they were,
    pub free_told : (free v c h arena o x ≡ Err refusal.BrokenGuard) × (after_free v c h arena o x ≡ h) × (arena_after_free v c h arena o x ≡ arena)
    free_told = let e : first_reason (free_order v c h arena o x) ≡ Some refusal.BrokenGuard = told_free k f in (rw e, rw e, rw e)

    -- and so is and does a resize to whatever size.
    pub realloc_told : (n : ℕ) → (realloc v c h arena o x n ≡ Err refusal.BrokenGuard) × (after_realloc v c h arena o x n ≡ h) × (arena_after_realloc v c h arena o x n ≡ arena)
    realloc_told n = let e : first_reason (realloc_order v c h arena o x n) ≡ Some refusal.BrokenGuard = (realloc_19_exactly k n).1 f in (rw e, rw e, rw e)

-- Who is answered 19:
module _ (v : Bool) (c : Config) (h : State) where
  -- no allocation,
  pub alloc_not_19 : (arena : List ℕ) (o n a : ℕ) → ¬ ((value_numbered (alloc v c h arena o n a)).0 ≡ 19)
  unfolding alloc_order
  alloc_not_19 arena o n a e =
      let r = reason_19 (alloc_order v c h arena o n a) (Ok (offset_for c h o n a)) Err (λ (p : Result ℕ Refusal). (value_numbered p).0) refl (λ why. refl) e in
      never_19 (alloc_order v c h arena o n a) refl r.0 r.1 r.2

  -- no free
  pub free_not_19 : (arena : List ℕ) (o x : ℕ) → (has_recorded_length c arena ≡ true → OwnWhole c o h arena) → ¬ ((value_numbered (free v c h arena o x)).0 ≡ 19)
  free_not_19 arena o x own e =
      let r = reason_19 (free_order v c h arena o x) (Ok (bytes_at h x)) Err (λ (f : Result ℕ Refusal). (value_numbered f).0) refl (λ why. refl) e in
      let f : FoundBroken v c h arena o x = free_19 v c h arena o x r.0 r.1 r.2 in
      none_broken v c h arena o x (own f.whole) f

  -- and no resize by an owner whose guards are all whole (in an arena of another length they need not be),
  pub realloc_not_19 : (arena : List ℕ) (o x n : ℕ) → (has_recorded_length c arena ≡ true → OwnWhole c o h arena) → ¬ ((resized_numbered (realloc v c h arena o x n)).0 ≡ 19)
  realloc_not_19 arena o x n own e =
      let value : Result Resized Refusal = option_map_or (λ b. Ok (resized.At (offset b))) (resize c h.blocks o x n) (Ok (resized.Freed (bytes_at h x))) in
      let zeroth : (resized_numbered value).0 ≡ 0 = split_option (resize c h.blocks o x n) (λ p. rw p) (λ b p. rw p) in
      let r = reason_19 (realloc_order v c h arena o x n) value Err (λ (f : Result Resized Refusal). (resized_numbered f).0) zeroth (λ why. refl) e in
      let f : FoundBroken v c h arena o x = realloc_19 v c h arena o x n r.0 r.1 r.2 in
      none_broken v c h arena o x (own f.whole) f

  -- no enquiry for a size,
  pub size_not_19 : (o x : ℕ) → ¬ ((size_numbered (block_size v c h o x)).0 ≡ 19)
  unfolding block_size_order
  size_not_19 o x e =
      let r = reason_19 (block_size_order v c h o x) (Ok (record { requested = requested_at h x; held = bytes_at h x })) Err (λ (b : Result BlockSize Refusal). (size_numbered b).0) refl (λ why. refl) e in
      never_19 (block_size_order v c h o x) refl r.0 r.1 r.2

  -- for the totals
  pub totals_not_19 : ¬ ((totals_numbered (totals_of v c h)).0 ≡ 19)
  unfolding totals_order
  totals_not_19 e =
      let r = reason_19 (totals_order v) (Ok (record { used = used_bytes h; free = free_bytes c h; peak = peak_bytes h; longest = longest_bytes c h })) Err (λ (t : Result Totals Refusal). (totals_numbered t).0) refl (λ why. refl) e in
      never_19 (totals_order v) refl r.0 r.1 r.2

  -- or for what an owner holds.
  pub holding_not_19 : (o : ℕ) → ¬ ((holding_numbered (holding_of v c h o)).0 ≡ 19)
  unfolding holding_order
  holding_not_19 o e =
      let r = reason_19 (holding_order v o) (Ok (record { blocks = owned_blocks h o; bytes = owned_bytes h o })) Err (λ (t : Result Holding Refusal). (holding_numbered t).0) refl (λ why. refl) e in
      never_19 (holding_order v o) refl r.0 r.1 r.2
