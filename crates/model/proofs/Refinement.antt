-- Document 02's first request refines document 01's orders: it tells number 9 apart, and changes nothing else. Its fourth puts 19 last in a return and 11 after 1 in an ask; without guards neither applies.
-- Assumes nothing.
use mathlib.Core.Path.{◌≡◌, refl, sym, ◌∙◌}
use mathlib.Core.Bool.{Bool, true, false}
use mathlib.Core.List.{List, [], ◌∷◌, ◌++◌}
use Rattle.std.specs.Prelude.{None, Some, is_none}
use Rattle.std.specs.Option.{option_map_or}
use Prim.Native.Nat.{ℕ, ◌*◌, ◌/◌, ◌%◌}
use lib.Dec.{leb, eqb}
use borrow.Author.Tests.{not-false, lt-ltb}
use Rattle.model.specs.Choose.{is_among}
use Rattle.model.specs.Quantities.{Config}
use Rattle.model.specs.Allocation.{State, block_at, block_over}
use Rattle.model.specs.Reasons.{Reason, invalid_heap, other_arena, bad_owner, other_owner, broken_guard}
use Rattle.model.specs.Orders.{Order, first_reason, unless, offset_order, alloc_order, free_order, block_size_order, request_order, quota_order, place_order}
use Rattle.model.specs.Numbers.{number_of, numbered_by}
use Rattle.model.proofs.Choosing.{split, split_option, tests, clash}
use Rattle.model.proofs.Refusing.{first_then, first_stays}
use Rattle.model.proofs.Offsets.{over_inside}
use Rattle.model.proofs.Kept.{Kept}
use Rattle.model.proofs.Asked.{none_of_the_four}
use Rattle.model.proofs.Guards.{no_19}
use Rattle.model.specs.declared.Segment.{Segment}
use Rattle.model.specs.declared.Refusal.{Refusal}
use Rattle.model.specs.declared.Refusal.TheVariants as refusal

-- Document 01's 9: the offset is not the first byte of a live block. (`InsideBlock` is the refusal with this number.)
abbrev pub not_a_block : List Segment → ℕ → Reason Refusal
not_a_block bs x = (is_none (block_at x bs), refusal.InsideBlock)

-- For an owner's offset document 01 has 9, 10.
abbrev pub offset_order01 : State → ℕ → ℕ → Order Refusal
offset_order01 h o x = not_a_block h.blocks x ∷ other_owner h.blocks o x ∷ []

module _ (is_valid : Bool) (c : Config) (h : State) where
  -- Document 01's order for a return: 1, 11, 2, 9, 10.
  abbrev pub free_order01 : List ℕ → ℕ → ℕ → Order Refusal
  free_order01 arena o x =
      invalid_heap is_valid ∷ other_arena c arena ∷ bad_owner o ∷ offset_order01 h o x

  -- The same with document 02's 19 last: 1, 11, 2, 9, 10, 19.
  abbrev pub guarded_free_order01 : List ℕ → ℕ → ℕ → Order Refusal
  guarded_free_order01 arena o x = free_order01 arena o x ++ (broken_guard c h.blocks arena x ∷ [])

  -- Document 01's order for an ask: 1, 2, 3, 4, 5, 6, 7, 8.
  abbrev pub alloc_order01 : ℕ → ℕ → ℕ → Order Refusal
  alloc_order01 o n a = invalid_heap is_valid ∷ (request_order o n a ++ (quota_order c h o n ++ place_order c h o n a))

  -- Document 01's order for a block's size: 1, 2, 9, 10.
  abbrev pub block_size_order01 : ℕ → ℕ → Order Refusal
  block_size_order01 o x = invalid_heap is_valid ∷ bad_owner o ∷ offset_order01 h o x

-- By an order a call is refused with this number, 0 if it is not refused.
abbrev pub refusal_number : Order Refusal → ℕ
refusal_number order = option_map_or number_of (first_reason order) 0

-- The number is one of the four into which 9 is told apart.
abbrev pub is_of_the_four : ℕ → Bool
is_of_the_four n = is_among (15 ∷ 16 ∷ 17 ∷ 9 ∷ []) n

-- Two orders for the same call, of which the second refines the first: it tells 9 apart, and changes nothing else.
pub record Refines (before now : Order Refusal) : Type 1 where
  -- A call is refused by one of the four now exactly if it was refused by 9 before.
  pub nine : is_of_the_four (refusal_number now) ≡ eqb (refusal_number before) 9
  -- Where it is refused by none of the four, it is refused as it was, or not refused if it was not: every other answer is what it was.
  pub others : is_of_the_four (refusal_number now) ≡ false → first_reason now ≡ first_reason before
  -- What is left is what was left: as the call changes it, or kept if it is refused.
  pub effects : {A : Type 0} (changed kept : A) → unless now changed (λ r. kept) ≡ unless before changed (λ r. kept)

module _ (before now : Order Refusal) where
  -- refused by 9 before, and by one of the four now
  refines_nine : (r : Refusal) → is_of_the_four (number_of r) ≡ true → first_reason before ≡ Some refusal.InsideBlock → first_reason now ≡ Some r → Refines before now
  refines_nine r f p q = record { nine = rw (p, q) f; others = λ e. absurd (clash (is_of_the_four (number_of r)) f (rw q at e)); effects = λ a b. rw (p, q) }

  -- refused now as before, by 9 or by none of the four
  refines_same : first_reason now ≡ first_reason before → is_of_the_four (refusal_number before) ≡ eqb (refusal_number before) 9 → Refines before now
  refines_same e f = record { nine = rw e f; others = λ q. e; effects = λ a b. rw e }

  -- a reason that comes first in both
  refines_cons : (r : Reason Refusal) → is_of_the_four (number_of r.1) ≡ eqb (number_of r.1) 9 → (r.0 ≡ false → Refines before now) → Refines (r ∷ before) (r ∷ now)
  refines_cons r f a =
      split r.0
      (λ q. record { nine = rw q f; others = λ e. rw q; effects = λ x y. rw q })
      (λ q. record { nine = rw q (a q).nine; others = λ e. rw q ((a q).others (rw q at e)); effects = λ x y. rw q ((a q).effects x y) })

-- reasons that come last in both, of which none is one of the four but 9
refines_then : (before now rest : Order Refusal) → is_of_the_four (refusal_number rest) ≡ eqb (refusal_number rest) 9 → Refines before now → Refines (before ++ rest) (now ++ rest)
refines_then before now rest f a =
    split_option (first_reason before)
    (λ p. let four : is_of_the_four (refusal_number now) ≡ false = a.nine ∙ rw p in
    let q : first_reason now ≡ None = a.others four ∙ p in
    refines_same (before ++ rest) (now ++ rest) (first_then now rest q ∙ sym (first_then before rest p)) (rw (first_then before rest p) f))
    (λ r p. split_option (first_reason now)
    (λ q. let w : true ≡ false = rw (p, q) at (a.effects true false) in absurd (clash true refl w))
    (λ t q. let p' : first_reason (before ++ rest) ≡ first_reason before = first_stays before rest r p ∙ sym p in
    let q' : first_reason (now ++ rest) ≡ first_reason now = first_stays now rest t q ∙ sym q in
    record { nine = rw (p', q') a.nine; others = λ e. q' ∙ a.others (rw q' at e) ∙ sym p'; effects = λ x y. rw (p', q') (a.effects x y) }))

-- a last reason that does not apply
last_off : (rs : Order Refusal) (r : Reason Refusal) → r.0 ≡ false → first_reason (rs ++ (r ∷ [])) ≡ first_reason rs
last_off rs r e = split_option (first_reason rs) (λ q. first_then rs (r ∷ []) q ∙ rw (e, q)) (λ t q. first_stays rs (r ∷ []) t q ∙ sym q)

refines_without : (before now : Order Refusal) (r : Reason Refusal) → r.0 ≡ false → Refines (before ++ (r ∷ [])) now → Refines before now
refines_without before now r e a =
    let p : first_reason (before ++ (r ∷ [])) ≡ first_reason before = last_off before r e in
    record { nine = rw p at a.nine; others = λ q. a.others q ∙ p; effects = λ x y. rw p at (a.effects x y) }

-- an answer's number is that of its refusal
number_of_lem : (order : Order Refusal) (values : List ℕ) → (numbered_by number_of order values).0 ≡ refusal_number order
number_of_lem order values = split_option (first_reason order) (λ q. rw q) (λ r q. rw q)

-- Of two such orders the answers in numbers, whatever their values.
module _ (before now : Order Refusal) (a : Refines before now) (values : List ℕ) where
  pub nine_numbered : is_of_the_four (numbered_by number_of now values).0 ≡ eqb (numbered_by number_of before values).0 9
  nine_numbered = rw (number_of_lem now values, number_of_lem before values) a.nine

  pub others_numbered : is_of_the_four (numbered_by number_of now values).0 ≡ false → numbered_by number_of now values ≡ numbered_by number_of before values
  others_numbered e = rw (a.others (rw (number_of_lem now values) at e))

module _ (c : Config) (h : State) (o x : ℕ) where
  abbrev before : Order Refusal
  before = offset_order01 h o x

  abbrev now : Order Refusal
  now = offset_order c h o x

  -- no block begins at x
  none_there : block_at x h.blocks ≡ None → Refines before now
  none_there e =
      split (leb (16 * c.granules) x)
      (λ p. refines_nine before now refusal.PastEnd refl (rw e) (rw p))
      (λ p. split (eqb (x % 16) 0)
      (λ q. split_option (block_over (x / 16) h.blocks)
      (λ f. refines_nine before now refusal.FreeMemory refl (rw e) (rw (p, q, f)))
      (λ b f. refines_nine before now refusal.InsideBlock refl (rw e) (rw (p, q, f, lt-ltb b.start (x / 16) (over_inside x h.blocks b e f (omega tests))))))
      (λ q. refines_nine before now refusal.NotAligned refl (rw e) (rw (p, q))))

  -- a block does
  one_there : Kept c h → (b : Segment) → block_at x h.blocks ≡ Some b → Refines before now
  one_there k b e =
      refines_same before now (none_of_the_four c h x k b e (other_owner h.blocks o x ∷ []) ∙ rw e) (split (eqb b.owner o) (λ q. rw (e, q)) (λ q. rw (e, q)))

  -- What is asked of an offset, in a state as every call leaves it.
  pub offset_refines : Kept c h → Refines (offset_order01 h o x) (offset_order c h o x)
  offset_refines k = split_option (block_at x h.blocks) none_there (one_there k)

  -- Returns and size enquiries, of a heap that is valid or not.
  module _ (v : Bool) (k : v ≡ true → Kept c h) where
    pub size_refines : Refines (block_size_order01 v c h o x) (block_size_order v c h o x)
    unfolding block_size_order
    size_refines =
        refines_cons _ _ (invalid_heap v) refl (λ p. refines_cons _ _ (bad_owner o) refl (λ q. offset_refines (k (not-false v p))))

    -- A return's order refines document 01's with 19 last;
    pub free_refines : (arena : List ℕ) → Refines (guarded_free_order01 v c h arena o x) (free_order v c h arena o x)
    unfolding free_order
    free_refines arena =
        refines_cons _ _ (invalid_heap v) refl
        (λ p. refines_cons _ _ (other_arena c arena) refl (λ q. refines_cons _ _ (bad_owner o) refl
        (λ t. refines_then before now (broken_guard c h.blocks arena x ∷ []) (last arena) (offset_refines (k (not-false v p))))))
      where
        last : (arena : List ℕ) → is_of_the_four (refusal_number (broken_guard c h.blocks arena x ∷ [])) ≡ eqb (refusal_number (broken_guard c h.blocks arena x ∷ [])) 9
        last arena = split (broken_guard c h.blocks arena x).0 (λ q. rw q) (λ q. rw q)

    -- without guards it refines document 01's.
    pub free_refines_01 : c.guards ≡ 0 → (arena : List ℕ) → Refines (free_order01 v c h arena o x) (free_order v c h arena o x)
    free_refines_01 z arena =
        refines_without _ _ (broken_guard c h.blocks arena x) (no_19 c z h.blocks arena x) (free_refines arena)

-- Without guards an ask is refused as document 01 has it.
pub alloc_refines_01 : (v : Bool) (c : Config) (h : State) → c.guards ≡ 0 → (arena : List ℕ) (o n a : ℕ)
    → first_reason (alloc_order v c h arena o n a) ≡ first_reason (alloc_order01 v c h o n a)
unfolding alloc_order
alloc_refines_01 v c h z arena o n a = rw z
