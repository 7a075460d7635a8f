-- What a task may lean on of guards holds after every list of calls; and in a heap without guards no answer depends on the arena that an allocation finds.
-- Assumes nothing.
use mathlib.Core.Path.{◌≡◌, refl, sym, ap, ◌∙◌, subst}
use mathlib.Core.Bool.{Bool, true, false}
use mathlib.Core.List.{List, [], ◌∷◌}
use Rattle.std.specs.Prelude.{Some, is_none, Ok, Err, ◌&&◌, filter, find}
use Prim.Native.Nat.{ℕ, ◌+◌, ◌≤◌, ◌<◌}
use native.Mathlib.Omega.{arith}
use lib.Dec.{leb, ltb, eqb}
use borrow.Author.Tests.{leb-true, le-leb, lt-ltb, ltb-true, eq-eqb, ne_eqb}
use Rattle.model.specs.Quantities.{Config, in_range}
use Rattle.model.specs.Allocation.{State, fresh, offset, block_at, owned_by}
use Rattle.model.specs.Arena.{has_recorded_length, guard_offset, guard_bytes, in_guard}
use Rattle.model.specs.Orders.{first_reason, alloc_order, free_order}
use Rattle.model.specs.Rules as rules
use Rattle.model.specs.Rules.{init_config}
use Rattle.model.specs.Run.{after, history}
use Rattle.model.specs.Numbers.{Numbered, value_numbered, resized_numbered}
use Rattle.model.proofs.Choosing.{split, split_option, parts, clash, both_true, first_some}
use Rattle.model.proofs.Ordered.{Ordered, long}
use Rattle.model.proofs.Offsets.{Begins, begins}
use Rattle.model.proofs.Refitted.{free_refuses}
use Rattle.model.proofs.Kept.{Kept}
use Rattle.model.proofs.Guards.{alloc_blind, after_alloc_blind}
use Rattle.model.proofs.GuardsKept.{OwnWhole, requested_apart, own_alloc, own_free, own_realloc, FoundBroken, free_told, realloc_told, alloc_not_19, free_not_19, realloc_not_19, size_not_19, totals_not_19, holding_not_19}
use Rattle.heap.specs.Stored.{Stored, handed, store}
use Rattle.heap.specs.Calls as calls
use Rattle.heap.specs.Promises.{InitDone}
use Rattle.heap.proofs.Makes.{init_range, fresh_kept}
use Rattle.guarantee.specs.Lists.{Call, alloc, alloc_aligned, free, realloc, block_size, totals, holding, by_rules, execute, numbered}
use Rattle.guarantee.specs.Guarantee.{state_after, stored_after, Guaranteed}
use Rattle.guarantee.specs.Performed.{Entry, Performed, calls_of}
use Rattle.guarantee.specs.Guards.{if_recorded, found, arena_after, caller, is_requested, in_guard_of, not_requested, Unwritten, Never19, OwnGuardsHold, RequestedAlone, BrokenIsTold, GuardsHold}
use Rattle.guarantee.proofs.Steps.{keep, same, answers_same, leaves_same}
use Rattle.guarantee.proofs.Guarantee.{kept_after, guarantee}
use Rattle.guarantee.proofs.Performed.{performed_guaranteed}
use Rattle.heap.specs.declared.record.Initialized.{Initialized}
use Rattle.model.specs.declared.Segment.{Segment}
use Rattle.model.specs.declared.Plan.{Plan}
use Rattle.model.specs.declared.Refusal.TheVariants as refusal

-- the block at x, if it is o's and a test holds of it, is among o's blocks one of which the test holds
owned_first : (p : Segment → Bool) (o x : ℕ) (bs : List Segment) (b : Segment) → block_at x bs ≡ Some b → b.owner ≡ o → p b ≡ true
    → is_none (find p (owned_by o bs)) ≡ false
owned_first p o x [] b e mine t = let z : ◌≡◌ {A = ℕ} 0 1 = cc in absurd (omega arith)
owned_first p o x (a ∷ bs) b e mine t =
    split (eqb (offset a) x)
    (λ q. let e' : Some a ≡ Some b = rw q at e in
    let z : a ≡ b = cc in
    let u : p a ≡ true = subst (λ (d : Segment). p d ≡ true) (sym z) t in
    let w : a.owner ≡ o = ap (λ (d : Segment). d.owner) z ∙ mine in
    rw (eq-eqb a.owner o w, u))
    (λ q. let r : is_none (find p (owned_by o bs)) ≡ false = owned_first p o x bs b (rw q at e) mine t in
    split (eqb a.owner o) (λ w. rw w (split (p a) (λ u. rw u) (λ u. rw u r))) (λ w. rw w r))

-- the first of those picked is the first of which both tests hold
first_only : (p q : Segment → Bool) (bs : List Segment) (b : Segment) → find q (filter p bs) ≡ Some b → find (λ (d : Segment). p d && q d) bs ≡ Some b
first_only p q [] b e = e
first_only p q (a ∷ bs) b e =
    split (p a)
    (λ u. let e' : find q (a ∷ filter p bs) ≡ Some b = rw u at e in split (q a) (λ w. rw (u, w) (rw w at e')) (λ w. rw (u, w) (first_only p q bs b (rw w at e'))))
    (λ u. rw u (first_only p q bs b (rw u at e)))

-- a live block is at its offset
first_at : (c : Config) (p : Segment → Bool) (s : ℕ) (bs : List Segment) (b : Segment) → Ordered c s bs → find p bs ≡ Some b → block_at (offset b) bs ≡ Some b
first_at c p s [] b o e = let z : ◌≡◌ {A = ℕ} 0 1 = cc in absurd (omega arith)
first_at c p s (a ∷ bs) b o e =
    split (p a)
    (λ u. let e' : Some a ≡ Some b = rw u at e in
    let z : a ≡ b = cc in
    rw (eq-eqb (offset a) (offset b) (ap offset z)) e')
    (λ u. let r : block_at (offset b) bs ≡ Some b = first_at c p (a.start + a.length) bs b o.2 (rw u at e) in
    let f : Begins c (a.start + a.length) (offset b) bs b = begins c (a.start + a.length) (offset b) bs b o.2 r in
    rw (ne_eqb (offset a) (offset b) (λ z. absurd (omega (arith, f.from, long c a o.1)))) r)

module _ (c : Config) where
  -- what it says that a byte is in a block's guard
  in_guard_lem : (i : ℕ) (b : Segment) → in_guard c i b ≡ true → (guard_offset b ≤ i) × (i < guard_offset b + guard_bytes c)
  in_guard_lem i b e =
      let low : leb (guard_offset b) i ≡ true = search parts in
      let high : ltb i (guard_offset b + guard_bytes c) ≡ true = search parts in
      (leb-true (guard_offset b) i low, ltb-true i (guard_offset b + guard_bytes c) high)

  -- A byte in the guard of a live block is none that a live block was requested with.
  pub guard_not_requested : (o : ℕ) (h : State) → Kept c h → (i : ℕ) → in_guard_of c o h i ≡ true → not_requested h i ≡ true
  guard_not_requested o h k i e =
      split_option (find (is_requested i) h.blocks)
      (λ q. rw q)
      (λ b q. split_option (find (in_guard c i) (owned_by o h.blocks))
      (λ p. absurd (clash false (rw p at e) refl))
      (λ d p. let g : in_guard c i d ≡ true = first_some (in_guard c i) (owned_by o h.blocks) d p in
      let r : is_requested i b ≡ true = first_some (is_requested i) h.blocks b q in
      let from : leb (offset b) i ≡ true = search parts in
      let below : ltb i (offset b + b.requested) ≡ true = search parts in
      absurd (requested_apart c h k (offset b) (offset d) b d
      (first_at c (is_requested i) 0 h.blocks b k.ordered q)
      (first_at c (λ (a : Segment). eqb a.owner o && in_guard c i a) 0 h.blocks d k.ordered (first_only (λ (a : Segment). eqb a.owner o) (in_guard c i) h.blocks d p))
      i (leb-true (offset b) i from) (ltb-true i (offset b + b.requested) below) (in_guard_lem i d g).0 (in_guard_lem i d g).1)))

  -- Bytes that nobody writes to are a part of more such bytes.
  fewer_unwritten : (test fewer : State → ℕ → Bool) → ((h : State) → Kept c h → (i : ℕ) → fewer h i ≡ true → test h i ≡ true)
      → (h : State) (left : List ℕ) (ks : List Call) → Kept c h → Unwritten c test h left ks → Unwritten c fewer h left ks
  fewer_unwritten test fewer f h left [] k u = tt
  fewer_unwritten test fewer f h left (x ∷ ks) k u =
      ((λ i t. u.0 i (f h k i t)), fewer_unwritten test fewer f (by_rules c h x).1 (arena_after c h left x) ks (keep c h k x) u.1)

  -- A call that is handed an arena of another length changes no state: an allocation in a heap with guards,
  other_alloc : (h : State) (arena : List ℕ) (o n a : ℕ) → has_recorded_length c arena ≡ false → 1 ≤ c.guards → rules.after_alloc true c h arena o n a ≡ h
  unfolding alloc_order
  other_alloc h arena o n a q g = rw (lt-ltb 0 c.guards g, q)

  -- a free
  other_free : (h : State) (arena : List ℕ) (o x : ℕ) → has_recorded_length c arena ≡ false → first_reason (free_order true c h arena o x) ≡ Some refusal.ArenaLength
  unfolding free_order
  other_free h arena o x q = rw q

  -- and a resize.
  other_realloc : (h : State) (arena : List ℕ) (o x n : ℕ) → has_recorded_length c arena ≡ false → rules.after_realloc true c h arena o x n ≡ h
  other_realloc h arena o x n q = rw (free_refuses true c h arena o x n refusal.ArenaLength (other_free h arena o x q))

  -- A call of a task whose guards are whole in the arena found
  module _ (h : State) (k : Kept c h) (left : List ℕ) where
    -- is not answered 19,
    not_19 : (x : Call) → OwnWhole c (caller x) h (found c left x) → (numbered x (by_rules c h x).0).0 ≡ 19 → ⊥
    not_19 (alloc arena o n) own e = alloc_not_19 true c h arena o n 16 e
    not_19 (alloc_aligned arena o n a) own e = alloc_not_19 true c h arena o n a e
    not_19 (free arena o x) own e = free_not_19 true c h arena o x (λ q. rw q at own) e
    not_19 (realloc arena o x n) own e = realloc_not_19 true c h arena o x n (λ q. rw q at own) e
    not_19 (block_size o x) own e = size_not_19 true c h o x e
    not_19 totals own e = totals_not_19 true c h e
    not_19 (holding o) own e = holding_not_19 true c h o e

    -- and a call of any task leaves them whole.
    module _ (o : ℕ) where
      by_length : (arena bytes : List ℕ) (after : State) → (OwnWhole c o h arena → OwnWhole c o after bytes) → (has_recorded_length c arena ≡ false → OwnWhole c o h left → OwnWhole c o after left)
          → OwnWhole c o h (if_recorded c arena arena left) → OwnWhole c o after (if_recorded c arena bytes left)
      by_length arena bytes after f g own = split (has_recorded_length c arena) (λ q. rw q (f (rw q at own))) (λ q. rw q (g q (rw q at own)))

      same_whole : (after : State) → after ≡ h → OwnWhole c o h left → OwnWhole c o after left
      same_whole after e own = subst (λ (s : State). OwnWhole c o s left) (sym e) own

      whole_alloc : (arena : List ℕ) (p n a : ℕ) → OwnWhole c o h (if_recorded c arena arena left)
          → OwnWhole c o (rules.after_alloc true c h arena p n a) (if_recorded c arena (rules.arena_after_alloc true c h arena p n a) left)
      whole_alloc arena p n a own =
          by_length arena (rules.arena_after_alloc true c h arena p n a) (rules.after_alloc true c h arena p n a)
          (λ own. own_alloc c h k o true arena own p n a)
          (λ q own y b e mine i low high. same_whole (rules.after_alloc true c h arena p n a) (other_alloc h arena p n a q (omega arith)) own y b e mine i low high)
          own

      stays_whole : (x : Call) → OwnWhole c o h (found c left x) → OwnWhole c o (by_rules c h x).1 (arena_after c h left x)
      stays_whole (alloc arena p n) own = whole_alloc arena p n 16 own
      stays_whole (alloc_aligned arena p n a) own = whole_alloc arena p n a own
      stays_whole (free arena p x) own =
          by_length arena (rules.arena_after_free true c h arena p x) (rules.after_free true c h arena p x)
          (λ own. own_free c h k o true arena own p x) (λ q. same_whole (rules.after_free true c h arena p x) (rw (other_free h arena p x q))) own
      stays_whole (realloc arena p x n) own =
          by_length arena (rules.arena_after_realloc true c h arena p x n) (rules.after_realloc true c h arena p x n)
          (λ own. own_realloc c h k o true arena own p x n) (λ q. same_whole (rules.after_realloc true c h arena p x n) (other_realloc h arena p x n q)) own
      stays_whole (block_size p x) own = own
      stays_whole totals own = own
      stays_whole (holding p) own = own

  -- So a task to whose guards, whole at first, nobody writes never gets 19.
  pub own_hold : (o : ℕ) (h : State) (left : List ℕ) (ks : List Call) → Kept c h → OwnWhole c o h left → Unwritten c (in_guard_of c o) h left ks → Never19 o (history (by_rules c) h ks)
  own_hold o h left [] k own u = tt
  own_hold o h left (x ∷ ks) k own u =
      let own' : OwnWhole c o h (found c left x) =
      λ y b e mine i low high.
      u.0 i (rw (owned_first (in_guard c i) o y h.blocks b e mine (rw (le-leb (guard_offset b) i low, lt-ltb i (guard_offset b + guard_bytes c) high))))
      ∙ own y b e mine i low high in (
        (λ mine e. not_19 h k left x (subst (λ (p : ℕ). OwnWhole c p h (found c left x)) (sym mine) own') e),
        own_hold o (by_rules c h x).1 (arena_after c h left x) ks (keep c h k x) (stays_whole h k left o x own') u.1,
      )

-- After a making that is not refused, and a list of calls:
module _ (arena words : List ℕ) (p : Plan) (done : calls.init arena words p ≡ Ok tt) (ks : List Call) where
  abbrev c : Config
  c = init_config arena words p

  ranged : in_range c ≡ true
  ranged = init_range arena words p done

  kept : Kept c fresh
  kept = fresh_kept c ranged

  claim : Guaranteed c (calls.after_init arena words p) ks
  claim = guarantee arena words p done ks

  own_guards : OwnGuardsHold arena words p ks
  own_guards o u =
      subst (Never19 o) (sym claim.answers)
      (own_hold c o fresh (calls.arena_after_init arena words p) ks kept (λ x b e. let z : ◌≡◌ {A = ℕ} 0 1 = cc in absurd (omega arith)) u)

  requested_alone : RequestedAlone arena words p ks
  requested_alone u o =
      own_guards o (fewer_unwritten c not_requested (in_guard_of c o) (guard_not_requested c o) fresh (calls.arena_after_init arena words p) ks kept u)

  broken_told : BrokenIsTold arena words p ks
  broken_told bytes whole x b e i g d n =
      let h : State = state_after c ks in
      let k : Kept c h = kept_after c fresh ks kept in
      let o : ℕ = b.owner in
      let at : Begins c 0 x h.blocks b = begins c 0 x h.blocks b k.ordered e in
      let f : FoundBroken true c h bytes o x =
      record {
        valid = refl;
        whole = whole;
        owner = both_true _ _ (le-leb 1 o at.live.owned) (le-leb o 8 at.live.known);
        block = b;
        found = e;
        owned = refl;
        byte = i;
        low = (in_guard_lem c i b g).0;
        high = (in_guard_lem c i b g).1;
        differs = d;
      } in
      let st : stored_after (calls.after_init arena words p) ks ≡ store c h = claim.stored in
      let told : (rules.free true c h bytes o x ≡ Err refusal.BrokenGuard) × (rules.after_free true c h bytes o x ≡ h) × (rules.arena_after_free true c h bytes o x ≡ bytes) =
      free_told true c h bytes o x k f in
      let told' : (rules.realloc true c h bytes o x n ≡ Err refusal.BrokenGuard) × (rules.after_realloc true c h bytes o x n ≡ h) × (rules.arena_after_realloc true c h bytes o x n ≡ bytes) =
      realloc_told true c h bytes o x k f n in
      record {
        valid = claim.valid;
        free = ap (λ (s : Stored). value_numbered (calls.free s bytes o x)) st ∙ ap value_numbered (answers_same c h k ranged (free bytes o x) ∙ told.0);
        free_leaves = ap (λ (s : Stored). calls.after_free s bytes o x) st ∙ leaves_same c h k ranged (free bytes o x) ∙ ap (store c) told.1 ∙ sym st;
        free_bytes = ap (λ (s : Stored). calls.arena_after_free s bytes o x) st ∙ same c h k ranged (λ v s. rules.arena_after_free v c s bytes o x) ∙ told.2;
        realloc = ap (λ (s : Stored). resized_numbered (calls.realloc s bytes o x n)) st ∙ ap resized_numbered (answers_same c h k ranged (realloc bytes o x n) ∙ told'.0);
        realloc_leaves = ap (λ (s : Stored). calls.after_realloc s bytes o x n) st ∙ leaves_same c h k ranged (realloc bytes o x n) ∙ ap (store c) told'.1 ∙ sym st;
        realloc_bytes = ap (λ (s : Stored). calls.arena_after_realloc s bytes o x n) st ∙ same c h k ranged (λ v s. rules.arena_after_realloc v c s bytes o x n) ∙ told'.2;
      }

-- The three hold.
pub guards_hold : GuardsHold
guards_hold = record { own = own_guards; requested = requested_alone; broken = broken_told }

-- Of a list as the functions perform it, after a making that leaves some arena, of each of which nothing is said but its promise:
module _ (arena words : List ℕ) (p : Plan) (out : Initialized) (arena_left words_left : List ℕ) (d : InitDone arena words p out arena_left words_left) (done : out.answer ≡ Ok tt)
    (es : List Entry) (t : Stored) (run : Performed (handed out.heap words_left) es t) where
  made_done : calls.init arena words p ≡ Ok tt
  made_done = sym d.answer ∙ done

  -- an answer is none of 19 by the rules, so none of the functions
  as_performed : (o : ℕ) → Never19 o (history execute (calls.after_init arena words p) (calls_of es)) → Never19 o es
  as_performed o n =
      subst (Never19 o) ((guarantee arena words p made_done (calls_of es)).answers ∙ sym (performed_guaranteed arena words p out arena_left words_left d done es t run).answers) n

  -- a task to whose guards nobody writes never gets 19,
  pub performed_own : (o : ℕ) → Unwritten (init_config arena words p) (in_guard_of (init_config arena words p) o) fresh arena_left (calls_of es) → Never19 o es
  performed_own o u =
      as_performed o (own_guards arena words p made_done (calls_of es) o
      (subst (λ (l : List ℕ). Unwritten (init_config arena words p) (in_guard_of (init_config arena words p) o) fresh l (calls_of es)) d.arena u))

  -- and no task does if only bytes are written that some live block was requested with.
  pub performed_requested : Unwritten (init_config arena words p) not_requested fresh arena_left (calls_of es) → (o : ℕ) → Never19 o es
  performed_requested u o =
      as_performed o (requested_alone arena words p made_done (calls_of es)
      (subst (λ (l : List ℕ). Unwritten (init_config arena words p) not_requested fresh l (calls_of es)) d.arena u) o)

-- A call, an allocation handed no byte of the arena.
abbrev pub unlent : Call → Call
unlent (alloc arena o n) = alloc [] o n
unlent (alloc_aligned arena o n a) = alloc_aligned [] o n a
unlent (free arena o x) = free arena o x
unlent (realloc arena o x n) = realloc arena o x n
unlent (block_size o x) = block_size o x
unlent totals = totals
unlent (holding o) = holding o

-- A list of calls, its allocations handed no byte of the arena.
abbrev pub all_unlent : List Call → List Call
all_unlent [] = []
all_unlent (k ∷ ks) = unlent k ∷ all_unlent ks

-- The number and the values of each answer.
abbrev pub numbers : List Entry → List Numbered
numbers [] = []
numbers (e ∷ es) = numbered e.0 e.1 ∷ numbers es

-- by the rules, in a heap without guards
module _ (c : Config) (z : c.guards ≡ 0) where
  same_number : (h : State) (x : Call) → numbered x (by_rules c h x).0 ≡ numbered (unlent x) (by_rules c h (unlent x)).0
  same_number h (alloc arena o n) = ap value_numbered (alloc_blind c z true h arena [] o n 16)
  same_number h (alloc_aligned arena o n a) = ap value_numbered (alloc_blind c z true h arena [] o n a)
  same_number h (free arena o x) = refl
  same_number h (realloc arena o x n) = refl
  same_number h (block_size o x) = refl
  same_number h totals = refl
  same_number h (holding o) = refl

  same_state : (h : State) (x : Call) → (by_rules c h x).1 ≡ (by_rules c h (unlent x)).1
  same_state h (alloc arena o n) = after_alloc_blind c z true h arena [] o n 16
  same_state h (alloc_aligned arena o n a) = after_alloc_blind c z true h arena [] o n a
  same_state h (free arena o x) = refl
  same_state h (realloc arena o x n) = refl
  same_state h (block_size o x) = refl
  same_state h totals = refl
  same_state h (holding o) = refl

  same_numbers : (h : State) (ks : List Call) → numbers (history (by_rules c) h ks) ≡ numbers (history (by_rules c) h (all_unlent ks))
  same_numbers h [] = refl
  same_numbers h (x ∷ ks) =
      ap (λ (r : List Numbered). numbered x (by_rules c h x).0 ∷ r) (same_numbers (by_rules c h x).1 ks)
      ∙ (λ i. same_number h x i ∷ numbers (history (by_rules c) (same_state h x i) (all_unlent ks)))

  same_states : (h : State) (ks : List Call) → after (by_rules c) h ks ≡ after (by_rules c) h (all_unlent ks)
  same_states h [] = refl
  same_states h (x ∷ ks) = same_states (by_rules c h x).1 ks ∙ ap (λ (s : State). after (by_rules c) s (all_unlent ks)) (same_state h x)

-- In a heap without guards every list of calls answers and leaves the same if its allocations are handed no byte of the arena: nothing depends on what they find there, nor on how much.
pub without_guards : (arena words : List ℕ) (p : Plan) → calls.init arena words p ≡ Ok tt → p.guarded ≡ false → (ks : List Call)
    → (numbers (history execute (calls.after_init arena words p) ks) ≡ numbers (history execute (calls.after_init arena words p) (all_unlent ks)))
    × (stored_after (calls.after_init arena words p) ks ≡ stored_after (calls.after_init arena words p) (all_unlent ks))
without_guards arena words p done e ks =
    let c : Config = init_config arena words p in
    let z : c.guards ≡ 0 = rw e in
    let g : Guaranteed c (calls.after_init arena words p) ks = guarantee arena words p done ks in
    let g' : Guaranteed c (calls.after_init arena words p) (all_unlent ks) = guarantee arena words p done (all_unlent ks) in
    (ap numbers g.answers ∙ same_numbers c z fresh ks ∙ ap numbers (sym g'.answers), g.stored ∙ ap (store c) (same_states c z fresh ks) ∙ sym g'.stored)
