-- A second free gets 17 while its place is free: a law over a history, in which a block was freed and nothing was lent over its place since; and so does a return of what a resize gave back.
-- Assumes nothing.
use mathlib.Core.Path.{◌≡◌, refl, ap, sym, ◌∙◌, subst}
use mathlib.Core.Bool.{Bool, true, false, not}
use mathlib.Core.List.{List, [], ◌∷◌}
use Rattle.std.specs.Prelude.{None, Some, Result, Ok, Err}
use Rattle.std.specs.List.{list_all}
use Prim.Native.Nat.{ℕ, ◌+◌, ◌*◌, ◌/◌, ◌%◌, ◌≤◌, ◌<◌}
use native.Mathlib.Omega.{arith}
use lib.Dec.{eqb}
use lib.ListN.{replicate}
use borrow.Author.Tests.{not-true}
use Rattle.model.specs.Quantities.{is_owner, Config, in_range}
use Rattle.model.specs.Allocation.{State, fresh, block, block_at, bytes, has_granule, block_over, without}
use Rattle.model.specs.Arena.{has_recorded_length}
use Rattle.model.specs.Orders.{first_reason, alloc_order, free_order, realloc_order, block_size_order, block_order, init_order}
use Rattle.model.specs.Rules as rules
use Rattle.model.specs.Rules.{init_config, as_resize}
use Rattle.model.specs.Run.{after, history}
use Rattle.model.proofs.Choosing.{split, split_option, tests, every_head, every_tail}
use Rattle.model.proofs.Offsets.{over_insert, over_only, over_without, in_granule, Begins, begins}
use Rattle.model.proofs.Allocated.{Allocated, allocated}
use Rattle.model.proofs.Released.{Released, answered}
use Rattle.model.proofs.Refitted.{free_refuses, Accepted, accepted}
use Rattle.model.proofs.ZeroSize.{zero_order, zero_answer}
use Rattle.model.proofs.Kept.{Kept}
use Rattle.model.proofs.Asked.{block_refuses, size_asks, free_memory_lem}
use Rattle.heap.specs.Stored.{Stored, handed, store}
use Rattle.heap.specs.Valid.{valid}
use Rattle.heap.specs.Promises.{InitDone}
use Rattle.heap.specs.Calls.{init, after_init, free, after_free, realloc, after_realloc, is_valid, config, state}
use Rattle.heap.specs.Calls as heap_calls
use Rattle.heap.proofs.Makes.{init_range, init_leaves, fresh_kept}
use Rattle.guarantee.specs.Lists.{Call, alloc, alloc_aligned, free as return, realloc as resize, block_size, totals, holding, Answer, by_rules, execute}
use Rattle.guarantee.specs.Guarantee.{state_after, stored_after}
use Rattle.guarantee.specs.Performed.{Entry, Promised, Performed, calls_of}
use Rattle.guarantee.specs.Cases.{arena, plan, small}
use Rattle.guarantee.proofs.Steps.{keep, answers_same, leaves_same}
use Rattle.guarantee.proofs.Guarantee.{kept_after, stored_after_lem, history_same}
use Rattle.guarantee.proofs.Performed.{promised, performed}
use Rattle.model.specs.declared.Segment.{Segment}
use Rattle.model.specs.declared.Plan.{Plan}
use Rattle.model.specs.declared.Refusal.TheVariants as refusal
use Rattle.model.specs.declared.Resized.{Resized}
use Rattle.model.specs.declared.Resized.TheVariants as resized
use Rattle.heap.specs.declared.record.Initialized.{Initialized}
use Rattle.model.specs.declared.Refusal.{Refusal}

module _ (c : Config) (i : ℕ) where
  -- An allocation of n bytes that is answered so is lent granule i: its block has it.
  abbrev pub lent_by : ℕ → ℕ → Result ℕ Refusal → Bool
  lent_by o n (Ok x) = has_granule i (block c o n (x / 16))
  lent_by o n (Err r) = false

  -- A resize to n bytes that is answered so is lent granule i: the block that is left has it, whether or not it had it before.
  abbrev pub left_by : ℕ → ℕ → Result Resized Refusal → Bool
  left_by o n (Ok (resized.At y)) = has_granule i (block c o n (y / 16))
  left_by o n (Ok (resized.Freed k)) = false
  left_by o n (Err r) = false

  -- A call with its answer is lent granule i; only allocations and resizes are lent any.
  abbrev pub is_lent : (k : Call) → Answer k → Bool
  is_lent (alloc arena o n) r = lent_by o n r
  is_lent (alloc_aligned arena o n a) r = lent_by o n r
  is_lent (return arena o x) r = false
  is_lent (resize arena o x n) r = left_by o n r
  is_lent (block_size o x) r = false
  is_lent totals r = false
  is_lent (holding o) r = false

  -- In a history nothing is lent over granule i.
  abbrev pub nothing_lent : List Entry → Bool
  nothing_lent es = list_all (λ (e : Entry). not (is_lent e.0 e.1)) es

  -- a call that is not lent a granule that no live block has leaves it so
  alloc_stays : (h : State) (arena : List ℕ) (o n a : ℕ) → lent_by o n (rules.alloc true c h arena o n a) ≡ false → block_over i h.blocks ≡ None
      → block_over i (rules.after_alloc true c h arena o n a).blocks ≡ None
  alloc_stays h arena o n a l e =
      split_option (first_reason (alloc_order true c h arena o n a))
      (λ q. let r : Allocated c h o n a = allocated c h true arena o n a q in
      let z : (16 * r.start) / 16 ≡ r.start = omega arith in
      rw (q, r.fits) (over_insert i (block c o n r.start) h.blocks (rw (q, r.fits, z) at l) e))
      (λ r q. rw q e)

  -- and so does a resize that is not refused, where no other block has it
  resize_stays : (h : State) (arena : List ℕ) (o x n : ℕ) → first_reason (realloc_order true c h arena o x n) ≡ None
      → left_by o n (rules.realloc true c h arena o x n) ≡ false → block_over i (without x h.blocks) ≡ None
      → block_over i (rules.after_realloc true c h arena o x n).blocks ≡ None
  resize_stays h arena o x n q l e =
      split (eqb n 0)
      (λ z. rw (q, z) e)
      (λ z. let r : Accepted true c h arena o x n = accepted true c h arena o x n (omega tests) q in
      let w : (16 * r.place.start) / 16 ≡ r.place.start = omega arith in
      rw (q, z, r.place.fits) (over_insert i (block c o n r.place.start) (without x h.blocks) (rw (q, z, r.place.fits, w) at l) e))

  stays : (h : State) (k : Call) → is_lent k (by_rules c h k).0 ≡ false → block_over i h.blocks ≡ None → block_over i (by_rules c h k).1.blocks ≡ None
  stays h (alloc arena o n) l e = alloc_stays h arena o n 16 l e
  stays h (alloc_aligned arena o n a) l e = alloc_stays h arena o n a l e
  stays h (return arena o x) l e =
      split_option (first_reason (free_order true c h arena o x)) (λ q. rw q (over_only i _ h.blocks e)) (λ r q. rw q e)
  stays h (resize arena o x n) l e =
      split_option (first_reason (realloc_order true c h arena o x n)) (λ q. resize_stays h arena o x n q l (over_only i _ h.blocks e)) (λ r q. rw q e)
  stays h (block_size o x) l e = e
  stays h totals l e = e
  stays h (holding o) l e = e

  -- and so does a list
  stays_free : (h : State) (ls : List Call) → nothing_lent (history (by_rules c) h ls) ≡ true → block_over i h.blocks ≡ None
      → block_over i (after (by_rules c) h ls).blocks ≡ None
  stays_free h [] n e = e
  stays_free h (k ∷ ks) n e =
      let es : List Entry = history (by_rules c) (by_rules c h k).1 ks in
      let p : Entry → Bool = λ (e : Entry). not (is_lent e.0 e.1) in
      stays_free (by_rules c h k).1 ks (every_tail p (k, (by_rules c h k).0) es n) (stays h k (not-true _ (every_head p (k, (by_rules c h k).0) es n)) e)

-- On the heap s a list of calls follows in which nothing is lent over the granule of y: after it a free of y that is lent the whole arena, an enquiry for
-- its size, and a resize of it that is lent the whole arena get 17, whichever owner asks.
abbrev pub Gets17 : Config → Stored → List Call → ℕ → Type 0
Gets17 c s ks y =
    nothing_lent c (y / 16) (history execute s ks) ≡ true
    → (arena : List ℕ) (o : ℕ) → has_recorded_length c arena ≡ true → is_owner o ≡ true
    → (free (stored_after s ks) arena o y ≡ Err refusal.FreeMemory) × (heap_calls.block_size (stored_after s ks) o y ≡ Err refusal.FreeMemory)
    × ((n : ℕ) → realloc (stored_after s ks) arena o y n ≡ Err refusal.FreeMemory)

-- of a heap that is written down, in a state as every call leaves it
module _ (c : Config) (ranged : in_range c ≡ true) (h : State) (k : Kept c h) where
  -- a granule of the arena that no live block has
  free_17 : (ks : List Call) (y : ℕ) → y % 16 ≡ 0 → y / 16 < c.granules → block_over (y / 16) h.blocks ≡ None → Gets17 c (store c h) ks y
  free_17 ks y aligned inside e n arena o whole owner =
      let g : State = after (by_rules c) h ks in
      let gk : Kept c g = kept_after c h ks k in
      let over : block_over (y / 16) g.blocks ≡ None = stays_free c (y / 16) h ks (ap (λ (es : List Entry). nothing_lent c (y / 16) es) (sym (history_same c ranged h ks k)) ∙ n) e in
      let why : first_reason (block_order c g o y) ≡ Some refusal.FreeMemory = free_memory_lem c g o y owner (y / 16) (omega arith) inside over in
      let f : first_reason (free_order true c g arena o y) ≡ Some refusal.FreeMemory = block_refuses c g arena o y whole refusal.FreeMemory why in
      let b : first_reason (block_size_order true c g o y) ≡ Some refusal.FreeMemory = size_asks c g o y ∙ why in (
        ap (λ (s : Stored). free s arena o y) (stored_after_lem c ranged h ks k) ∙ answers_same c g gk ranged (return arena o y) ∙ rw f,
        ap (λ (s : Stored). heap_calls.block_size s o y) (stored_after_lem c ranged h ks k) ∙ answers_same c g gk ranged (block_size o y) ∙ rw b,
        λ n. ap (λ (s : Stored). realloc s arena o y n) (stored_after_lem c ranged h ks k) ∙ answers_same c g gk ranged (resize arena o y n) ∙ rw (free_refuses true c g arena o y n refusal.FreeMemory f),
      )

-- the block that is freed there
module _ (c : Config) (ranged : in_range c ≡ true) (h : State) (k : Kept c h) (arena : List ℕ) (o x held : ℕ) (e : rules.free true c h arena o x ≡ Ok held) where
  abbrev Found : Type 0
  Found = (r : Released true c h arena o x) × (first_reason (free_order true c h arena o x) ≡ None) × (held ≡ bytes r.block)

  found : Found
  found = answered true c h arena o x held e

  at : Begins c 0 x h.blocks found.0.block
  at = begins c 0 x h.blocks found.0.block k.ordered found.0.found

  at_first : (x < x + held) × (x % 16 ≡ 0)
  at_first = (omega (arith, found.2, at.long), omega (arith, at.first))

  returned_17 : (ks : List Call) (y : ℕ) → x ≤ y → y < x + held → y % 16 ≡ 0 → Gets17 c (store c (by_rules c h (return arena o x)).1) ks y
  returned_17 ks y low high aligned =
      let b : Segment = found.0.block in
      let in_block : has_granule (y / 16) b ≡ true = in_granule (y / 16) b (omega (arith, at.first)) (omega (arith, at.first, found.2)) in
      let over : block_over (y / 16) (by_rules c h (return arena o x)).1.blocks ≡ None =
      rw found.1 (over_without c 0 x (y / 16) h.blocks b k.ordered found.0.found in_block) in
      free_17 c ranged (by_rules c h (return arena o x)).1 (keep c h k (return arena o x)) ks y aligned (omega (arith, at.first, at.inside, found.2)) over

-- the old place of a block that is resized there
module _ (c : Config) (ranged : in_range c ≡ true) (h : State) (k : Kept c h) (arena : List ℕ) (o x n y : ℕ) (e : rules.realloc true c h arena o x n ≡ Ok (resized.At y)) where
  granted : first_reason (realloc_order true c h arena o x n) ≡ None
  granted =
      split_option (first_reason (realloc_order true c h arena o x n))
      (λ q. q)
      (λ r q. let w : Err r ≡ Ok (resized.At y) = rw q at e in let z : ◌≡◌ {A = ℕ} 0 1 = cc in absurd (omega arith))

  resized_17 : (ks : List Call) (b : Segment) → block_at x h.blocks ≡ Some b → (z : ℕ) → x ≤ z → z < x + bytes b → z % 16 ≡ 0
      → has_granule (z / 16) (block c o n (y / 16)) ≡ false → Gets17 c (store c (by_rules c h (resize arena o x n)).1) ks z
  resized_17 ks b found z low high aligned clear =
      let at : Begins c 0 x h.blocks b = begins c 0 x h.blocks b k.ordered found in
      let in_block : has_granule (z / 16) b ≡ true = in_granule (z / 16) b (omega (arith, at.first)) (omega (arith, at.first)) in
      let over : block_over (z / 16) (by_rules c h (resize arena o x n)).1.blocks ≡ None =
      resize_stays c (z / 16) h arena o x n granted (ap (left_by c (z / 16) o n) e ∙ clear) (over_without c 0 x (z / 16) h.blocks b k.ordered found in_block) in
      free_17 c ranged (by_rules c h (resize arena o x n)).1 (keep c h k (resize arena o x n)) ks z aligned (omega (arith, at.first, at.inside)) over

-- what a free answers where a resize answers so
as_free : (r : Result ℕ Refusal) (k : ℕ) → as_resize r ≡ Ok (resized.Freed k) → r ≡ Ok k
as_free (Ok j) k e = cc
as_free (Err why) k e = let z : ◌≡◌ {A = ℕ} 0 1 = cc in absurd (omega arith)

-- After a making that is not refused, and a list of calls:
module _ (arena words : List ℕ) (p : Plan) (done : init arena words p ≡ Ok tt) (before : List Call) where
  abbrev c : Config
  c = init_config arena words p

  abbrev h : State
  h = state_after c before

  ranged : in_range c ≡ true
  ranged = init_range arena words p done

  kept : Kept c h
  kept = kept_after c fresh before (fresh_kept c ranged)

  stored : stored_after (after_init arena words p) before ≡ store c h
  stored = ap (λ (s : Stored). stored_after s before) (init_leaves arena words p done) ∙ stored_after_lem c ranged fresh before (fresh_kept c ranged)

  -- a multiple of 16 in the arena whose granule no live block has gets 17 for as long as nothing is lent over it.
  pub free_gets_17 : (since : List Call) (y : ℕ) → y % 16 ≡ 0 → y / 16 < (init_config arena words p).granules
      → block_over (y / 16) (state_after (init_config arena words p) before).blocks ≡ None
      → Gets17 (init_config arena words p) (stored_after (after_init arena words p) before) since y
  free_gets_17 since y aligned inside e = subst (λ (s : Stored). Gets17 c s since y) (sym stored) (free_17 c ranged h kept since y aligned inside e)

  -- Then a free by o of the block at x, handed these bytes, answers k, and another list follows:
  module _ (bytes : List ℕ) (o x k : ℕ) (granted : free (stored_after (after_init arena words p) before) bytes o x ≡ Ok k) (since : List Call) where
    left : after_free (stored_after (after_init arena words p) before) bytes o x ≡ store c (by_rules c h (return bytes o x)).1
    left = ap (λ (s : Stored). after_free s bytes o x) stored ∙ leaves_same c h kept ranged (return bytes o x)

    held : rules.free true c h bytes o x ≡ Ok k
    held = sym (answers_same c h kept ranged (return bytes o x)) ∙ ap (λ (s : Stored). free s bytes o x) (sym stored) ∙ granted

    -- each multiple of 16 in the block's place gets 17 for as long as nothing is lent over its granule,
    pub freed_gets_17 : (y : ℕ) → x ≤ y → y < x + k → y % 16 ≡ 0
        → Gets17 (init_config arena words p) (after_free (stored_after (after_init arena words p) before) bytes o x) since y
    freed_gets_17 y low high aligned = subst (λ (s : Stored). Gets17 c s since y) (sym left) (returned_17 c ranged h kept bytes o x k held since y low high aligned)

    -- and so does x itself: a second free gets 17 while its place is free.
    pub second_free : Gets17 (init_config arena words p) (after_free (stored_after (after_init arena words p) before) bytes o x) since x
    second_free = let f = at_first c ranged h kept bytes o x k held in freed_gets_17 x (omega arith) f.0 f.1

  -- A resize instead, by o of the block at x to n bytes, answers y, and another list follows: each multiple of 16 in the block's old place that its new place has not,
  -- the tail of a shorter one and all of a moved one, gets 17 for as long as nothing is lent over its granule.
  pub resized_gets_17 : (content : List ℕ) (o x n y : ℕ) → realloc (stored_after (after_init arena words p) before) content o x n ≡ Ok (resized.At y) → (since : List Call)
      → (b : Segment) → block_at x (state_after (init_config arena words p) before).blocks ≡ Some b
      → (z : ℕ) → x ≤ z → z < x + bytes b → z % 16 ≡ 0 → has_granule (z / 16) (block (init_config arena words p) o n (y / 16)) ≡ false
      → Gets17 (init_config arena words p) (after_realloc (stored_after (after_init arena words p) before) content o x n) since z
  resized_gets_17 content o x n y at since b found z low high aligned clear =
      let left : after_realloc (stored_after (after_init arena words p) before) content o x n ≡ store c (by_rules c h (resize content o x n)).1 =
      ap (λ (s : Stored). after_realloc s content o x n) stored ∙ leaves_same c h kept ranged (resize content o x n) in
      let answer : rules.realloc true c h content o x n ≡ Ok (resized.At y) =
      sym (answers_same c h kept ranged (resize content o x n)) ∙ ap (λ (s : Stored). realloc s content o x n) (sym stored) ∙ at in
      subst (λ (s : Stored). Gets17 c s since z) (sym left) (resized_17 c ranged h kept content o x n y answer since b found z low high aligned clear)

  -- A resize to size 0 that answers k is a return: each multiple of 16 in the block's place gets 17, as after a free.
  pub zero_gets_17 : (content : List ℕ) (o x k : ℕ) → realloc (stored_after (after_init arena words p) before) content o x 0 ≡ Ok (resized.Freed k) → (since : List Call)
      → (y : ℕ) → x ≤ y → y < x + k → y % 16 ≡ 0
      → Gets17 (init_config arena words p) (after_realloc (stored_after (after_init arena words p) before) content o x 0) since y
  zero_gets_17 content o x k e since y low high aligned =
      let s : Stored = stored_after (after_init arena words p) before in
      rw (zero_order (is_valid s) (config s) (state s) content o x)
      (freed_gets_17 content o x k (as_free _ k (sym (zero_answer (is_valid s) (config s) (state s) content o x) ∙ e)) since y low high aligned)

-- The same of a second free as the functions do it, each keeping its promise: a making that is not refused, calls with their answers, a free of the block at x that answers k,
-- and calls whose answers lend nothing over the granule of x; the next free of x answers 17.
pub second_free_performed : (arena words : List ℕ) (p : Plan) (out : Initialized) (arena_left words_left : List ℕ) → InitDone arena words p out arena_left words_left → out.answer ≡ Ok tt
    → (es : List Entry) (s : Stored) → Performed (handed out.heap words_left) es s
    → (bytes : List ℕ) (o x k : ℕ) (t : Stored) → Promised s (return bytes o x) (Ok k) t
    → (ds : List Entry) (u : Stored) → Performed t ds u → nothing_lent (init_config arena words p) (x / 16) ds ≡ true
    → (again : List ℕ) (owner : ℕ) → has_recorded_length (init_config arena words p) again ≡ true → is_owner owner ≡ true
    → (r : Result ℕ Refusal) (v : Stored) → Promised u (return again owner x) r v → r ≡ Err refusal.FreeMemory
second_free_performed arena words p out arena_left words_left d done es s run bytes o x k t f ds u more n again owner whole known r v g =
    let c : Config = init_config arena words p in
    let made : handed out.heap words_left ≡ after_init arena words p = λ i. record { heap = d.heap i; words = d.table i } in
    let before : s ≡ stored_after (after_init arena words p) (calls_of es) =
    (performed (handed out.heap words_left) es s run).1 ∙ ap (λ (w : Stored). stored_after w (calls_of es)) made in
    let one : (Ok k ≡ free s bytes o x) × (t ≡ after_free s bytes o x) = promised s (return bytes o x) (Ok k) t f in
    let granted : free (stored_after (after_init arena words p) (calls_of es)) bytes o x ≡ Ok k = ap (λ (w : Stored). free w bytes o x) (sym before) ∙ sym one.0 in
    let left : t ≡ after_free (stored_after (after_init arena words p) (calls_of es)) bytes o x = one.1 ∙ ap (λ (w : Stored). after_free w bytes o x) before in
    let then : (ds ≡ history execute t (calls_of ds)) × (u ≡ stored_after t (calls_of ds)) = performed t ds u more in
    let gets : Gets17 c t (calls_of ds) x =
    subst (λ (w : Stored). Gets17 c w (calls_of ds) x) (sym left) (second_free arena words p (sym d.answer ∙ done) (calls_of es) bytes o x k granted (calls_of ds)) in
    let unlent : nothing_lent c (x / 16) (history execute t (calls_of ds)) ≡ true = ap (λ (es : List Entry). nothing_lent c (x / 16) es) (sym then.0) ∙ n in
    (promised u (return again owner x) r v g).0 ∙ ap (λ (w : Stored). free w again owner x) then.1 ∙ (gets unlent again owner whole known).0

-- On the heap of P5 to P13 owner 1 is lent 48 bytes at 0, owner 2 16 at 64 and owner 1 32 at 80; owner 1 frees 0.
abbrev calls : List Call
calls = alloc arena 1 40 ∷ alloc_aligned arena 2 16 32 ∷ alloc arena 1 17 ∷ []

abbrev once_freed : Stored
once_freed = after_free (stored_after small calls) arena 1 0

-- An ask is refused, owner 2 is lent 32 bytes at 0, and there is an enquiry.
abbrev later_calls : List Call
later_calls = alloc arena 2 33 ∷ alloc_aligned arena 2 32 64 ∷ totals ∷ []

lent_48 : free (stored_after small calls) arena 1 0 ≡ Ok 48
unfolding valid alloc_order free_order init_order
lent_48 = refl

-- So granule 1 was lent over, granule 2 was not,
pub over_1 : nothing_lent (init_config arena (replicate 32 0) plan) 1 (history execute once_freed later_calls) ≡ false
unfolding valid alloc_order free_order init_order
over_1 = refl

pub not_over_2 : nothing_lent (init_config arena (replicate 32 0) plan) 2 (history execute once_freed later_calls) ≡ true
unfolding valid alloc_order free_order init_order
not_over_2 = refl

-- and a free of 32 by owner 1 gets 17.
pub at_32 : free (stored_after once_freed later_calls) arena 1 32 ≡ Err refusal.FreeMemory
unfolding init_order
at_32 =
    (freed_gets_17 arena (replicate 32 0) plan refl calls arena 1 0 48 lent_48 later_calls 32 (omega arith) (omega arith) refl not_over_2 arena 1 refl refl).0

-- A second free of 0 at once gets 17.
pub at_once : free once_freed arena 1 0 ≡ Err refusal.FreeMemory
unfolding init_order
at_once = (second_free arena (replicate 32 0) plan refl calls arena 1 0 48 lent_48 [] refl arena 1 refl refl).0
