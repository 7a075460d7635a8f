-- What a base comes to over every list of calls, for a reader: the address of each block that is granted, how little of the base the answers depend on, and bases at which they differ.
-- Assumes nothing.
use Rattle.std.specs.Prelude.{Ok}
use mathlib.Core.Path.{◌≡◌, refl, sym, ap}
use mathlib.Core.List.{List, [], ◌∷◌}
use Prim.Native.Nat.{ℕ, ◌+◌, ◌*◌, ◌%◌, ◌≤◌}
use native.Mathlib.Omega.{arith}
use lib.ListN.{replicate}
use Rattle.model.specs.Allocation.{needed}
use Rattle.model.specs.Orders.{alloc_order, free_order, realloc_order, init_order}
use Rattle.model.specs.Rules.{init_config, placing, releasing, resizing}
use Rattle.model.specs.Run.{history}
use Rattle.model.specs.Numbers.{Numbered}
use Rattle.model.proofs.Run.{same_after, same_history}
use Rattle.model.proofs.BaseLaws.{plan_at}
use Rattle.heap.specs.Stored.{Stored, handed, store}
use Rattle.heap.specs.Valid.{valid}
use Rattle.heap.specs.Calls.{is_valid, config, state, init, after_init}
use Rattle.heap.specs.Promises.{InitDone}
use Rattle.heap.proofs.BaseLaws.{granted_address, granted_end, rebased, Alike, alloc_alike, after_alloc_alike, free_alike, after_free_alike, realloc_alike, after_realloc_alike, size_alike, totals_alike, holding_alike, still_alike, init_alike, made_alike, init_0}
use Rattle.guarantee.specs.Lists.{Call, alloc, alloc_aligned, free, realloc, block_size, totals, holding, execute, numbered}
use Rattle.guarantee.specs.Guarantee.{state_after, stored_after}
use Rattle.guarantee.specs.Performed.{Promised, Entry, Performed, calls_of}
use Rattle.guarantee.specs.Cases.{arena, plan}
use Rattle.guarantee.proofs.Performed.{performed_guaranteed}
use Rattle.heap.specs.declared.record.Initialized.{Initialized}
use Rattle.model.specs.declared.Plan.{Plan}

-- Whatever the functions performed since a making that is not refused: an allocation that is granted x has its address, the plan's base plus x, on the boundary asked (16 if it names none), and its block, its guard included, ends at 4,294,967,296 at most.
pub granted_addresses : (arena words : List ℕ) (p : Plan) (out : Initialized) (arena_left words_left : List ℕ) → InitDone arena words p out arena_left words_left → out.answer ≡ Ok tt
    → (es : List Entry) (t : Stored) → Performed (handed out.heap words_left) es t
    → (bytes : List ℕ) (o n a x : ℕ) (u : Stored) → Promised t (alloc_aligned bytes o n a) (Ok x) u
    → ((p.base + x) % a ≡ 0) × (p.base + x + 16 * needed (init_config arena words p) n ≤ 4294967296)
granted_addresses arena words p out arena_left words_left d done es t run bytes o n a x u f =
    let st : t ≡ store (init_config arena words p) (state_after (init_config arena words p) (calls_of es)) = (performed_guaranteed arena words p out arena_left words_left d done es t run).stored in
    let base : t.heap.base ≡ p.base = ap (λ (s : Stored). s.heap.base) st in
    let guards : t.heap.guards ≡ (init_config arena words p).guards = ap (λ (s : Stored). s.heap.guards) st in (
      rw (← base) (granted_address t.heap t.words bytes o n a _ u.words f.0 f.1 x refl),
      omega (arith, base, guards, granted_end t.heap t.words bytes o n a _ u.words f.0 f.1 x refl),
    )

-- one call: on a heap, and on the same with a base b that is like its own
module _ (b : ℕ) where
  -- b stays like the base,
  keep : (s : Stored) (x : Call) → Alike s b → Alike (execute s x).1 b
  keep s (alloc arena o n) k = still_alike s b k (alloc_order (is_valid s) (config s) (state s) arena o n 16) (placing (config s) (state s) o n 16)
  keep s (alloc_aligned arena o n a) k = still_alike s b k (alloc_order (is_valid s) (config s) (state s) arena o n a) (placing (config s) (state s) o n a)
  keep s (free arena o x) k = still_alike s b k (free_order (is_valid s) (config s) (state s) arena o x) (releasing (state s) x)
  keep s (realloc arena o x n) k = still_alike s b k (realloc_order (is_valid s) (config s) (state s) arena o x n) (resizing (config s) (state s) o x n)
  keep s (block_size o x) k = k
  keep s totals k = k
  keep s (holding o) k = k

  -- the answer is the same,
  answers : (s : Stored) (x : Call) → Alike s b → (execute s x).0 ≡ (execute (rebased b s) x).0
  answers s (alloc arena o n) k = alloc_alike s b k arena o n 16
  answers s (alloc_aligned arena o n a) k = alloc_alike s b k arena o n a
  answers s (free arena o x) k = free_alike s b k arena o x
  answers s (realloc arena o x n) k = realloc_alike s b k arena o x n
  answers s (block_size o x) k = size_alike s b k o x
  answers s totals k = totals_alike s b k
  answers s (holding o) k = holding_alike s b k o

  -- and what is left is the same but for the base
  leaves : (s : Stored) (x : Call) → Alike s b → (execute (rebased b s) x).1 ≡ rebased b (execute s x).1
  leaves s (alloc arena o n) k = after_alloc_alike s b k arena o n 16
  leaves s (alloc_aligned arena o n a) k = after_alloc_alike s b k arena o n a
  leaves s (free arena o x) k = after_free_alike s b k arena o x
  leaves s (realloc arena o x n) k = after_realloc_alike s b k arena o x n
  leaves s (block_size o x) k = refl
  leaves s totals k = refl
  leaves s (holding o) k = refl

-- With a base like the one in the record instead, every list of calls
module _ (s : Stored) (b : ℕ) (k : Alike s b) (ks : List Call) where
  -- answers the same
  pub history_alike : history execute s ks ≡ history execute (rebased b s) ks
  history_alike = sym (same_history execute execute (rebased b) (λ (t : Stored). Alike t b) (keep b) (λ t x k. sym (answers b t x k)) (leaves b) s ks k)

  -- and leaves the same but for the base.
  pub stored_alike : stored_after (rebased b s) ks ≡ rebased b (stored_after s ks)
  stored_alike = same_after execute execute (rebased b) (λ (t : Stored). Alike t b) (keep b) (λ t x k. sym (answers b t x k)) (leaves b) s ks k

-- From two makings on that differ in the base alone and are not refused, where the bases have the same remainder by 4,096, every list of calls
module _ (arena words : List ℕ) (p : Plan) (b : ℕ) (done : init arena words p ≡ Ok tt) (too : init arena words (plan_at b p) ≡ Ok tt) (e : p.base % 4096 ≡ b % 4096) (ks : List Call) where
  -- answers the same
  pub made_history : history execute (after_init arena words p) ks ≡ history execute (after_init arena words (plan_at b p)) ks
  made_history = rw (init_alike arena words p b done too) (history_alike (after_init arena words p) b (made_alike arena words p b done too e) ks)

  -- and leaves the same but for the base.
  pub made_stored : stored_after (after_init arena words (plan_at b p)) ks ≡ rebased b (stored_after (after_init arena words p) ks)
  made_stored = rw (init_alike arena words p b done too) (stored_alike (after_init arena words p) b (made_alike arena words p b done too e) ks)

-- So with a base that is a multiple of 4,096 every list of calls answers as with base 0, and leaves the same but for the base.
pub base_0 : (arena words : List ℕ) (p : Plan) → init arena words p ≡ Ok tt → p.base % 4096 ≡ 0 → (ks : List Call)
    → (history execute (after_init arena words p) ks ≡ history execute (after_init arena words (plan_at 0 p)) ks)
    × (stored_after (after_init arena words (plan_at 0 p)) ks ≡ rebased 0 (stored_after (after_init arena words p) ks))
base_0 arena words p done e ks =
    let too : init arena words (plan_at 0 p) ≡ Ok tt = (init_0 arena words p done).0 in
    (made_history arena words p 0 done too e ks, made_stored arena words p 0 done too e ks)

-- A base, a boundary, and what is answered at that base to a first request for 16 bytes on that boundary.
abbrev Row : Type 0
Row = ℕ × ℕ × Numbered

-- The heap is made with the arena, the table and the quotas of P5 to P13, and the base.
abbrev answer_at : ℕ → ℕ → Numbered
answer_at b a = numbered (alloc_aligned arena 1 16 a) (execute (after_init arena (replicate 32 0) (plan_at b plan)) (alloc_aligned arena 1 16 a)).0

-- The rows with what is answered.
abbrev answered : List Row → List Row
answered [] = []
answered (r ∷ rs) = (r.0, r.1, answer_at r.0 r.1) ∷ answered rs

-- Its arena has 128 bytes, so that the boundary can lie past its end.
abbrev rows : List Row
rows =
    (0, 32, (0, 0 ∷ []))
    ∷ (16, 32, (0, 16 ∷ []))
    ∷ (4096, 32, (0, 0 ∷ []))
    ∷ (4112, 32, (0, 16 ∷ []))
    ∷ (0, 4096, (0, 0 ∷ []))
    ∷ (16, 4096, (7, 0 ∷ []))
    ∷ (2048, 4096, (7, 0 ∷ []))
    ∷ (4080, 4096, (0, 16 ∷ []))
    ∷ (4294967168, 4096, (7, 0 ∷ []))
    ∷ []

-- At bases with different remainders by 4,096 the answers can differ, even if both are multiples of 2,048; and at an arena that ends at 4,294,967,296 no address wraps round.
pub at_bases : answered rows ≡ rows
unfolding valid alloc_order init_order
at_bases = refl
