-- What the calls' definitions come to, for a reader: laws that hold for every record and every table.
-- Assumes nothing.
use mathlib.Core.Path.{◌≡◌, sym, ap}
use mathlib.Core.Bool.{true, false}
use mathlib.Core.List.{List, ◌∷◌}
use Rattle.std.specs.Prelude.{None, Some, Ok, Err, if◌then◌else◌, ◌&&◌}
use Prim.Native.Nat.{ℕ, ◌+◌, ◌-◌, ◌*◌, ◌/◌, ◌≤◌}
use native.Mathlib.Omega.{arith}
use lib.Dec.{leb, ltb}
use lib.ListN.{length, get_or, replicate}
use Rattle.model.specs.Quantities.{in_range}
use Rattle.model.specs.Allocation.{bytes, granules_of, free_granules}
use Rattle.model.specs.SegmentMap.{longest_free}
use Rattle.model.specs.Orders.{first_reason, alloc_order, free_order, init_order, block_size_order, totals_order, holding_order}
use Rattle.model.specs.Rules.{init_config, bytes_at}
use Rattle.model.proofs.Choosing.{split, ok_value}
use Rattle.model.proofs.Refusing.{refused_some}
use Rattle.model.proofs.Kept.{Kept}
use Rattle.model.proofs.Released.{Released, answered}
use Rattle.model.proofs.Bytes.{zeroed_each}
use Rattle.model.proofs.Laws.{used_free, block_inside}
use Rattle.heap.specs.Stored.{Stored}
use Rattle.heap.specs.Valid.{valid}
use Rattle.heap.specs.Calls.{is_valid, config, state, alloc_aligned, after_alloc_aligned, arena_after_alloc_aligned, free, after_free, arena_after_free, block_size, totals_of, holding_of, init, after_init, arena_after_init, zero_heap}
use Rattle.heap.proofs.ValidStored.{valid_kept}
use Rattle.heap.proofs.Makes.{none_applies, init_range, fresh_rows, fresh_table, zero_invalid, init_reason}
use Rattle.model.specs.declared.Plan.{Plan}
use Rattle.model.specs.declared.Refusal.{Refusal}
use Rattle.model.specs.declared.Refusal.TheVariants as refusal
use Rattle.model.specs.declared.InitRefusal.{InitRefusal}
use Rattle.model.specs.declared.Totals.{Totals}

-- A refused allocation leaves the record and the table as they were, and the arena.
pub alloc_refused : (s : Stored) (arena : List ℕ) (o n a : ℕ) (r : Refusal) → alloc_aligned s arena o n a ≡ Err r
    → (after_alloc_aligned s arena o n a ≡ s) × (arena_after_alloc_aligned s arena o n a ≡ arena)
alloc_refused s arena o n a r e =
    let q : (t : Refusal) × (first_reason (alloc_order (is_valid s) (config s) (state s) arena o n a) ≡ Some t) =
    refused_some (alloc_order (is_valid s) (config s) (state s) arena o n a) _ Err r (λ z. let w : ◌≡◌ {A = ℕ} 0 1 = cc in omega arith) e in
    (rw q.1, rw q.1)

-- A refused free leaves the record and the table as they were, and the arena.
pub free_refused : (s : Stored) (arena : List ℕ) (o x : ℕ) (r : Refusal) → free s arena o x ≡ Err r
    → (after_free s arena o x ≡ s) × (arena_after_free s arena o x ≡ arena)
free_refused s arena o x r e =
    let q : (t : Refusal) × (first_reason (free_order (is_valid s) (config s) (state s) arena o x) ≡ Some t) =
    refused_some (free_order (is_valid s) (config s) (state s) arena o x) _ Err r (λ z. let w : ◌≡◌ {A = ℕ} 0 1 = cc in omega arith) e in
    (rw q.1, rw q.1)

-- A free that answers k sets exactly the k bytes from its offset on to zero, and every other byte stays.
pub free_zeroes : (s : Stored) (arena : List ℕ) (o x k : ℕ) → free s arena o x ≡ Ok k
    → (i : ℕ) → get_or (arena_after_free s arena o x) i 0 ≡ (if leb x i && ltb i (x + k) then 0 else get_or arena i 0)
free_zeroes s arena o x k e i =
    let a = answered (is_valid s) (config s) (state s) arena o x k e in
    let r : Released (is_valid s) (config s) (state s) arena o x = a.0 in
    let h : x + bytes r.block ≤ length arena =
    block_inside (config s) (state s) (valid_kept s.heap s.words r.valid) arena x r.block r.whole r.found in
    let many : bytes_at (state s) x ≡ k = rw r.found (sym a.2) in
    rw (a.1, many) (zeroed_each x k arena (omega (arith, a.2)) i)

-- A making that is not refused sets one free row over the whole arena, zeroes the other rows and the arena, sets used and peak to 0, and keeps the base.
pub init_done : (arena words : List ℕ) (p : Plan) → init arena words p ≡ Ok tt
    → ((after_init arena words p).words ≡ 0 ∷ length arena / 16 ∷ 0 ∷ 0 ∷ replicate (4 * (length words / 4 - 1)) 0)
    × ((after_init arena words p).heap.rows ≡ 1)
    × ((after_init arena words p).heap.used ≡ 0)
    × ((after_init arena words p).heap.peak ≡ 0)
    × (arena_after_init arena words p ≡ replicate (length arena) 0)
    × ((after_init arena words p).heap.base ≡ p.base)
init_done arena words p done =
    let q : first_reason (init_order arena words p) ≡ None = none_applies arena words p done in
    let ranged : in_range (init_config arena words p) ≡ true = init_range arena words p done in
    (rw q (fresh_table (init_config arena words p) ranged), rw q (fresh_rows (init_config arena words p) ranged), rw q, rw q, rw q, rw q)

-- A refused making answers an all-zero record, and leaves the table and the arena as they were.
pub init_refused : (arena words : List ℕ) (p : Plan) (r : InitRefusal) → init arena words p ≡ Err r
    → (after_init arena words p ≡ record { heap = zero_heap; words = words }) × (arena_after_init arena words p ≡ arena)
init_refused arena words p r e = let q : first_reason (init_order arena words p) ≡ Some r = init_reason arena words p r e in (rw q, rw q)

-- That record is not valid, with any table.
pub refused_invalid : (arena words : List ℕ) (p : Plan) (r : InitRefusal) → init arena words p ≡ Err r
    → (ws : List ℕ) → valid (after_init arena words p).heap ws ≡ false
refused_invalid arena words p r e ws = rw (init_refused arena words p r e).0 (zero_invalid ws)

-- What is not a valid heap gets 1 from every call, and stays as it was.
module _ (s : Stored) (v : is_valid s ≡ false) (arena : List ℕ) (o n a x : ℕ) where
  pub alloc_invalid : (alloc_aligned s arena o n a ≡ Err refusal.InvalidHeap) × (after_alloc_aligned s arena o n a ≡ s) × (arena_after_alloc_aligned s arena o n a ≡ arena)
  unfolding alloc_order
  alloc_invalid = (rw v, rw v, rw v)

  pub free_invalid : (free s arena o x ≡ Err refusal.InvalidHeap) × (after_free s arena o x ≡ s) × (arena_after_free s arena o x ≡ arena)
  unfolding free_order
  free_invalid = (rw v, rw v, rw v)

  pub enquiries_invalid : (block_size s o x ≡ Err refusal.InvalidHeap) × (totals_of s ≡ Err refusal.InvalidHeap) × (holding_of s o ≡ Err refusal.InvalidHeap)
  unfolding block_size_order totals_order holding_order
  enquiries_invalid = (rw v, rw v, rw v)

-- In the totals, used plus free is the arena.
pub totals_whole : (s : Stored) (used free peak longest : ℕ) → totals_of s ≡ Ok (record { used = used; free = free; peak = peak; longest = longest }) → used + free ≡ 16 * s.heap.granules
unfolding totals_order
totals_whole s used free peak longest e =
    split (is_valid s)
    (λ v.
    let k : Kept (config s) (state s) = valid_kept s.heap s.words v in
    let e' : Ok (record { used = 16 * granules_of (state s).blocks; free = 16 * free_granules (config s) (state s).blocks; peak = 16 * (state s).peak; longest = 16 * longest_free (config s) (state s).blocks }) ≡ Ok (record { used = used; free = free; peak = peak; longest = longest }) = rw v at e in
    let u : 16 * granules_of (state s).blocks ≡ used = ap (λ (t : Totals). t.used) (ok_value e') in
    let f : 16 * free_granules (config s) (state s).blocks ≡ free = ap (λ (t : Totals). t.free) (ok_value e') in
    omega (arith, used_free (config s) (state s) k))
    (λ v. let e' : Err refusal.InvalidHeap ≡ Ok (record { used = used; free = free; peak = peak; longest = longest }) = rw v at e in let w : ◌≡◌ {A = ℕ} 0 1 = cc in absurd (omega arith))
