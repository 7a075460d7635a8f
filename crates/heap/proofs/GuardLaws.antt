-- What guards come to, for one who calls the heap: said by the promises alone, for every record, table and arena.
-- Assumes nothing.
use mathlib.Core.Path.{◌≡◌, sym, ap, ◌∙◌}
use mathlib.Core.List.{List}
use Rattle.std.specs.Prelude.{Option, None, Some, Ok, Err, if◌then◌else◌, ◌&&◌}
use Rattle.std.specs.Option.{option_map_or}
use Prim.Native.Nat.{ℕ, ◌+◌, ◌*◌}
use native.Mathlib.Omega.{arith}
use lib.Dec.{leb, ltb}
use lib.ListN.{get_or}
use Rattle.model.specs.Allocation.{granules_for, block, offset, resize}
use Rattle.model.specs.Orders.{Order, first_reason, alloc_order, free_order, realloc_order}
use Rattle.model.specs.Numbers.{number_of}
use Rattle.model.proofs.Choosing.{split_option}
use Rattle.model.proofs.Allocated.{allocated}
use Rattle.model.proofs.GuardsKept.{FoundBroken, free_19, realloc_19, told_free, realloc_19_exactly}
use Rattle.model.proofs.Guards.{ask_blind, arena_alloc_blind, alloc_each}
use Rattle.heap.specs.Stored.{config_of, state_in}
use Rattle.heap.specs.Valid.{valid}
use Rattle.heap.specs.Promises.{AllocDone, FreeDone, ReallocDone}
use Rattle.heap.proofs.ValidStored.{valid_kept}
use Rattle.model.specs.declared.Segment.{Segment}
use Rattle.model.specs.declared.Refusal.{Refusal}
use Rattle.model.specs.declared.Refusal.TheVariants as refusal
use Rattle.model.specs.declared.Resized.TheVariants as resized
use Rattle.heap.specs.declared.record.Heap.{Heap}
use Rattle.model.specs.declared.Resized.{Resized}
use Rattle.heap.specs.declared.record.Outcome.{Outcome}

-- Where the function of an allocation keeps its promise:
module _ (r : Heap) (ws bytes : List ℕ) (o n a : ℕ) (out : Outcome ℕ) (words_after bytes_after : List ℕ) (d : AllocDone r ws bytes o n a out words_after bytes_after) where
  -- in a heap without guards the arena stays as it was,
  pub unguarded_stays : r.guards ≡ 0 → bytes_after ≡ bytes
  unguarded_stays z = d.arena ∙ arena_alloc_blind (config_of r) z (valid r ws) (state_in r ws) bytes o n a

  -- and whatever arena is lent instead, of whatever length, all else is the same;
  pub unguarded_blind : r.guards ≡ 0 → (other : List ℕ) → AllocDone r ws other o n a out words_after other
  unguarded_blind z other =
      let same = ask_blind (config_of r) z (valid r ws) (state_in r ws) bytes other o n a in
      record {
        answer = d.answer ∙ rw same;
        numbered = d.numbered ∙ rw same;
        heap = d.heap ∙ rw same;
        table = d.table ∙ rw same;
        arena = sym (arena_alloc_blind (config_of r) z (valid r ws) (state_in r ws) other o n a);
      }

  -- where it answers the offset x, the bytes of the granule after those that n bytes fill from there are 0x77 if there are guards, and every other byte stays.
  pub granted_bytes : (x : ℕ) → out.answer ≡ Ok x
      → (i : ℕ) → get_or bytes_after i 0 ≡ (if leb (x + 16 * granules_for n) i && ltb i (x + 16 * granules_for n + 16 * r.guards) then 0x77 else get_or bytes i 0)
  granted_bytes x e i =
      let order : Order Refusal = alloc_order (valid r ws) (config_of r) (state_in r ws) bytes o n a in
      split_option (first_reason order)
      (λ q. let p = allocated (config_of r) (state_in r ws) (valid r ws) bytes o n a q in
      let e' : Ok (16 * p.start) ≡ Ok x = rw (q, p.fits) at (sym d.answer ∙ e) in
      let at : 16 * p.start ≡ x = cc in
      let g : 16 * (p.start + granules_for n) ≡ x + 16 * granules_for n = omega arith in
      ap (λ (l : List ℕ). get_or l i 0) d.arena
      ∙ alloc_each (valid r ws) (config_of r) (state_in r ws) bytes o n a q (block (config_of r) o n p.start) p.fits i
      ∙ ap (λ (k : ℕ). if leb k i && ltb i (k + 16 * r.guards) then 0x77 else get_or bytes i 0) g)
      (λ t q. let e' : Err t ≡ Ok x = rw q at (sym d.answer ∙ e) in let z : ◌≡◌ {A = ℕ} 0 1 = cc in absurd (omega arith))

-- A resize that is not refused does not answer 19.
no_19 : (f : Option Segment) (k : ℕ) → ¬ (option_map_or (λ b. Ok (resized.At (offset b))) f (Ok (resized.Freed k)) ≡ Err refusal.BrokenGuard)
no_19 None k e = let z : ◌≡◌ {A = ℕ} 0 1 = cc in omega arith
no_19 (Some b) k e = let z : ◌≡◌ {A = ℕ} 0 1 = cc in omega arith

-- Of a free and a resize by owner o of the block at x: what they find broken is a valid heap, its whole arena, o's block at x, and a byte of its guard that is not 0x77.
module _ (r : Heap) (ws bytes : List ℕ) (o x : ℕ) where
  abbrev Broken : Type 0
  Broken = FoundBroken (valid r ws) (config_of r) (state_in r ws) bytes o x

  -- Where the function of a free keeps its promise,
  module _ (out : Outcome ℕ) (words_after bytes_after : List ℕ) (d : FreeDone r ws bytes o x out words_after bytes_after) where
    -- it answers 19 if it finds that, and changes nothing,
    pub broken_free : Broken → (out.answer ≡ Err refusal.BrokenGuard) × (out.heap ≡ r) × (words_after ≡ ws) × (bytes_after ≡ bytes)
    broken_free f =
        let e : first_reason (free_order (valid r ws) (config_of r) (state_in r ws) bytes o x) ≡ Some refusal.BrokenGuard =
        told_free (valid r ws) (config_of r) (state_in r ws) bytes o x (valid_kept r ws f.valid) f in
        (d.answer ∙ rw e, d.heap ∙ rw e, d.table ∙ rw e, d.arena ∙ rw e)

    -- and only then.
    pub free_broken : out.answer ≡ Err refusal.BrokenGuard → Broken
    free_broken e =
        split_option (first_reason (free_order (valid r ws) (config_of r) (state_in r ws) bytes o x))
        (λ q. let e' : Ok _ ≡ Err refusal.BrokenGuard = rw q at (sym d.answer ∙ e) in let z : ◌≡◌ {A = ℕ} 0 1 = cc in absurd (omega arith))
        (λ why q. let e' : Err why ≡ Err refusal.BrokenGuard = rw q at (sym d.answer ∙ e) in let same : why ≡ refusal.BrokenGuard = cc in
        free_19 (valid r ws) (config_of r) (state_in r ws) bytes o x why q (ap number_of same))

  -- Where the function of a resize does, to whatever size,
  module _ (n : ℕ) (out : Outcome Resized) (words_after bytes_after : List ℕ) (d : ReallocDone r ws bytes o x n out words_after bytes_after) where
    -- so does it,
    pub broken_realloc : Broken → (out.answer ≡ Err refusal.BrokenGuard) × (out.heap ≡ r) × (words_after ≡ ws) × (bytes_after ≡ bytes)
    broken_realloc f =
        let e : first_reason (realloc_order (valid r ws) (config_of r) (state_in r ws) bytes o x n) ≡ Some refusal.BrokenGuard =
        (realloc_19_exactly (valid r ws) (config_of r) (state_in r ws) bytes o x (valid_kept r ws f.valid) n).1 f in
        (d.answer ∙ rw e, d.heap ∙ rw e, d.table ∙ rw e, d.arena ∙ rw e)

    -- and only then.
    pub realloc_broken : out.answer ≡ Err refusal.BrokenGuard → Broken
    realloc_broken e =
        split_option (first_reason (realloc_order (valid r ws) (config_of r) (state_in r ws) bytes o x n))
        (λ q. absurd (no_19 (resize (config_of r) (state_in r ws).blocks o x n) _ (rw q at (sym d.answer ∙ e))))
        (λ why q. let e' : Err why ≡ Err refusal.BrokenGuard = rw q at (sym d.answer ∙ e) in let same : why ≡ refusal.BrokenGuard = cc in
        realloc_19 (valid r ws) (config_of r) (state_in r ws) bytes o x n why q (ap number_of same))
