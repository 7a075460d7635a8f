-- A making that is not refused leaves a heap as it is stored before any block is lent; one that is refused leaves none.
-- Assumes nothing.
use mathlib.Core.Path.{◌≡◌, sym, ap, ◌∙◌}
use mathlib.Core.Bool.{true, false}
use mathlib.Core.List.{List, [], ◌∷◌, ◌++◌, append-nil}
use Rattle.std.specs.Prelude.{None, Some, Ok, Err, if◌then◌else◌}
use Rattle.std.specs.Option.{option_map_or}
use Prim.Native.Nat.{ℕ, ◌*◌, ◌/◌, ◌-◌, ◌+◌, ◌≤◌}
use native.Mathlib.Omega.{arith}
use lib.ListN.{length, replicate, length-replicate, drop_of_length-le}
use borrow.Author.Tests.{not-false, lt-ltb}
use Rattle.model.specs.Quantities.{is_arena, is_base, is_table, quotas_in_range, Config, in_range}
use Rattle.model.specs.Allocation.{fresh}
use Rattle.model.specs.Arena.{written, zeroed}
use Rattle.model.specs.SegmentMap.{free_run, rows_of}
use Rattle.model.specs.Numbers.{made_numbered}
use Rattle.segments.specs.Rows.{words_of}
use Rattle.model.specs.Orders.{Order, first_reason, init_order}
use Rattle.model.specs.Rules.{init, init_config}
use Rattle.model.proofs.Choosing.{split, split_option}
use Rattle.model.proofs.Ranges.{arena_whole, table_whole, some_granules, some_rows}
use Rattle.model.proofs.Refusing.{NoReason, no_reason}
use Rattle.model.proofs.MapRows.{gap_short}
use Rattle.model.proofs.Kept.{Kept}
use Rattle.heap.specs.Stored.{store, table_for}
use Rattle.heap.specs.Valid.{valid}
use Rattle.heap.specs.Calls.{zero_heap, after_init}
use Rattle.heap.specs.Promises.{InitDone}
use Rattle.heap.specs.declared.record.Initialized.{Initialized}
use Rattle.heap.proofs.Conditions.{Conditions, valid_conditions}
use Rattle.model.specs.declared.Plan.{Plan}
use Rattle.model.specs.declared.InitRefusal.{InitRefusal}

not_done : (r : InitRefusal) → Err r ≡ Ok (tt {0}) → ⊥
not_done r e = let z : ◌≡◌ {A = ℕ} 0 1 = cc in omega arith

done_none : (rs : Order InitRefusal) → option_map_or Err (first_reason rs) (Ok (tt {0})) ≡ Ok (tt {0}) → first_reason rs ≡ None
done_none rs e = split_option (first_reason rs) (λ q. q) (λ r q. absurd (not_done r (rw q at e)))

-- an arena's length is a whole number of granules
arena_granules : (n : ℕ) → is_arena n ≡ true → 16 * (n / 16) ≡ n
arena_granules n e = omega (arith, arena_whole n e)

-- A base is allowed for an arena exactly if it is for that many granules.
pub base_granules : (n b : ℕ) → is_arena n ≡ true → is_base n b ≡ is_base (16 * (n / 16)) b
base_granules n b e = ap (λ (k : ℕ). is_base k b) (sym (arena_granules n e))

module _ (arena words : List ℕ) (p : Plan) (done : init arena words p ≡ Ok tt) where
  pub none_applies : first_reason (init_order arena words p) ≡ None
  none_applies = done_none (init_order arena words p) done

  pub init_leaves : after_init arena words p ≡ store (init_config arena words p) fresh
  init_leaves = rw none_applies

  allowed : (is_arena (length arena) ≡ true) × (is_base (length arena) p.base ≡ true) × (is_table (length words) ≡ true) × (quotas_in_range p.granule_quotas p.block_quotas ≡ true)
  unfolding init_order
  allowed =
      let n : NoReason (init_order arena words p) = no_reason (init_order arena words p) none_applies in
      (not-false _ n.0, not-false _ n.1.0, not-false _ n.1.1.0, not-false _ n.1.1.1.0)

  granules_whole : 16 * (length arena / 16) ≡ length arena
  granules_whole = arena_granules (length arena) allowed.0

  rows_whole : 4 * (length words / 4) ≡ length words
  rows_whole = omega (arith, table_whole (length words) allowed.2)

  pub init_range : in_range (init_config arena words p) ≡ true
  init_range =
      rw (allowed.3, granules_whole, allowed.0, allowed.1, rows_whole, allowed.2) (split p.guarded (λ q. rw q) (λ q. rw q))

module _ (c : Config) (ranged : in_range c ≡ true) where
  -- a heap that nobody has called yet
  pub fresh_kept : Kept c fresh
  fresh_kept =
      record {
        ordered = omega arith;
        blocks = λ o. omega arith;
        granules = λ o. omega arith;
        rows = omega (arith, gap_short 0 c.granules, some_rows c ranged);
        used = omega arith;
        peak = omega arith;
      }

  pub fresh_rows : rows_of c fresh.blocks ≡ 1
  fresh_rows = rw (lt-ltb 0 c.granules (some_granules c ranged))

  pub fresh_table : table_for c fresh ≡ 0 ∷ c.granules ∷ 0 ∷ 0 ∷ replicate (4 * (c.capacity - 1)) 0
  fresh_table = let z : c.granules - 0 ≡ c.granules = omega arith in rw (lt-ltb 0 c.granules (some_granules c ranged), z)

-- an all-zero record is not valid
pub zero_invalid : (ws : List ℕ) → valid zero_heap ws ≡ false
zero_invalid ws = split (valid zero_heap ws) (λ q. let k : Conditions zero_heap ws = valid_conditions zero_heap ws q in absurd (omega (arith, k.rows_least))) (λ q. q)

-- The reason that a making answers is the first that applies.
pub init_reason : (arena words : List ℕ) (p : Plan) (why : InitRefusal) → init arena words p ≡ Err why → first_reason (init_order arena words p) ≡ Some why
init_reason arena words p why e =
    split_option (first_reason (init_order arena words p))
    (λ q. absurd (not_done why (sym (rw q at e))))
    (λ r q. let e' : Err r ≡ Err why = rw q at e in let z : r ≡ why = cc in q ∙ ap Some z)

-- What a making that is refused leaves: all that was handed in, and an all-zero record.
pub refused_leaves : (arena words : List ℕ) (p : Plan) (why : InitRefusal) (out : Initialized) → (out.answer ≡ Err why) × (out.heap ≡ zero_heap)
    → first_reason (init_order arena words p) ≡ Some why → InitDone arena words p out arena words
refused_leaves arena words p why out o q =
    record { answer = rw q o.0; numbered = rw q (ap made_numbered o.0); heap = rw q o.1; table = rw q; arena = rw q }

-- All of an arena written over with zeros is zeros.
zeroed_whole : (arena : List ℕ) → zeroed 0 (length arena) arena ≡ replicate (length arena) 0
zeroed_whole arena =
    let h : length arena ≤ 0 + length arena = omega arith in rw (length-replicate, drop_of_length-le arena h, append-nil)

-- What a making that is not refused leaves: the arena zeroed, the table reset, and the record of a heap with no live block.
module _ (arena words : List ℕ) (p : Plan) (done : init arena words p ≡ Ok tt) where
  reset_table : words_of (free_run 0 (length arena / 16) ∷ []) ++ replicate (length words - 4) 0 ≡ table_for (init_config arena words p) fresh
  reset_table =
      let z : length words - 4 ≡ 4 * (length words / 4 - 1) = omega (arith, rows_whole arena words p done) in
      rw z (sym (fresh_table (init_config arena words p) (init_range arena words p done)))

  pub done_leaves : (bytes table : List ℕ) (g v : ℕ) → g ≡ (if p.guarded then 1 else 0) → bytes ≡ written 0 (replicate (length arena) v) arena → v ≡ 0 → table ≡ words_of (free_run 0 (length arena / 16) ∷ []) ++ replicate (length words - 4) 0
      → InitDone arena words p (record {
        answer = Ok tt;
        heap = record { capacity = length words / 4; rows = 1; granules = length arena / 16; base = p.base; guards = g; used = 0; peak = 0; granule_quotas = p.granule_quotas; block_quotas = p.block_quotas };
      }) bytes table
  done_leaves bytes table g v f b z t =
      let q : first_reason (init_order arena words p) ≡ None = none_applies arena words p done in
      record {
        answer = sym done;
        numbered = rw q;
        heap = rw (q, f, fresh_rows (init_config arena words p) (init_range arena words p done));
        table = rw q (t ∙ reset_table);
        arena = rw q (b ∙ ap (λ (v : ℕ). written 0 (replicate (length arena) v) arena) z ∙ zeroed_whole arena);
      }
