-- An allocation: what is decided of it, step by step, and what it leaves where it is placed.
-- Assumes nothing.
use mathlib.Core.Path.{◌≡◌, refl, sym, ap, ◌∙◌, subst}
use mathlib.Core.Bool.{true, false}
use mathlib.Core.List.{List, [], ◌∷◌, ◌++◌}
use Rattle.std.specs.Prelude.{Option, None, Some, Result, Ok, Err}
use Prim.Native.Nat.{ℕ, ◌+◌, ◌*◌, ◌-◌, ◌≤◌, ◌<◌}
use native.Mathlib.Omega.{arith}
use lib.ListN.{length}
use borrow.Author.Tests.{not-false, le-ltb, lt-ltb}
use Rattle.model.specs.Quantities.{Config}
use Rattle.model.specs.Allocation.{needed, insert, block, fit, changed}
use Rattle.model.specs.Arena.{guard_offset, guard_bytes, with_guard}
use Rattle.model.specs.SegmentMap.{map_of, rows_of}
use Rattle.model.specs.Reasons.{other_guarded_arena}
use Rattle.model.specs.Orders.{Order, first_reason, alloc_order, request_order, quota_order, place_order}
use Rattle.model.proofs.Refusing.{no_reason, first_then, first_stays}
use Rattle.model.proofs.Ordered.{Live, total_insert}
use Rattle.model.proofs.Allocated.{Proper, proper, fit_at, Allocated, allocated, allocated_whole}
use Rattle.model.proofs.Guards.{guard_inside}
use Rattle.segments.specs.Rows.{segment_at, nth_row, segments_in, blocks_in, Rewritten}
use Rattle.segments.specs.Tiling.{is_map}
use Rattle.segments.specs.Search.{Found}
use Rattle.segments.specs.Changes.{replaced, cut}
use Rattle.segments.proofs.Rows.{length_segments}
use Rattle.segments.proofs.Reading.{row_got}
use Rattle.segments.proofs.Finding.{found_cut, found_count}
use Rattle.heap.specs.Stored.{Stored, handed, store, config_of, state_in}
use Rattle.heap.specs.Valid.{valid}
use Rattle.heap.specs.Calls.{after_alloc_aligned}
use Rattle.heap.specs.Promises.{AllocDone}
use Rattle.heap.specs.Steps.{Lowest, Decided, updated_of}
use Rattle.heap.proofs.Conditions.{valid_conditions}
use Rattle.heap.proofs.ValidStored.{valid_map}
use Rattle.heap.proofs.Changing.{Bounds, bounds, stored_changed}
use Rattle.model.specs.declared.Segment.{Segment}
use Rattle.model.specs.declared.Refusal.{Refusal}
use Rattle.model.specs.declared.Refusal.TheVariants as refusal
use Rattle.heap.specs.declared.record.Heap.{Heap}
use Rattle.segments.specs.declared.searching.Place.{Place}

-- 7 and 8, decided by what first fit says, of a valid heap and an allocation whose numbers are proper.
module _ (r : Heap) (ws : List ℕ) (o n a : ℕ) where
  abbrev last : Order Refusal
  last = place_order (config_of r) (state_in r ws) o n a

  module _ (v : valid r ws ≡ true) (p : first_reason (request_order o n a) ≡ None) where
    -- What it says.
    module _ (xs : List Segment) (read : xs ≡ segments_in r.rows ws) (g : ℕ) (size : g ≡ needed (config_of r) n) (f : Option Place)
        (w : (c : Config) → c.base ≡ r.base → c.granules ≤ 4294967295 → is_map c xs ≡ true → Found c xs g a f) where
      here : Found (config_of r) (segments_in r.rows ws) (needed (config_of r) n) a f
      here =
          subst (λ (k : ℕ). Found (config_of r) (segments_in r.rows ws) k a f) size
          (subst (λ (ys : List Segment). Found (config_of r) ys g a f) read
          (w (config_of r) refl (omega (arith, (bounds r ws v).granules)) (rw read (valid_map r ws v))))

      pub no_place_lem : f ≡ None → first_reason last ≡ Some refusal.NoPlace
      no_place_lem q = let z : Found (config_of r) (segments_in r.rows ws) (needed (config_of r) n) a None = subst (Found (config_of r) (segments_in r.rows ws) (needed (config_of r) n) a) q here in rw z.lowest

      module _ (p' : Place) (q : f ≡ Some p') where
        at : Found (config_of r) (segments_in r.rows ws) (needed (config_of r) n) a (Some p')
        at = subst (Found (config_of r) (segments_in r.rows ws) (needed (config_of r) n) a) q here

        pub lowest_at : Lowest r ws n a p'.row p'.start
        lowest_at = record { lowest = at.lowest; room = at.room }

        abbrev asked : Segment
        asked = block (config_of r) o n p'.start

        module _ (x b : Segment) (row : x ≡ nth_row xs p'.row) (is : b ≡ asked) (k : ℕ) (pieces : k ≡ length (cut x b)) where
          row_is : x ≡ nth_row (segments_in r.rows ws) p'.row
          row_is = row ∙ ap (λ (ys : List Segment). nth_row ys p'.row) read

          count : rows_of (config_of r) (insert asked (blocks_in r.rows ws)) ≡ r.rows - 1 + k
          count =
              let l : Proper o n a = proper o n a (no_reason (request_order o n a) p) in
              found_count (config_of r) (segments_in r.rows ws) (needed (config_of r) n) a p' asked (valid_map r ws v) at
              (record { owned = l.owned; known = l.known; requested = l.size; sized = refl }) refl refl
              ∙ (λ j. length_segments r.rows ws j - 1 + sym (pieces ∙ (λ j. length (cut (row_is j) (is j)))) j)

          pub table_full_lem : r.capacity < r.rows - 1 + k → first_reason last ≡ Some refusal.TableFull
          table_full_lem h = rw (fit_at (config_of r) (state_in r ws) o n a p'.start at.lowest, lt-ltb r.capacity (rows_of (config_of r) (insert asked (blocks_in r.rows ws))) (omega (arith, count)))

          pub place_there : r.rows - 1 + k ≤ r.capacity → Decided last r ws n a (Ok p')
          place_there h = (rw (fit_at (config_of r) (state_in r ws) o n a p'.start at.lowest, le-ltb r.capacity (rows_of (config_of r) (insert asked (blocks_in r.rows ws))) (omega (arith, count))), lowest_at)

module _ (r : Heap) (ws bytes : List ℕ) (o n a : ℕ) where
  abbrev whole : Order Refusal
  whole = alloc_order (valid r ws) (config_of r) (state_in r ws) bytes o n a

  -- 1 applies to what is not valid.
  pub decided_1 : valid r ws ≡ false → first_reason whole ≡ Some refusal.InvalidHeap
  unfolding alloc_order
  decided_1 v = rw v

  -- A refusal is decided by its reason.
  pub decided_not : (p : Result Place Refusal) (why : Refusal) → p ≡ Err why → first_reason whole ≡ Some why → Decided whole r ws n a p
  decided_not p why q e = subst (Decided whole r ws n a) (sym q) e

  abbrev pub lent : Order Refusal
  lent = other_guarded_arena (config_of r) bytes ∷ []

  abbrev request : Order Refusal
  request = request_order o n a

  abbrev pub quotas : Order Refusal
  quotas = quota_order (config_of r) (state_in r ws) o n

  module _ (v : valid r ws ≡ true) where
    parts : first_reason whole ≡ first_reason (lent ++ (request ++ (quotas ++ last r ws o n a)))
    unfolding alloc_order
    parts = rw v

    -- 11, of a heap with guards,
    pub decided_11 : (why : Refusal) → first_reason lent ≡ Some why → first_reason whole ≡ Some why
    decided_11 why e = parts ∙ first_stays lent (request ++ (quotas ++ last r ws o n a)) why e

    module _ (l : first_reason lent ≡ None) where
      -- 2, 3 or 4,
      pub decided_proper : (why : Refusal) → first_reason request ≡ Some why → first_reason whole ≡ Some why
      decided_proper why e = parts ∙ first_then lent (request ++ (quotas ++ last r ws o n a)) l ∙ first_stays request (quotas ++ last r ws o n a) why e

      module _ (p : first_reason request ≡ None) where
        -- 5 or 6,
        pub decided_quotas : (why : Refusal) → first_reason quotas ≡ Some why → first_reason whole ≡ Some why
        decided_quotas why e = parts ∙ first_then lent (request ++ (quotas ++ last r ws o n a)) l ∙ first_then request (quotas ++ last r ws o n a) p ∙ first_stays quotas (last r ws o n a) why e

        -- 7, 8 or a place.
        module _ (q : first_reason quotas ≡ None) where
          rest : first_reason whole ≡ first_reason (last r ws o n a)
          rest = parts ∙ first_then lent (request ++ (quotas ++ last r ws o n a)) l ∙ first_then request (quotas ++ last r ws o n a) p ∙ first_then quotas (last r ws o n a) q

          pub decided_place : (d : Result Place Refusal) → Decided (last r ws o n a) r ws n a d → Decided whole r ws n a d
          decided_place (Err why) e = rest ∙ e
          decided_place (Ok at) e = (rest ∙ e.0, e.1)

  -- Refused, it leaves all as it was.
  pub alloc_not : (p : Result Place Refusal) → Decided whole r ws n a p → (why : Refusal) → p ≡ Err why → AllocDone r ws bytes o n a (record { answer = Err why; heap = r }) ws bytes
  alloc_not p decided why q =
      let e : first_reason whole ≡ Some why = subst (Decided whole r ws n a) q decided in
      record { answer = rw e; numbered = rw e; heap = rw e; table = rw e; arena = rw e }

  -- Placed.
  module _ (p : Result Place Refusal) (decided : Decided whole r ws n a p) (place : Place) (q : p ≡ Ok place) where
    abbrev i : ℕ
    i = place.row

    abbrev s : ℕ
    s = place.start

    d : Decided whole r ws n a (Ok place)
    d = subst (Decided whole r ws n a) q decided

    checked : valid r ws ≡ true
    unfolding alloc_order
    checked = not-false (valid r ws) (no_reason whole d.0).0

    bounded : Bounds r ws checked
    bounded = bounds r ws checked

    -- The record's number of guard granules is 0 or 1.
    pub guards_few : r.guards ≤ 1
    guards_few = bounded.guards

    module _ (b : Segment) (is : (c : Config) → c.guards ≡ r.guards → b ≡ block c o n s) where
      granted : Allocated (config_of r) (state_in r ws) o n a
      granted = allocated (config_of r) (state_in r ws) (valid r ws) bytes o n a d.0

      start_is : granted.start ≡ s
      start_is = let z : Some granted.start ≡ Some s = sym granted.lowest ∙ d.1.lowest in cc

      length_is : b.length ≡ needed (config_of r) n
      length_is = ap (λ (x : Segment). x.length) (is (config_of r) refl)

      begins : b.start ≡ s
      begins = ap (λ (x : Segment). x.start) (is (config_of r) refl)

      live : Live (config_of r) b
      live =
          subst (Live (config_of r)) (sym (is (config_of r) refl))
          (record { owned = granted.limited.owned; known = granted.limited.known; requested = granted.limited.size; sized = refl })

      rows_few : rows_of (config_of r) (insert b (blocks_in r.rows ws)) ≤ r.capacity
      rows_few =
          subst (λ (x : Segment). rows_of (config_of r) (insert x (blocks_in r.rows ws)) ≤ r.capacity)
          (ap (block (config_of r) o n) start_is ∙ sym (is (config_of r) refl)) granted.rows

      at_row : Found (config_of r) (segments_in r.rows ws) (needed (config_of r) n) a (Some place)
      at_row = record { lowest = d.1.lowest; room = d.1.room }

      in_use : i < r.rows
      in_use = omega (arith, d.1.room.in_use, length_segments r.rows ws)

      in_words : nth_row (segments_in r.rows ws) i ≡ segment_at ws i
      in_words = row_got r.rows i ws in_use

      -- It ends in the arena.
      pub inside : s + b.length ≤ r.granules
      inside = omega (arith, length_is, d.1.room.up_to, bounded.row i in_use)

      -- What the cut of the row asks for.
      pub row_asked : (i < r.rows) × (b.start + b.length ≤ 4294967295) × ((segment_at ws i).start + (segment_at ws i).length ≤ 4294967295)
          × (4 * (r.rows - 1 + length (cut (segment_at ws i) b)) ≤ length ws)
      row_asked = (
        in_use,
        omega (arith, inside, begins, bounded.granules),
        omega (arith, bounded.row i in_use, bounded.granules, ap (λ (x : Segment). x.start + x.length) in_words),
        omega (arith, ap (λ (x : Segment). length (cut x b)) in_words, found_count (config_of r) (segments_in r.rows ws) (needed (config_of r) n) a place b (valid_map r ws checked) at_row live begins length_is, length_segments r.rows ws, rows_few, bounded.words),
      )

      -- The sums that are taken fit a word.
      pub used_fits : r.used + b.length ≤ 4294967295
      used_fits = omega (arith, inside, bounded.used, bounded.peak, bounded.granules)

      pub offset_fits : 16 * s ≤ 4294967295
      offset_fits = omega (arith, inside, bounded.granules)

      -- What filling the guard asks for: with guards, the block's lies in the arena.
      pub guard_asked : (r.guards ≤ 1) × (1 ≤ r.guards → guard_offset b + guard_bytes (config_of r) ≤ length bytes)
      guard_asked = (
        bounded.guards,
        λ some-guard. omega (
          arith,
          guard_inside (config_of r) b live.sized,
          inside,
          begins,
          allocated_whole (config_of r) (state_in r ws) (valid r ws) bytes o n a d.0 some-guard,
        ),
      )

      module _ (m : ℕ) (after : List ℕ) (w : Rewritten r.rows ws (replaced i 1 (cut (segment_at ws i) b) (segments_in r.rows ws)) m after) where
        map_is : replaced i 1 (cut (segment_at ws i) b) (segments_in r.rows ws) ≡ map_of (config_of r) (insert b (blocks_in r.rows ws))
        map_is =
            ap (λ (x : Segment). replaced i 1 (cut x b) (segments_in r.rows ws)) (sym in_words)
            ∙ found_cut (config_of r) (segments_in r.rows ws) (needed (config_of r) n) a place b (valid_map r ws checked) at_row live begins length_is

        pub rows_fit : m ≤ 4294967295
        rows_fit = omega (arith, w.rows, ap length map_is, rows_few, bounded.capacity)

        left : (used : ℕ) → used ≡ r.used + b.length → handed (updated_of r m used) after ≡ after_alloc_aligned (handed r ws) bytes o n a
        left used u =
            stored_changed r ws checked (insert b (blocks_in r.rows ws)) _ m used after map_is
            (omega (arith, (valid_conditions r ws checked).used, total_insert (λ (x : Segment). x.length) b (blocks_in r.rows ws))) w
            ∙ ap (λ (x : Segment). store (config_of r) (changed (state_in r ws) (insert x (blocks_in r.rows ws)))) (is (config_of r) refl)
            ∙ rw (d.0, fit_at (config_of r) (state_in r ws) o n a s d.1.lowest)

        -- It answers its offset, and leaves the record and the table of the state with its block, whose guard is filled.
        pub alloc_done : (out : Heap) (used : ℕ) → out ≡ updated_of r m used → used ≡ r.used + b.length → (x : ℕ) → x ≡ 16 * s
            → (bytes_after : List ℕ) → bytes_after ≡ with_guard (config_of r) b bytes
            → AllocDone r ws bytes o n a (record { answer = Ok x; heap = out }) after bytes_after
        alloc_done out used e u x is-offset bytes_after filled =
            let f : fit (config_of r) (blocks_in r.rows ws) o n a ≡ Some (block (config_of r) o n s) = fit_at (config_of r) (state_in r ws) o n a s d.1.lowest in
            record {
              answer = rw (d.0, f, is-offset);
              numbered = rw (d.0, f, is-offset);
              heap = e ∙ ap (λ (w : Stored). w.heap) (left used u);
              table = ap (λ (w : Stored). w.words) (left used u);
              arena = rw (d.0, f) (filled ∙ ap (λ (y : Segment). with_guard (config_of r) y bytes) (is (config_of r) refl));
            }
