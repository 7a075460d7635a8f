-- What a resize leaves: to size 0, refused, and with the resized block in place of the old.
-- Assumes nothing.
use mathlib.Core.Path.{◌≡◌, refl, sym, ap, ◌∙◌, subst}
use mathlib.Core.Bool.{true}
use mathlib.Core.List.{List}
use Rattle.std.specs.Prelude.{Some, Result, Ok, Err, ◌&&◌, ◌||◌}
use Prim.Native.Nat.{ℕ, ◌+◌, ◌*◌, ◌/◌, ◌≤◌}
use native.Mathlib.Omega.{arith}
use lib.Dec.{leb, eqb}
use lib.ListN.{length}
use borrow.Author.Tests.{eqb-true, eq-eqb, ne_eqb, le-leb}
use Rattle.model.specs.Quantities.{Config}
use Rattle.model.specs.Allocation.{needed, granules_of, block, insert, offset, block_at, without, stays, resize, bytes}
use Rattle.model.specs.Arena.{disjoint, moved, guard_offset, guard_bytes, with_guard, without_guard}
use Rattle.model.specs.SegmentMap.{map_of, rows_of}
use Rattle.model.specs.Orders.{Order, first_reason, realloc_order}
use Rattle.model.specs.Rules.{as_resize}
use Rattle.model.specs.Numbers.{resized_numbered, value_numbered}
use Rattle.model.proofs.Choosing.{split, both_true}
use Rattle.model.proofs.Ordered.{total_insert}
use Rattle.model.proofs.Kept.{Kept}
use Rattle.model.proofs.Laws.{block_inside}
use Rattle.model.proofs.Guards.{guard_inside}
use Rattle.model.proofs.Staying.{moves_longer, moves_clear}
use Rattle.model.proofs.Refitted.{Accepted, accepted}
use Rattle.model.proofs.Resizing.{exchanged}
use Rattle.model.proofs.ZeroSize.{zero_order, zero_answer}
use Rattle.segments.specs.Rows.{segments_in, blocks_in, Rewritten}
use Rattle.segments.specs.Search.{others}
use Rattle.segments.specs.Changes.{Replaceable}
use Rattle.segments.proofs.Replaced.{inside}
use Rattle.heap.specs.Stored.{Stored, handed, config_of, state_in}
use Rattle.heap.specs.Valid.{valid}
use Rattle.heap.specs.Calls.{after_realloc}
use Rattle.heap.specs.Promises.{FreeDone, ReallocDone}
use Rattle.heap.specs.Steps.{ResizeDecided, updated_of}
use Rattle.heap.proofs.Conditions.{valid_conditions}
use Rattle.heap.proofs.ValidStored.{valid_kept}
use Rattle.heap.proofs.Changing.{Bounds, bounds, stored_changed}
use Rattle.heap.proofs.Frees.{row_found, row_at, guard_lies}
use Rattle.heap.proofs.Refitting.{replaceable, same_blocks}
use Rattle.model.specs.declared.Segment.{Segment}
use Rattle.model.specs.declared.Refusal.{Refusal}
use Rattle.model.specs.declared.Resized.TheVariants as answer
use Rattle.heap.specs.declared.record.Heap.{Heap}
use Rattle.model.specs.declared.Resized.{Resized}
use Rattle.heap.specs.declared.record.Outcome.{Outcome}
use Rattle.heap.specs.declared.resizing.Refitted.{Refitted}

-- a free's answer has the same number and value as a resize's
same_numbers : (f : Result ℕ Refusal) → resized_numbered (as_resize f) ≡ value_numbered f
same_numbers (Ok k) = refl
same_numbers (Err why) = refl

-- To size 0 it is a free.
pub realloc_zero : (r : Heap) (ws arena : List ℕ) (o x n : ℕ) → n ≡ 0 → (f : Outcome ℕ) (after left : List ℕ) → FreeDone r ws arena o x f after left
    → (out : Outcome Resized) → out.answer ≡ as_resize f.answer → out.heap ≡ f.heap → ReallocDone r ws arena o x n out after left
realloc_zero r ws arena o x n z f after left d out e same =
    let order = zero_order (valid r ws) (config_of r) (state_in r ws) arena o x in
    subst (λ (n : ℕ). ReallocDone r ws arena o x n out after left) (sym z)
    (record {
      answer = e ∙ ap as_resize d.answer ∙ sym (zero_answer (valid r ws) (config_of r) (state_in r ws) arena o x);
      numbered = ap resized_numbered e ∙ same_numbers f.answer ∙ rw order d.numbered;
      heap = same ∙ rw order d.heap;
      table = rw order d.table;
      arena = rw order d.arena;
    })

module _ (r : Heap) (ws arena : List ℕ) (o x n : ℕ) (some_size : 1 ≤ n) where
  abbrev whole : Order Refusal
  whole = realloc_order (valid r ws) (config_of r) (state_in r ws) arena o x n

  abbrev blocks : List Segment
  blocks = blocks_in r.rows ws

  module _ (p : Result Refitted Refusal) (decided : ResizeDecided whole r ws o x n p) where
    -- Refused, it leaves all as it was.
    pub realloc_not : (why : Refusal) → p ≡ Err why → ReallocDone r ws arena o x n (record { answer = Err why; heap = r }) ws arena
    realloc_not why q =
        let e : first_reason whole ≡ Some why = subst (ResizeDecided whole r ws o x n) q decided in
        record { answer = rw e; numbered = rw e; heap = rw e; table = rw e; arena = rw e }

    module _ (to : Refitted) (q : p ≡ Ok to) where
      abbrev i : ℕ
      i = to.old.row

      abbrev s : ℕ
      s = to.start

      abbrev old : Segment
      old = to.old.block

      d : ResizeDecided whole r ws o x n (Ok to)
      d = subst (ResizeDecided whole r ws o x n) q decided

      has : Accepted (valid r ws) (config_of r) (state_in r ws) arena o x n
      has = accepted (valid r ws) (config_of r) (state_in r ws) arena o x n some_size d.0

      checked : valid r ws ≡ true
      checked = has.freed.valid

      bounded : Bounds r ws checked
      bounded = bounds r ws checked

      kept : Kept (config_of r) (state_in r ws)
      kept = valid_kept r ws checked

      pub new_asked : r.guards ≤ 1
      new_asked = bounded.guards

      -- The resized block is new.
      module _ (new : Segment) (is : new ≡ block (config_of r) o n s) where
        was : block_at x blocks ≡ Some old
        was = d.1.old.block

        long : new.length ≡ needed (config_of r) n
        long = ap (λ (b : Segment). b.length) is

        may : Replaceable (config_of r) (segments_in r.rows ws) i new
        may = replaceable r ws checked o has.freed.owner n some_size x to.old d.1.old s d.1.new new is

        left_are : insert new (others (segments_in r.rows ws) i) ≡ insert (block (config_of r) o n s) (without x blocks)
        left_are = same_blocks r ws checked o has.freed.owner n some_size x to.old d.1.old s d.1.new new is

        rows_few : rows_of (config_of r) (insert (block (config_of r) o n s) (without x blocks)) ≤ r.capacity
        rows_few =
            let e : Some (block (config_of r) o n has.place.start) ≡ Some (block (config_of r) o n s) = sym has.place.fits ∙ d.1.new in
            let z : block (config_of r) o n has.place.start ≡ block (config_of r) o n s = cc in
            subst (λ (b : Segment). rows_of (config_of r) (insert b (without x blocks)) ≤ r.capacity) z has.rows

        -- What the table's part asks for.
        pub replace_words : 4 * r.rows ≤ length ws
        replace_words = omega (arith, bounded.words, bounded.rows_most)

        pub replace_asked : (c : Config) × Replaceable c (segments_in r.rows ws) i new × (4 * rows_of c (insert new (others (segments_in r.rows ws) i)) ≤ length ws)
        replace_asked = (config_of r, may, omega (arith, ap (rows_of (config_of r)) left_are, rows_few, bounded.words))

        -- Both places are in the arena, so that their bounds fit a word,
        arena_is : length arena ≡ 16 * r.granules
        arena_is = eqb-true _ _ has.freed.whole

        first : offset old ≡ x
        first = ap offset d.1.old.there ∙ row_at (row_found d.1.old)

        old_inside : x + bytes old ≤ length arena
        old_inside = block_inside (config_of r) (state_in r ws) kept arena x old has.freed.whole was

        pub new_inside : 16 * s + bytes new ≤ length arena
        new_inside = omega (arith, arena_is, inside may, ap (λ (b : Segment). b.start) is)

        pub arena_most : length arena ≤ 1048576
        arena_most = omega (arith, arena_is, bounded.granules)

        -- and so are both guards.
        new_guard_lem : guard_offset new + guard_bytes (config_of r) ≤ length arena
        new_guard_lem =
            omega (
              arith,
              new_inside,
              guard_inside (config_of r) new (long ∙ ap (needed (config_of r)) (sym (ap (λ (b : Segment). b.requested) is))),
              ap (λ (b : Segment). b.start) is,
            )

        -- The block stays in its place, or goes to one that has no byte of the old and is no shorter.
        apart : (eqb x (16 * s) || (leb (bytes old) (bytes new) && disjoint x (bytes old) (16 * s) (bytes new))) ≡ true
        apart =
            split (stays (config_of r) blocks x n)
            (λ t. let e : Some (block (config_of r) o n (x / 16)) ≡ Some (block (config_of r) o n s) = rw t at d.1.new in
            let y : block (config_of r) o n (x / 16) ≡ block (config_of r) o n s = cc in
            let z : x / 16 ≡ s = ap (λ (b : Segment). b.start) y in
            rw (eq-eqb x (16 * s) (omega (arith, row_at (row_found d.1.old)))))
            (λ t. let l = moves_longer (config_of r) blocks kept.ordered x old was n t in
            let f = moves_clear (config_of r) blocks kept.ordered x old was n o (block (config_of r) o n s) t d.1.new in
            let g = both_true _ _ (le-leb (bytes old) (bytes new) (omega (arith, long))) (subst (λ (k : ℕ). disjoint x (bytes old) (16 * s) (16 * k) ≡ true) (sym long) f) in
            split (eqb x (16 * s)) (λ u. rw u) (λ u. rw u g))

        -- What the arena's part asks for.
        pub carry_asked : (r.guards ≤ 1)
            × (1 ≤ r.guards → guard_offset old + guard_bytes (config_of r) ≤ length arena)
            × (1 ≤ r.guards → guard_offset new + guard_bytes (config_of r) ≤ length arena)
            × (offset old + bytes old ≤ length arena)
            × (offset new + bytes new ≤ length arena)
            × ((eqb (offset old) (offset new) || (leb (bytes old) (bytes new) && disjoint (offset old) (bytes old) (offset new) (bytes new))) ≡ true)
        carry_asked = (
          new_asked,
          λ g. guard_lies (row_found d.1.old) checked arena has.freed.whole old d.1.old.there,
          λ g. new_guard_lem,
          omega (arith, old_inside, first),
          omega (arith, new_inside, ap (λ (b : Segment). b.start) is),
          subst (λ (k : ℕ). (eqb k (offset new) || (leb (bytes old) (bytes new) && disjoint k (bytes old) (offset new) (bytes new))) ≡ true) (sym first)
              (subst (λ (k : ℕ). (eqb x k || (leb (bytes old) (bytes new) && disjoint x (bytes old) k (bytes new))) ≡ true) (sym (ap offset is)) apart),
        )

        resize_is : resize (config_of r) blocks o x n ≡ Some (block (config_of r) o n s)
        resize_is = rw (ne_eqb n 0 (omega arith)) d.1.new

        -- What is live then.
        used_is : granules_of (insert (block (config_of r) o n s) (without x blocks)) + old.length ≡ new.length + r.used
        used_is = omega (arith, long, (valid_conditions r ws checked).used, exchanged (config_of r) (state_in r ws) kept o x n s old was)

        pub used_fits : (old.length ≤ r.used) × (r.used + new.length ≤ 4294967295)
        used_fits =
            let most = total_insert (λ (b : Segment). b.length) (block (config_of r) o n s) (without x blocks) in
            (omega (arith, long, used_is, most), omega (arith, bounded.used, bounded.peak, bounded.granules, new_inside, arena_most))

        module _ (m : ℕ) (after : List ℕ)
            (w : (c : Config) → Replaceable c (segments_in r.rows ws) i new → Rewritten r.rows ws (map_of c (insert new (others (segments_in r.rows ws) i))) m after) where
          pub rows_fit : m ≤ 4294967295
          rows_fit = omega (arith, (w (config_of r) may).rows, ap (rows_of (config_of r)) left_are, rows_few, bounded.capacity)

          left : (used : ℕ) → used + old.length ≡ new.length + r.used → handed (updated_of r m used) after ≡ after_realloc (handed r ws) arena o x n
          left used u =
              stored_changed r ws checked (insert (block (config_of r) o n s) (without x blocks)) _ m used after (ap (map_of (config_of r)) left_are)
              (omega (arith, used_is)) (w (config_of r) may)
              ∙ rw (d.0, resize_is)

          -- It answers its offset, and leaves the record and the table of the state with the resized block, its bytes where it is, and its guard filled.
          pub realloc_done : (out : Heap) (used : ℕ) → out ≡ updated_of r m used → used + old.length ≡ new.length + r.used
              → (y : ℕ) → y ≡ 16 * s → (bytes_left : List ℕ)
              → bytes_left ≡ with_guard (config_of r) new (moved (offset old) (bytes old) (offset new) (bytes new) (without_guard (config_of r) old arena))
              → ReallocDone r ws arena o x n (record { answer = Ok (answer.At y); heap = out }) after bytes_left
          realloc_done out used e u y is-offset bytes_left a =
              record {
                answer = rw (d.0, resize_is, is-offset);
                numbered = rw (d.0, resize_is, is-offset);
                heap = e ∙ ap (λ (w : Stored). w.heap) (left used u);
                table = ap (λ (w : Stored). w.words) (left used u);
                arena = rw (d.0, resize_is, was) (a ∙ (λ j. with_guard (config_of r) (is j) (moved (first j) (bytes old) (offset (is j)) (bytes (is j)) (without_guard (config_of r) old arena))));
              }
