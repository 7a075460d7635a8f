-- The row of the block that a call names, and what a free and an enquiry for a size make of it.
-- Assumes nothing.
use mathlib.Core.Path.{◌≡◌, sym, ap, ◌∙◌, subst}
use mathlib.Core.Bool.{Bool, true, false}
use mathlib.Core.List.{List, [], ◌∷◌, ◌++◌}
use Rattle.std.specs.Prelude.{None, Some, Result, Ok, Err, if◌then◌else◌}
use Prim.Native.Nat.{ℕ, ◌+◌, ◌*◌, ◌/◌, ◌%◌, ◌≤◌, ◌<◌}
use native.Mathlib.Omega.{arith}
use lib.Dec.{leb, ltb, eqb}
use lib.ListN.{length, replicate}
use borrow.Author.Tests.{not-false, eqb-true}
use Rattle.model.specs.Quantities.{is_owner}
use Rattle.model.specs.Allocation.{granules_of, offset, bytes, block_at, has_granule, block_over, without}
use Rattle.model.specs.Arena.{has_recorded_length, written, guard_offset, guard_bytes, is_broken}
use Rattle.model.specs.SegmentMap.{is_free, is_live, map_of, rows_of}
use Rattle.model.specs.Reasons.{broken_guard, other_arena}
use Rattle.model.specs.Orders.{Order, first_reason, unless, free_order, block_size_order, block_order}
use Rattle.model.specs.Rules.{releasing}
use Rattle.model.proofs.Choosing.{split, tests, first_some, first_picked}
use Rattle.model.proofs.Offsets.{Begins, begins, granule_in, over_at}
use Rattle.model.proofs.Guards.{guard_inside}
use Rattle.model.proofs.Refusing.{NoReason, no_reason, first_then, first_stays, refused_by, passed_by}
use Rattle.model.proofs.Released.{Released, released as not-refused}
use Rattle.model.proofs.Kept.{Kept, keep_others, returned_free_lem}
use Rattle.model.proofs.Laws.{block_inside}
use Rattle.model.proofs.Asked.{free_asks, size_asks}
use Rattle.segments.specs.Rows.{nth_row, segments_in, blocks_in, Rewritten}
use Rattle.segments.specs.Search.{RowOf}
use Rattle.segments.specs.Changes.{released}
use Rattle.segments.proofs.Finding.{over_row}
use Rattle.segments.proofs.Rows.{length_segments}
use Rattle.segments.proofs.Releasing.{release_rows}
use Rattle.heap.specs.Stored.{Stored, handed, store, config_of, state_in}
use Rattle.heap.specs.Valid.{valid}
use Rattle.heap.specs.Promises.{FreeDone, BlockSizeDone}
use Rattle.heap.specs.Steps.{segment_order, IsBlock, LookedUp, updated_of}
use Rattle.heap.proofs.Conditions.{valid_conditions}
use Rattle.heap.proofs.ValidStored.{valid_map, valid_kept}
use Rattle.heap.proofs.Changing.{bounds, stored_changed}
use Rattle.model.specs.declared.Segment.{Segment}
use Rattle.model.specs.declared.BlockSize.{BlockSize}
use Rattle.model.specs.declared.Refusal.{Refusal}
use Rattle.model.specs.declared.Refusal.TheVariants as refusal
use Rattle.heap.specs.declared.record.Heap.{Heap}
use Rattle.heap.specs.declared.finding.LiveRow.{LiveRow}

module _ (r : Heap) (ws : List ℕ) where
  -- A row in use is in the table, and holds no more bytes than an arena has.
  module _ (v : valid r ws ≡ true) (i : ℕ) (h : i < r.rows) where
    pub row_bytes : (s : Segment) → s ≡ nth_row (segments_in r.rows ws) i → bytes s ≤ 1048576
    row_bytes s e = omega (arith, (bounds r ws v).row i h, (bounds r ws v).granules, ap (λ (k : Segment). k.length) e)

  -- What one order decides, another with the same first reason does.
  decides : (x : ℕ) (p q : Order Refusal) → first_reason p ≡ first_reason q → (l : Result LiveRow Refusal) → LookedUp p r ws x l → LookedUp q r ws x l
  decides x p q e (Err why) d = sym e ∙ d
  decides x p q e (Ok found) d = (sym e ∙ d.0, d.1)

  -- A refusal is decided by its reason.
  looked_not : (x : ℕ) (p : Order Refusal) (l : Result LiveRow Refusal) (why : Refusal) → l ≡ Err why → first_reason p ≡ Some why → LookedUp p r ws x l
  looked_not x p l why q e = subst (LookedUp p r ws x) (sym q) e

-- A row in use has the block at x.
pub record BlockRow (r : Heap) (ws : List ℕ) (x row : ℕ) : Type 0 where
  pub in_use : row < r.rows
  pub block : block_at x (blocks_in r.rows ws) ≡ Some (nth_row (segments_in r.rows ws) row)

-- So has the row of a block that was found.
pub row_found : {r : Heap} {ws : List ℕ} {x : ℕ} {found : LiveRow} → IsBlock r ws x found → BlockRow r ws x found.row
row_found b = record { in_use = b.in_use; block = b.block ∙ ap Some b.there }

-- A row that has the block at x is live and begins there.
module _ {r : Heap} {ws : List ℕ} {x i : ℕ} (b : BlockRow r ws x i) where
  pub row_live : is_live (nth_row (segments_in r.rows ws) i) ≡ true
  row_live = first_picked (λ (b : Segment). eqb (offset b) x) is_live (segments_in r.rows ws) (nth_row (segments_in r.rows ws) i) b.block

  pub row_at : offset (nth_row (segments_in r.rows ws) i) ≡ x
  row_at = eqb-true _ x (first_some (λ (b : Segment). eqb (offset b) x) (blocks_in r.rows ws) (nth_row (segments_in r.rows ws) i) b.block)

-- The guard of a block that is read in its row, in a valid heap that is lent the whole arena:
module _ {r : Heap} {ws : List ℕ} {x i : ℕ} (b : BlockRow r ws x i) (v : valid r ws ≡ true) (arena : List ℕ) (whole : has_recorded_length (config_of r) arena ≡ true) (s : Segment) (e : s ≡ nth_row (segments_in r.rows ws) i) where
  at_row : block_at x (blocks_in r.rows ws) ≡ Some s
  at_row = b.block ∙ ap Some (sym e)

  -- it lies in the arena,
  pub guard_lies : guard_offset s + guard_bytes (config_of r) ≤ length arena
  guard_lies =
      let w : Begins (config_of r) 0 x (blocks_in r.rows ws) s = begins (config_of r) 0 x (blocks_in r.rows ws) s (valid_kept r ws v).ordered at_row in
      omega (arith, guard_inside (config_of r) s w.live.sized, w.inside, eqb-true (length arena) (16 * r.granules) whole)

  -- and 19 is asked of it.
  pub guard_asked : (t : Bool) → t ≡ is_broken (config_of r) arena s → first_reason (broken_guard (config_of r) (blocks_in r.rows ws) arena x ∷ []) ≡ (if t then Some refusal.BrokenGuard else None)
  guard_asked t q = rw (at_row, q)

-- Where 11 does not apply the arena has the length recorded.
pub free_lent : (r : Heap) (arena : List ℕ) → first_reason (other_arena (config_of r) arena ∷ []) ≡ None → has_recorded_length (config_of r) arena ≡ true
free_lent r arena e = not-false (has_recorded_length (config_of r) arena) (no_reason (other_arena (config_of r) arena ∷ []) e).0

module _ (r : Heap) (ws : List ℕ) (o x : ℕ) where
  abbrev blocks : List Segment
  blocks = blocks_in r.rows ws

  abbrev look_order : Order Refusal
  look_order = block_order (config_of r) (state_in r ws) o x

  pub owned_not : (l : Result LiveRow Refusal) (why : Refusal) → l ≡ Err why → first_reason look_order ≡ Some why → LookedUp look_order r ws x l
  owned_not l why q e = looked_not r ws x look_order l why q e

  abbrev size_order : Order Refusal
  size_order = block_size_order (valid r ws) (config_of r) (state_in r ws) o x

  -- In a valid heap the row with the granule of byte x, read as s, says what an owner's offset gets.
  module _ (v : valid r ws ≡ true) (known : is_owner o ≡ true) (xs : List Segment) (read : xs ≡ segments_in r.rows ws) (i : ℕ) (found : RowOf xs (x / 16) i) (s : Segment) (is : s ≡ nth_row xs i) where
    w : RowOf (segments_in r.rows ws) (x / 16) i
    w = subst (λ (ys : List Segment). RowOf ys (x / 16) i) read found

    e : s ≡ nth_row (segments_in r.rows ws) i
    e = is ∙ ap (λ (ys : List Segment). nth_row ys i) read

    -- in the arena, the block over the granule is s if that is live, and else there is none
    over : leb (16 * r.granules) x ≡ false → block_over (x / 16) blocks ≡ (if is_live s then Some s else None)
    over p =
        over_row (config_of r) (segments_in r.rows ws) (x / 16) i (valid_map r ws v) (omega tests) w
        ∙ ap (λ (k : Segment). if is_live k then Some k else None) (sym e)

    -- past 15, 16, 17 and 9 the block at x is s
    begun : leb (16 * r.granules) x ≡ false → eqb (x % 16) 0 ≡ true → is_free s ≡ false → ltb s.start (x / 16) ≡ false → block_at x blocks ≡ Some s
    begun p a f l =
        let b : block_over (x / 16) blocks ≡ Some s = rw f at (over p) in
        let g = granule_in (x / 16) s (first_some (has_granule (x / 16)) blocks s b) in
        over_at (config_of r) x blocks s (valid_kept r ws v).ordered b (omega tests)

    -- so s and the arena's length decide
    asked : first_reason look_order ≡ first_reason (segment_order s (16 * r.granules) o x)
    asked =
        rw known
        (split (leb (16 * r.granules) x)
        (λ p. rw p)
        (λ p. rw p
        (split (eqb (x % 16) 0)
        (λ a. rw a
        (split (is_free s)
        (λ f. let b : block_over (x / 16) blocks ≡ None = rw f at (over p) in rw (f, b))
        (λ f. let b : block_over (x / 16) blocks ≡ Some s = rw f at (over p) in
        rw (f, b) (split (ltb s.start (x / 16)) (λ l. rw l) (λ l. rw (l, begun p a f l))))))
        (λ a. rw a))))

    pub offset_refused : (why : Refusal) → first_reason (segment_order s (16 * r.granules) o x) ≡ Some why → first_reason look_order ≡ Some why
    offset_refused why q = asked ∙ q

    pub offset_passed : first_reason (segment_order s (16 * r.granules) o x) ≡ None → LookedUp look_order r ws x (Ok (record { row = i; block = s }))
    offset_passed q =
        let n : NoReason (segment_order s (16 * r.granules) o x) = no_reason (segment_order s (16 * r.granules) o x) q in
        (asked ∙ q, record { in_use = omega (arith, w.in_use, length_segments r.rows ws); there = e; block = begun n.0 (not-false (eqb (x % 16) 0) n.1.0) n.1.1.0 n.1.1.1.0 })

  -- The enquiry for a block's size: refused, and of what was found in a valid heap.
  size_refused : (why : Refusal) → first_reason size_order ≡ Some why → (out : Result BlockSize Refusal) → out ≡ Err why → BlockSizeDone r ws o x out
  size_refused why e out q = subst (BlockSizeDone r ws o x) (sym q) (record { answer = rw e; numbered = rw e })

  pub size_invalid : valid r ws ≡ false → (out : Result BlockSize Refusal) → out ≡ Err refusal.InvalidHeap → BlockSizeDone r ws o x out
  unfolding block_size_order
  size_invalid v = size_refused refusal.InvalidHeap (rw v)

  module _ (v : valid r ws ≡ true) (l : Result LiveRow Refusal) (f : LookedUp look_order r ws x l) where
    sized : LookedUp size_order r ws x l
    sized = decides r ws x look_order size_order (rw v (sym (size_asks (config_of r) (state_in r ws) o x))) l f

    pub size_not : (why : Refusal) → l ≡ Err why → (out : Result BlockSize Refusal) → out ≡ Err why → BlockSizeDone r ws o x out
    size_not why q = size_refused why (subst (LookedUp size_order r ws x) q sized)

    module _ (found : LiveRow) (q : l ≡ Ok found) where
      looked : LookedUp size_order r ws x (Ok found)
      looked = subst (LookedUp size_order r ws x) q sized

      pub size_row : (requested held : ℕ) → requested ≡ found.block.requested → held ≡ bytes found.block → BlockSizeDone r ws o x (Ok (record { requested = requested; held = held }))
      size_row requested held p h = record { answer = rw (p, h, looked.0, looked.1.block); numbered = rw (p, h, looked.0, looked.1.block) }

      pub size_bytes : bytes found.block ≤ 1048576
      size_bytes = row_bytes r ws v found.row looked.1.in_use found.block looked.1.there

  -- A free, of what was found.
  module _ (arena : List ℕ) where
    abbrev order : Order Refusal
    order = free_order (valid r ws) (config_of r) (state_in r ws) arena o x

    abbrev guard_order : Order Refusal
    guard_order = broken_guard (config_of r) blocks arena x ∷ []

    abbrev valid_order : Order Refusal
    valid_order = free_order true (config_of r) (state_in r ws) arena o x

    pub valid_not : (l : Result LiveRow Refusal) (why : Refusal) → l ≡ Err why → first_reason valid_order ≡ Some why → LookedUp valid_order r ws x l
    valid_not l why q e = looked_not r ws x valid_order l why q e

    pub freed_not : (l : Result LiveRow Refusal) (why : Refusal) → l ≡ Err why → first_reason order ≡ Some why → LookedUp order r ws x l
    freed_not l why q e = looked_not r ws x order l why q e

    -- 11,
    pub free_11 : (why : Refusal) → first_reason (other_arena (config_of r) arena ∷ []) ≡ Some why → first_reason valid_order ≡ Some why
    unfolding free_order
    free_11 why e = first_stays (other_arena (config_of r) arena ∷ []) (look_order ++ guard_order) why e

    -- and after it the owner and the offset decide, and then the guard.
    module _ (a : has_recorded_length (config_of r) arena ≡ true) (l : Result LiveRow Refusal) (f : LookedUp look_order r ws x l) where
      asked_then : first_reason valid_order ≡ first_reason (look_order ++ guard_order)
      asked_then = free_asks (config_of r) (state_in r ws) arena o x a

      pub free_undecided : (why : Refusal) → l ≡ Err why → first_reason valid_order ≡ Some why
      free_undecided why q = asked_then ∙ first_stays look_order guard_order why (subst (LookedUp look_order r ws x) q f)

      module _ (found : LiveRow) (q : l ≡ Ok found) where
        at : LookedUp look_order r ws x (Ok found)
        at = subst (LookedUp look_order r ws x) q f

        pub free_block : IsBlock r ws x found
        free_block = at.1

        asked_last : first_reason valid_order ≡ first_reason guard_order
        asked_last = asked_then ∙ first_then look_order guard_order at.0

        pub free_broken : (why : Refusal) → Err why ≡ unless guard_order (Ok (tt {0})) Err → first_reason valid_order ≡ Some why
        free_broken why e = asked_last ∙ refused_by guard_order why e

        pub free_passed : Ok (tt {0}) ≡ unless guard_order (Ok (tt {0})) Err → LookedUp valid_order r ws x (Ok found)
        free_passed e = (asked_last ∙ passed_by guard_order e, free_block)

    -- With 1 it is the whole order.
    pub free_of_valid : valid r ws ≡ true → (l : Result LiveRow Refusal) → LookedUp valid_order r ws x l → LookedUp order r ws x l
    free_of_valid v = decides r ws x valid_order order (rw v)

    pub free_invalid : valid r ws ≡ false → first_reason order ≡ Some refusal.InvalidHeap
    unfolding free_order
    free_invalid v = rw v

    module _ (l : Result LiveRow Refusal) (f : LookedUp order r ws x l) where
      pub free_not : (why : Refusal) → l ≡ Err why → FreeDone r ws arena o x (record { answer = Err why; heap = r }) ws arena
      free_not why q =
          let e : first_reason order ≡ Some why = subst (LookedUp order r ws x) q f in
          record { answer = rw e; numbered = rw e; heap = rw e; table = rw e; arena = rw e }

      module _ (was : LiveRow) (q : l ≡ Ok was) where
        found : LookedUp order r ws x (Ok was)
        found = subst (LookedUp order r ws x) q f

        good : Released (valid r ws) (config_of r) (state_in r ws) arena o x
        good = not-refused (valid r ws) (config_of r) (state_in r ws) arena o x found.0

        pub free_found : (valid r ws ≡ true) × (was.row < r.rows) × (bytes was.block ≤ 1048576)
        free_found = (good.valid, found.1.in_use, row_bytes r ws good.valid was.row found.1.in_use was.block found.1.there)

        kept : Kept (config_of r) (state_in r ws)
        kept = valid_kept r ws good.valid

        -- The rows afterwards are those of the other blocks.
        rows : released was.row (segments_in r.rows ws) ≡ map_of (config_of r) (without x blocks)
        rows =
            release_rows (config_of r) (segments_in r.rows ws) was.row (omega (arith, found.1.in_use, length_segments r.rows ws)) (valid_map r ws good.valid) (row_live (row_found found.1))
            ∙ ap (λ (k : ℕ). map_of (config_of r) (without k blocks)) (row_at (row_found found.1))

        few : rows_of (config_of r) (without x blocks) ≤ r.capacity
        few = (keep_others (config_of r) (state_in r ws) kept x).rows

        pub free_rows : (m : ℕ) (after : List ℕ) → Rewritten r.rows ws (released was.row (segments_in r.rows ws)) m after → m ≤ 512
        free_rows m after w = omega (arith, w.rows, ap length rows, few, (bounds r ws good.valid).capacity)

        freed_block : block_at x blocks ≡ Some was.block
        freed_block = found.1.block

        pub free_inside : x + bytes was.block ≤ length arena
        free_inside = block_inside (config_of r) (state_in r ws) kept arena x was.block good.whole freed_block

        pub free_left : granules_of (without x blocks) + was.block.length ≡ r.used
        free_left =
            (rw (found.0, freed_block) at (returned_free_lem (config_of r) (state_in r ws) kept (valid r ws) arena o x))
            ∙ sym (valid_conditions r ws good.valid).used

        pub free_row : (m : ℕ) (after : List ℕ) → Rewritten r.rows ws (released was.row (segments_in r.rows ws)) m after
            → (h : Heap) (used : ℕ) → h ≡ updated_of r m used → used + was.block.length ≡ r.used
            → (k : ℕ) → k ≡ bytes was.block → (cleared : List ℕ) (v : ℕ) → cleared ≡ written x (replicate k v) arena → v ≡ 0
            → FreeDone r ws arena o x (record { answer = Ok k; heap = h }) after cleared
        free_row m after w h used u n k b cleared v a z =
            let t : handed (updated_of r m used) after ≡ store (config_of r) (releasing (state_in r ws) x) =
            stored_changed r ws good.valid (without x blocks) (released was.row (segments_in r.rows ws)) m used after rows (omega (arith, free_left)) w in
            record {
              answer = rw (found.0, freed_block, b);
              numbered = rw (found.0, freed_block, b);
              heap = rw found.0 (u ∙ ap (λ (t : Stored). t.heap) t);
              table = rw found.0 (ap (λ (t : Stored). t.words) t);
              arena = rw (found.0, freed_block) (a ∙ (λ j. written x (replicate (b j) (z j)) arena));
            }
