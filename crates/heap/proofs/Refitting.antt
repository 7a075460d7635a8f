-- A resize: what is decided of it, step by step.
-- Assumes nothing.
use mathlib.Core.Path.{◌≡◌, refl, sym, ap, ◌∙◌, subst}
use mathlib.Core.Bool.{true, false}
use mathlib.Core.List.{List}
use Rattle.std.specs.Prelude.{Option, None, Some, Result, Ok, Err, if◌then◌else◌}
use Rattle.std.specs.Option.{option_map_or}
use Prim.Native.Nat.{ℕ, ◌+◌, ◌-◌, ◌/◌, ◌%◌, ◌≤◌, ◌<◌}
use native.Mathlib.Omega.{arith}
use lib.Dec.{ltb}
use lib.ListN.{get_or}
use borrow.Author.Tests.{le-leb, le-ltb, lt-ltb}
use Rattle.model.specs.Choose.{total}
use Rattle.model.specs.Quantities.{is_owner, Config, quota}
use Rattle.model.specs.Allocation.{needed, charge, room, lowest_start, block, insert, without, stays, refit, owned_by}
use Rattle.model.specs.SegmentMap.{is_live, rows_of}
use Rattle.model.specs.Orders.{Order, first_reason, free_order, new_length_order, realloc_order, replace_order}
use Rattle.model.proofs.Choosing.{split, both_true}
use Rattle.model.proofs.Ordered.{Live}
use Rattle.model.proofs.Offsets.{Begins, begins}
use Rattle.model.proofs.Ranges.{quota_at}
use Rattle.model.proofs.Released.{Released, released}
use Rattle.model.proofs.Kept.{Kept}
use Rattle.model.proofs.Refitted.{refitted_at, free_refuses, size_decides}
use Rattle.model.proofs.Resizing.{owner_without}
use Rattle.segments.specs.Rows.{nth_row, segments_in, blocks_in}
use Rattle.segments.specs.Tiling.{is_map}
use Rattle.segments.specs.Search.{others, refit_start}
use Rattle.segments.specs.Changes.{Replaceable}
use Rattle.segments.proofs.Rows.{length_segments}
use Rattle.segments.proofs.MapTiles.{live_formed, owner_not_0}
use Rattle.segments.proofs.TilesMap.{map_charged}
use Rattle.heap.specs.Stored.{config_of, state_in}
use Rattle.heap.specs.Valid.{valid}
use Rattle.heap.specs.Steps.{Examination, IsBlock, LookedUp, ResizeDecided}
use Rattle.heap.proofs.ValidStored.{valid_map, valid_kept}
use Rattle.heap.proofs.Changing.{Bounds, bounds}
use Rattle.heap.proofs.Asking.{owner_least, owner_most, granules_counted}
use Rattle.heap.proofs.Frees.{BlockRow, row_found, row_live, row_at, free_invalid}
use Rattle.model.specs.declared.Segment.{Segment}
use Rattle.model.specs.declared.Refusal.{Refusal}
use Rattle.model.specs.declared.Refusal.TheVariants as refusal
use Rattle.segments.specs.declared.census.Census.{Census}
use Rattle.heap.specs.declared.record.Heap.{Heap}
use Rattle.heap.specs.declared.finding.LiveRow.{LiveRow}
use Rattle.heap.specs.declared.resizing.Refitted.{Refitted}

-- a resize by owner o, in a valid heap, of the block at x in row i, to n bytes, not 0
module _ (r : Heap) (ws : List ℕ) (v : valid r ws ≡ true) (o : ℕ) (known : is_owner o ≡ true) (n : ℕ) (some_size : 1 ≤ n) where
  abbrev blocks : List Segment
  blocks = blocks_in r.rows ws

  bounded : Bounds r ws v
  bounded = bounds r ws v

  module _ (x : ℕ) (was : LiveRow) (here : IsBlock r ws x was) where
    abbrev i : ℕ
    i = was.row

    b : BlockRow r ws x was.row
    b = row_found here

    -- the blocks beside the one in row i
    others_are : others (segments_in r.rows ws) i ≡ without x blocks
    others_are = ap (λ (k : ℕ). without k blocks) (row_at b)

    starts : (nth_row (segments_in r.rows ws) i).start ≡ x / 16
    starts = omega (arith, row_at b)

    -- the resized block is at the start that is looked for
    refit_is : refit (config_of r) blocks o x n ≡ option_map_or (λ s. Some (block (config_of r) o n s)) (refit_start (config_of r) (segments_in r.rows ws) i (needed (config_of r) n)) None
    refit_is =
        let e : refit_start (config_of r) (segments_in r.rows ws) i (needed (config_of r) n) ≡ (if stays (config_of r) blocks x n then Some (x / 16) else lowest_start (config_of r) blocks (needed (config_of r) n) 16) =
        λ j. if room (config_of r) (others_are j) (needed (config_of r) n) (starts j) then Some (starts j) else lowest_start (config_of r) blocks (needed (config_of r) n) 16 in
        rw e (split (stays (config_of r) blocks x n) (λ q. rw q) (λ q. rw q))

    -- A resized block at its start, read as d: it may take the place of the one in row i.
    module _ (s : ℕ) (e : refit (config_of r) blocks o x n ≡ Some (block (config_of r) o n s)) (d : Segment) (is : d ≡ block (config_of r) o n s) where
      pub replaceable : Replaceable (config_of r) (segments_in r.rows ws) i d
      replaceable =
          let at = refitted_at (config_of r) (state_in r ws) o x n s e in
          let l : Live (config_of r) (block (config_of r) o n s) = record { owned = owner_least o known; known = owner_most o known; requested = some_size; sized = refl } in
          subst (λ (d : Segment). Replaceable (config_of r) (segments_in r.rows ws) i d) (sym is)
          (record {
            in_use = omega (arith, b.in_use, length_segments r.rows ws);
            map = valid_map r ws v;
            small = omega (arith, bounded.granules);
            old = row_live b;
            formed = live_formed (config_of r) (block (config_of r) o n s) l;
            live = rw (owner_not_0 (config_of r) (block (config_of r) o n s) l);
            fits = rw others_are (both_true _ _ (le-leb (s + needed (config_of r) n) r.granules at.0) at.1);
          })

      pub same_blocks : insert d (others (segments_in r.rows ws) i) ≡ insert (block (config_of r) o n s) (without x blocks)
      same_blocks j = insert (is j) (others_are j)

      -- 8, or the place.
      module _ (count : ℕ) (xs : List Segment) (read : xs ≡ segments_in r.rows ws) (counted : (c : Config) → Replaceable c xs i d → count ≡ rows_of c (insert d (others xs i))) where
        rows_are : count ≡ rows_of (config_of r) (insert (block (config_of r) o n s) (without x blocks))
        rows_are =
            counted (config_of r) (rw read replaceable)
            ∙ ap (λ (ys : List Segment). rows_of (config_of r) (insert d (others ys i))) read
            ∙ ap (rows_of (config_of r)) same_blocks

        pub replace_full : r.capacity < count → first_reason (replace_order (config_of r) (state_in r ws) o x n) ≡ Some refusal.TableFull
        replace_full h = rw (e, lt-ltb r.capacity (rows_of (config_of r) (insert (block (config_of r) o n s) (without x blocks))) (omega (arith, rows_are)))

        pub replace_there : count ≤ r.capacity → ResizeDecided (replace_order (config_of r) (state_in r ws) o x n) r ws o x n (Ok (record { old = was; start = s }))
        replace_there h =
            (rw (e, le-ltb r.capacity (rows_of (config_of r) (insert (block (config_of r) o n s) (without x blocks))) (omega (arith, rows_are))), record { old = here; new = e })

    -- What the search says.
    module _ (xs : List Segment) (read : xs ≡ segments_in r.rows ws) (g : ℕ) (size : g ≡ needed (config_of r) n) (f : Option ℕ)
        (w : (c : Config) → c.base % 16 ≡ 0 → c.granules ≤ 65536 → is_map c xs ≡ true → is_live (nth_row xs i) ≡ true → f ≡ refit_start c xs i g) where
      found_is : refit (config_of r) blocks o x n ≡ option_map_or (λ s. Some (block (config_of r) o n s)) f None
      found_is =
          refit_is
          ∙ ap (λ (t : Option ℕ). option_map_or (λ s. Some (block (config_of r) o n s)) t None)
          (sym (w (config_of r) bounded.base bounded.granules (rw read (valid_map r ws v)) (rw read (row_live b)) ∙ (λ j. refit_start (config_of r) (read j) i (size j))))

      -- 7: there is no place,
      pub replace_nowhere : f ≡ None → first_reason (replace_order (config_of r) (state_in r ws) o x n) ≡ Some refusal.NoPlace
      replace_nowhere q = rw (found_is ∙ ap (λ (f : Option ℕ). option_map_or (λ s. Some (block (config_of r) o n s)) f None) q)

      -- or there is this one.
      pub refit_at : (s : ℕ) → f ≡ Some s → refit (config_of r) blocks o x n ≡ Some (block (config_of r) o n s)
      refit_at s q = found_is ∙ ap (λ (f : Option ℕ). option_map_or (λ s. Some (block (config_of r) o n s)) f None) q

    -- 6, by the figures that were counted.
    module _ (k : Census) (e : Examination r ws k) (owned : was.block.owner ≡ o) where
      kept : Kept (config_of r) (state_in r ws)
      kept = valid_kept r ws v

      begun : Begins (config_of r) 0 x blocks was.block
      begun = begins (config_of r) 0 x blocks was.block kept.ordered here.block

      pub held_without : total (charge (config_of r)) (owned_by o (without x blocks)) + was.block.length ≡ get_or k.held (o - 1) 0
      held_without =
          omega (
            arith,
            begun.live.sized,
            owner_without (config_of r) (state_in r ws) kept (charge (config_of r)) o x was.block here.block owned,
            map_charged (config_of r) (segments_in r.rows ws) (valid_map r ws v) o,
            granules_counted r ws k e o known,
          )

      module _ (held : ℕ) (h : held + was.block.length ≡ get_or k.held (o - 1) 0) (g : ℕ) (size : g ≡ needed (config_of r) n) where
        six_is : ltb (get_or r.granule_quotas (o - 1) 0) (held + g) ≡ ltb (quota r.granule_quotas o) (total (charge (config_of r)) (owned_by o (without x blocks)) + needed (config_of r) n)
        six_is =
            let z : held ≡ total (charge (config_of r)) (owned_by o (without x blocks)) = omega (arith, held_without) in
            λ j. ltb (sym (quota_at r.granule_quotas o (owner_least o known)) j) (z j + size j)

        pub resize_exceeds : ltb (get_or r.granule_quotas (o - 1) 0) (held + g) ≡ true → first_reason (new_length_order (config_of r) (state_in r ws) o x n) ≡ Some refusal.GranuleQuota
        resize_exceeds q = rw (sym six_is ∙ q)

        pub resize_within : ltb (get_or r.granule_quotas (o - 1) 0) (held + g) ≡ false
            → (p : Result Refitted Refusal) → ResizeDecided (replace_order (config_of r) (state_in r ws) o x n) r ws o x n p → ResizeDecided (new_length_order (config_of r) (state_in r ws) o x n) r ws o x n p
        resize_within q (Err why) d = rw (sym six_is ∙ q) d
        resize_within q (Ok to) d = (rw (sym six_is ∙ q) d.0, d.1)

-- The whole order, of what was found.
module _ (r : Heap) (ws arena : List ℕ) (o x n : ℕ) (some_size : 1 ≤ n) where
  abbrev before : Order Refusal
  before = free_order (valid r ws) (config_of r) (state_in r ws) arena o x

  abbrev whole : Order Refusal
  whole = realloc_order (valid r ws) (config_of r) (state_in r ws) arena o x n

  refused : (p : Result Refitted Refusal) (why : Refusal) → p ≡ Err why → first_reason before ≡ Some why → ResizeDecided whole r ws o x n p
  refused p why q e = subst (ResizeDecided whole r ws o x n) (sym q) (free_refuses (valid r ws) (config_of r) (state_in r ws) arena o x n why e)

  pub refit_invalid : valid r ws ≡ false → (p : Result Refitted Refusal) → p ≡ Err refusal.InvalidHeap → ResizeDecided whole r ws o x n p
  refit_invalid v p q = refused p refusal.InvalidHeap q (free_invalid r ws o x arena v)

  module _ (l : Result LiveRow Refusal) (f : LookedUp before r ws x l) where
    pub refit_not : (why : Refusal) → l ≡ Err why → (p : Result Refitted Refusal) → p ≡ Err why → ResizeDecided whole r ws o x n p
    refit_not why q p e = refused p why e (subst (LookedUp before r ws x) q f)

    module _ (was : LiveRow) (q : l ≡ Ok was) where
      looked : LookedUp before r ws x (Ok was)
      looked = subst (LookedUp before r ws x) q f

      good : Released (valid r ws) (config_of r) (state_in r ws) arena o x
      good = released (valid r ws) (config_of r) (state_in r ws) arena o x looked.0

      -- What is asked of the block.
      pub refit_asked : (valid r ws ≡ true) × (is_owner o ≡ true) × IsBlock r ws x was × (was.block.owner ≡ o)
      refit_asked =
          let e : Some good.block ≡ Some was.block = sym good.found ∙ looked.1.block in
          let z : good.block ≡ was.block = cc in
          (good.valid, good.owner, looked.1, ap (λ (b : Segment). b.owner) (sym z) ∙ good.owned)

      pub refit_decided : (p : Result Refitted Refusal) → ResizeDecided (new_length_order (config_of r) (state_in r ws) o x n) r ws o x n p → ResizeDecided whole r ws o x n p
      refit_decided (Err why) d = size_decides (valid r ws) (config_of r) (state_in r ws) arena o x n some_size looked.0 ∙ d
      refit_decided (Ok to) d = (size_decides (valid r ws) (config_of r) (state_in r ws) arena o x n some_size looked.0 ∙ d.0, d.1)
