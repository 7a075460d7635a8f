-- What a resize comes to, for one who calls it: said by the answers of the calls alone, for every record, table and arena.
-- Assumes nothing.
use mathlib.Core.Path.{◌≡◌, sym, ap, ◌∙◌, subst}
use mathlib.Core.Bool.{Bool, true, false}
use mathlib.Core.List.{List}
use Rattle.std.specs.Prelude.{None, Some, Ok, Err, if◌then◌else◌, ◌&&◌}
use Prim.Native.Nat.{ℕ, ◌+◌, ◌*◌, ◌/◌, ◌≤◌, ◌<◌, min}
use native.Mathlib.Omega.{arith}
use lib.Dec.{leb, ltb}
use lib.ListN.{get_or}
use borrow.Author.Tests.{ne_eqb, le-leb, lt-ltb}
use Rattle.model.specs.Quantities.{Config, in_range}
use Rattle.model.specs.Allocation.{State, granules_for, needed, offset, bytes, block, block_at, has_granule, stays, refit, resize}
use Rattle.model.specs.Arena.{has_recorded_length, disjoint, guard_offset, guard_bytes, in_guard, is_broken}
use Rattle.model.specs.SegmentMap.{map_of}
use Rattle.model.specs.Orders.{Order, unless, first_reason, free_order, realloc_order, block_size_order}
use Rattle.model.specs.Rules.{bytes_at, resizing}
use Rattle.model.specs.Rules as rules
use Rattle.model.proofs.Choosing.{split, split_option, ok_value, tests, one_holds}
use Rattle.model.proofs.Offsets.{Begins, begins}
use Rattle.model.proofs.Kept.{Kept}
use Rattle.model.proofs.Released.{Released, released}
use Rattle.model.proofs.Refitted.{resize_size, resize_length, resize_requested, free_first_lem}
use Rattle.model.proofs.Staying.{moves_clear}
use Rattle.model.proofs.Resizing.{keep_realloc}
use Rattle.model.proofs.GrowShrink.{back_granted, back_refits, back_same}
use Rattle.model.proofs.Disjoint.{byte_granule}
use Rattle.model.proofs.Guards.{before_guard, bytes_whole}
use Rattle.model.proofs.ResizedBytes.{bytes_guard, bytes_along, bytes_kept, bytes_elsewhere}
use Rattle.heap.specs.Stored.{Stored, store}
use Rattle.heap.specs.Calls.{is_valid, config, state, block_size, realloc, after_realloc, arena_after_realloc}
use Rattle.segments.specs.Rows.{table_of}
use Rattle.heap.proofs.StoredValid.{state_back, stored_valid}
use Rattle.heap.proofs.ValidStored.{store_is, valid_kept, valid_range}
use Rattle.model.specs.declared.Segment.{Segment}
use Rattle.model.specs.declared.Refusal.{Refusal}
use Rattle.model.specs.declared.Refusal.TheVariants as refusal
use Rattle.model.specs.declared.Resized.TheVariants as answer
use Rattle.model.specs.declared.BlockSize.{BlockSize}

module _ (s : Stored) (arena : List ℕ) (o x n : ℕ) where
  abbrev order : Order Refusal
  order = realloc_order (is_valid s) (config s) (state s) arena o x n

  -- Refused, it leaves the record and the table as they were, and the arena.
  pub realloc_refused : (r : Refusal) → realloc s arena o x n ≡ Err r → (after_realloc s arena o x n ≡ s) × (arena_after_realloc s arena o x n ≡ arena)
  realloc_refused r e =
      split_option (first_reason order)
      (λ q. absurd (split_option (resize (config s) (state s).blocks o x n)
      (λ p. let z : Ok (answer.Freed (bytes_at (state s) x)) ≡ Err r = rw (q, p) at e in let w : ◌≡◌ {A = ℕ} 0 1 = cc in omega arith)
      (λ b p. let z : Ok (answer.At (offset b)) ≡ Err r = rw (q, p) at e in let w : ◌≡◌ {A = ℕ} 0 1 = cc in omega arith)))
      (λ t q. (rw q, rw q))

  -- What is not a valid heap gets 1, and stays as it was.
  pub realloc_invalid : is_valid s ≡ false
      → (realloc s arena o x n ≡ Err refusal.InvalidHeap) × (after_realloc s arena o x n ≡ s) × (arena_after_realloc s arena o x n ≡ arena)
  unfolding realloc_order free_order
  realloc_invalid v = (rw v, rw v, rw v)

  -- what a resize that is answered y has found and leaves
  record Answered (y : ℕ) : Type 0 where
    passed : first_reason order ≡ None
    old : Segment
    was : block_at x (state s).blocks ≡ Some old
    new : Segment
    left : resize (config s) (state s).blocks o x n ≡ Some new
    at : offset new ≡ y
    sized : new.length ≡ needed (config s) n
    asks : new.requested ≡ n
    good : is_valid s ≡ true
    kept : Kept (config s) (state s)

  answered : (y : ℕ) → realloc s arena o x n ≡ Ok (answer.At y) → Answered y
  answered y e =
      split_option (first_reason order)
      (λ q. let f : Released (is_valid s) (config s) (state s) arena o x = released (is_valid s) (config s) (state s) arena o x (free_first_lem (is_valid s) (config s) (state s) arena o x n q) in
      split_option (resize (config s) (state s).blocks o x n)
      (λ p. let z : Ok (answer.Freed (bytes_at (state s) x)) ≡ Ok (answer.At y) = rw (q, p) at e in let w : ◌≡◌ {A = ℕ} 0 1 = cc in absurd (omega arith))
      (λ b p. let z : Ok (answer.At (offset b)) ≡ Ok (answer.At y) = rw (q, p) at e in
      record {
        passed = q;
        old = f.block;
        was = f.found;
        new = b;
        left = p;
        at = cc;
        sized = resize_length (config s) (state s).blocks o x n b p;
        asks = resize_requested (config s) (state s).blocks o x n b p;
        good = f.valid;
        kept = valid_kept s.heap s.words f.valid;
      }))
      (λ t q. let z : Err t ≡ Ok (answer.At y) = rw q at e in let w : ◌≡◌ {A = ℕ} 0 1 = cc in absurd (omega arith))

  -- answered where it was, it stayed
  answered_there : {y : ℕ} (a : Answered y) → y ≡ x → 1 ≤ n → stays (config s) (state s).blocks x n ≡ true
  answered_there {y} a here hn =
      let b : Begins (config s) 0 x (state s).blocks a.old = begins (config s) 0 x (state s).blocks a.old a.kept.ordered a.was in
      split (stays (config s) (state s).blocks x n)
      (λ q. q)
      (λ q. let f : refit (config s) (state s).blocks o x n ≡ Some a.new = rw (ne_eqb n 0 (omega arith)) at a.left in
      let d : disjoint x (bytes a.old) (offset a.new) (bytes a.new) ≡ true = moves_clear (config s) (state s).blocks a.kept.ordered x a.old a.was n o a.new q f in
      absurd (omega (arith, a.at, a.sized, b.long, one_holds (x + bytes a.old) (offset a.new) (offset a.new + bytes a.new) x d)))

  -- For a block whose size is answered as these bytes, and a resize that answers y:
  module _ (requested held : ℕ) (asked : block_size s o x ≡ Ok (record { requested = requested; held = held })) (y : ℕ) (e : realloc s arena o x n ≡ Ok (answer.At y)) where
    -- what the enquiry told
    told : (b : Segment) → block_at x (state s).blocks ≡ Some b → (b.requested ≡ requested) × (bytes b ≡ held)
    told b w =
        split_option (first_reason (block_size_order (is_valid s) (config s) (state s) o x))
        (λ q. let z : Ok (record { requested = b.requested; held = bytes b }) ≡ Ok (record { requested = requested; held = held }) = rw (q, w) at asked in (ap (λ (a : BlockSize). a.requested) (ok_value z), ap (λ (a : BlockSize). a.held) (ok_value z)))
        (λ t q. let z : Err t ≡ Ok (record { requested = requested; held = held }) = rw q at asked in let w : ◌≡◌ {A = ℕ} 0 1 = cc in absurd (omega arith))

    -- The first bytes, up to the smaller of the sizes requested before and now, are kept.
    pub realloc_kept : (i : ℕ) → i < min requested n → get_or (arena_after_realloc s arena o x n) (y + i) 0 ≡ get_or arena (x + i) 0
    realloc_kept i q =
        let a : Answered y = answered y e in
        let t = told a.old a.was in
        ap (λ (k : ℕ). get_or (arena_after_realloc s arena o x n) (k + i) 0) (sym a.at)
        ∙ bytes_kept (is_valid s) (config s) (state s) a.kept arena o x n a.passed a.old a.new a.was a.left i (omega arith)

    -- where the guard of the block that is left begins
    begun : (a : Answered y) → guard_offset a.new ≡ y + 16 * granules_for n
    begun a = omega (arith, a.at, ap granules_for a.asks)

    -- All bytes but the guards' go along: those before the new guard come from where the block was, and of the old guard come zeros.
    pub realloc_along : (i : ℕ) → i < held → i < 16 * granules_for n
        → get_or (arena_after_realloc s arena o x n) (y + i) 0 ≡ (if leb (16 * granules_for requested) i then 0 else get_or arena (x + i) 0)
    realloc_along i p q =
        let a : Answered y = answered y e in
        let t = told a.old a.was in
        let b : Begins (config s) 0 x (state s).blocks a.old = begins (config s) 0 x (state s).blocks a.old a.kept.ordered a.was in
        let from : guard_offset a.old ≡ x + 16 * granules_for requested = omega (arith, b.first, ap granules_for t.0) in
        let in-old : in_guard (config s) (x + i) a.old ≡ leb (16 * granules_for requested) i =
        split (leb (16 * granules_for requested) i)
        (λ l. rw (l, le-leb (guard_offset a.old) (x + i) (omega tests), lt-ltb (x + i) (guard_offset a.old + guard_bytes (config s)) (omega (tests, b.live.sized, t.0, t.1))))
        (λ l. rw l (before_guard (config s) a.old (x + i) (omega tests))) in
        ap (λ (k : ℕ). get_or (arena_after_realloc s arena o x n) (k + i) 0) (sym a.at)
        ∙ bytes_along (is_valid s) (config s) (state s) a.kept arena o x n a.passed a.old a.new a.was a.left i
        (omega (arith, a.sized, t.1)) (before_guard (config s) a.new (offset a.new + i) (omega (arith, begun a, a.at)))
        ∙ ap (λ (b : Bool). if b then 0 else get_or arena (x + i) 0) in-old

    -- The bytes of the new guard, if the heap has guards, are 0x77.
    pub realloc_guard : (i : ℕ) → y + 16 * granules_for n ≤ i → i < y + 16 * needed (config s) n → get_or (arena_after_realloc s arena o x n) i 0 ≡ 0x77
    realloc_guard i p q =
        let a : Answered y = answered y e in
        bytes_guard (is_valid s) (config s) (state s) a.kept arena o x n a.passed a.old a.new a.was a.left i
        (rw (le-leb (guard_offset a.new) i (omega (arith, begun a)), lt-ltb i (guard_offset a.new + guard_bytes (config s)) (omega (arith, begun a))))

    -- Outside the block that is left, the old block's bytes are zero, so that nothing of it is readable there, and every other byte is as it was.
    pub realloc_elsewhere : (i : ℕ) → (leb y i && ltb i (y + 16 * needed (config s) n)) ≡ false
        → get_or (arena_after_realloc s arena o x n) i 0 ≡ (if leb x i && ltb i (x + held) then 0 else get_or arena i 0)
    realloc_elsewhere i q =
        let a : Answered y = answered y e in
        let t = told a.old a.was in
        let first : offset a.old ≡ x = (begins (config s) 0 x (state s).blocks a.old a.kept.ordered a.was).first in
        let out : has_granule (i / 16) a.new ≡ false =
        sym (byte_granule i a.new) ∙ (λ j. leb (a.at j) i && ltb i (a.at j + 16 * a.sized j)) ∙ q in
        bytes_elsewhere (is_valid s) (config s) (state s) a.kept arena o x n a.passed a.old a.new a.was a.left i out
        ∙ ap (λ (b : Bool). if b then 0 else get_or arena i 0) (sym (byte_granule i a.old) ∙ (λ j. leb (first j) i && ltb i (first j + t.1 j)))

    -- Answered where it was, the block is put back as it was by a resize to the bytes requested before, if no byte of its guard was changed meanwhile: this is not refused, and every word of the table is as it was before both.
    pub realloc_back : y ≡ x → (bytes : List ℕ) → has_recorded_length (config s) bytes ≡ true
        → ((i : ℕ) → x + 16 * granules_for n ≤ i → i < x + 16 * needed (config s) n → get_or bytes i 0 ≡ 0x77)
        → (realloc (after_realloc s arena o x n) bytes o x requested ≡ Ok (answer.At x)) × ((after_realloc (after_realloc s arena o x n) bytes o x requested).words ≡ s.words)
    realloc_back here content whole unchanged =
        let a : Answered y = answered y e in
        let c : Config = config s in
        let h : State = state s in
        let b : Begins c 0 x h.blocks a.old = begins c 0 x h.blocks a.old a.kept.ordered a.was in
        let t = told a.old a.was in
        let hn : 1 ≤ n = resize_size c h.blocks o x n a.new a.left in
        let st : stays c h.blocks x n ≡ true = answered_there a here hn in
        let h' : State = resizing c h o x n in
        let is : h' ≡ rules.after_realloc (is_valid s) c h arena o x n = rw a.passed in
        let k : Kept c h' = subst (Kept c) (sym is) (keep_realloc c h a.kept (is_valid s) arena o x n) in
        let fits : needed c requested ≡ a.old.length = omega (arith, b.live.sized, t.0) in
        let unbroken : is_broken c content (block c o n (x / 16)) ≡ false =
        bytes_whole c (block c o n (x / 16)) content (λ i low high inside. unchanged i (omega (arith, b.first)) (omega (arith, b.first))) in
        let hm : 1 ≤ requested = omega (arith, b.live.requested, t.0) in
        let granted = back_granted (is_valid s) c h a.kept arena o x n hn a.passed a.old a.was st h' is requested hm fits content whole unbroken in
        let there = back_refits (is_valid s) c h a.kept arena o x n hn a.passed a.old a.was st h' is requested hm fits content whole unbroken in
        let same = back_same (is_valid s) c h a.kept arena o x n hn a.passed a.old a.was st h' is requested hm fits content whole unbroken (sym t.0) in
        let blocks : (resizing c h' o x requested).blocks ≡ h.blocks = rw granted at same in
        let left : after_realloc s arena o x n ≡ store c h' = rw a.passed in
        let ranged : in_range c ≡ true = valid_range s.heap s.words a.good in (
          ap (λ (u : Stored). realloc u content o x requested) left
              ∙ (λ i. rules.realloc (stored_valid c h' k ranged i) c (state_back c h' k i) content o x requested)
              ∙ rw (granted, ne_eqb requested 0 (omega arith), there) (ap (λ (y : ℕ). Ok (answer.At y)) b.first),
          ap (λ (u : Stored). (after_realloc u content o x requested).words) left
              ∙ (λ i. (unless (realloc_order (stored_valid c h' k ranged i) c (state_back c h' k i) content o x requested) (store c (resizing c (state_back c h' k i) o x requested)) (λ r. store c h')).words)
              ∙ rw granted (ap (λ (bs : List Segment). table_of c.capacity (map_of c bs)) blocks)
              ∙ ap (λ (u : Stored). u.words) (store_is s.heap s.words a.good),
        )
