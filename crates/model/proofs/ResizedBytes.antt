-- What a resize leaves in the arena, byte by byte, for its users.
-- Assumes nothing.
use mathlib.Core.Path.{◌≡◌, sym, ap, ◌∙◌}
use mathlib.Core.Bool.{Bool, true, false}
use mathlib.Core.List.{List}
use Rattle.std.specs.Prelude.{None, Some, if◌then◌else◌, ◌&&◌}
use Prim.Native.Nat.{ℕ, ◌+◌, ◌*◌, ◌/◌, ◌≤◌, ◌<◌, min}
use native.Mathlib.Omega.{arith}
use lib.Dec.{leb, ltb}
use lib.ListN.{length, get_or}
use borrow.Author.Tests.{eqb-true, ne_eqb, le-leb, le-ltb}
use Rattle.model.specs.Quantities.{Config}
use Rattle.model.specs.Allocation.{needed, State, block, offset, block_at, has_granule, resize, bytes}
use Rattle.model.specs.Arena.{moved, guard_offset, guard_bytes, in_guard, with_guard, without_guard, is_broken}
use Rattle.model.specs.Orders.{first_reason, realloc_order}
use Rattle.model.specs.Rules.{arena_after_realloc}
use Rattle.model.proofs.Choosing.{split, tests}
use Rattle.model.proofs.Offsets.{Begins, begins}
use Rattle.model.proofs.Kept.{Kept}
use Rattle.model.proofs.Refitted.{resize_size, resize_length, resize_requested, Accepted, accepted}
use Rattle.model.proofs.Moving.{length_moved, moved_in, moved_out}
use Rattle.model.proofs.Guards.{before_guard, after_guard, guard_inside, length_filled, filled_each, whole}
use Rattle.model.proofs.Disjoint.{byte_granule}
use Rattle.model.proofs.Laws.{block_inside}
use Rattle.model.specs.declared.Segment.{Segment}

-- A resize of the block `old` at x to n bytes, not refused, leaves the block `new`.
module _ (v : Bool) (c : Config) (h : State) (k : Kept c h) (arena : List ℕ) (o x n : ℕ)
    (e : first_reason (realloc_order v c h arena o x n) ≡ None)
    (old new : Segment) (was : block_at x h.blocks ≡ Some old) (left : resize c h.blocks o x n ≡ Some new) where
  -- where both blocks lie, and how long they are
  record Lies : Type 0 where
    first : offset old ≡ x
    from : x + bytes old ≤ length arena
    to : offset new + bytes new ≤ length arena
    sized : new.length ≡ needed c n
    asks : new.requested ≡ n
    old_guard : guard_offset old + guard_bytes c ≡ x + bytes old
    new_guard : guard_offset new + guard_bytes c ≡ offset new + bytes new
    requested : old.requested + guard_bytes c ≤ bytes old

  lies : Lies
  lies =
      let hn : 1 ≤ n = resize_size c h.blocks o x n new left in
      let r : Accepted v c h arena o x n = accepted v c h arena o x n hn e in
      let z : Some (block c o n r.place.start) ≡ Some new = rw (ne_eqb n 0 (omega arith), r.place.fits) at left in
      let y : block c o n r.place.start ≡ new = cc in
      let s : r.place.start ≡ new.start = ap (λ (d : Segment). d.start) y in
      let w : new.requested ≡ n = resize_requested c h.blocks o x n new left in
      let l : new.length ≡ needed c n = resize_length c h.blocks o x n new left in
      let b : Begins c 0 x h.blocks old = begins c 0 x h.blocks old k.ordered was in
      let a : length arena ≡ 16 * c.granules = eqb-true (length arena) (16 * c.granules) r.freed.whole in
      record {
        first = b.first;
        from = block_inside c h k arena x old r.freed.whole was;
        to = omega (arith, r.place.inside);
        sized = l;
        asks = w;
        old_guard = omega (arith, guard_inside c old b.live.sized, b.first);
        new_guard = omega (arith, guard_inside c new (l ∙ ap (needed c) (sym w)));
        requested = omega (arith, b.live.sized);
      }

  -- the arena with the old guard zeroed
  abbrev freed : List ℕ
  freed = without_guard c old arena

  length_freed : length freed ≡ length arena
  length_freed = length_filled c old 0 arena (omega (arith, lies.old_guard, lies.from))

  -- and then the bytes moved
  abbrev carried : List ℕ
  carried = moved x (bytes old) (offset new) (bytes new) freed

  length_carried : length carried ≡ length arena
  length_carried = length_moved x (bytes old) (offset new) (bytes new) freed (omega (arith, length_freed, lies.from)) (omega (arith, length_freed, lies.to)) ∙ length_freed

  new_fits : guard_offset new + guard_bytes c ≤ length carried
  new_fits = omega (arith, length_carried, lies.new_guard, lies.to)

  after : arena_after_realloc v c h arena o x n ≡ with_guard c new carried
  after = rw (e, left, was)

  after_each : (i : ℕ) → get_or (arena_after_realloc v c h arena o x n) i 0 ≡ (if in_guard c i new then 0x77 else get_or carried i 0)
  after_each i = rw after (filled_each c new 0x77 carried new_fits i)

  -- The arena keeps its length.
  pub bytes_length : length (arena_after_realloc v c h arena o x n) ≡ length arena
  bytes_length = rw after (length_filled c new 0x77 carried new_fits ∙ length_carried)

  -- The bytes of the new guard are 0x77,
  pub bytes_guard : (i : ℕ) → in_guard c i new ≡ true → get_or (arena_after_realloc v c h arena o x n) i 0 ≡ 0x77
  bytes_guard i g = after_each i ∙ rw g

  -- so it is whole.
  pub resized_whole : is_broken c (arena_after_realloc v c h arena o x n) new ≡ false
  resized_whole = rw after (whole c new carried new_fits)

  -- The first bytes, as many as both blocks hold, come along, but for the new guard; of the old guard there come zeros.
  pub bytes_along : (i : ℕ) → i < min (bytes old) (bytes new) → in_guard c (offset new + i) new ≡ false
      → get_or (arena_after_realloc v c h arena o x n) (offset new + i) 0 ≡ (if in_guard c (x + i) old then 0 else get_or arena (x + i) 0)
  bytes_along i q g =
      after_each (offset new + i)
      ∙ rw g (moved_in x (bytes old) (offset new) (bytes new) freed (omega (arith, length_freed, lies.from)) (omega (arith, length_freed, lies.to)) i q
      ∙ filled_each c old 0 arena (omega (arith, lies.old_guard, lies.from)) (x + i))

  -- So the first bytes, up to the smaller of the sizes requested before and now, are kept.
  pub bytes_kept : (i : ℕ) → i < min old.requested n → get_or (arena_after_realloc v c h arena o x n) (offset new + i) 0 ≡ get_or arena (x + i) 0
  bytes_kept i q =
      bytes_along i (omega (arith, lies.requested, lies.sized)) (before_guard c new (offset new + i) (omega (arith, lies.asks)))
      ∙ rw (before_guard c old (x + i) (omega (arith, lies.first)))

  -- a byte that did not come along, and is not in the new guard
  apart : (i : ℕ) → (leb (offset new) i && ltb i (offset new + min (bytes old) (bytes new))) ≡ false → in_guard c i new ≡ false
      → get_or (arena_after_realloc v c h arena o x n) i 0 ≡ (if has_granule (i / 16) old then 0 else get_or arena i 0)
  apart i q g =
      after_each i
      ∙ rw (g, ← byte_granule i old, lies.first) (moved_out x (bytes old) (offset new) (bytes new) freed (omega (arith, length_freed, lies.from)) (omega (arith, length_freed, lies.to)) i q
      ∙ split (leb x i && ltb i (x + bytes old))
      (λ p. rw p)
      (λ p. rw p (filled_each c old 0 arena (omega (arith, lies.old_guard, lies.from)) i ∙ rw (outside i p))))
    where
      -- a byte outside the old block is not in its guard
      outside : (i : ℕ) → (leb x i && ltb i (x + bytes old)) ≡ false → in_guard c i old ≡ false
      outside i p =
          split (leb x i)
          (λ l. let t : ltb i (x + bytes old) ≡ false = rw l at p in after_guard c old i (omega (tests, lies.old_guard)))
          (λ l. before_guard c old i (omega (tests, lies.first)))

  -- Of the bytes outside the new block those of the old one are zero, so that nothing of it is readable there, and every other byte stays.
  pub bytes_elsewhere : (i : ℕ) → has_granule (i / 16) new ≡ false
      → get_or (arena_after_realloc v c h arena o x n) i 0 ≡ (if has_granule (i / 16) old then 0 else get_or arena i 0)
  bytes_elsewhere i q =
      split (leb (offset new) i)
      (λ p. let t : ltb i (offset new + bytes new) ≡ false = rw p at (byte_granule i new ∙ q) in
      apart i (rw (p, le-ltb i (offset new + min (bytes old) (bytes new)) (omega tests))) (after_guard c new i (omega (tests, lies.new_guard))))
      (λ p. apart i (rw p) (before_guard c new i (omega tests)))

  -- A byte past those that came along, if it is not the old block's, stays as it was unless it is in the new guard.
  pub bytes_behind : (i : ℕ) → offset new + min (bytes old) (bytes new) ≤ i → has_granule (i / 16) old ≡ false
      → get_or (arena_after_realloc v c h arena o x n) i 0 ≡ (if in_guard c i new then 0x77 else get_or arena i 0)
  bytes_behind i p q =
      split (in_guard c i new)
      (λ g. rw g (bytes_guard i g))
      (λ g. let t : get_or (arena_after_realloc v c h arena o x n) i 0 ≡ (if has_granule (i / 16) old then 0 else get_or arena i 0) =
      apart i (rw (le-leb (offset new) i (omega arith), le-ltb i (offset new + min (bytes old) (bytes new)) p)) g in
      rw g (rw q at t))
