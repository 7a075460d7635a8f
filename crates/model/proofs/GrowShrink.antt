-- A resize in place, and one back to the old length that finds the block's guard whole: that is not refused, and the rows have the starts, lengths and owners that they had.
-- Assumes nothing.
use mathlib.Core.Path.{◌≡◌, refl, sym, ap, ◌∙◌, subst}
use mathlib.Core.Bool.{Bool, true, false, not}
use mathlib.Core.List.{List, [], ◌∷◌, map, map-append}
use Rattle.std.specs.Prelude.{None, Some}
use Prim.Native.Nat.{ℕ, ◌+◌, ◌/◌, ◌≤◌, ◌<◌}
use native.Mathlib.Omega.{arith}
use lib.Dec.{ltb, eqb}
use lib.ListN.{length, length-map}
use borrow.Author.Tests.{lt-ltb, le-ltb, eq-eqb, ne_eqb}
use Rattle.model.specs.Choose.{total}
use Rattle.model.specs.Quantities.{Config, quota}
use Rattle.model.specs.Allocation.{needed, charge, State, block, insert, offset, block_at, without, stays, refit, owned_by}
use Rattle.model.specs.Arena.{has_recorded_length, is_broken}
use Rattle.model.specs.SegmentMap.{map_from, map_of, rows_of}
use Rattle.model.specs.Orders.{first_reason, free_order, new_length_order, realloc_order}
use Rattle.model.specs.Rules.{after_realloc}
use Rattle.model.proofs.Choosing.{split, tests, only_twice}
use Rattle.model.proofs.Refusing.{reason_none}
use Rattle.model.proofs.Ordered.{Ordered, long}
use Rattle.model.proofs.Offsets.{Begins, begins}
use Rattle.model.proofs.Kept.{Kept}
use Rattle.model.proofs.Refitted.{free_first_lem, size_decides}
use Rattle.model.proofs.Released.{Released, released}
use Rattle.model.proofs.Resizing.{owner_without, keep_realloc}
use Rattle.model.proofs.Asked.{guard_decides, first_byte}
use Rattle.model.proofs.Staying.{without_later, same_stays}
use Rattle.model.specs.declared.Segment.{Segment}

-- A block put at x in place of the one there is taken out again.
without_insert : (x : ℕ) (d : Segment) (bs : List Segment) → offset d ≡ x → without x (insert d (without x bs)) ≡ without x bs
without_insert x d [] e = rw (eq-eqb (offset d) x e)
without_insert x d (b ∷ bs) e =
    split (eqb (offset b) x)
    (λ q. rw q (without_insert x d bs e))
    (λ q. rw q
    (split (ltb d.start b.start)
    (λ p. rw (p, eq-eqb (offset d) x e, q) (ap (λ (r : List Segment). b ∷ r) (only_twice (λ (b : Segment). not (eqb (offset b) x)) bs)))
    (λ p. rw (p, q) (ap (λ (r : List Segment). b ∷ r) (without_insert x d bs e)))))

-- it is the block at x
at_insert : (x : ℕ) (d : Segment) (bs : List Segment) → offset d ≡ x → block_at x (insert d (without x bs)) ≡ Some d
at_insert x d [] e = rw (eq-eqb (offset d) x e)
at_insert x d (b ∷ bs) e =
    split (eqb (offset b) x)
    (λ q. rw q (at_insert x d bs e))
    (λ q. rw q (split (ltb d.start b.start) (λ p. rw (p, eq-eqb (offset d) x e)) (λ p. rw (p, q) (at_insert x d bs e))))

module _ (c : Config) where
  -- a block before all others is put first
  insert_first : (d : Segment) (s : ℕ) (bs : List Segment) → d.start < s → Ordered c s bs → insert d bs ≡ d ∷ bs
  insert_first d s [] h o = refl
  insert_first d s (b ∷ bs) h o = rw (lt-ltb d.start b.start (omega arith))

  -- The block at x, taken out and put back, leaves the blocks as they were.
  insert_without : (s x : ℕ) (bs : List Segment) (b : Segment) → Ordered c s bs → block_at x bs ≡ Some b → insert b (without x bs) ≡ bs
  insert_without s x [] b o e = let w : ◌≡◌ {A = ℕ} 0 1 = cc in absurd (omega arith)
  insert_without s x (d ∷ bs) b o e =
      split (eqb (offset d) x)
      (λ q. let e' : Some d ≡ Some b = rw q at e in
      let z : d ≡ b = cc in
      let l : 1 ≤ d.length = long c d o.1 in
      rw (q, without_later c (d.start + d.length) x bs (omega tests) o.2)
      (subst (λ (k : Segment). insert k bs ≡ d ∷ bs) z (insert_first d (d.start + d.length) bs (omega arith) o.2)))
      (λ q. let e' : block_at x bs ≡ Some b = rw q at e in
      let r : Begins c (d.start + d.length) x bs b = begins c (d.start + d.length) x bs b o.2 e' in
      rw (q, le-ltb b.start d.start (omega (arith, r.from))) (ap (λ (r : List Segment). d ∷ r) (insert_without (d.start + d.length) x bs b o.2 e')))

-- The start, the length and the owner of each segment.
abbrev pub shape : List Segment → List (ℕ × ℕ × ℕ)
shape xs = map (λ (b : Segment). (b.start, b.length, b.owner)) xs

-- the block, as of m bytes requested
abbrev requesting : ℕ → Segment → Segment
requesting m b = record { start = b.start; length = b.length; owner = b.owner; requested = m }

-- the bytes requested of a block do not change the shape of the map
shape_requesting : (e m s : ℕ) (b : Segment) (bs : List Segment) → shape (map_from e s (insert (requesting m b) bs)) ≡ shape (map_from e s (insert b bs))
shape_requesting e m s b [] = simp map-append
shape_requesting e m s b (x ∷ xs) =
    split (ltb b.start x.start)
    (λ q. rw q (simp map-append))
    (λ q. rw q (simp (map-append, shape_requesting e m (x.start + x.length) b xs)))

-- After a resize to n bytes in which the block `old` at x stays, a resize to m bytes, which need the old length, that finds the guard whole:
module _ (v : Bool) (c : Config) (h : State) (k : Kept c h) (arena : List ℕ) (o x n : ℕ) (hn : 1 ≤ n)
    (e : first_reason (realloc_order v c h arena o x n) ≡ None)
    (old : Segment) (was : block_at x h.blocks ≡ Some old) (st : stays c h.blocks x n ≡ true)
    (h' : State) (is : h' ≡ after_realloc v c h arena o x n)
    (m : ℕ) (hm : 1 ≤ m) (fits : needed c m ≡ old.length) (arena' : List ℕ) (whole : has_recorded_length c arena' ≡ true)
    (unbroken : is_broken c arena' (block c o n (x / 16)) ≡ false) where
  begun : Begins c 0 x h.blocks old
  begun = begins c 0 x h.blocks old k.ordered was

  start_is : x / 16 ≡ old.start
  start_is = omega (arith, begun.first)

  free : Released v c h arena o x
  free = released v c h arena o x (free_first_lem v c h arena o x n e)

  mine : old.owner ≡ o
  mine = subst (λ (b : Segment). b.owner ≡ o) (same free.block old (sym free.found ∙ was)) free.owned
    where
      same : (b d : Segment) → Some b ≡ Some d → b ≡ d
      same b d e = cc

  put_back : insert old (without x h.blocks) ≡ h.blocks
  put_back = insert_without c 0 x h.blocks old k.ordered was

  same_but_requested : block c o m old.start ≡ requesting m old
  same_but_requested = λ i. record { start = old.start; length = fits i; owner = sym mine i; requested = m }

  same_shape : shape (map_of c (insert (block c o m old.start) (without x h.blocks))) ≡ shape (map_of c h.blocks)
  same_shape =
      ap (λ (d : Segment). shape (map_of c (insert d (without x h.blocks)))) same_but_requested
      ∙ shape_requesting c.granules m 0 old (without x h.blocks)
      ∙ ap (λ (bs : List Segment). shape (map_of c bs)) put_back

  -- the block in between
  abbrev now : Segment
  now = block c o n (x / 16)

  between : h'.blocks ≡ insert now (without x h.blocks)
  between = ap (λ (s : State). s.blocks) is ∙ rw (e, ne_eqb n 0 (omega arith), st)

  others : without x h'.blocks ≡ without x h.blocks
  others = rw between (without_insert x now h.blocks (omega (arith, begun.first)))

  there : block_at x h'.blocks ≡ Some now
  there = rw between (at_insert x now h.blocks (omega (arith, begun.first)))

  -- none of a free's reasons applies, nor 6, nor 8
  free_granted : first_reason (free_order true c h' arena' o x) ≡ None
  free_granted =
      guard_decides c h' arena' o x whole
      (first_byte c h' o x free.owner (subst (Kept c) (sym is) (keep_realloc c h k v arena o x n)) now there ∙ rw (there, eq-eqb o o refl))
      ∙ rw (there, unbroken)

  granules_suffice : total (charge c) (owned_by o (without x h.blocks)) + needed c m ≤ quota c.granule_quotas o
  granules_suffice =
      omega (arith, k.granules o, begun.live.sized, owner_without c h k (charge c) o x old was mine)

  rows_suffice_lem : rows_of c (insert (block c o m old.start) (without x h.blocks)) ≤ c.capacity
  rows_suffice_lem = omega (arith, k.rows, simp length-map at (ap length same_shape))

  -- it stays again,
  pub back_stays : stays c h'.blocks x m ≡ true
  back_stays = rw others (same_stays c h.blocks k.ordered x old was m fits)

  -- where the old one was,
  pub back_refits : refit c h'.blocks o x m ≡ Some (block c o m old.start)
  back_refits = rw (back_stays, start_is)

  -- is not refused,
  pub back_granted : first_reason (realloc_order true c h' arena' o x m) ≡ None
  back_granted =
      size_decides true c h' arena' o x m hm free_granted
      ∙ reason_none (new_length_order c h' o x m)
      (rw others (le-ltb _ _ granules_suffice), (rw back_refits, (rw (back_refits, others) (le-ltb _ _ rows_suffice_lem), tt)))

  -- leaves the block of m bytes in the place of the old one,
  pub back_blocks : (after_realloc true c h' arena' o x m).blocks ≡ insert (block c o m old.start) (without x h.blocks)
  back_blocks = rw (back_granted, ne_eqb m 0 (omega arith), back_refits, others)

  -- and the starts, the lengths and the owners of the map are those before both;
  pub back_map : shape (map_of c (after_realloc true c h' arena' o x m).blocks) ≡ shape (map_of c h.blocks)
  back_map = ap (λ (bs : List Segment). shape (map_of c bs)) back_blocks ∙ same_shape

  -- with the bytes requested before, the blocks are exactly those.
  pub back_same : m ≡ old.requested → (after_realloc true c h' arena' o x m).blocks ≡ h.blocks
  back_same q =
      back_blocks
      ∙ ap (λ (d : Segment). insert d (without x h.blocks)) (same_but_requested ∙ ap (λ (j : ℕ). requesting j old) q)
      ∙ put_back
