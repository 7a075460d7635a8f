-- What the definitions of a resize come to, for a reader: laws that tie each to another sentence of document 02.
-- Assumes nothing.
use mathlib.Core.Path.{◌≡◌, refl, sym, ap, ◌∙◌}
use mathlib.Core.Bool.{Bool, true, false}
use mathlib.Core.List.{List, [], ◌∷◌, Memᴰ}
use mathlib.Core.Logic.{◌↔◌}
use Rattle.std.specs.Prelude.{None, Some, is_none, Ok, Err, if◌then◌else◌}
use Prim.Native.Nat.{ℕ, ◌+◌, ◌*◌, ◌/◌, ◌%◌, ◌≤◌, ◌<◌}
use native.Mathlib.Omega.{arith}
use lib.Dec.{ltb, eqb}
use borrow.Author.Tests.{lt-ltb, le-ltb, eq-eqb, ne_eqb}
use Rattle.model.specs.Choose.{total}
use Rattle.model.specs.Quantities.{Config, quota}
use Rattle.model.specs.Allocation.{needed, charge, State, room, serves, lowest_start, block, insert, block_at, without, stays, refit, resize, granules_of, owned_by}
use Rattle.model.specs.SegmentMap.{rows_of}
use Rattle.model.specs.Orders.{first_reason, new_length_order, realloc_order}
use Rattle.model.specs.Rules.{resizing, bytes_at, resized_to, realloc, after_realloc}
use Rattle.model.specs.Numbers.{number_of, numbered_by, resized_numbered}
use Rattle.model.proofs.Choosing.{split, split_option, tests}
use Rattle.model.proofs.Offsets.{Begins, begins}
use Rattle.model.proofs.Kept.{Kept}
use Rattle.model.proofs.Laws.{lowest_exactly, no_place_exactly, owner_granules}
use Rattle.model.proofs.Refitted.{Refit, refitted, Accepted, accepted}
use Rattle.model.proofs.Resizing.{owner_without}
use Rattle.model.specs.declared.Segment.{Segment}
use Rattle.model.specs.declared.Refusal.TheVariants as refusal
use Rattle.model.specs.declared.Resized.TheVariants as answer

-- every start is on a boundary of 16 bytes if the base is
serves_16 : (c : Config) → c.base % 16 ≡ 0 → (bs : List Segment) (g s : ℕ) → serves c bs g 16 s ≡ room c bs g s
serves_16 c base bs g s = rw (eq-eqb ((c.base + 16 * s) % 16) 0 (omega arith))

-- Of a block that cannot stay, in an arena whose base is a multiple of 16:
module _ (c : Config) (base : c.base % 16 ≡ 0) (bs : List Segment) (o x n : ℕ) (hn : 1 ≤ n) (e : stays c bs x n ≡ false) where
  -- it goes to s exactly if there is room for it at s beside all blocks, itself included, and at no lower start;
  pub moves_exactly : (s : ℕ) → (refit c bs o x n ≡ Some (block c o n s)) ↔ ((room c bs (needed c n) s ≡ true) × ((t : ℕ) → t < s → room c bs (needed c n) t ≡ false))
  moves_exactly s = (
    λ f. split_option (lowest_start c bs (needed c n) 16)
        (λ q. let f' : None ≡ Some (block c o n s) = rw (e, q) at f in let w : ◌≡◌ {A = ℕ} 0 1 = cc in absurd (omega arith))
        (λ t q. let f' : Some (block c o n t) ≡ Some (block c o n s) = rw (e, q) at f in
        let z : block c o n t ≡ block c o n s = cc in
        let y : t ≡ s = ap (λ (d : Segment). d.start) z in
        let w = (lowest_exactly c bs (needed c n) 16 s (omega arith)).0 (q ∙ ap Some y) in
        (sym (serves_16 c base bs (needed c n) s) ∙ w.0, λ u p. sym (serves_16 c base bs (needed c n) u) ∙ w.1 u p)),
    λ w. let l : lowest_start c bs (needed c n) 16 ≡ Some s =
        (lowest_exactly c bs (needed c n) 16 s (omega arith)).1 (serves_16 c base bs (needed c n) s ∙ w.0, λ t p. serves_16 c base bs (needed c n) t ∙ w.1 t p) in
        rw (e, l),
  )

  -- and nowhere exactly if there is room for it at no start.
  pub moves_nowhere : (refit c bs o x n ≡ None) ↔ ((s : ℕ) → room c bs (needed c n) s ≡ false)
  moves_nowhere = (
    λ f s. split_option (lowest_start c bs (needed c n) 16)
        (λ q. sym (serves_16 c base bs (needed c n) s) ∙ (no_place_exactly c bs (needed c n) 16 (omega arith)).0 q s)
        (λ t q. let f' : Some (block c o n t) ≡ None = rw (e, q) at f in let w : ◌≡◌ {A = ℕ} 0 1 = cc in absurd (omega arith)),
    λ w. rw (e, (no_place_exactly c bs (needed c n) 16 (omega arith)).1 (λ s. serves_16 c base bs (needed c n) s ∙ w s)),
  )

-- Of an owner's block at x, to n bytes:
module _ (c : Config) (h : State) (k : Kept c h) (o x n : ℕ) (hn : 1 ≤ n) (b : Segment) (was : block_at x h.blocks ≡ Some b) (mine : b.owner ≡ o) where
  begun : Begins c 0 x h.blocks b
  begun = begins c 0 x h.blocks b k.ordered was

  -- A block that stays keeps its start.
  pub stays_there : stays c h.blocks x n ≡ true → refit c h.blocks o x n ≡ Some (block c o n b.start)
  stays_there e = let z : x / 16 ≡ b.start = omega (arith, begun.first) in rw (e, z)

  -- what the owner has beside it
  beside : total (charge c) (owned_by o (without x h.blocks)) + b.length ≡ granules_of (owned_by o h.blocks)
  beside =
      omega (arith, owner_granules c h k o, begun.live.sized, owner_without c h k (charge c) o x b was mine)

  -- 6 if the owner's granules, the new length in place of the old, exceed its quota; 7 if there is no place; 8 if the rows afterwards exceed the table's.
  pub six_seven_eight : first_reason (new_length_order c h o x n)
      ≡ (if ltb (quota c.granule_quotas o + b.length) (granules_of (owned_by o h.blocks) + needed c n) then Some refusal.GranuleQuota
      else if is_none (refit c h.blocks o x n) then Some refusal.NoPlace
      else if ltb c.capacity (rows_of c (resizing c h o x n).blocks) then Some refusal.TableFull else None)
  six_seven_eight =
      let most : ℕ = quota c.granule_quotas o in
      let others : ℕ = total (charge c) (owned_by o (without x h.blocks)) in
      let all : ℕ = granules_of (owned_by o h.blocks) in
      let six : ltb most (others + needed c n) ≡ ltb (most + b.length) (all + needed c n) =
      split (ltb most (others + needed c n))
      (λ q. q ∙ sym (lt-ltb (most + b.length) (all + needed c n) (omega (tests, beside))))
      (λ q. q ∙ sym (le-ltb (most + b.length) (all + needed c n) (omega (tests, beside)))) in
      rw (six, ne_eqb n 0 (omega arith))

-- an inserted block is among them
insert_member : (b : Segment) (bs : List Segment) → Memᴰ b (insert b bs)
insert_member b [] = Memᴰ.head refl
insert_member b (x ∷ xs) = split (ltb b.start x.start) (λ q. rw q (Memᴰ.head refl)) (λ q. rw q (Memᴰ.tail (insert_member b xs)))

module _ (v : Bool) (c : Config) (h : State) (arena : List ℕ) (o x n : ℕ) where
  -- A resize to another size than 0 that is not refused answers an offset.
  pub answers_offset : 1 ≤ n → first_reason (realloc_order v c h arena o x n) ≡ None → (y : ℕ) × (realloc v c h arena o x n ≡ Ok (answer.At y))
  answers_offset hn e =
      let r : Accepted v c h arena o x n = accepted v c h arena o x n hn e in
      (16 * r.place.start, rw (e, ne_eqb n 0 (omega arith), r.place.fits))

  -- Where a resize answers an offset, the owner's block of n bytes is live there.
  pub answered_live : (y : ℕ) → realloc v c h arena o x n ≡ Ok (answer.At y)
      → (s : ℕ) × (y ≡ 16 * s) × Memᴰ (block c o n s) (after_realloc v c h arena o x n).blocks
  answered_live y e =
      split_option (first_reason (realloc_order v c h arena o x n))
      (λ q. split (eqb n 0)
      (λ z. let e' : Ok (answer.Freed (bytes_at h x)) ≡ Ok (answer.At y) = rw (q, z) at e in let w : ◌≡◌ {A = ℕ} 0 1 = cc in absurd (omega arith))
      (λ z. split_option (refit c h.blocks o x n)
      (λ p. let e' : Ok (answer.Freed (bytes_at h x)) ≡ Ok (answer.At y) = rw (q, z, p) at e in let w : ◌≡◌ {A = ℕ} 0 1 = cc in absurd (omega arith))
      (λ d p. let r : Refit c h o x n = refitted c h o x n (rw p) in
      let e' : Ok (answer.At (16 * r.start)) ≡ Ok (answer.At y) = rw (q, z, r.fits) at e in
      let i : 16 * r.start ≡ y = cc in
      (r.start, sym i, rw (q, z, r.fits) (insert_member (block c o n r.start) (without x h.blocks))))))
      (λ r q. let e' : Err r ≡ Ok (answer.At y) = rw q at e in let w : ◌≡◌ {A = ℕ} 0 1 = cc in absurd (omega arith))

  -- The number and the value of a resize, by its order.
  pub realloc_numbered : resized_numbered (realloc v c h arena o x n) ≡ numbered_by number_of (realloc_order v c h arena o x n) (resized_to c h o x n ∷ [])
  realloc_numbered =
      split_option (first_reason (realloc_order v c h arena o x n))
      (λ q. split_option (resize c h.blocks o x n) (λ p. rw (q, p)) (λ d p. rw (q, p)))
      (λ r q. rw q)
