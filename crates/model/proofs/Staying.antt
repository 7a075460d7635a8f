-- When a resized block stays at its start, and where it goes if it cannot.
-- Assumes nothing.
use mathlib.Core.Path.{◌≡◌, refl, sym, ap, subst}
use mathlib.Core.Bool.{true, false, not}
use mathlib.Core.List.{List, [], ◌∷◌}
use Rattle.std.specs.Prelude.{None, Some}
use Rattle.std.specs.List.{list_all}
use Prim.Native.Nat.{ℕ, ◌+◌, ◌-◌, ◌*◌, ◌/◌, ◌≤◌, ◌<◌}
use native.Mathlib.Omega.{arith}
use lib.Dec.{leb, eqb}
use borrow.Author.Tests.{le-leb, lt-leb, ne_eqb}
use Rattle.model.specs.Quantities.{Config}
use Rattle.model.specs.Allocation.{needed, clear_of, room, lowest_start, block, offset, block_at, without, stays, refit, bytes}
use Rattle.model.specs.Arena.{disjoint}
use Rattle.model.proofs.Choosing.{split, split_option, clash, tests, first_holds, second_holds, one_holds, every_first}
use Rattle.model.proofs.Ordered.{Ordered, long, only_ordered, after_clear, clear_all, lowest_place}
use Rattle.model.proofs.Offsets.{Begins, begins}
use Rattle.model.specs.declared.Segment.{Segment}

-- the block at x is the first, if that begins there
at_head : (x : ℕ) (d b : Segment) (bs : List Segment) → eqb (offset d) x ≡ true → block_at x (d ∷ bs) ≡ Some b → d ≡ b
at_head x d b bs q e = let e' : Some d ≡ Some b = rw q at e in cc

module _ (c : Config) where
  -- No block is taken out where all begin past x.
  pub without_later : (s x : ℕ) (bs : List Segment) → x < 16 * s → Ordered c s bs → without x bs ≡ bs
  without_later s x [] h o = refl
  without_later s x (b ∷ bs) h o =
      rw (ne_eqb (offset b) x (omega arith)) (ap (λ (r : List Segment). b ∷ r) (without_later (b.start + b.length) x bs (omega arith) o.2))

  -- a run at the start of the block at x, and no longer, is clear of the other blocks
  own_clear : (g s x : ℕ) (bs : List Segment) (b : Segment) → Ordered c s bs → block_at x bs ≡ Some b → g ≤ b.length
      → list_all (clear_of b.start g) (without x bs) ≡ true
  own_clear g s x [] b o e h = refl
  own_clear g s x (d ∷ bs) b o e h =
      split (eqb (offset d) x)
      (λ q. let z : d ≡ b = at_head x d b bs q e in
      let t : g ≤ d.length = subst (λ (k : Segment). g ≤ k.length) (sym z) h in
      rw q (subst (λ (k : Segment). list_all (clear_of k.start g) (without x bs) ≡ true) z
      (clear_all c d.start g (d.start + d.length) (without x bs) (omega arith) (only_ordered c (λ (b : Segment). not (eqb (offset b) x)) (d.start + d.length) bs o.2))))
      (λ q. let e' : block_at x bs ≡ Some b = rw q at e in
      let r : Begins c (d.start + d.length) x bs b = begins c (d.start + d.length) x bs b o.2 e' in
      rw (q, after_clear b.start g d r.from) (own_clear g (d.start + d.length) x bs b o.2 e' h))

  -- a run from t on is clear of blocks past its first k granules if the rest of it is
  rest_clear : (t k g s : ℕ) (bs : List Segment) → t + k ≤ s → k < g → Ordered c s bs → list_all (clear_of t g) bs ≡ list_all (clear_of (t + k) (g - k)) bs
  rest_clear t k g s [] h m o = refl
  rest_clear t k g s (b ∷ bs) h m o =
      let z : t + k + (g - k) ≡ t + g = omega arith in
      let l : 1 ≤ b.length = long c b o.1 in
      rw (z, lt-leb (b.start + b.length) t (omega arith), lt-leb (b.start + b.length) (t + k) (omega arith), rest_clear t k g (b.start + b.length) bs (omega arith) m o.2)

  -- a longer run there is clear of the other blocks exactly if the rest of it is clear of all
  behind_clear : (g s x : ℕ) (bs : List Segment) (b : Segment) → Ordered c s bs → block_at x bs ≡ Some b → b.length < g
      → list_all (clear_of b.start g) (without x bs) ≡ list_all (clear_of (b.start + b.length) (g - b.length)) bs
  behind_clear g s x [] b o e h = refl
  behind_clear g s x (d ∷ bs) b o e h =
      split (eqb (offset d) x)
      (λ q. let z : d ≡ b = at_head x d b bs q e in
      let l : 1 ≤ d.length = long c d o.1 in
      let t : d.length < g = subst (λ (k : Segment). k.length < g) (sym z) h in
      rw q (subst (λ (k : Segment). list_all (clear_of k.start g) (without x bs) ≡ list_all (clear_of (k.start + k.length) (g - k.length)) (d ∷ bs)) z
      (rw (without_later (d.start + d.length) x bs (omega tests) o.2, after_clear (d.start + d.length) (g - d.length) d (omega arith))
      (rest_clear d.start d.length g (d.start + d.length) bs (omega arith) t o.2))))
      (λ q. let e' : block_at x bs ≡ Some b = rw q at e in
      let r : Begins c (d.start + d.length) x bs b = begins c (d.start + d.length) x bs b o.2 e' in
      rw (q, after_clear b.start g d r.from, after_clear (b.start + b.length) (g - b.length) d (omega (arith, r.from)))
      (behind_clear g (d.start + d.length) x bs b o.2 e' h))

-- Of the block at x.
module _ (c : Config) (bs : List Segment) (ordered : Ordered c 0 bs) (x : ℕ) (b : Segment) (was : block_at x bs ≡ Some b) (n : ℕ) where
  begun : Begins c 0 x bs b
  begun = begins c 0 x bs b ordered was

  -- A shorter block stays, and one as long.
  pub shorter_stays : needed c n ≤ b.length → stays c bs x n ≡ true
  shorter_stays h =
      let z : x / 16 ≡ b.start = omega (arith, begun.first) in
      rw (z, le-leb (b.start + needed c n) c.granules (omega (arith, begun.inside))) (own_clear c (needed c n) 0 x bs b ordered was h)

  -- One of the same length stays.
  pub same_stays : needed c n ≡ b.length → stays c bs x n ≡ true
  same_stays h = shorter_stays (omega arith)

  -- A longer block stays exactly if there is room, beside all blocks, for what is missing, right behind it.
  pub longer_stays : b.length < needed c n → stays c bs x n ≡ room c bs (needed c n - b.length) (b.start + b.length)
  longer_stays h =
      let z : x / 16 ≡ b.start = omega (arith, begun.first) in
      let y : b.start + b.length + (needed c n - b.length) ≡ b.start + needed c n = omega arith in
      rw (z, y, behind_clear c (needed c n) 0 x bs b ordered was h)

  -- A block that cannot stay is longer than it was;
  pub moves_longer : stays c bs x n ≡ false → b.length < needed c n
  moves_longer e = split (leb (needed c n) b.length) (λ q. absurd (clash (stays c bs x n) (shorter_stays (omega tests)) e)) (λ q. omega tests)

  -- and its old and its new place have no byte in common.
  pub moves_clear : (o : ℕ) (d : Segment) → stays c bs x n ≡ false → refit c bs o x n ≡ Some d → disjoint x (bytes b) (offset d) (bytes d) ≡ true
  moves_clear o d e f =
      split_option (lowest_start c bs (needed c n) 16)
      (λ q. let f' : None ≡ Some d = rw (e, q) at f in let w : ◌≡◌ {A = ℕ} 0 1 = cc in absurd (omega arith))
      (λ s q. let f' : Some (block c o n s) ≡ Some d = rw (e, q) at f in
      let z : block c o n s ≡ d = cc in
      let t : clear_of s (needed c n) b ≡ true = every_first (clear_of s (needed c n)) _ bs b (lowest_place c bs (needed c n) 16 s q).clear was in
      subst (λ (k : Segment). disjoint x (bytes b) (offset k) (bytes k) ≡ true) z
      (split (leb (s + needed c n) b.start)
      (λ p. omega (tests, begun.first, second_holds))
      (λ p. omega (tests, begun.first, one_holds, first_holds))))
