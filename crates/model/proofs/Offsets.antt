-- Which block has a granule, and which begins at an offset.
-- Assumes nothing.
use mathlib.Core.Path.{◌≡◌, refl, sym, ap, ◌∙◌, subst}
use mathlib.Core.Bool.{Bool, true, false, not}
use mathlib.Core.List.{List, [], ◌∷◌, Memᴰ}
use Rattle.std.specs.Prelude.{None, Some, is_none, filter}
use Rattle.std.specs.List.{list_all}
use Prim.Native.Nat.{ℕ, ◌+◌, ◌/◌, ◌%◌, ◌≤◌, ◌<◌}
use native.Mathlib.Omega.{arith}
use lib.Dec.{leb, ltb, eqb}
use borrow.Author.Tests.{lt-ltb, le-leb, lt-leb, le-ltb}
use Rattle.model.specs.Quantities.{Config}
use Rattle.model.specs.Allocation.{clear_of, insert, offset, block_at, has_granule, block_over, without}
use Rattle.model.proofs.Choosing.{split, split_option, clash, tests, ne_of_eqb, first_some}
use Rattle.model.proofs.Ordered.{Live, Ordered, long, only_ordered, before_clear, after_clear}
use Rattle.model.specs.declared.Segment.{Segment}

-- Of std's `Option`; the logic has these two of its own.
not_some : {A : Type 0} (a : A) → Some a ≡ None → ⊥
not_some a e = let w : ◌≡◌ {A = ℕ} 0 1 = cc in omega arith

same_some : {A : Type 0} (a b : A) → Some a ≡ Some b → a ≡ b
same_some a b e = cc

-- what it says that a segment has a granule, and that it has not
pub granule_in : (i : ℕ) (b : Segment) → has_granule i b ≡ true → (b.start ≤ i) × (i < b.start + b.length)
granule_in i b h =
    split (leb b.start i) (λ p. let q = rw p at h in (omega tests, omega tests)) (λ p. absurd (clash false (rw p at h) refl))

pub in_granule : (i : ℕ) (b : Segment) → b.start ≤ i → i < b.start + b.length → has_granule i b ≡ true
in_granule i b p q = rw (le-leb b.start i p, lt-ltb i (b.start + b.length) q)

pub granule_before : (i : ℕ) (b : Segment) → i < b.start → has_granule i b ≡ false
granule_before i b h = rw (lt-leb b.start i h)

pub granule_after : (i : ℕ) (b : Segment) → b.start + b.length ≤ i → has_granule i b ≡ false
granule_after i b h = rw (le-leb b.start i (omega arith), le-ltb i (b.start + b.length) h)

-- no block begins at x, so the block over a granule does not
over_starts : (i x : ℕ) (bs : List Segment) (b : Segment) → block_at x bs ≡ None → block_over i bs ≡ Some b → eqb (offset b) x ≡ false
over_starts i x [] b e f = absurd (not_some b (sym f))
over_starts i x (d ∷ bs) b e f =
    split (eqb (offset d) x)
    (λ q. absurd (not_some d (rw q at e)))
    (λ q. split (has_granule i d)
    (λ p. subst (λ (k : Segment). eqb (offset k) x ≡ false) (same_some d b (rw p at f)) q)
    (λ p. over_starts i x bs b (rw q at e) (rw p at f)))

-- If no block begins at a multiple of 16, the block over its granule begins before it.
pub over_inside : (x : ℕ) (bs : List Segment) (b : Segment) → block_at x bs ≡ None → block_over (x / 16) bs ≡ Some b → x % 16 ≡ 0 → b.start < x / 16
over_inside x bs b e f a =
    let g : (b.start ≤ x / 16) × (x / 16 < b.start + b.length) = granule_in (x / 16) b (first_some (has_granule (x / 16)) bs b f) in
    let n : ¬ (offset b ≡ x) = ne_of_eqb (offset b) x (over_starts (x / 16) x bs b e f) in
    omega arith

-- a granule that no block has stays so when a block without it is added, or when blocks are taken away
pub over_insert : (i : ℕ) (b : Segment) (bs : List Segment) → has_granule i b ≡ false → block_over i bs ≡ None → block_over i (insert b bs) ≡ None
over_insert i b [] h e = rw h
over_insert i b (x ∷ xs) h e =
    split (has_granule i x)
    (λ p. absurd (not_some x (rw p at e)))
    (λ p. split (ltb b.start x.start)
    (λ q. rw (q, h, p) (rw p at e))
    (λ q. rw (q, p) (over_insert i b xs h (rw p at e))))

pub over_only : (i : ℕ) (p : Segment → Bool) (bs : List Segment) → block_over i bs ≡ None → block_over i (filter p bs) ≡ None
over_only i p [] e = refl
over_only i p (b ∷ bs) e =
    split (has_granule i b)
    (λ q. absurd (not_some b (rw q at e)))
    (λ q. let r : block_over i (filter p bs) ≡ None = over_only i p bs (rw q at e) in split (p b) (λ t. rw (t, q) r) (λ t. rw t r))

-- the block that begins at x, among those from granule s on
pub record Begins (c : Config) (s x : ℕ) (bs : List Segment) (b : Segment) : Type 0 where
  pub over : block_over (x / 16) bs ≡ Some b
  pub first : offset b ≡ x
  pub from : s ≤ b.start
  pub inside : b.start + b.length ≤ c.granules
  pub long : 1 ≤ b.length
  pub live : Live c b

module _ (c : Config) where
  over_none : (s i : ℕ) (bs : List Segment) → i < s → Ordered c s bs → block_over i bs ≡ None
  over_none s i [] h o = refl
  over_none s i (b ∷ bs) h o = rw (granule_before i b (omega arith)) (over_none (b.start + b.length) i bs (omega arith) o.2)

  in_arena_lem : (s : ℕ) (bs : List Segment) → Ordered c s bs → s ≤ c.granules
  in_arena_lem s [] o = o
  in_arena_lem s (b ∷ bs) o = omega (arith, in_arena_lem (b.start + b.length) bs o.2)

  -- The block at x is the one over its granule.
  pub begins : (s x : ℕ) (bs : List Segment) (b : Segment) → Ordered c s bs → block_at x bs ≡ Some b → Begins c s x bs b
  begins s x [] b o e = absurd (not_some b (sym e))
  begins s x (d ∷ bs) b o e =
      split (eqb (offset d) x)
      (λ q. let l : 1 ≤ d.length = long c d o.1 in
      subst (Begins c s x (d ∷ bs)) (same_some d b (rw q at e)) (record {
        over = rw (in_granule (x / 16) d (omega tests) (omega tests));
        first = omega tests;
        from = o.0;
        inside = in_arena_lem (d.start + d.length) bs o.2;
        long = l;
        live = o.1;
      }))
      (λ q. let r : Begins c (d.start + d.length) x bs b = begins (d.start + d.length) x bs b o.2 (rw q at e) in
      record {
        over = rw (granule_after (x / 16) d (omega (arith, r.first, r.from))) r.over;
        first = r.first;
        from = omega (arith, r.from);
        inside = r.inside;
        long = r.long;
        live = r.live;
      })

  -- The block over the granule of x, if it begins at x, is the block at x.
  pub over_at : (x : ℕ) (bs : List Segment) (b : Segment) → Ordered c 0 bs → block_over (x / 16) bs ≡ Some b → offset b ≡ x → block_at x bs ≡ Some b
  over_at x bs b o e q =
      split_option (block_at x bs)
      (λ f. absurd (omega (arith, over_inside x bs b f e (omega arith))))
      (λ d f. f ∙ ap Some (same_some d b (sym (begins 0 x bs d o f).over ∙ e)))

  -- Without the block at x no block has a granule of it.
  pub over_without : (s x i : ℕ) (bs : List Segment) (b : Segment) → Ordered c s bs → block_at x bs ≡ Some b → has_granule i b ≡ true → block_over i (without x bs) ≡ None
  over_without s x i [] b o e h = refl
  over_without s x i (d ∷ bs) b o e h =
      split (eqb (offset d) x)
      (λ q. let h' : has_granule i d ≡ true = subst (λ (k : Segment). has_granule i k ≡ true) (sym (same_some d b (rw q at e))) h in
      rw q
      (over_none (d.start + d.length) i (without x bs) (granule_in i d h').1
      (only_ordered c (λ (b : Segment). not (eqb (offset b) x)) (d.start + d.length) bs o.2)))
      (λ q. let r : Begins c (d.start + d.length) x bs b = begins (d.start + d.length) x bs b o.2 (rw q at e) in
      rw (q, granule_after i d (omega (arith, r.from, granule_in i b h))) (over_without (d.start + d.length) x i bs b o.2 (rw q at e) h))

-- a live block, among those from granule s on
pub record Member (c : Config) (s : ℕ) (b : Segment) : Type 0 where
  pub from : s ≤ b.start
  pub inside : b.start + b.length ≤ c.granules
  pub live : Live c b

module _ (c : Config) where
  pub member : (b : Segment) (s : ℕ) (bs : List Segment) → Ordered c s bs → Memᴰ b bs → Member c s b
  member b s bs o (Memᴰ.head {x = x} {xs = ys} q) =
      subst (Member c s) (sym q) (record { from = o.0; inside = in_arena_lem c (x.start + x.length) ys o.2; live = o.1 })
  member b s bs o (Memᴰ.tail {x = x} {xs = ys} m) =
      let r : Member c (x.start + x.length) b = member b (x.start + x.length) ys o.2 m in
      record { from = omega (arith, r.from); inside = r.inside; live = r.live }

  -- The live block that has granule i is the block over it.
  pub over_live : (b : Segment) (s i : ℕ) (bs : List Segment) → Ordered c s bs → Memᴰ b bs → has_granule i b ≡ true → block_over i bs ≡ Some b
  over_live b s i bs o (Memᴰ.head {x = x} {xs = ys} q) h =
      let z : has_granule i x ≡ true = subst (λ (k : Segment). has_granule i k ≡ true) q h in rw z (ap Some (sym q))
  over_live b s i bs o (Memᴰ.tail {x = x} {xs = ys} m) h =
      let r : Member c (x.start + x.length) b = member b (x.start + x.length) ys o.2 m in
      rw (granule_after i x (omega (arith, r.from, granule_in i b h))) (over_live b (x.start + x.length) i ys o.2 m h)

  -- No live block has granule i exactly if one granule at i is clear of all of them.
  pub over_clear : (s i : ℕ) (bs : List Segment) → Ordered c s bs → is_none (block_over i bs) ≡ list_all (clear_of i 1) bs
  over_clear s i [] o = refl
  over_clear s i (b ∷ bs) o =
      split (leb b.start i)
      (λ p. split (ltb i (b.start + b.length))
      (λ q. rw (in_granule i b (omega tests) (omega tests), lt-leb (i + 1) b.start (omega tests), lt-leb (b.start + b.length) i (omega tests)))
      (λ q. rw (p, q, after_clear i 1 b (omega tests)) (over_clear (b.start + b.length) i bs o.2)))
      (λ p. rw (p, before_clear i 1 b (omega tests)) (over_clear (b.start + b.length) i bs o.2))
