-- The rows counted one after the other: what they say of all rows with those that are left, and the figures of all.
-- Assumes nothing.
use Rattle.std.proofs.Common.{◌≡◌, ℕ, ◌+◌, ◌-◌, ◌≤◌, max, Bool, true, false, not, eqb, List, [], ◌∷◌, length, get_or, set, sym, ◌∙◌, arith, get_or-set_other, get_or-set_same, eq-eqb, ne_eqb, le-leb}
use Rattle.std.specs.Prelude.{Some, None, ◌&&◌, filter}
use Rattle.std.specs.List.{list_all}
use Rattle.model.specs.Choose.{total, largest}
use Rattle.model.specs.Quantities.{Config}
use Rattle.model.specs.Allocation.{granules_of, owned_by}
use Rattle.model.specs.SegmentMap.{is_free, is_live}
use Rattle.model.proofs.Choosing.{split, tests, clash, parts, both_true, every_head, length_total}
use Rattle.segments.specs.Tiling.{tiles, well_formed, is_map}
use Rattle.segments.specs.Counting.{Bounded, Counted}
use Rattle.segments.specs.Steps.{none_counted, follows_of, free_of, live_of}
use Rattle.segments.proofs.TilesMap.{First, first, map_is}
use Rattle.segments.proofs.Reading.{tiles_le}
use Rattle.segments.proofs.Apart.{apart_from, apart_all}
use Rattle.segments.proofs.Following.{Follows}
use Rattle.segments.proofs.OneCounted.{none_held}
use Rattle.model.specs.declared.Segment.{Segment}
use Rattle.segments.specs.declared.census.Census.{Census}

abbrev length_of : Segment → ℕ
length_of x = x.length

-- In r each owner's figure is the one in l with what its blocks add.
abbrev BlockSums : (Segment → ℕ) → List ℕ → List ℕ → List Segment → Type 0
BlockSums f l r bs = (o : ℕ) → 1 ≤ o → o ≤ 8 → get_or r (o - 1) 0 ≡ get_or l (o - 1) 0 + total f (owned_by o bs)

-- The figures with a block's are the sums with that block, of any figures.
pub more_sums : (f : Segment → ℕ) (l r : List ℕ) (x : Segment) (bs : List Segment) → 1 ≤ x.owner → x.owner ≤ 8 → length l ≡ 8
    → BlockSums f (set l (x.owner - 1) (get_or l (x.owner - 1) 0 + f x)) r bs → BlockSums f l r (x ∷ bs)
more_sums f l r x bs h m e s o a b =
    let v : ℕ = get_or l (x.owner - 1) 0 + f x in
    s o a b ∙ split (eqb x.owner o)
    (λ q. let z : o - 1 ≡ x.owner - 1 = omega tests in rw (q, z, get_or-set_same l (x.owner - 1) v 0 (omega arith)) (omega arith))
    (λ q. rw (q, get_or-set_other l (x.owner - 1) (o - 1) v 0 (λ z. omega tests)))

-- Each owner's figure of all is the one counted with what the rows left add.
abbrev Sums : (Segment → ℕ) → List ℕ → List Segment → List Segment → Type 0
Sums f l xs all = (o : ℕ) → 1 ≤ o → o ≤ 8 → total f (owned_by o (filter is_live all)) ≡ get_or l (o - 1) 0 + total f (owned_by o (filter is_live xs))

-- The same of what the rows left add.
one_more : (f : Segment → ℕ) (l : List ℕ) (x : Segment) (xs all : List Segment) → is_free x ≡ false → 1 ≤ x.owner → x.owner ≤ 8 → length l ≡ 8
    → Sums f l (x ∷ xs) all → Sums f (set l (x.owner - 1) (get_or l (x.owner - 1) 0 + f x)) xs all
one_more f l x xs all v h m e s o a b =
    let v' : ℕ = get_or l (x.owner - 1) 0 + f x in
    let before : total f (owned_by o (filter is_live all)) ≡ get_or l (o - 1) 0 + total f (owned_by o (x ∷ filter is_live xs)) = rw v at (s o a b) in
    before
    ∙ split (eqb x.owner o)
    (λ q. let z : o - 1 ≡ x.owner - 1 = omega tests in rw (q, z, get_or-set_same l (x.owner - 1) v' 0 (omega arith)) (omega arith))
    (λ q. rw (q, get_or-set_other l (x.owner - 1) (o - 1) v' 0 (λ z. omega tests)))

-- The rows xs are the end of a map, from s on, after a row that is free or not.
abbrev goes_on : Config → ℕ → Bool → List Segment → Bool
goes_on c s b xs = tiles s c.granules xs && list_all (well_formed c) xs && apart_from b xs

-- Of all rows those before xs are counted: xs decide whether all are a map, and the figures of all are those counted with what xs add.
pub record Ahead (c : Config) (k : Census) (xs all : List Segment) : Type 0 where
  pub map : is_map c all ≡ goes_on c k.end k.after_free xs
  pub used : granules_of (filter is_live all) ≡ k.used + granules_of (filter is_live xs)
  pub longest : largest length_of (filter is_free all) ≡ max k.longest (largest length_of (filter is_free xs))
  pub blocks : Sums (λ (x : Segment). 1) k.blocks xs all
  pub held : Sums length_of k.held xs all

-- Before the first row all are left.
pub begin : (c : Config) (all : List Segment) → Ahead c none_counted all all
begin c all =
    record {
      map = rw (apart_all all);
      used = omega arith;
      longest = omega arith;
      blocks = λ o i j. rw (none_held (o - 1) 8) (omega arith);
      held = λ o i j. rw (none_held (o - 1) 8) (omega arith);
    }

module _ (c : Config) (k : Census) (x : Segment) (xs all : List Segment) (a : Ahead c k (x ∷ xs) all) where
  -- The first of rows that go on follows.
  first_follows : goes_on c k.end k.after_free (x ∷ xs) ≡ true → follows_of c k x ≡ true
  unfolding follows_of
  first_follows q =
      let t : tiles k.end c.granules (x ∷ xs) ≡ true = search parts in
      let w : list_all (well_formed c) (x ∷ xs) ≡ true = search parts in
      let n : not (k.after_free && is_free x) ≡ true = search parts in
      let f : First k.end c.granules x xs = first k.end c.granules x xs t in
      let e : x.start + x.length ≤ c.granules = tiles_le (x.start + x.length) c.granules xs f.rest in
      both_true _ _ (both_true _ _ (both_true _ _ (both_true _ _ (eq-eqb x.start k.end f.start) (le-leb 1 x.length f.some))
      (le-leb x.length (c.granules - k.end) (omega arith)))
      (every_head (well_formed c) x xs w))
      n

  -- If the first follows, the others say whether all of them are.
  rest_goes_on : Follows c k x → (b : Bool) → is_free x ≡ b → goes_on c (k.end + x.length) b xs ≡ goes_on c k.end k.after_free (x ∷ xs)
  rest_goes_on f b o =
      rw (eq-eqb x.start k.end f.start, le-leb 1 x.length f.some, f.formed, f.apart, o)

  -- A row that does not follow is none of a map.
  pub none_follows : follows_of c k x ≡ false → is_map c all ≡ false
  none_follows w =
      split (is_map c all) (λ s. absurd (clash _ (first_follows (sym a.map ∙ s)) w)) (λ s. s)

  -- A free row that follows is counted.
  pub ahead_free : Follows c k x → is_free x ≡ true → Ahead c (free_of k x.length) xs all
  ahead_free f o =
      record {
        map = a.map ∙ sym (rest_goes_on f true o);
        used = rw o at a.used;
        longest = rw o at a.longest ∙ omega arith;
        blocks = rw o at a.blocks;
        held = rw o at a.held;
      }

  -- So is a live row.
  pub ahead_live : length k.blocks ≡ 8 → length k.held ≡ 8 → Follows c k x → is_free x ≡ false → Ahead c (live_of k x.owner x.length) xs all
  ahead_live e g f o =
      record {
        map = a.map ∙ sym (rest_goes_on f false o);
        used = rw o at a.used ∙ omega arith;
        longest = rw o at a.longest;
        blocks = one_more (λ (y : Segment). 1) k.blocks x xs all o (omega tests) f.owner e a.blocks;
        held = one_more length_of k.held x xs all o (omega tests) f.owner g a.held;
      }

module _ (c : Config) (xs : List Segment) (k : Census) (a : Ahead c k [] xs) where
  -- Rows that do not end with the arena are no map.
  pub none_ends : (k.end ≡ c.granules → ⊥) → is_map c xs ≡ false
  none_ends z = a.map ∙ rw (ne_eqb k.end c.granules z)

  -- Rows that do are one, with the figures counted.
  pub whole : Bounded c.granules k → k.end ≡ c.granules → Counted c xs (Some k)
  whole b z =
      let m : is_map c xs ≡ true = a.map ∙ rw (eq-eqb k.end c.granules z) in
      record {
        map = sym m;
        figures = record {
          bounded = b;
          used = sym (a.used ∙ omega arith);
          longest = rw (map_is c xs m) (omega (arith, a.longest));
          blocks = λ o i j. sym (rw (length_total (owned_by o (filter is_live xs))) (a.blocks o i j ∙ omega arith));
          held = λ o i j. sym (a.held o i j ∙ omega arith);
        };
      }

-- No map is not counted.
pub not_counted : (c : Config) (xs : List Segment) → is_map c xs ≡ false → Counted c xs None
not_counted c xs m = record { map = sym m; figures = tt }
