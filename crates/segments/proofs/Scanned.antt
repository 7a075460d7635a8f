-- First fit over the rows, one after the other, finds the lowest start.
-- Assumes nothing.
use Rattle.std.proofs.Common.{◌≡◌, ℕ, ◌+◌, ◌-◌, ◌*◌, ◌/◌, ◌%◌, ◌^◌, ◌<◌, ◌≤◌, Bool, true, false, not, eqb, leb, List, [], ◌∷◌, length, drop, sym, refl, ap, ◌∙◌, subst, mod-eq_of_lt, arith, eq-eqb, ne_eqb, eqb-true, le-leb}
use Rattle.std.specs.Prelude.{Option, Some, None, if◌then◌else◌, ◌&&◌, filter}
use Rattle.std.specs.List.{list_all}
use Rattle.std.specs.Option.{option_map}
use Rattle.model.specs.Choose.{least_from}
use Rattle.model.specs.Quantities.{Config, is_alignment}
use Rattle.model.specs.Allocation.{clear_of, serves, lowest_start}
use Rattle.model.specs.SegmentMap.{is_free, is_live}
use Rattle.model.proofs.Choosing.{split, tests, clash, parts, both_left, every_head, every_tail, some_least, least_skip, least_same}
use Rattle.model.proofs.Ordered.{Ordered, after_clear, clear_before, clear_all}
use Rattle.model.proofs.Served.{alignment_granules}
use Rattle.segments.specs.Rows.{nth_row}
use Rattle.segments.specs.Tiling.{tiles, well_formed, no_two_free, is_map}
use Rattle.segments.specs.Search.{Found}
use Rattle.segments.specs.Steps.{padding}
use Rattle.segments.proofs.TilesMap.{First, first, ordered_back, apart_tail}
use Rattle.segments.proofs.Reading.{rest_row, rest_none, tiles_le, row_end}
use Rattle.segments.proofs.Padding.{Padded, padded}
use Rattle.model.specs.declared.Segment.{Segment}
use Rattle.segments.specs.declared.searching.Place.{Place}

-- The start of a place, if there is one.
abbrev start_of : Option Place → Option ℕ
start_of = option_map (λ p. p.start)

abbrev pub place : ℕ → ℕ → Place
place i s = record { row = i; start = s }

-- A free segment that has g granules from a boundary of m granules on, counted from f granules before the arena's first.
abbrev pub hit : ℕ → ℕ → ℕ → Segment → Bool
hit g m f x = is_free x && leb (padding m (f + x.start) + g) x.length

-- The first of them, from row i on.
abbrev pub first_hit : ℕ → ℕ → ℕ → ℕ → List Segment → Option Place
first_hit g m f i [] = None
first_hit g m f i (x ∷ xs) = if hit g m f x then Some (place i (x.start + padding m (f + x.start))) else first_hit g m f (i + 1) xs

module _ (c : Config) (g m a : ℕ) (hg : 1 ≤ g) (up : (s : ℕ) → Padded m a c.base s) where
  -- a start in a live block does not serve
  in_block : (x : Segment) (bs : List Segment) (t : ℕ) → x.start ≤ t → t < x.start + x.length → serves c (x ∷ bs) g a t ≡ false
  in_block x bs t h k =
      split (serves c (x ∷ bs) g a t)
      (λ q. let e : list_all (clear_of t g) (x ∷ bs) ≡ true = search parts in
      absurd (omega (arith, clear_before t g x (every_head (clear_of t g) x bs e) k)))
      (λ q. q)

  -- a block before a start does not matter to it
  past_block : (x : Segment) (bs : List Segment) (t : ℕ) → x.start + x.length ≤ t → serves c (x ∷ bs) g a t ≡ serves c bs g a t
  past_block x bs t h = rw (after_clear t g x h)

  -- a start in a free run that is too short does not serve either
  short : (s : ℕ) (x : Segment) (xs : List Segment) → tiles s c.granules (x ∷ xs) ≡ true → no_two_free (x ∷ xs) ≡ true
      → is_free x ≡ true → x.length < padding m (c.base / 16 + x.start) + g → (t : ℕ) → x.start ≤ t → t < x.start + x.length
      → serves c (filter is_live xs) g a t ≡ false
  short s x [] ts n f l t h k =
      split (serves c [] g a t)
      (λ q. let fi : First s c.granules x [] = first s c.granules x [] ts in
      let p : eqb ((c.base + 16 * t) % a) 0 ≡ true = search parts in
      let r : leb (t + g) c.granules ≡ true = search parts in
      absurd (omega (tests, fi.rest, (up x.start).least t h (eqb-true _ _ p))))
      (λ q. q)
  short s x (y ∷ ys) ts n f l t h k =
      let fi : First s c.granules x (y ∷ ys) = first s c.granules x (y ∷ ys) ts in
      let fy : First (x.start + x.length) c.granules y ys = first (x.start + x.length) c.granules y ys fi.rest in
      split (is_free y)
      (λ q. absurd (clash false (rw (f, q) at (both_left (not (is_free x && is_free y)) (no_two_free (y ∷ ys)) n)) refl))
      (λ q. rw q
      (split (serves c (y ∷ filter is_live ys) g a t)
      (λ v. let p : eqb ((c.base + 16 * t) % a) 0 ≡ true = search parts in
      let e : list_all (clear_of t g) (y ∷ filter is_live ys) ≡ true = search parts in
      absurd (omega (tests, (up x.start).least t h (eqb-true _ _ p), clear_before t g y (every_head (clear_of t g) y (filter is_live ys) e) (omega arith))))
      (λ v. v)))

  -- the lowest start from s on is that of the first hit
  lowest_hit : (i s : ℕ) (xs : List Segment) → tiles s c.granules xs ≡ true → list_all (well_formed c) xs ≡ true → no_two_free xs ≡ true
      → least_from (serves c (filter is_live xs) g a) s (c.granules - s) ≡ start_of (first_hit g m (c.base / 16) i xs)
  lowest_hit i s [] ts w n = let z : c.granules - s ≡ 0 = omega (tests, eqb-true s c.granules ts) in rw z
  lowest_hit i s (x ∷ xs) ts w n =
      let f : First s c.granules x xs = first s c.granules x xs ts in
      let bs : List Segment = filter is_live xs in
      let e : ℕ = x.start + x.length in
      let k : ℕ = c.granules - e in
      let u : ℕ = x.start + padding m (c.base / 16 + x.start) in
      let le : e ≤ c.granules = tiles_le e c.granules xs f.rest in
      let z : c.granules - x.start ≡ x.length + k = omega arith in
      let r : least_from (serves c bs g a) e k ≡ start_of (first_hit g m (c.base / 16) (i + 1) xs) =
      lowest_hit (i + 1) e xs f.rest (every_tail (well_formed c) x xs w) (apart_tail x xs n) in
      let o : Ordered c e bs = ordered_back c e xs f.rest (every_tail (well_formed c) x xs w) in
      subst (λ (b : ℕ). least_from (serves c (filter is_live (x ∷ xs)) g a) b (c.granules - b) ≡ start_of (first_hit g m (c.base / 16) i (x ∷ xs))) f.start
      (split (is_free x)
      (λ q. rw q
      (split (leb (padding m (c.base / 16 + x.start) + g) x.length)
      (λ h. rw h
      (some_least (serves c bs g a) x.start (c.granules - x.start) u
      (record {
        from = omega arith;
        below = omega tests;
        holds = rw (eq-eqb ((c.base + 16 * u) % a) 0 (up x.start).aligned, le-leb (u + g) c.granules (omega tests)) (clear_all c u g e bs (omega tests) o);
        first = λ j above below.
            rw (ne_eqb ((c.base + 16 * j) % a) 0 (λ y. absurd (omega (arith, (up x.start).least j above y))));
      })))
      (λ h. rw (h, z)
      (least_skip (serves c bs g a) x.start x.length k (short s x xs ts n q (omega tests)) ∙ r))))
      (λ q. rw (q, z)
      (least_skip (serves c (x ∷ bs) g a) x.start x.length k (in_block x bs)
      ∙ least_same (serves c (x ∷ bs) g a) (serves c bs g a) e k (past_block x bs)
      ∙ r)))

-- The first hit is the first from row i on: no row before it is one.
pub record Passed (g m f i : ℕ) (xs : List Segment) : Type 0 where
  pub same : first_hit g m f 0 xs ≡ first_hit g m f i (drop i xs)

module _ {g m f i : ℕ} {xs : List Segment} (p : Passed g m f i xs) (h : i < length xs) (x : Segment) (e : x ≡ nth_row xs i) where
  this_row : drop i xs ≡ x ∷ drop (i + 1) xs
  this_row = rest_row xs i h ∙ ap (λ (y : Segment). y ∷ drop (i + 1) xs) (sym e)

  -- Row i is no hit either.
  pub passed_one : hit g m f x ≡ false → Passed g m f (i + 1) xs
  passed_one q = record { same = p.same ∙ rw (this_row, q) }

  -- row i is the first hit
  first_at : hit g m f x ≡ true → first_hit g m f 0 xs ≡ Some (place i (x.start + padding m (f + x.start)))
  first_at q = p.same ∙ rw (this_row, q)

-- the lowest start is that of the first hit
lowest : (c : Config) (base g a : ℕ) (xs : List Segment) → c.base ≡ base → base % 16 ≡ 0 → is_map c xs ≡ true → 1 ≤ g → is_alignment a ≡ true
    → lowest_start c (filter is_live xs) g a ≡ start_of (first_hit g (a / 16) (base / 16) 0 xs)
lowest c base g a xs at_base whole ok hg al =
    let m : (1 ≤ a / 16) × (a ≡ 16 * (a / 16)) = alignment_granules a al in
    let z : c.granules ≡ c.granules - 0 = omega arith in
    let w : c.base % 16 ≡ 0 = ap (λ (b : ℕ). b % 16) at_base ∙ whole in
    ap (least_from (serves c (filter is_live xs) g a) 0) z
    ∙ lowest_hit c g (a / 16) a hg (padded (a / 16) a c.base m.0 m.1 w) 0 0 xs (search parts) (search parts) (search parts)
    ∙ ap (λ (b : ℕ). start_of (first_hit g (a / 16) (b / 16) 0 xs)) at_base

module _ (c : Config) {base g a i : ℕ} {xs : List Segment} (at_base : c.base ≡ base) (whole : base % 16 ≡ 0) (ok : is_map c xs ≡ true)
    (hg : 1 ≤ g) (al : is_alignment a ≡ true) (p : Passed g (a / 16) (base / 16) i xs) where
  -- No row is a hit.
  pub found_none : length xs ≤ i → Found c xs g a None
  found_none h = record { lowest = lowest c base g a xs at_base whole ok hg al ∙ ap start_of (p.same ∙ ap (first_hit g (a / 16) (base / 16) i) (rest_none xs i h)); room = tt }

  -- Row i is a hit: it ends in the arena, so the sum that is its start does not wrap.
  pub found_at : c.granules ≤ 4294967295 → i < length xs → (x : Segment) → x ≡ nth_row xs i → hit g (a / 16) (base / 16) x ≡ true
      → (s : ℕ) → s ≡ (x.start + padding (a / 16) (base / 16 + x.start)) % 2 ^ 32 → Found c xs g a (Some (place i s))
  found_at small h x e q s w =
      let t : tiles 0 c.granules xs ≡ true = search parts in
      let b : x.start + x.length ≤ c.granules = rw e (row_end c.granules xs i t h) in
      let f : is_free x ≡ true = search parts in
      let l : leb (padding (a / 16) (base / 16 + x.start) + g) x.length ≡ true = search parts in
      let z : s ≡ x.start + padding (a / 16) (base / 16 + x.start) = w ∙ mod-eq_of_lt (omega tests) in
      record {
        lowest = lowest c base g a xs at_base whole ok hg al ∙ ap start_of (first_at p h x e q ∙ ap (λ (k : ℕ). Some (place i k)) (sym z));
        room = record {
          in_use = h;
          free = sym (ap (λ (y : Segment). y.owner) e) ∙ eqb-true x.owner 0 f;
          from = omega (arith, ap (λ (y : Segment). y.start) e);
          up_to = omega (tests, ap (λ (y : Segment). y.start + y.length) e);
        };
      }
