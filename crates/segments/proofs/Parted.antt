-- Segments that tile, joined and parted; a window of a map, and the map with other rows in it.
-- Assumes nothing.
use Rattle.std.proofs.Common.{◌≡◌, ℕ, ◌+◌, ◌≤◌, Bool, true, false, ltb, leb, List, [], ◌∷◌, ◌++◌, sym, refl, ap, ◌∙◌, subst, arith, lt-ltb, eq-eqb, eqb-true, le-leb}
use Rattle.std.specs.Prelude.{filter}
use Rattle.std.specs.List.{list_all}
use Rattle.model.specs.Quantities.{Config}
use Rattle.model.specs.SegmentMap.{is_free, is_live, map_of}
use Rattle.model.specs.Allocation.{granules_of}
use Rattle.model.proofs.Choosing.{tests, parts, both_true, every_append, every_front, every_back, only_window}
use Rattle.segments.specs.Tiling.{tiles, well_formed, no_two_free, is_map}
use Rattle.segments.proofs.MapTiles.{tiles_cons}
use Rattle.segments.proofs.TilesMap.{First, first, map_back}
use Rattle.segments.proofs.Reading.{tiles_le}
use Rattle.segments.proofs.Apart.{apart_from, apart_all, last_free, first_free, apart_front, apart_back, apart_join, apart_any}
use Rattle.model.specs.declared.Segment.{Segment}

-- tilings, joined and parted
pub tiles_join : (s p e : ℕ) (ys zs : List Segment) → tiles s p ys ≡ true → tiles p e zs ≡ true → tiles s e (ys ++ zs) ≡ true
tiles_join s p e [] zs f g = let z : s ≡ p = eqb-true s p f in rw z g
tiles_join s p e (y ∷ ys) zs f g =
    let h : First s p y ys = first s p y ys f in
    tiles_cons s e y (ys ++ zs) h.start h.some (tiles_join (y.start + y.length) p e ys zs h.rest g)

pub record Parted (s e : ℕ) (ys zs : List Segment) : Type 0 where
  pub at : ℕ
  pub front : tiles s at ys ≡ true
  pub back : tiles at e zs ≡ true

pub part : (s e : ℕ) (ys zs : List Segment) → tiles s e (ys ++ zs) ≡ true → Parted s e ys zs
part s e [] zs f = record { at = s; front = eq-eqb s s refl; back = f }
part s e (y ∷ ys) zs f =
    let h : First s e y (ys ++ zs) = first s e y (ys ++ zs) f in
    let r : Parted (y.start + y.length) e ys zs = part (y.start + y.length) e ys zs h.rest in
    record { at = r.at; front = tiles_cons s r.at y ys h.start h.some r.front; back = r.back }

-- a segment begins before a granule, or at it or after it
abbrev pub starts_before : ℕ → Segment → Bool
starts_before e x = ltb x.start e

abbrev pub starts_from : ℕ → Segment → Bool
starts_from s x = leb s x.start

-- the segments of a tiling begin before its end, and from its start on
pub tiles_before : (s e : ℕ) (xs : List Segment) → tiles s e xs ≡ true → list_all (starts_before e) xs ≡ true
tiles_before s e [] t = refl
tiles_before s e (x ∷ xs) t =
    let f : First s e x xs = first s e x xs t in
    both_true _ _ (lt-ltb x.start e (omega (arith, tiles_le (x.start + x.length) e xs f.rest))) (tiles_before (x.start + x.length) e xs f.rest)

pub tiles_from : (s t e : ℕ) (xs : List Segment) → s ≤ t → tiles t e xs ≡ true → list_all (starts_from s) xs ≡ true
tiles_from s t e [] h g = refl
tiles_from s t e (x ∷ xs) h g =
    let f : First t e x xs = first t e x xs g in
    both_true _ _ (le-leb s x.start (omega arith)) (tiles_from s (x.start + x.length) e xs (omega arith) f.rest)

-- The lengths of the segments of a tiling add up to what they fill.
pub tiles_granules : (s e : ℕ) (xs : List Segment) → tiles s e xs ≡ true → s + granules_of xs ≡ e
tiles_granules s e [] t = omega (tests, eqb-true s e t)
tiles_granules s e (x ∷ xs) t =
    let f : First s e x xs = first s e x xs t in
    omega (arith, tiles_granules (x.start + x.length) e xs f.rest)

-- In a map that is the arena.
pub map_granules : (c : Config) (xs : List Segment) → is_map c xs ≡ true → granules_of xs ≡ c.granules
map_granules c xs m = omega (arith, tiles_granules 0 c.granules xs (search parts))

module _ (c : Config) (before old after : List Segment) where
  -- Rows in the midst of a map: they fill the granules from one to another, and what stands around them is as in the map.
  pub record Window : Type 0 where
    pub from : ℕ
    pub to : ℕ
    pub front : tiles 0 from before ≡ true
    pub filled : tiles from to old ≡ true
    pub back : tiles to c.granules after ≡ true
    pub formed_front : list_all (well_formed c) before ≡ true
    pub formed_back : list_all (well_formed c) after ≡ true
    pub apart : apart_from false (before ++ (old ++ after)) ≡ true

  pub window : is_map c (before ++ (old ++ after)) ≡ true → Window
  window m =
      let t : tiles 0 c.granules (before ++ (old ++ after)) ≡ true = search parts in
      let w : list_all (well_formed c) (before ++ (old ++ after)) ≡ true = search parts in
      let n : no_two_free (before ++ (old ++ after)) ≡ true = search parts in
      let p : Parted 0 c.granules before (old ++ after) = part 0 c.granules before (old ++ after) t in
      let q : Parted p.at c.granules old after = part p.at c.granules old after p.back in
      record {
        from = p.at;
        to = q.at;
        front = p.front;
        filled = q.front;
        back = q.back;
        formed_front = every_front (well_formed c) before (old ++ after) w;
        formed_back = every_back (well_formed c) old after (every_back (well_formed c) before (old ++ after) w);
        apart = sym (apart_all (before ++ (old ++ after))) ∙ n;
      }

  -- Other rows that fill the window, with no free row next to it, make the map of their live ones and those around.
  pub refilled : (w : Window) (new : List Segment) → tiles w.from w.to new ≡ true → list_all (well_formed c) new ≡ true → apart_from false new ≡ true
      → last_free false before ≡ false → first_free after ≡ false
      → map_of c (filter is_live before ++ (filter is_live new ++ filter is_live after)) ≡ before ++ (new ++ after)
  refilled w new t f a l r =
      let xs : List Segment = before ++ (new ++ after) in
      let tt : tiles 0 c.granules xs ≡ true =
      tiles_join 0 w.from c.granules before (new ++ after) w.front (tiles_join w.from w.to c.granules new after t w.back) in
      let ff : list_all (well_formed c) xs ≡ true =
      every_append (well_formed c) before (new ++ after) w.formed_front (every_append (well_formed c) new after f w.formed_back) in
      let b : apart_from (last_free (last_free false before) old) after ≡ true = apart_back (last_free false before) old after (apart_back false before (old ++ after) w.apart) in
      let aa : apart_from false xs ≡ true =
      apart_join false before (new ++ after) (apart_front false before (old ++ after) w.apart)
      (rw l (apart_join false new after a (apart_any (last_free (last_free false before) old) (last_free false new) after r b))) in
      ap (map_of c) (sym (only_window is_live before new after)) ∙ map_back c 0 c.granules xs tt ff (apart_all xs ∙ aa)

-- One row of a map: the window that is that row, where the rows around it begin, and that no free ones touch.
pub record Row (c : Config) (ys : List Segment) (x : Segment) (zs : List Segment) : Type 0 where
  pub place : Window c ys (x ∷ []) zs
  pub start : place.from ≡ x.start
  pub end : place.to ≡ x.start + x.length
  pub some : 1 ≤ x.length
  pub lower : list_all (starts_before x.start) ys ≡ true
  pub higher : list_all (starts_from (x.start + x.length)) zs ≡ true
  pub apart : apart_from (last_free false ys) (x ∷ zs) ≡ true
  pub apart_after : apart_from (is_free x) zs ≡ true

pub row_of : (c : Config) (ys : List Segment) (x : Segment) (zs : List Segment) → is_map c (ys ++ (x ∷ zs)) ≡ true → Row c ys x zs
row_of c ys x zs m =
    let w : Window c ys (x ∷ []) zs = window c ys (x ∷ []) zs m in
    let f : First w.from w.to x [] = first w.from w.to x [] w.filled in
    let e : x.start + x.length ≡ w.to = eqb-true (x.start + x.length) w.to f.rest in
    let a : apart_from (last_free false ys) (x ∷ zs) ≡ true = apart_back false ys (x ∷ zs) w.apart in
    record {
      place = w;
      start = sym f.start;
      end = sym e;
      some = f.some;
      lower = subst (λ (k : ℕ). list_all (starts_before k) ys ≡ true) (sym f.start) (tiles_before 0 w.from ys w.front);
      higher = tiles_from (x.start + x.length) w.to c.granules zs (omega arith) w.back;
      apart = a;
      apart_after = apart_back (last_free false ys) (x ∷ []) zs a;
    }
