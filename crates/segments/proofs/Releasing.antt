-- A live row given back: it becomes one free run with the free rows next to it, and that is the map of the blocks without it.
-- Assumes nothing.
use Rattle.std.proofs.Common.{◌≡◌, ℕ, ◌+◌, ◌-◌, ◌<◌, ◌≤◌, Bool, true, false, not, eqb, ltb, List, [], ◌∷◌, ◌++◌, length, take, drop, sym, refl, ap, ◌∙◌, subst, append_assoc, append-nil, arith, length-append, lt-ltb, eq-eqb, ne_eqb, eqb-true}
use Rattle.std.specs.Prelude.{Some, if◌then◌else◌, filter}
use Rattle.std.specs.List.{list_all}
use lib.Seq.{take-append_seam, drop-append_seam, append_snoc}
use borrow.Author.Tests.{not-true}
use Rattle.model.specs.Quantities.{Config}
use Rattle.model.specs.Allocation.{offset, block_at, without}
use Rattle.model.specs.SegmentMap.{is_free, is_live, free_run, gap, map_from, map_of, rows_of}
use Rattle.model.proofs.Choosing.{split, tests, only_append, every_only, every_weaker, only_all, only_none}
use Rattle.model.proofs.Ordered.{Live, Ordered}
use Rattle.segments.specs.Rows.{nth_row}
use Rattle.segments.specs.Tiling.{tiles, is_map}
use Rattle.segments.specs.Changes.{join_first, joined, free_first, freed, released}
use Rattle.segments.proofs.MapTiles.{owner_not_0, run_tiles, live_map, is_map_lem}
use Rattle.segments.proofs.TilesMap.{First, first}
use Rattle.segments.proofs.Reading.{tiles_le, row_parted, rows_before}
use Rattle.segments.proofs.Apart.{apart_from, first_free, last_free, last_end, apart_front, apart_back, apart_free, apart_first}
use Rattle.segments.proofs.Parted.{Parted, part, starts_from, starts_before, Window, window, refilled, Row, row_of}
use Rattle.model.specs.declared.Segment.{Segment}

-- what is done at a row, done to the rows from there on
joined_at : (ys zs : List Segment) → joined (length ys) (ys ++ zs) ≡ ys ++ join_first zs
joined_at ys zs = rw (take-append_seam ys zs, drop-append_seam ys zs)

freed_at : (ys zs : List Segment) → freed (length ys) (ys ++ zs) ≡ ys ++ free_first zs
freed_at ys zs = rw (take-append_seam ys zs, drop-append_seam ys zs)

-- row i is joined with the row before it, if there is one and both are free
abbrev joined_before : ℕ → List Segment → List Segment
joined_before i xs = if ltb 0 i then joined (i - 1) xs else xs

-- a list that is not empty has a last one
record Last (xs : List Segment) : Type 0 where
  front : List Segment
  end : Segment
  all : xs ≡ front ++ (end ∷ [])

last : (x : Segment) (xs : List Segment) → Last (x ∷ xs)
last x [] = record { front = []; end = x; all = refl }
last x (y ∷ ys) = let r : Last (y ∷ ys) = last y ys in record { front = x ∷ r.front; end = r.end; all = ap (λ l. x ∷ l) r.all }

-- the free row that ends a list, if there is one, and a free run after it joined with it
record Left (ys : List Segment) : Type 0 where
  before : List Segment
  left : List Segment
  all : ys ≡ before ++ left
  free : list_all is_free left ≡ true
  one : length left ≤ 1
  live : last_free false before ≡ false
  joins : (p s e : ℕ) (after : List Segment) → tiles p s left ≡ true → s ≤ e
      → joined_before (length ys) (ys ++ (free_run s (e - s) ∷ after)) ≡ before ++ (free_run p (e - p) ∷ after)

left_end : (ys : List Segment) (y : Segment) → apart_from false (ys ++ (y ∷ [])) ≡ true → Left (ys ++ (y ∷ []))
left_end ys y a =
    let n : length (ys ++ (y ∷ [])) ≡ length ys + 1 = length-append ys (y ∷ []) in
    let j : (zs : List Segment) → joined_before (length (ys ++ (y ∷ []))) ((ys ++ (y ∷ [])) ++ zs) ≡ ys ++ join_first (y ∷ zs) =
    λ zs. let z : length ys + 1 - 1 ≡ length ys = omega arith in rw (n, lt-ltb 0 (length ys + 1) (omega arith), z, append_assoc ys (y ∷ []) zs) (joined_at ys (y ∷ zs)) in
    split (is_free y)
    (λ q. record {
      before = ys;
      left = y ∷ [];
      all = refl;
      free = rw q;
      one = omega arith;
      live = apart_free (last_free false ys) y [] q (apart_back false ys (y ∷ []) a);
      joins = λ p s e after t h.
          let f : First p s y [] = first p s y [] t in
          let d : y.start + y.length ≡ s = eqb-true (y.start + y.length) s f.rest in
          let k : y.length + (e - s) ≡ e - p = omega arith in
          j (free_run s (e - s) ∷ after) ∙ rw q (λ i. ys ++ (free_run (f.start i) (k i) ∷ after));
    })
    (λ q. record {
      before = ys ++ (y ∷ []);
      left = [];
      all = sym (append-nil (ys ++ (y ∷ [])));
      free = refl;
      one = omega arith;
      live = last_end false ys y ∙ q;
      joins = λ p s e after t h.
          let d : p ≡ s = eqb-true p s t in
          j (free_run s (e - s) ∷ after) ∙ rw (q, d) (sym (append_snoc ys y (free_run s (e - s) ∷ after)));
    })

left_of : (ys : List Segment) → apart_from false ys ≡ true → Left ys
left_of [] a =
    record { before = []; left = []; all = refl; free = refl; one = omega arith; live = refl; joins = λ p s e after t h. let d : p ≡ s = eqb-true p s t in rw d }
left_of (y ∷ ys) a =
    let l : Last (y ∷ ys) = last y ys in
    subst Left (sym l.all) (left_end l.front l.end (subst (λ r. apart_from false r ≡ true) l.all a))

-- the free row that begins a list, if there is one, and a free run before it joined with it
record Right (zs : List Segment) : Type 0 where
  right : List Segment
  after : List Segment
  all : zs ≡ right ++ after
  free : list_all is_free right ≡ true
  one : length right ≤ 1
  live : first_free after ≡ false
  joins : (s q e : ℕ) → tiles q e right ≡ true → s ≤ q → join_first (free_run s (q - s) ∷ zs) ≡ free_run s (e - s) ∷ after

right_of : (zs : List Segment) → apart_from false zs ≡ true → Right zs
right_of [] a =
    record { right = []; after = []; all = refl; free = refl; one = omega arith; live = refl; joins = λ s q e t h. let d : q ≡ e = eqb-true q e t in rw d }
right_of (z ∷ zs) a =
    split (is_free z)
    (λ o. record {
      right = z ∷ [];
      after = zs;
      all = refl;
      free = rw o;
      one = omega arith;
      live = apart_first zs (rw o at (apart_back false (z ∷ []) zs a));
      joins = λ s q e t h.
          let f : First q e z [] = first q e z [] t in
          let d : z.start + z.length ≡ e = eqb-true (z.start + z.length) e f.rest in
          let k : q - s + z.length ≡ e - s = omega arith in
          rw (o, k);
    })
    (λ o. record {
      right = [];
      after = z ∷ zs;
      all = refl;
      free = refl;
      one = omega arith;
      live = o;
      joins = λ s q e t h. let d : q ≡ e = eqb-true q e t in rw (o, d);
    })

-- What is left of the rows ys, x and zs of a map after x is given back: one free run stands for x, the row before it if that is free and the row after it if that is free.
pub record Merged (c : Config) (ys : List Segment) (x : Segment) (zs rows : List Segment) : Type 0 where
  pub before : List Segment
  pub left : List Segment
  pub right : List Segment
  pub after : List Segment
  pub front : ys ≡ before ++ left
  pub back : zs ≡ right ++ after
  pub left_free : list_all is_free left ≡ true
  pub right_free : list_all is_free right ≡ true
  pub left_one : length left ≤ 1
  pub right_one : length right ≤ 1
  pub before_live : last_free false before ≡ false
  pub after_live : first_free after ≡ false
  pub place : Window c before (left ++ (x ∷ right)) after
  pub one : rows ≡ before ++ (free_run place.from (place.to - place.from) ∷ after)

-- The rows are as many fewer as there were free rows next to it.
pub merged_count : (c : Config) (ys : List Segment) (x : Segment) (zs rows : List Segment) (m : Merged c ys x zs rows)
    → length rows + length m.left + length m.right ≡ length (ys ++ (x ∷ zs))
merged_count c ys x zs rows m =
    let run : Segment = free_run m.place.from (m.place.to - m.place.from) in
    omega (
      arith,
      ap length m.one ∙ length-append m.before (run ∷ m.after),
      length-append ys (x ∷ zs),
      ap length m.front ∙ length-append m.before m.left,
      ap length m.back ∙ length-append m.right m.after,
    )

module _ (c : Config) (ys zs : List Segment) (x : Segment) (m : is_map c (ys ++ (x ∷ zs)) ≡ true) (live : is_live x ≡ true) where
  -- joined with the row after it and then with the row before it
  merge : (l : Left ys) (r : Right zs) → Window c l.before (l.left ++ (x ∷ r.right)) r.after → Merged c ys x zs (released (length ys) (ys ++ (x ∷ zs)))
  merge l r v =
      let p : Parted v.from v.to l.left (x ∷ r.right) = part v.from v.to l.left (x ∷ r.right) v.filled in
      let f : First p.at v.to x r.right = first p.at v.to x r.right p.back in
      let t : tiles v.from x.start l.left ≡ true = subst (λ (k : ℕ). tiles v.from k l.left ≡ true) (sym f.start) p.front in
      let h : x.start + x.length ≤ v.to = tiles_le (x.start + x.length) v.to r.right f.rest in
      let k : x.length ≡ x.start + x.length - x.start = omega arith in
      let j : joined (length ys) (freed (length ys) (ys ++ (x ∷ zs))) ≡ ys ++ (free_run x.start (v.to - x.start) ∷ r.after) =
      ap (joined (length ys)) (freed_at ys (x ∷ zs))
      ∙ joined_at ys (free_run x.start x.length ∷ zs)
      ∙ ap (λ (n : ℕ). ys ++ join_first (free_run x.start n ∷ zs)) k
      ∙ ap (λ k. ys ++ k) (r.joins x.start (x.start + x.length) v.to f.rest (omega arith)) in
      record {
        before = l.before;
        left = l.left;
        right = r.right;
        after = r.after;
        front = l.all;
        back = r.all;
        left_free = l.free;
        right_free = r.free;
        left_one = l.one;
        right_one = r.one;
        before_live = l.live;
        after_live = r.live;
        place = v;
        one = ap (joined_before (length ys)) j ∙ l.joins v.from x.start v.to r.after t (omega arith);
      }

  -- What is left after a live row of a map is given back.
  pub merged : Merged c ys x zs (released (length ys) (ys ++ (x ∷ zs)))
  merged =
      let w : Row c ys x zs = row_of c ys x zs m in
      let l : Left ys = left_of ys (apart_front false ys (x ∷ zs) w.place.apart) in
      let r : Right zs = right_of zs (rw (not-true (is_free x) live) at w.apart_after) in
      let same : ys ++ (x ∷ zs) ≡ l.before ++ ((l.left ++ (x ∷ r.right)) ++ r.after) = (λ i. l.all i ++ (x ∷ r.all i)) ∙ simp append_assoc in
      merge l r (window c l.before (l.left ++ (x ∷ r.right)) r.after (subst (λ k. is_map c k ≡ true) same m))

  -- the live ones without the block
  without_live : without (offset x) (filter is_live (ys ++ (x ∷ zs))) ≡ filter is_live ys ++ filter is_live zs
  without_live =
      let w : Row c ys x zs = row_of c ys x zs m in
      let other : Segment → Bool = λ b. not (eqb (offset b) (offset x)) in
      let differs : (y : Segment) → ¬ (y.start ≡ x.start) → other y ≡ true = λ y n. rw (ne_eqb (offset y) (offset x) (λ e. n (omega arith))) in
      let lower : list_all other ys ≡ true = every_weaker (starts_before x.start) other (λ y h. differs y (λ e. omega tests)) ys w.lower in
      let higher : list_all other zs ≡ true = every_weaker (starts_from (x.start + x.length)) other (λ y h. differs y (λ e. omega tests)) zs w.higher in
      rw (
        only_append is_live ys (x ∷ zs),
        live,
        only_append other (filter is_live ys) (x ∷ filter is_live zs),
        eq-eqb (offset x) (offset x) refl,
        only_all other (filter is_live ys) (every_only other is_live ys lower),
        only_all other (filter is_live zs) (every_only other is_live zs higher),
      )

  -- The map without the block is what is left after its row is given back.
  pub release_map : map_of c (without (offset x) (filter is_live (ys ++ (x ∷ zs)))) ≡ released (length ys) (ys ++ (x ∷ zs))
  release_map =
      let g : Merged c ys x zs (released (length ys) (ys ++ (x ∷ zs))) = merged in
      let v : Window c g.before (g.left ++ (x ∷ g.right)) g.after = g.place in
      let p : Parted v.from v.to g.left (x ∷ g.right) = part v.from v.to g.left (x ∷ g.right) v.filled in
      let h : First p.at v.to x g.right = first p.at v.to x g.right p.back in
      let s : v.from < v.to = omega (arith, tiles_le v.from p.at g.left p.front, tiles_le (x.start + x.length) v.to g.right h.rest, h.start, h.some) in
      let a : filter is_live ys ≡ filter is_live g.before =
      ap (filter is_live) g.front ∙ only_append is_live g.before g.left ∙ rw (only_none is_free g.left g.left_free) (append-nil (filter is_live g.before)) in
      let b : filter is_live zs ≡ filter is_live g.after =
      ap (filter is_live) g.back ∙ only_append is_live g.right g.after ∙ rw (only_none is_free g.right g.right_free) in
      ap (map_of c) (without_live ∙ (λ i. a i ++ b i))
      ∙ refilled c g.before (g.left ++ (x ∷ g.right)) g.after v (free_run v.from (v.to - v.from) ∷ []) (run_tiles v.from v.to s) refl refl g.before_live g.after_live
      ∙ sym g.one

-- Row i of a map, live and given back, leaves the map of the blocks without that one.
pub release_rows : (c : Config) (xs : List Segment) (i : ℕ) → i < length xs → is_map c xs ≡ true → is_live (nth_row xs i) ≡ true
    → released i xs ≡ map_of c (without (offset (nth_row xs i)) (filter is_live xs))
release_rows c xs i h m live =
    let x : Segment = nth_row xs i in
    let e : xs ≡ take i xs ++ (x ∷ drop (i + 1) xs) = row_parted xs i h in
    sym (ap (λ r. map_of c (without (offset x) (filter is_live r))) e
    ∙ release_map c (take i xs) (drop (i + 1) xs) x (subst (λ r. is_map c r ≡ true) e m) live
    ∙ (λ j. released (rows_before xs i h j) (sym e j)))

-- the row of a map that is the block at a byte
record Standing (c : Config) (s x : ℕ) (bs : List Segment) (b : Segment) : Type 0 where
  before : List Segment
  after : List Segment
  map : map_from c.granules s bs ≡ before ++ (b ∷ after)
  live : Live c b
  at : offset b ≡ x

standing : (c : Config) (s x : ℕ) (bs : List Segment) (b : Segment) → Ordered c s bs → block_at x bs ≡ Some b → Standing c s x bs b
standing c s x [] b o e = let z : ◌≡◌ {A = ℕ} 0 1 = cc in absurd (omega arith)
standing c s x (d ∷ bs) b o e =
    let rest : List Segment = map_from c.granules (d.start + d.length) bs in
    split (eqb (offset d) x)
    (λ q. let e' : Some d ≡ Some b = rw q at e in
    let z : d ≡ b = cc in
    subst (Standing c s x (d ∷ bs)) z (record { before = gap s d.start; after = rest; map = refl; live = o.1; at = eqb-true (offset d) x q }))
    (λ q. let r : Standing c (d.start + d.length) x bs b = standing c (d.start + d.length) x bs b o.2 (rw q at e) in
    record {
      before = gap s d.start ++ (d ∷ r.before);
      after = r.after;
      map = ap (λ k. gap s d.start ++ (d ∷ k)) r.map ∙ sym (append_assoc (gap s d.start) (d ∷ r.before) (b ∷ r.after));
      live = r.live;
      at = r.at;
    })

-- The map without the block at a byte: the block is a row of the map before, and that row is given back.
pub record MapWithout (c : Config) (x : ℕ) (bs : List Segment) (b : Segment) : Type 0 where
  pub before : List Segment
  pub after : List Segment
  pub map : map_of c bs ≡ before ++ (b ∷ after)
  pub new : map_of c (without x bs) ≡ released (length before) (map_of c bs)
  pub merged : Merged c before b after (map_of c (without x bs))

pub map_without : (c : Config) (x : ℕ) (bs : List Segment) (b : Segment) → Ordered c 0 bs → block_at x bs ≡ Some b → MapWithout c x bs b
map_without c x bs b o e =
    let s : Standing c 0 x bs b = standing c 0 x bs b o e in
    let m : is_map c (s.before ++ (b ∷ s.after)) ≡ true = subst (λ r. is_map c r ≡ true) s.map (is_map_lem c bs o) in
    let live : is_live b ≡ true = rw (owner_not_0 c b s.live) in
    let new : map_of c (without x bs) ≡ released (length s.before) (s.before ++ (b ∷ s.after)) =
    (λ i. map_of c (without (sym s.at i) ((sym (live_map c 0 bs o) ∙ ap (filter is_live) s.map) i)))
    ∙ release_map c s.before s.after b m live in
    record {
      before = s.before;
      after = s.after;
      map = s.map;
      new = new ∙ ap (released (length s.before)) (sym s.map);
      merged = subst (Merged c s.before b s.after) (sym new) (merged c s.before s.after b m live);
    }

-- The rows without the block are as many fewer as there were free rows next to it.
pub map_without_count : (c : Config) (x : ℕ) (bs : List Segment) (b : Segment) (r : MapWithout c x bs b)
    → rows_of c (without x bs) + length r.merged.left + length r.merged.right ≡ rows_of c bs
map_without_count c x bs b r = merged_count c r.before b r.after (map_of c (without x bs)) r.merged ∙ ap length (sym r.map)
