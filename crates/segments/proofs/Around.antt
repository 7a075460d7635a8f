-- The free run around a row that is given back, and the map with a block in place of the one in that row.
-- Assumes nothing.
use Rattle.std.proofs.Common.{◌≡◌, ℕ, ◌+◌, ◌-◌, ◌%◌, ◌<◌, ◌≤◌, Bool, true, false, not, eqb, ltb, leb, List, [], ◌∷◌, ◌++◌, length, take, drop, sym, refl, ap, ◌∙◌, subst, append_assoc, append-nil, arith, length-append, take_at, eqb-true, le-leb}
use Rattle.std.specs.Prelude.{Option, Some, if◌then◌else◌, ◌&&◌, filter, find}
use Rattle.std.specs.List.{list_all}
use Rattle.std.specs.Option.{option_map}
use lib.Seq.{append_snoc}
use borrow.Author.Tests.{lt-leb}
use Rattle.model.specs.Quantities.{Config}
use Rattle.model.specs.Allocation.{clear_of, room, insert, offset, has_granule, block_over}
use Rattle.model.specs.SegmentMap.{is_free, is_live, free_run, gap, map_of, rows_of}
use Rattle.model.proofs.Choosing.{split, clash, same_test, tests, parts, both_true, every_head, every_append, every_only, every_weaker, every_back, only_append, first_back}
use Rattle.model.proofs.Ordered.{Live, Ordered, long, only_ordered, before_clear, after_clear}
use Rattle.model.proofs.Offsets.{granule_in, in_granule}
use Rattle.model.proofs.BaseLaws.{at_base, lowest_alike}
use Rattle.segments.specs.Rows.{nth_row}
use Rattle.segments.specs.Tiling.{tiles, is_map}
use Rattle.segments.specs.Search.{Found, others, refit_start}
use Rattle.segments.specs.Changes.{cut, released}
use Rattle.segments.specs.Steps.{run_from, run_to, run_around}
use Rattle.segments.proofs.MapTiles.{live_map, is_map_lem}
use Rattle.segments.proofs.TilesMap.{First, first, map_ordered}
use Rattle.segments.proofs.Reading.{rest_row, rest_none, row_parted, rows_before, tiles_le, ends_by, tiles_end}
use Rattle.segments.proofs.Tiled.{row_next}
use Rattle.segments.proofs.Apart.{first_free, last_free, last_end}
use Rattle.segments.proofs.Cuts.{gap_some, gap_none, cut_length}
use Rattle.segments.proofs.Parted.{Parted, part, starts_from, tiles_from, Window, Row, row_of}
use Rattle.segments.proofs.Splitting.{clear_end, MapWith, map_with, map_with_count}
use Rattle.segments.proofs.Releasing.{Merged, merged, release_rows}
use Rattle.segments.proofs.Finding.{lacks, lacks_after, lacks_before, row_inside}
use Rattle.model.specs.declared.Segment.{Segment}
use Rattle.segments.specs.declared.searching.Place.{Place}

-- The free run around a row of a map: it begins no later than the row, ends no earlier, and ends in the arena.
pub around_bounds : (c : Config) (xs : List Segment) (i : ℕ) → i < length xs → is_map c xs ≡ true
    → (run_from xs i ≤ (nth_row xs i).start) × ((nth_row xs i).start + (nth_row xs i).length ≤ run_to xs i) × (run_to xs i ≤ c.granules)
around_bounds c xs i h m =
    let t : tiles 0 c.granules xs ≡ true = search parts in
    let x : Segment = nth_row xs i in
    let from : run_from xs i ≤ x.start =
    split (ltb 0 i && is_free (nth_row xs (i - 1)))
    (λ q. let k : ltb 0 i ≡ true = search parts in
    let z : i - 1 + 1 ≡ i = omega tests in
    let next = rw z at (row_next 0 c.granules xs t (i - 1) (omega tests)) in
    rw q (omega arith))
    (λ q. rw q (omega arith)) in
    let to : (x.start + x.length ≤ run_to xs i) × (run_to xs i ≤ c.granules) =
    split (ltb (i + 1) (length xs) && is_free (nth_row xs (i + 1)))
    (λ q. let k : ltb (i + 1) (length xs) ≡ true = search parts in
    rw q (omega (arith, row_next 0 c.granules xs t i (omega tests)), row_inside c xs (i + 1) m (omega tests)))
    (λ q. rw q (omega arith, row_inside c xs i m h)) in
    (from, to.0, to.1)

-- a row of a map is the one over each of its granules
over_parted : (c : Config) (ys zs : List Segment) (x : Segment) (g : ℕ) → is_map c (ys ++ (x ∷ zs)) ≡ true → has_granule g x ≡ true
    → block_over g (ys ++ (x ∷ zs)) ≡ Some x
over_parted c ys zs x g m h =
    let r : Row c ys x zs = row_of c ys x zs m in
    first_back (has_granule g) ys (x ∷ zs) (lacks_after 0 r.place.from g ys r.place.front (omega (arith, r.start, granule_in g x h)))
    ∙ rw h

-- The row of a map that has a granule is the one over it.
pub segment_over : (c : Config) (xs : List Segment) (g j : ℕ) → is_map c xs ≡ true → j < length xs → has_granule g (nth_row xs j) ≡ true
    → block_over g xs ≡ Some (nth_row xs j)
segment_over c xs g j m h k =
    let e = row_parted xs j h in
    ap (block_over g) e ∙ over_parted c (take j xs) (drop (j + 1) xs) (nth_row xs j) g (subst (λ r. is_map c r ≡ true) e m) k

-- those of which a test fails may be left out
first_skip : (p : Segment → Bool) (xs ys zs : List Segment) → list_all (λ (x : Segment). not (p x)) ys ≡ true → find p (xs ++ (ys ++ zs)) ≡ find p (xs ++ zs)
first_skip p [] ys zs e = first_back p ys zs e
first_skip p (x ∷ xs) ys zs e = ap (if◌then◌else◌ (p x) (Some x)) (first_skip p xs ys zs e)

-- the last of a list
abbrev last_of : Segment → List Segment → Segment
last_of d [] = d
last_of d (y ∷ ys) = last_of y ys

last_of_lem : (d : Segment) (ys : List Segment) (y : Segment) → last_of d (ys ++ (y ∷ [])) ≡ y
last_of_lem d [] y = refl
last_of_lem d (x ∷ xs) y = last_of_lem x xs y

-- where the free row begins that ends a list, if there is one
from_row : (before left : List Segment) (p s : ℕ) (ys : List Segment) (r : Segment) → tiles p s left ≡ true → list_all is_free left ≡ true → length left ≤ 1
    → last_free false before ≡ false → ys ++ (r ∷ []) ≡ before ++ left → p ≡ (if is_free r then r.start else s)
from_row before [] p s ys r t f k l e =
    let q : is_free r ≡ false = sym (last_end false ys r) ∙ ap (last_free false) (e ∙ append-nil before) ∙ l in rw q (eqb-true p s t)
from_row before (y ∷ []) p s ys r t f k l e =
    let z : y ≡ r = sym (last_of_lem r before y) ∙ ap (last_of r) (sym e) ∙ last_of_lem r ys r in
    let q : is_free y ≡ true = every_head is_free y [] f in
    subst (λ (u : Segment). p ≡ (if is_free u then u.start else s)) z (rw q (sym (first p s y [] t).start))
from_row before (y ∷ z ∷ zs) p s ys r t f k l e = absurd (omega arith)

from_none : (before left : List Segment) (p s : ℕ) → tiles p s left ≡ true → [] ≡ before ++ left → p ≡ s
from_none before [] p s t e = eqb-true p s t
from_none before (y ∷ ys) p s t e = absurd (omega (arith, ap length e, length-append before (y ∷ ys)))

-- where the free row ends that begins a list, if there is one
to_row : (right after : List Segment) (s p : ℕ) (r : Segment) (zs : List Segment) → tiles s p right ≡ true → list_all is_free right ≡ true → length right ≤ 1
    → first_free after ≡ false → r ∷ zs ≡ right ++ after → p ≡ (if is_free r then r.start + r.length else s)
to_row [] after s p r zs t f k l e = let q : is_free r ≡ false = ap first_free e ∙ l in rw q (sym (eqb-true s p t))
to_row (y ∷ []) after s p r zs t f k l e =
    let z : y ≡ r = cc in
    let q : is_free y ≡ true = every_head is_free y [] f in
    subst (λ (u : Segment). p ≡ (if is_free u then u.start + u.length else s)) z (rw q (sym (eqb-true (y.start + y.length) p (first s p y [] t).rest)))
to_row (y ∷ z ∷ ws) after s p r zs t f k l e = absurd (omega arith)

to_none : (right after : List Segment) (s p : ℕ) → tiles s p right ≡ true → [] ≡ right ++ after → p ≡ s
to_none [] after s p t e = sym (eqb-true s p t)
to_none (y ∷ ys) after s p t e = absurd (omega (arith, ap length e, length-append (y ∷ ys) after))

-- a row fills a gap, or none does
gap_count : (s e : ℕ) (xs : List Segment) → tiles s e xs ≡ true → length xs ≤ 1 → length (gap s e) ≡ length xs
gap_count s e [] t k = ap length (gap_none s e (omega (arith, eqb-true s e t)))
gap_count s e (x ∷ []) t k =
    let f : First s e x [] = first s e x [] t in
    ap length (gap_some s e (omega (arith, eqb-true (x.start + x.length) e f.rest)))
gap_count s e (x ∷ y ∷ ys) t k = absurd (omega arith)

-- the rows before a row end with the one before it
rows_to : (xs : List Segment) (i : ℕ) → 0 < i → i < length xs → take i xs ≡ take (i - 1) xs ++ (nth_row xs (i - 1) ∷ [])
rows_to xs i k h =
    let ys : List Segment = take (i - 1) xs in
    let y : Segment = nth_row xs (i - 1) in
    let zs : List Segment = drop (i - 1 + 1) xs in
    ap (take i) (row_parted xs (i - 1) (omega arith) ∙ sym (append_snoc ys y zs))
    ∙ take_at (ys ++ (y ∷ [])) zs i (omega (arith, length-append ys (y ∷ []), rows_before xs (i - 1) (omega arith)))

module _ (c : Config) (xs : List Segment) (i : ℕ) (h : i < length xs) (m : is_map c xs ≡ true) (live : is_live (nth_row xs i) ≡ true) where
  abbrev row : Segment
  row = nth_row xs i

  abbrev from : ℕ
  from = run_from xs i

  abbrev to : ℕ
  to = run_to xs i

  -- the rows of the map around that row, and of the map without it
  record Around : Type 0 where
    before : List Segment
    left : List Segment
    right : List Segment
    after : List Segment
    rows : xs ≡ before ++ ((left ++ (row ∷ right)) ++ after)
    map : map_of c (others xs i) ≡ before ++ (run_around xs i ∷ after)
    front : tiles 0 from before ≡ true
    filled : tiles from to (left ++ (row ∷ right)) ≡ true
    filled_left : tiles from row.start left ≡ true
    filled_right : tiles (row.start + row.length) to right ≡ true
    back : tiles to c.granules after ≡ true
    left_one : length left ≤ 1
    right_one : length right ≤ 1
    after_live : first_free after ≡ false
    some : 1 ≤ row.length

  around : Around
  around =
      let ys : List Segment = take i xs in
      let zs : List Segment = drop (i + 1) xs in
      let e : xs ≡ ys ++ (row ∷ zs) = row_parted xs i h in
      let g : Merged c ys row zs (released (length ys) (ys ++ (row ∷ zs))) = merged c ys zs row (subst (λ r. is_map c r ≡ true) e m) live in
      let v : Window c g.before (g.left ++ (row ∷ g.right)) g.after = g.place in
      let p : Parted v.from v.to g.left (row ∷ g.right) = part v.from v.to g.left (row ∷ g.right) v.filled in
      let f : First p.at v.to row g.right = first p.at v.to row g.right p.back in
      let l : tiles v.from row.start g.left ≡ true = subst (λ (k : ℕ). tiles v.from k g.left ≡ true) (sym f.start) p.front in
      let a : v.from ≡ from =
      split (ltb 0 i)
      (λ q. rw q
      (from_row g.before g.left v.from row.start (take (i - 1) xs) (nth_row xs (i - 1)) l g.left_free g.left_one g.before_live
      (sym (rows_to xs i (omega tests) h) ∙ g.front)))
      (λ q. let z : 0 ≡ i = omega tests in rw q (from_none g.before g.left v.from row.start l (ap (λ (k : ℕ). take k xs) z ∙ g.front))) in
      let b : v.to ≡ to =
      split (ltb (i + 1) (length xs))
      (λ q. rw q
      (to_row g.right g.after (row.start + row.length) v.to (nth_row xs (i + 1)) (drop (i + 1 + 1) xs) f.rest g.right_free g.right_one g.after_live
      (sym (rest_row xs (i + 1) (omega tests)) ∙ g.back)))
      (λ q. rw q (to_none g.right g.after (row.start + row.length) v.to f.rest (sym (rest_none xs (i + 1) (omega tests)) ∙ g.back))) in
      record {
        before = g.before;
        left = g.left;
        right = g.right;
        after = g.after;
        rows = e ∙ (λ j. g.front j ++ (row ∷ g.back j)) ∙ simp append_assoc;
        map = sym (release_rows c xs i h m live)
            ∙ (λ j. released (sym (rows_before xs i h) j) (e j))
            ∙ g.one
            ∙ (λ j. g.before ++ (free_run (a j) (b j - a j) ∷ g.after));
        front = subst (λ (k : ℕ). tiles 0 k g.before ≡ true) a v.front;
        filled = sym (λ j. tiles (a j) (b j) (g.left ++ (row ∷ g.right))) ∙ v.filled;
        filled_left = subst (λ (k : ℕ). tiles k row.start g.left ≡ true) a l;
        filled_right = subst (λ (k : ℕ). tiles (row.start + row.length) k g.right ≡ true) b f.rest;
        back = subst (λ (k : ℕ). tiles k c.granules g.after ≡ true) b v.back;
        left_one = g.left_one;
        right_one = g.right_one;
        after_live = g.after_live;
        some = f.some;
      }

  -- The other blocks are in order, and their map is one.
  pub ordered : Ordered c 0 (others xs i)
  ordered = only_ordered c (λ (b : Segment). not (eqb (offset b) (offset row))) 0 (filter is_live xs) (map_ordered c xs m)

  pub map_others : is_map c (map_of c (others xs i)) ≡ true
  map_others = is_map_lem c (others xs i) ordered

  -- Over a granule of the map without that row stands the free run if it has the granule, and else what stood there.
  pub over_around : (g : ℕ) → block_over g (map_of c (others xs i)) ≡ (if has_granule g (run_around xs i) then Some (run_around xs i) else block_over g xs)
  over_around g =
      let a : Around = around in
      let run : Segment = run_around xs i in
      let old : List Segment = a.left ++ (row ∷ a.right) in
      split (has_granule g run)
      (λ q. rw q (ap (block_over g) a.map ∙ over_parted c a.before a.after run g (subst (λ r. is_map c r ≡ true) a.map map_others) q))
      (λ q. let gone : list_all (lacks g) old ≡ true =
      split (ltb g from)
      (λ p. lacks_before from to g old a.filled (omega tests))
      (λ p. split (ltb g to)
      (λ r. absurd (clash (has_granule g run) (in_granule g run (omega tests) (omega tests)) q))
      (λ r. lacks_after from to g old a.filled (omega tests))) in
      rw q
      (ap (block_over g) a.map
      ∙ first_skip (has_granule g) a.before (run ∷ []) a.after (rw q)
      ∙ sym (ap (block_over g) a.rows ∙ first_skip (has_granule g) a.before old a.after gone)))

  -- At the row's start there is room for g granules beside the other blocks exactly if they end no later than the free run.
  stays_around : (g : ℕ) → room c (others xs i) g row.start ≡ leb (row.start + g) to
  stays_around g =
      let a : Around = around in
      let bounds = around_bounds c xs i h m in
      let clear : Segment → Bool = clear_of row.start g in
      let e : others xs i ≡ filter is_live a.before ++ filter is_live a.after =
      sym (live_map c 0 (others xs i) ordered) ∙ ap (filter is_live) a.map ∙ only_append is_live a.before (run_around xs i ∷ a.after) in
      rw e
      (same_test (leb (row.start + g) c.granules && list_all clear (filter is_live a.before ++ filter is_live a.after)) (leb (row.start + g) to)
      (λ p. let inside : leb (row.start + g) c.granules ≡ true = search parts in
      let all : list_all clear (filter is_live a.before ++ filter is_live a.after) ≡ true = search parts in
      le-leb (row.start + g) to
      (clear_end row.start g to c.granules a.after a.back a.after_live (every_back clear (filter is_live a.before) (filter is_live a.after) all) (omega (arith, a.some)) (omega tests)))
      (λ p. both_true (leb (row.start + g) c.granules) (list_all clear (filter is_live a.before ++ filter is_live a.after)) (le-leb (row.start + g) c.granules (omega tests))
      (every_append clear (filter is_live a.before) (filter is_live a.after)
      (every_only clear is_live a.before (every_weaker (ends_by from) clear (λ y k. after_clear row.start g y (omega tests)) a.before (tiles_end 0 from a.before a.front)))
      (every_only clear is_live a.after (every_weaker (starts_from to) clear (λ y k. before_clear row.start g y (omega tests)) a.after (tiles_from to to c.granules a.after (omega arith) a.back))))))

  -- So it starts where it does, or where first fit finds it.
  pub refit_stays : (g : ℕ) → row.start + g ≤ to → Some row.start ≡ refit_start c xs i g
  refit_stays g k = rw (stays_around g ∙ le-leb (row.start + g) to k)

  -- What first fit finds on 16 bytes, for a base with the same remainder by 16, is where the block goes.
  pub refit_goes : (g : ℕ) → to < row.start + g → (f : Option Place) (b : ℕ) → c.base % 16 ≡ b % 16 → Found (at_base b c) xs g 16 f → option_map (λ p. p.start) f ≡ refit_start c xs i g
  refit_goes g k f b e w = rw (stays_around g ∙ lt-leb (row.start + g) to k) (sym w.lowest ∙ sym (lowest_alike c b 16 e (filter is_live xs) g))

  -- Without that row there are fewer rows, by one less than the free run is cut into for it.
  pub around_count : rows_of c (others xs i) + length (cut (run_around xs i) row) ≡ length xs + 1
  around_count =
      let a : Around = around in
      let bounds = around_bounds c xs i h m in
      let z : from + (to - from) ≡ to = omega arith in
      omega (
        arith,
        ap length a.map ∙ length-append a.before (run_around xs i ∷ a.after),
        ap length a.rows ∙ length-append a.before ((a.left ++ (row ∷ a.right)) ++ a.after),
        length-append (a.left ++ (row ∷ a.right)) a.after,
        length-append a.left (row ∷ a.right),
        cut_length (run_around xs i) row,
        gap_count from row.start a.left a.filled_left a.left_one,
        ap (λ (k : ℕ). length (gap (row.start + row.length) k)) z,
        gap_count (row.start + row.length) to a.right a.filled_right a.right_one,
      )

  -- The free run is cut into no more rows than there are.
  pub around_few : length (cut (run_around xs i) row) ≤ length xs
  around_few =
      let a : Around = around in
      omega (arith, around_count, ap length a.map ∙ length-append a.before (run_around xs i ∷ a.after))

  module _ (b t : Segment) (l : Live c b) (fits : room c (others xs i) b.length b.start ≡ true)
      (over : block_over b.start (map_of c (others xs i)) ≡ Some t) where
    target : MapWith c (others xs i) b
    target = map_with c (others xs i) b ordered l fits

    target_is : target.row ≡ t
    target_is =
        let w : MapWith c (others xs i) b = target in
        let e : Some w.row ≡ Some t =
        sym (ap (block_over b.start) w.map
        ∙ over_parted c w.before w.after w.row b.start (subst (λ r. is_map c r ≡ true) w.map map_others)
        (in_granule b.start w.row w.low (omega (arith, w.high, long c b l))))
        ∙ over in
        cc

    pub target_free : is_free t ≡ true
    target_free = subst (λ (k : Segment). is_free k ≡ true) target_is target.free

    -- A block with room beside the others lies in the row over its start, and that row in the arena.
    pub target_bounds : (t.start ≤ b.start) × (b.start + b.length ≤ t.start + t.length) × (t.start + t.length ≤ c.granules)
    target_bounds =
        let w : MapWith c (others xs i) b = target in
        let r : Row c w.before w.row w.after = row_of c w.before w.row w.after (subst (λ r. is_map c r ≡ true) w.map map_others) in
        subst (λ (k : Segment). (k.start ≤ b.start) × (b.start + b.length ≤ k.start + k.length) × (k.start + k.length ≤ c.granules)) target_is
        (w.low, w.high, omega (arith, r.end, tiles_le r.place.to c.granules w.after r.place.back))

    -- The rows with that block in place of the old: as many fewer as the free run is cut into for the old, and as many more as that row is for the new.
    pub exchanged_count : rows_of c (insert b (others xs i)) + length (cut (run_around xs i) row) ≡ length xs + length (cut t b)
    exchanged_count =
        omega (arith, around_count, map_with_count c (others xs i) b target, ap (λ (k : Segment). length (cut k b)) target_is)
