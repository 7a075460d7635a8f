-- A block put into a free row: the map of the blocks with it is the map before, with that row cut.
-- Assumes nothing.
use Rattle.std.proofs.Common.{◌≡◌, ℕ, ◌+◌, ◌-◌, ◌<◌, ◌≤◌, Bool, true, false, ltb, leb, List, [], ◌∷◌, ◌++◌, length, take, drop, sym, refl, ap, ◌∙◌, subst, arith, length-append, ltb-true, le-ltb, lt-ltb, eq-eqb, leb-true}
use Rattle.std.specs.Prelude.{filter}
use Rattle.std.specs.List.{list_all}
use Rattle.model.specs.Quantities.{Config}
use Rattle.model.specs.Allocation.{clear_of, room, insert}
use Rattle.model.specs.SegmentMap.{is_free, is_live, gap, map_of, rows_of}
use Rattle.model.proofs.Choosing.{split, tests, both_left, parts, both_true, every_head, every_tail, every_append, only_append, every_back, every_only, every_picked}
use Rattle.model.proofs.Ordered.{Live, Ordered, long, clear_before}
use Rattle.model.proofs.MapRows.{gap_short}
use Rattle.segments.specs.Rows.{nth_row}
use Rattle.segments.specs.Tiling.{tiles, well_formed, is_map}
use Rattle.segments.specs.Changes.{replaced, cut}
use Rattle.segments.proofs.MapTiles.{gap_free, gap_formed, tiles_cons, tiles_gap, gap_tiles, live_formed, owner_not_0, live_map, tiles_map, is_map_lem}
use Rattle.segments.proofs.TilesMap.{First, first}
use Rattle.segments.proofs.Written.{length_replaced}
use Rattle.segments.proofs.Reading.{row_parted}
use Rattle.segments.proofs.Apart.{apart_from, first_free, last_free, apart_free, apart_first, gap_apart}
use Rattle.segments.proofs.Parted.{starts_before, starts_from, refilled, Row, row_of}
use Rattle.model.specs.declared.Segment.{Segment}

-- a block is inserted after those that begin before it, and before those that begin after it
insert_first : (q : ℕ) (b : Segment) (zs : List Segment) → b.start < q → list_all (starts_from q) zs ≡ true → insert b zs ≡ b ∷ zs
insert_first q b [] h f = refl
insert_first q b (z ∷ zs) h f = rw (lt-ltb b.start z.start (omega (arith, leb-true q z.start (every_head (starts_from q) z zs f))))

insert_between : (p q : ℕ) (b : Segment) (ys zs : List Segment) → p ≤ b.start → b.start < q
    → list_all (starts_before p) ys ≡ true → list_all (starts_from q) zs ≡ true → insert b (ys ++ zs) ≡ ys ++ (b ∷ zs)
insert_between p q b [] zs h k e f = insert_first q b zs k f
insert_between p q b (y ∷ ys) zs h k e f =
    rw (le-ltb b.start y.start (omega (arith, ltb-true y.start p (every_head (starts_before p) y ys e))))
    (ap (λ r. y ∷ r) (insert_between p q b ys zs h k (every_tail (starts_before p) y ys e) f))

-- a row that is cut: its rows tile what it did, are well formed and apart, and the block is the live one
module _ (c : Config) (x b : Segment) (l : Live c b) where
  abbrev left : List Segment
  left = gap x.start b.start

  abbrev right : List Segment
  right = gap (b.start + b.length) (x.start + x.length)

  cut_tiles : x.start ≤ b.start → b.start + b.length ≤ x.start + x.length → tiles x.start (x.start + x.length) (cut x b) ≡ true
  cut_tiles low high =
      tiles_gap x.start b.start (x.start + x.length) (b ∷ right) low
      (tiles_cons b.start (x.start + x.length) b right refl (long c b l) (gap_tiles (b.start + b.length) (x.start + x.length) high))

  cut_formed : list_all (well_formed c) (cut x b) ≡ true
  cut_formed =
      every_append (well_formed c) left (b ∷ right) (gap_formed c x.start b.start)
      (both_true _ _ (live_formed c b l) (gap_formed c (b.start + b.length) (x.start + x.length)))

  cut_apart : apart_from false (cut x b) ≡ true
  cut_apart =
      gap_apart x.start b.start (b ∷ right) (rw (owner_not_0 c b l) (split (ltb (b.start + b.length) (x.start + x.length)) (λ q. rw q) (λ q. rw q)))

  cut_live : filter is_live (cut x b) ≡ b ∷ []
  cut_live = rw (only_append is_live left (b ∷ right), gap_free x.start b.start, owner_not_0 c b l, gap_free (b.start + b.length) (x.start + x.length))

module _ (c : Config) (ys zs : List Segment) (x b : Segment) (m : is_map c (ys ++ (x ∷ zs)) ≡ true) (free : is_free x ≡ true)
    (l : Live c b) (low : x.start ≤ b.start) (high : b.start + b.length ≤ x.start + x.length) where
  insert_live : Row c ys x zs → insert b (filter is_live (ys ++ (x ∷ zs))) ≡ filter is_live ys ++ (b ∷ filter is_live zs)
  insert_live r =
      rw (only_append is_live ys (x ∷ zs), free)
      (insert_between x.start (x.start + x.length) b (filter is_live ys) (filter is_live zs) low (omega (arith, long c b l))
      (every_only (starts_before x.start) is_live ys r.lower) (every_only (starts_from (x.start + x.length)) is_live zs r.higher))

  -- The map with the block is the map before with that row cut.
  pub cut_map : map_of c (insert b (filter is_live (ys ++ (x ∷ zs)))) ≡ ys ++ (cut x b ++ zs)
  cut_map =
      let r : Row c ys x zs = row_of c ys x zs m in
      let t : tiles r.place.from r.place.to (cut x b) ≡ true = rw (r.start, r.end) (cut_tiles c x b l low high) in
      ap (map_of c) (insert_live r ∙ ap (λ r. filter is_live ys ++ (r ++ filter is_live zs)) (sym (cut_live c x b l)))
      ∙ refilled c ys (x ∷ []) zs r.place (cut x b) t (cut_formed c x b l) (cut_apart c x b l)
      (apart_free (last_free false ys) x zs free r.apart) (apart_first zs (rw free at r.apart_after))

-- Row i of a map, free and cut for a block in it, gives the map of the blocks with that one.
pub split_rows : (c : Config) (xs : List Segment) (i : ℕ) (b : Segment) → i < length xs → is_map c xs ≡ true → (nth_row xs i).owner ≡ 0
    → Live c b → (nth_row xs i).start ≤ b.start → b.start + b.length ≤ (nth_row xs i).start + (nth_row xs i).length
    → replaced i 1 (cut (nth_row xs i) b) xs ≡ map_of c (insert b (filter is_live xs))
split_rows c xs i b h m free l low high =
    let e : xs ≡ take i xs ++ (nth_row xs i ∷ drop (i + 1) xs) = row_parted xs i h in
    sym (ap (λ r. map_of c (insert b (filter is_live r))) e
    ∙ cut_map c (take i xs) (drop (i + 1) xs) (nth_row xs i) b (subst (λ r. is_map c r ≡ true) e m) (eq-eqb (nth_row xs i).owner 0 free) l low high)

-- The rows with that block are those before, less the one cut, and those that it is cut into.
pub split_count : (c : Config) (xs : List Segment) (i : ℕ) (b : Segment) → i < length xs → is_map c xs ≡ true → (nth_row xs i).owner ≡ 0
    → Live c b → (nth_row xs i).start ≤ b.start → b.start + b.length ≤ (nth_row xs i).start + (nth_row xs i).length
    → rows_of c (insert b (filter is_live xs)) ≡ length xs - 1 + length (cut (nth_row xs i) b)
split_count c xs i b h m free l low high =
    let x : List Segment = cut (nth_row xs i) b in
    sym (ap length (split_rows c xs i b h m free l low high))
    ∙ length_replaced i 1 x xs (omega arith)

-- the row of a tiling that has a granule
record RowAt (g : ℕ) (xs : List Segment) : Type 0 where
  before : List Segment
  row : Segment
  after : List Segment
  all : xs ≡ before ++ (row ∷ after)
  low : row.start ≤ g
  high : g < row.start + row.length

row_at : (s e g : ℕ) (xs : List Segment) → tiles s e xs ≡ true → s ≤ g → g < e → RowAt g xs
row_at s e g [] t h k = absurd (omega tests)
row_at s e g (x ∷ xs) t h k =
    let f : First s e x xs = first s e x xs t in
    split (ltb g (x.start + x.length))
    (λ q. record { before = []; row = x; after = xs; all = refl; low = omega arith; high = omega tests })
    (λ q. let r : RowAt g xs = row_at (x.start + x.length) e g xs f.rest (omega tests) k in
    record { before = x ∷ r.before; row = r.row; after = r.after; all = ap (λ l. x ∷ l) r.all; low = r.low; high = r.high })

-- Granules that are clear of live rows and begin before them end before them.
pub clear_end : (s g p e : ℕ) (zs : List Segment) → tiles p e zs ≡ true → first_free zs ≡ false → list_all (clear_of s g) (filter is_live zs) ≡ true
    → s < p → s + g ≤ e → s + g ≤ p
clear_end s g p e [] t n d h k = omega tests
clear_end s g p e (z ∷ zs) t n d h k =
    let f : First p e z zs = first p e z zs t in
    let r : list_all (clear_of s g) (z ∷ filter is_live zs) ≡ true = rw n at d in
    omega (arith, clear_before s g z (every_head (clear_of s g) z (filter is_live zs) r) (omega arith))

-- a row of a map in which a block begins that is clear of the live ones: it is free, and the block ends in it
module _ (c : Config) (ys zs : List Segment) (x b : Segment) (m : is_map c (ys ++ (x ∷ zs)) ≡ true) (l : Live c b) (inside : b.start + b.length ≤ c.granules)
    (clear : list_all (clear_of b.start b.length) (filter is_live (ys ++ (x ∷ zs))) ≡ true) (low : x.start ≤ b.start) (high : b.start < x.start + x.length) where
  abbrev clear_of_block : Segment → Bool
  clear_of_block y = clear_of b.start b.length y

  row_free : is_free x ≡ true
  row_free =
      split (is_free x) (λ q. q)
      (λ q. absurd (omega (arith, long c b l, clear_before b.start b.length x (every_picked clear_of_block is_live ys x zs clear (rw q)) high)))

  row_ends : b.start + b.length ≤ x.start + x.length
  row_ends =
      let r : Row c ys x zs = row_of c ys x zs m in
      let later : list_all clear_of_block (filter is_live (x ∷ zs)) ≡ true =
      every_back clear_of_block (filter is_live ys) (filter is_live (x ∷ zs)) (rw (only_append is_live ys (x ∷ zs)) at clear) in
      clear_end b.start b.length (x.start + x.length) c.granules zs (subst (λ (k : ℕ). tiles k c.granules zs ≡ true) r.end r.place.back)
      (apart_first zs (rw row_free at r.apart_after)) (rw row_free at later) high inside

-- The map with a block at a start that has room for it: the block lies in a free row of the map before, and that row is cut for it.
pub record MapWith (c : Config) (bs : List Segment) (b : Segment) : Type 0 where
  pub before : List Segment
  pub row : Segment
  pub after : List Segment
  pub map : map_of c bs ≡ before ++ (row ∷ after)
  pub free : is_free row ≡ true
  pub low : row.start ≤ b.start
  pub high : b.start + b.length ≤ row.start + row.length
  pub new : map_of c (insert b bs) ≡ before ++ (cut row b ++ after)

pub map_with : (c : Config) (bs : List Segment) (b : Segment) → Ordered c 0 bs → Live c b → room c bs b.length b.start ≡ true → MapWith c bs b
map_with c bs b o l t =
    let inside : b.start + b.length ≤ c.granules = leb-true _ _ (both_left (leb (b.start + b.length) c.granules) (list_all (clear_of b.start b.length) bs) t) in
    let apart : list_all (clear_of b.start b.length) bs ≡ true = search parts in
    let h : RowAt b.start (map_of c bs) = row_at 0 c.granules b.start (map_of c bs) (tiles_map c 0 bs o) (omega arith) (omega (arith, long c b l)) in
    let ys : List Segment = h.before in
    let x : Segment = h.row in
    let zs : List Segment = h.after in
    let m : is_map c (ys ++ (x ∷ zs)) ≡ true = subst (λ r. is_map c r ≡ true) h.all (is_map_lem c bs o) in
    let e : bs ≡ filter is_live (ys ++ (x ∷ zs)) = sym (live_map c 0 bs o) ∙ ap (filter is_live) h.all in
    let clear : list_all (clear_of b.start b.length) (filter is_live (ys ++ (x ∷ zs))) ≡ true = subst (λ r. list_all (clear_of b.start b.length) r ≡ true) e apart in
    let free : is_free x ≡ true = row_free c ys zs x b m l inside clear h.low h.high in
    let high : b.start + b.length ≤ x.start + x.length = row_ends c ys zs x b m l inside clear h.low h.high in
    record {
      before = ys;
      row = x;
      after = zs;
      map = h.all;
      free = free;
      low = h.low;
      high = high;
      new = ap (λ r. map_of c (insert b r)) e ∙ cut_map c ys zs x b m free l h.low high;
    }

-- A row is cut into three at most.
pub cut_short : (x b : Segment) → length (cut x b) ≤ 3
cut_short x b =
    rw (length-append (gap x.start b.start) (b ∷ gap (b.start + b.length) (x.start + x.length)))
    (omega (arith, gap_short x.start b.start, gap_short (b.start + b.length) (x.start + x.length)))

-- The rows with the block are those before, less the one cut, and those that it is cut into.
pub map_with_count : (c : Config) (bs : List Segment) (b : Segment) (i : MapWith c bs b) → rows_of c (insert b bs) + 1 ≡ rows_of c bs + length (cut i.row b)
map_with_count c bs b i =
    omega (
      arith,
      ap length i.map ∙ length-append i.before (i.row ∷ i.after),
      ap length i.new ∙ length-append i.before (cut i.row b ++ i.after),
      length-append (cut i.row b) i.after,
    )
