-- Segments that tile an arena, are well formed and have no two free ones that touch are the map of their live ones.
-- Assumes nothing.
use Rattle.std.proofs.Common.{◌≡◌, ℕ, ◌+◌, ◌-◌, ◌*◌, ◌≤◌, true, false, not, eqb, leb, List, [], ◌∷◌, sym, refl, ap, subst, arith, le-ltb, lt-ltb, eqb-true}
use Rattle.std.specs.Prelude.{◌&&◌, filter}
use Rattle.std.specs.List.{list_all}
use Rattle.model.specs.Choose.{total}
use Rattle.model.specs.Quantities.{within, Config}
use Rattle.model.specs.Allocation.{charge, granules_of, owned_by}
use Rattle.model.specs.SegmentMap.{is_live, free_run, map_from, map_of}
use Rattle.model.proofs.Choosing.{split, tests, clash, parts, both_left, both_right, both_true, every_head, every_tail}
use Rattle.model.proofs.Ordered.{Live, Ordered, earlier, only_ordered, charged_all}
use Rattle.segments.specs.Tiling.{tiles, requested_fits, well_formed, no_two_free, is_map}
use Rattle.model.specs.declared.Segment.{Segment}

-- what tiles says of the first
pub record First (s e : ℕ) (x : Segment) (xs : List Segment) : Type 0 where
  pub start : x.start ≡ s
  pub some : 1 ≤ x.length
  pub rest : tiles (x.start + x.length) e xs ≡ true

pub first : (s e : ℕ) (x : Segment) (xs : List Segment) → tiles s e (x ∷ xs) ≡ true → First s e x xs
first s e x xs t =
    let p : eqb x.start s ≡ true = search parts in
    let q : leb 1 x.length ≡ true = search parts in
    let r : tiles (s + x.length) e xs ≡ true = search parts in
    record { start = eqb-true x.start s p; some = omega tests; rest = subst (λ (k : ℕ). tiles (k + x.length) e xs ≡ true) (sym (eqb-true x.start s p)) r }

-- a well-formed segment is live or a free run
pub formed_live : (c : Config) (x : Segment) → eqb x.owner 0 ≡ false → well_formed c x ≡ true → Live c x
formed_live c x q w =
    let k : leb x.owner 8 ≡ true = search parts in
    let r : requested_fits c x ≡ true = search parts in
    let v : within (16 * (x.length - c.guards - 1) + 1) (16 * (x.length - c.guards)) x.requested ≡ true = rw q at r in
    let b : leb (16 * (x.length - c.guards - 1) + 1) x.requested ≡ true = search parts in
    let t : leb x.requested (16 * (x.length - c.guards)) ≡ true = search parts in
    record { owned = omega tests; known = omega tests; requested = omega tests; sized = omega tests }

pub formed_free : (c : Config) (s k : ℕ) (x : Segment) → eqb x.owner 0 ≡ true → well_formed c x ≡ true → x.start ≡ s → x.length ≡ k → free_run s k ≡ x
formed_free c s k x q w p l =
    let r : requested_fits c x ≡ true = search parts in
    let v : eqb x.requested 0 ≡ true = rw q at r in
    let a : 0 ≡ x.owner = omega tests in let b : 0 ≡ x.requested = omega tests in
    λ i. record { start = sym p i; length = sym l i; owner = a i; requested = b i }

pub apart_tail : (x : Segment) (xs : List Segment) → no_two_free (x ∷ xs) ≡ true → no_two_free xs ≡ true
apart_tail x [] n = refl
apart_tail x (y ∷ ys) n = both_right (not (eqb x.owner 0 && eqb y.owner 0)) (no_two_free (y ∷ ys)) n

-- its live segments, mapped, are the segments
pub map_back : (c : Config) (s e : ℕ) (xs : List Segment) → tiles s e xs ≡ true → list_all (well_formed c) xs ≡ true → no_two_free xs ≡ true → map_from e s (filter is_live xs) ≡ xs
map_back c s e [] t w n = let q : s ≡ e = eqb-true s e t in rw (le-ltb s e (omega arith))
map_back c s e (x ∷ []) t w n =
    let f : First s e x [] = first s e x [] t in
    let z : x.start + x.length ≡ e = eqb-true (x.start + x.length) e f.rest in
    split (eqb x.owner 0)
    (λ q. rw (q, lt-ltb s e (omega arith)) (ap (λ r. r ∷ []) (formed_free c s (e - s) x q (every_head (well_formed c) x [] w) f.start (omega arith))))
    (λ q. rw (q, le-ltb s x.start (omega arith), le-ltb (x.start + x.length) e (omega arith)))
map_back c s e (x ∷ y ∷ ys) t w n =
    let f : First s e x (y ∷ ys) = first s e x (y ∷ ys) t in
    let g : First (x.start + x.length) e y ys = first (x.start + x.length) e y ys f.rest in
    split (eqb x.owner 0)
    (λ q. split (eqb y.owner 0)
    (λ p. absurd (clash false (rw (q, p) at (both_left (not (eqb x.owner 0 && eqb y.owner 0)) (no_two_free (y ∷ ys)) n)) refl))
    (λ p. rw (q, p, lt-ltb s y.start (omega arith))
    (let h : free_run s (y.start - s) ≡ x = formed_free c s (y.start - s) x q (every_head (well_formed c) x (y ∷ ys) w) f.start (omega arith) in
    let r : map_from e (y.start + y.length) (filter is_live ys) ≡ ys =
    map_back c (y.start + y.length) e ys g.rest (every_tail (well_formed c) y ys (every_tail (well_formed c) x (y ∷ ys) w)) (apart_tail y ys (apart_tail x (y ∷ ys) n)) in
    λ i. h i ∷ y ∷ r i)))
    (λ q. rw (q, le-ltb s x.start (omega arith)) (ap (λ r. x ∷ r)
    (map_back c (x.start + x.length) e (y ∷ ys) f.rest (every_tail (well_formed c) x (y ∷ ys) w)
    (apart_tail x (y ∷ ys) n))))

pub ordered_back : (c : Config) (s : ℕ) (xs : List Segment) → tiles s c.granules xs ≡ true → list_all (well_formed c) xs ≡ true → Ordered c s (filter is_live xs)
ordered_back c s [] t w = omega tests
ordered_back c s (x ∷ xs) t w =
    let f : First s c.granules x xs = first s c.granules x xs t in
    let r : Ordered c (x.start + x.length) (filter is_live xs) = ordered_back c (x.start + x.length) xs f.rest (every_tail (well_formed c) x xs w) in
    split (eqb x.owner 0)
    (λ q. rw q (earlier c (x.start + x.length) s (filter is_live xs) (omega arith) r))
    (λ q. rw q (omega arith, formed_live c x q (every_head (well_formed c) x xs w), r))

-- What makes rows a map, by name.
pub record MapParts (c : Config) (xs : List Segment) : Type 0 where
  pub tiled : tiles 0 c.granules xs ≡ true
  pub formed : list_all (well_formed c) xs ≡ true
  pub apart : no_two_free xs ≡ true

pub map_parts : (c : Config) (xs : List Segment) → is_map c xs ≡ true → MapParts c xs
map_parts c xs m = record { tiled = search parts; formed = search parts; apart = search parts }

pub parts_map : (c : Config) (xs : List Segment) → MapParts c xs → is_map c xs ≡ true
parts_map c xs p = both_true _ _ (both_true _ _ p.tiled p.formed) p.apart

module _ (c : Config) (xs : List Segment) (m : is_map c xs ≡ true) where
  -- Rows that are a map are the map of their live ones.
  pub map_is : map_of c (filter is_live xs) ≡ xs
  map_is = let p : MapParts c xs = map_parts c xs m in map_back c 0 c.granules xs p.tiled p.formed p.apart

  -- Their live ones are in order, apart, in the arena, and have an owner and bytes that fit.
  pub map_ordered : Ordered c 0 (filter is_live xs)
  map_ordered = let p : MapParts c xs = map_parts c xs m in ordered_back c 0 xs p.tiled p.formed

  -- An owner's blocks count against its quota what they hold.
  pub map_charged : (o : ℕ) → total (charge c) (owned_by o (filter is_live xs)) ≡ granules_of (owned_by o (filter is_live xs))
  map_charged o = charged_all c 0 (owned_by o (filter is_live xs)) (only_ordered c (λ (b : Segment). eqb b.owner o) 0 (filter is_live xs) map_ordered)
