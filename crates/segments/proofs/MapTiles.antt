-- The map of a set of blocks: it tiles the arena, its segments are well formed, no two free ones touch, and its live ones are the blocks.
-- Assumes nothing.
use Rattle.std.proofs.Common.{◌≡◌, ℕ, ◌+◌, ◌-◌, ◌*◌, ◌<◌, ◌≤◌, true, false, eqb, ltb, List, [], ◌∷◌, ◌++◌, length, refl, ap, subst, arith, length-append, eq-eqb, ne_eqb, le-leb}
use Rattle.std.specs.Prelude.{filter}
use Rattle.std.specs.List.{list_all}
use Rattle.model.specs.Quantities.{Config}
use Rattle.model.specs.SegmentMap.{is_live, free_run, gap, map_from, map_of}
use Rattle.model.proofs.Choosing.{split, tests, both_true, every_append, only_append}
use Rattle.model.proofs.Ordered.{Live, Ordered, long}
use Rattle.segments.specs.Tiling.{tiles, well_formed, no_two_free, is_map}
use Rattle.model.specs.declared.Segment.{Segment}

pub gap_free : (s e : ℕ) → filter is_live (gap s e) ≡ []
gap_free s e = split (ltb s e) (λ q. rw q) (λ q. rw q)

pub gap_formed : (c : Config) (s e : ℕ) → list_all (well_formed c) (gap s e) ≡ true
gap_formed c s e = split (ltb s e) (λ q. rw q) (λ q. rw q)

pub rows_least_lem : (e : ℕ) (bs : List Segment) → 1 ≤ e → 1 ≤ length (map_from e 0 bs)
rows_least_lem e [] h = let q : ltb 0 e ≡ true = omega tests in rw q (omega arith)
rows_least_lem e (b ∷ bs) h = rw length-append (omega arith)

pub tiles_cons : (t e : ℕ) (b : Segment) (ss : List Segment) → b.start ≡ t → 1 ≤ b.length → tiles (b.start + b.length) e ss ≡ true → tiles t e (b ∷ ss) ≡ true
tiles_cons t e b ss h l r =
    rw (eq-eqb b.start t h, le-leb 1 b.length l) (subst (λ (k : ℕ). tiles (k + b.length) e ss ≡ true) h r)

pub tiles_gap : (s t e : ℕ) (ss : List Segment) → s ≤ t → tiles t e ss ≡ true → tiles s e (gap s t ++ ss) ≡ true
tiles_gap s t e ss h r =
    split (ltb s t)
    (λ q. let z : s + (t - s) ≡ t = omega arith in rw q (tiles_cons s e (free_run s (t - s)) ss refl (omega tests) (rw z r)))
    (λ q. let z : s ≡ t = omega tests in rw q (rw z r))

-- a free run from s up to e, and the gap there, tile
pub run_tiles : (s e : ℕ) → s < e → tiles s e (free_run s (e - s) ∷ []) ≡ true
run_tiles s e h = tiles_cons s e (free_run s (e - s)) [] refl (omega arith) (eq-eqb (s + (e - s)) e (omega arith))

pub gap_tiles : (s e : ℕ) → s ≤ e → tiles s e (gap s e) ≡ true
gap_tiles s e h = split (ltb s e) (λ q. rw q (run_tiles s e (omega tests))) (λ q. rw q (eq-eqb s e (omega tests)))

module _ (c : Config) where
  abbrev from : ℕ → List Segment → List Segment
  from s bs = map_from c.granules s bs

  pub owner_not_0 : (b : Segment) → Live c b → eqb b.owner 0 ≡ false
  owner_not_0 b l = ne_eqb b.owner 0 (omega arith)

  pub live_map : (s : ℕ) (bs : List Segment) → Ordered c s bs → filter is_live (from s bs) ≡ bs
  live_map s [] o = gap_free s c.granules
  live_map s (b ∷ bs) o =
      rw (only_append is_live (gap s b.start) (b ∷ from (b.start + b.length) bs), gap_free s b.start, owner_not_0 b o.1)
      (ap (λ r. b ∷ r) (live_map (b.start + b.length) bs o.2))

  -- the map tiles the arena
  pub tiles_map : (s : ℕ) (bs : List Segment) → Ordered c s bs → tiles s c.granules (from s bs) ≡ true
  tiles_map s [] o = gap_tiles s c.granules o
  tiles_map s (b ∷ bs) o =
      tiles_gap s b.start c.granules (b ∷ from (b.start + b.length) bs) o.0
      (tiles_cons b.start c.granules b (from (b.start + b.length) bs) refl (long c b o.1) (tiles_map (b.start + b.length) bs o.2))

  -- its segments are well formed
  pub live_formed : (b : Segment) → Live c b → well_formed c b ≡ true
  live_formed b l =
      rw (le-leb 0 b.owner (omega arith), le-leb b.owner 8 l.known, owner_not_0 b l, le-leb (16 * (b.length - c.guards - 1) + 1) b.requested (omega (arith, l.sized)), le-leb b.requested (16 * (b.length - c.guards)) (omega (arith, l.sized)))

  pub map_formed : (s : ℕ) (bs : List Segment) → Ordered c s bs → list_all (well_formed c) (from s bs) ≡ true
  map_formed s [] o = gap_formed c s c.granules
  map_formed s (b ∷ bs) o =
      every_append (well_formed c) (gap s b.start) (b ∷ from (b.start + b.length) bs) (gap_formed c s b.start)
      (both_true (well_formed c b) (list_all (well_formed c) (from (b.start + b.length) bs)) (live_formed b o.1) (map_formed (b.start + b.length) bs o.2))

  -- no two free runs of it meet
  live_first : (b : Segment) (ss : List Segment) → Live c b → no_two_free ss ≡ true → no_two_free (b ∷ ss) ≡ true
  live_first b [] l h = refl
  live_first b (x ∷ ss) l h = rw (owner_not_0 b l) h

  gap_first : (s e : ℕ) (b : Segment) (ss : List Segment) → Live c b → no_two_free (b ∷ ss) ≡ true → no_two_free (gap s e ++ (b ∷ ss)) ≡ true
  gap_first s e b ss l h = split (ltb s e) (λ q. rw (q, owner_not_0 b l) h) (λ q. rw q h)

  pub map_apart : (s : ℕ) (bs : List Segment) → Ordered c s bs → no_two_free (from s bs) ≡ true
  map_apart s [] o = split (ltb s c.granules) (λ q. rw q) (λ q. rw q)
  map_apart s (b ∷ bs) o =
      gap_first s b.start b (from (b.start + b.length) bs) o.1
      (live_first b (from (b.start + b.length) bs) o.1 (map_apart (b.start + b.length) bs o.2))

  -- The map of a set of blocks is a map.
  pub is_map_lem : (bs : List Segment) → Ordered c 0 bs → is_map c (map_of c bs) ≡ true
  is_map_lem bs o = both_true _ _ (both_true _ _ (tiles_map 0 bs o) (map_formed 0 bs o)) (map_apart 0 bs o)
