-- One row counted: no figure exceeds the granules passed.
-- Assumes nothing.
use Rattle.std.proofs.Common.{◌≡◌, ℕ, zero, suc, ◌+◌, ◌-◌, ◌<◌, ◌≤◌, false, eqb, List, [], length, get_or, set, replicate, refl, arith, length-set, get_or-set_other, get_or-set_same, eqb-true}
use Rattle.model.specs.Quantities.{Config}
use Rattle.model.specs.SegmentMap.{is_free}
use Rattle.model.proofs.Choosing.{split, tests}
use Rattle.segments.specs.Counting.{Bounded}
use Rattle.segments.specs.Steps.{none_counted, free_of, live_of}
use Rattle.segments.proofs.Following.{Follows}
use Rattle.model.specs.declared.Segment.{Segment}
use Rattle.segments.specs.declared.census.Census.{Census}

-- Figures of which one is raised by v are bounded by n more, if v is.
raised : (l : List ℕ) (j v e n : ℕ) → j < length l → v ≤ n → ((i : ℕ) → get_or l i 0 ≤ e) → (i : ℕ) → get_or (set l j (get_or l j 0 + v)) i 0 ≤ e + n
raised l j v e n hj hv h i =
    split (eqb i j)
    (λ q. rw (eqb-true i j q, get_or-set_same l j (get_or l j 0 + v) 0 hj) (omega (arith, h j)))
    (λ q. rw (get_or-set_other l j i (get_or l j 0 + v) 0 (λ z. omega tests)) (omega (arith, h i)))

module _ (g : ℕ) (k : Census) (b : Bounded g k) where
  -- The granules passed bound the figures as the arena's do.
  pub passed_bounded : Bounded k.end k
  passed_bounded = record { end = omega arith; used = b.used; longest = b.longest; blocks = b.blocks; held = b.held; blocks_eight = b.blocks_eight; held_eight = b.held_eight }

module _ (c : Config) (k : Census) (x : Segment) (b : Bounded c.granules k) where
  -- The count with a row that follows is bounded.
  pub free_bounded : Follows c k x → Bounded c.granules (free_of k x.length)
  free_bounded f =
      record {
        end = omega arith;
        used = omega arith;
        longest = omega arith;
        blocks = λ i. omega (arith, b.blocks i);
        held = λ i. omega (arith, b.held i);
        blocks_eight = b.blocks_eight;
        held_eight = b.held_eight;
      }

  pub live_bounded : Follows c k x → is_free x ≡ false → Bounded c.granules (live_of k x.owner x.length)
  live_bounded f o =
      record {
        end = omega arith;
        used = omega arith;
        longest = omega arith;
        blocks = raised k.blocks (x.owner - 1) 1 k.end x.length (omega tests) f.some b.blocks;
        held = raised k.held (x.owner - 1) x.length k.end x.length (omega tests) (omega arith) b.held;
        blocks_eight = rw length-set b.blocks_eight;
        held_eight = rw length-set b.held_eight;
      }

-- An arena of so many granules with guards of so many, apart from all else that a heap is made with.
abbrev pub of_granules : ℕ → ℕ → Config
of_granules g f = record { granules = g; base = 0; guards = f; capacity = 0; granule_quotas = []; block_quotas = [] }

-- Each of so many zeros is 0.
pub none_held : (i n : ℕ) → ◌≡◌ {A = ℕ} (get_or (replicate n 0) i 0) 0
none_held i zero = refl
none_held zero (suc n) = refl
none_held (suc i) (suc n) = none_held i n

-- Before the first row each figure is 0.
pub none_bounded : (g : ℕ) → Bounded g none_counted
none_bounded g =
    let z : (i : ℕ) → get_or (replicate 8 0) i 0 ≤ 0 = λ i. omega (arith, none_held i 8) in
    record { end = omega arith; used = omega arith; longest = omega arith; blocks = z; held = z; blocks_eight = refl; held_eight = refl }
