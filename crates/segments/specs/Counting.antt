-- What one pass over the rows counts.
-- Assumes nothing.
use Rattle.std.specs.Prelude.{◌≡◌, ℕ, ◌-◌, ◌≤◌, List, filter, length, slice_index, Option, is_some, IfSome}
use Rattle.model.specs.Quantities.{Config}
use Rattle.model.specs.Allocation.{granules_of, owned_by}
use Rattle.model.specs.SegmentMap.{is_live, longest_free}
use Rattle.segments.specs.Tiling.{is_map}
use Rattle.model.specs.declared.Segment.{Segment}
use Rattle.segments.specs.declared.census.Census.{Census}

-- No figure exceeds the granules passed, those do not exceed the arena's, and there is a figure of each kind for each of eight owners.
pub record Bounded (g : ℕ) (k : Census) : Type 0 where
  pub end : k.end ≤ g
  pub used : k.used ≤ k.end
  pub longest : k.longest ≤ k.end
  pub blocks : (i : ℕ) → slice_index k.blocks i ≤ k.end
  pub held : (i : ℕ) → slice_index k.held i ≤ k.end
  pub blocks_eight : length k.blocks ≡ 8
  pub held_eight : length k.held ≡ 8

-- The figures of rows that are a map are those of the live blocks.
pub record Figures (c : Config) (xs : List Segment) (k : Census) : Type 0 where
  pub bounded : Bounded c.granules k
  pub used : k.used ≡ granules_of (filter is_live xs)
  pub longest : k.longest ≡ longest_free c (filter is_live xs)
  pub blocks : (o : ℕ) → 1 ≤ o → o ≤ 8 → slice_index k.blocks (o - 1) ≡ length (owned_by o (filter is_live xs))
  pub held : (o : ℕ) → 1 ≤ o → o ≤ 8 → slice_index k.held (o - 1) ≡ granules_of (owned_by o (filter is_live xs))

-- A pass over rows counts them just where they are a map.
pub record Counted (c : Config) (xs : List Segment) (k : Option Census) : Type 0 where
  pub map : is_some k ≡ is_map c xs
  pub figures : IfSome k (λ k. Figures c xs k)
