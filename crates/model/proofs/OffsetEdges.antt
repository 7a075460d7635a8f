-- Both sides of each edge of document 02's first request, on one small heap: a table that computes.
-- Assumes nothing.
use mathlib.Core.Path.{◌≡◌, refl}
use mathlib.Core.Bool.{Bool, true}
use mathlib.Core.List.{List, [], ◌∷◌}
use Prim.Native.Nat.{ℕ}
use lib.Dec.{eqb}
use lib.ListN.{replicate}
use Rattle.std.specs.List.{list_all}
use Rattle.model.specs.Quantities.{Config}
use Rattle.model.specs.Allocation.{State, block}
use Rattle.model.specs.Orders.{block_order}
use Rattle.model.proofs.Refinement.{refusal_number}

-- A heap of 128 bytes without guards, with 8 rows, and quotas of 8 granules and 8 blocks.
abbrev small : Config
small = record { granules = 8; base = 0; guards = 0; capacity = 8; granule_quotas = replicate 8 8; block_quotas = replicate 8 8 }

-- Owner 1 has a block of 40 bytes at 0, in three granules, and one of 17 at 80, in two; owner 2 has one of 16 bytes at 64. 48 to 63 and 112 to 127 are free.
abbrev held : State
held = record { blocks = block small 1 40 0 ∷ block small 2 16 4 ∷ block small 1 17 5 ∷ []; peak = 6 }

-- An owner, an offset, and the number that a return or an enquiry for a size gets there; 0 is none.
pub data Edge : Type 0 where
  edge : (owner offset number : ℕ) → Edge

-- The table.
abbrev pub edges : List Edge
edges =
    edge 1 0 0
    ∷ edge 2 0 10
    ∷ edge 1 15 16
    ∷ edge 1 16 9
    ∷ edge 2 32 9
    ∷ edge 1 47 16
    ∷ edge 1 48 17
    ∷ edge 1 49 16
    ∷ edge 1 63 16
    ∷ edge 1 64 10
    ∷ edge 2 64 0
    ∷ edge 1 80 0
    ∷ edge 2 80 10
    ∷ edge 1 96 9
    ∷ edge 1 111 16
    ∷ edge 2 112 17
    ∷ edge 1 127 16
    ∷ edge 1 128 15
    ∷ edge 1 129 15
    ∷ edge 1 4294967295 15
    ∷ edge 0 128 2
    ∷ edge 9 49 2
    ∷ []

-- It gets that number.
abbrev pub holds : Edge → Bool
holds (edge o x n) = eqb (refusal_number (block_order small held o x)) n

-- Each does.
pub each : list_all holds edges ≡ true
each = refl
