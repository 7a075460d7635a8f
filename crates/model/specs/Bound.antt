-- The total quotas and the rows wanted of document 01's "The lists of demand 3", and demand 3's condition.
-- Assumes nothing.
use Rattle.std.specs.Prelude.{ℕ, ◌+◌, ◌-◌, ◌*◌, Bool, leb, ltb}
use Rattle.model.specs.Choose.{total}
use Rattle.model.specs.Quantities.{Config}

-- The total granule quota is the sum over the eight owners.
abbrev pub total_granule_quota : Config → ℕ
total_granule_quota c = total (λ (q : ℕ). q) c.granule_quotas

-- The total block quota is the sum over the eight owners.
abbrev pub total_block_quota : Config → ℕ
total_block_quota c = total (λ (q : ℕ). q) c.block_quotas

-- The table has the rows wanted: at least 2 times the total block quota, plus one.
abbrev pub rows_suffice : Config → Bool
rows_suffice c = leb (2 * total_block_quota c + 1) c.capacity

-- Demand 3's condition for g granules on a boundary of m granules: the arena's granules plus g exceed the total granule quota plus the total block quota times (g + m - 2).
abbrev pub bound : Config → ℕ → ℕ → Bool
bound c g m = ltb (total_granule_quota c + total_block_quota c * (g + m - 2)) (c.granules + g)
