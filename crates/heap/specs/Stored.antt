-- A heap as it is written down, its record and its table's words: of a state, and the state that is read in them.
-- Assumes nothing.
use Rattle.std.specs.Prelude.{ℕ, List}
use Rattle.model.specs.Quantities.{Config}
use Rattle.model.specs.Allocation.{State, granules_of}
use Rattle.model.specs.SegmentMap.{map_of, rows_of}
use Rattle.segments.specs.Rows.{table_of, blocks_in}
use Rattle.heap.specs.declared.record.Heap.{Heap}

-- A heap is handed in as a record and the words of a table.
pub record Stored : Type 0 where
  pub heap : Heap
  pub words : List ℕ

-- A call is handed a record and a table's words.
abbrev pub handed : Heap → List ℕ → Stored
handed r ws = record { heap = r; words = ws }

-- The record holds the table's rows, the rows in use, the arena's granules and base address, a guard's granules, used, peak and the sixteen quotas.
abbrev pub record_for : Config → State → Heap
record_for c h =
    record {
      capacity = c.capacity;
      rows = rows_of c h.blocks;
      granules = c.granules;
      base = c.base;
      guards = c.guards;
      used = granules_of h.blocks;
      peak = h.peak;
      granule_quotas = c.granule_quotas;
      block_quotas = c.block_quotas;
    }

-- The table is fixed by the set of live blocks: its rows in use are the segments of their map.
abbrev pub table_for : Config → State → List ℕ
table_for c h = table_of c.capacity (map_of c h.blocks)

-- A state is stored as its record and its table.
abbrev pub store : Config → State → Stored
store c h = record { heap = record_for c h; words = table_for c h }

-- A record says what its heap was made with.
abbrev pub config_of : Heap → Config
config_of r = record { granules = r.granules; base = r.base; guards = r.guards; capacity = r.capacity; granule_quotas = r.granule_quotas; block_quotas = r.block_quotas }

-- The state read in a record and a table is the live blocks in the rows in use, and the peak.
abbrev pub state_in : Heap → List ℕ → State
state_in r ws = record { blocks = blocks_in r.rows ws; peak = r.peak }
