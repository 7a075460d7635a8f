-- Both sides of each edge of document 02's third request: which bases there are, makings, allocations at several bases; and resizes, frees, totals and demand 3's condition, which are the same at each; a table that computes.
-- Assumes nothing.
use mathlib.Core.Path.{◌≡◌, refl}
use mathlib.Core.Bool.{Bool, true, false, not}
use mathlib.Core.List.{List, [], ◌∷◌, ◌++◌}
use Prim.Native.Nat.{ℕ, ◌+◌, ◌-◌, ◌*◌, ◌/◌}
use lib.Dec.{eqb}
use lib.ListN.{length, replicate, take, drop, get_or}
use Rattle.std.specs.Prelude.{if◌then◌else◌, ◌&&◌}
use Rattle.std.specs.List.{list_all}
use Rattle.std.specs.Option.{option_map_or}
use Rattle.model.specs.Quantities.{is_base, Config, in_range, quota}
use Rattle.model.specs.Allocation.{State, block_at}
use Rattle.model.specs.Arena.{slice}
use Rattle.model.specs.Orders.{alloc_order, free_order, realloc_order, init_order, totals_order}
use Rattle.model.specs.Rules.{init, init_config, arena_after_init, alloc, after_alloc, free, arena_after_free, realloc, after_realloc, totals_of}
use Rattle.model.specs.Numbers.{Numbered, made_numbered, value_numbered, resized_numbered, totals_numbered}
use Rattle.model.specs.Bound.{rows_suffice, bound}
use Rattle.model.specs.declared.Segment.{Segment}
use Rattle.model.specs.declared.Plan.{Plan}

-- A row: start, length, owner, bytes requested.
abbrev row : ℕ → ℕ → ℕ → ℕ → Segment
row s l o n = record { start = s; length = l; owner = o; requested = n }

-- A heap of 16 granules without guards: its base, its table's rows, its live blocks. (An allocation of it is lent no arena, which it does not look at.)
pub data Heap : Type 0 where
  heap : (base rows : ℕ) (blocks : List Segment) → Heap

-- Owner 1 may have 8 granules in 3 blocks, owner 2 may have 32 in 9, owner 3 may have 4 in 9, owner 4 may have no block, the others nothing.
abbrev config : Heap → Config
config (heap b t bs) =
    record { granules = 16; base = b; guards = 0; capacity = t; granule_quotas = 8 ∷ 32 ∷ 4 ∷ 32 ∷ replicate 4 0; block_quotas = 3 ∷ 9 ∷ 9 ∷ replicate 5 0 }

abbrev state : Heap → State
state (heap b t bs) = record { blocks = bs; peak = 8 }

-- Nothing is live.
abbrev empty : ℕ → ℕ → Heap
empty b t = heap b t []

-- Free are the granules 2 to 4, 6 to 9 and 11 to 15: bytes 32 to 79, 96 to 159 and 176 to 255. Six rows are in use. Owner 1 has three granules in two blocks.
abbrev held : ℕ → ℕ → Heap
held b t = heap b t (row 0 2 1 32 ∷ row 5 1 2 16 ∷ row 10 1 1 10 ∷ [])

-- Free are the granules 2 to 4 and 8 to 15: bytes 32 to 79 and 128 to 255. Six rows are in use. Owner 1 has three granules in two blocks.
abbrev packed : ℕ → ℕ → Heap
packed b t = heap b t (row 0 1 1 16 ∷ row 1 1 2 16 ∷ row 5 2 1 30 ∷ row 7 1 2 16 ∷ [])

-- All else that makes a heap valid holds of these, so they are valid exactly if what they are made with is in range.
abbrev is_valid : Heap → Bool
is_valid h = in_range (config h)

-- The kinds of cases.
pub data Edge : Type 0 where
  -- An arena of so many bytes, a base, and whether it is allowed, in a making and in a heap.
  range : (bytes base : ℕ) (allowed : Bool) → Edge
  -- A making: the bytes of the arena, the words of the table, the base, the granule quota of owner 8, and the number, 0 for none.
  making : (bytes words base quota number : ℕ) → Edge
  -- An allocation: a heap, an owner, a size, an alignment, and the number, 0 for none, and the offset, 0 if it is refused.
  request : (h : Heap) (owner size alignment number offset : ℕ) → Edge
  -- At every one of `bases`: a resize in `packed`: the table's rows, an owner, an offset, a size, and the number and the value;
  resize : (rows owner offset size number value : ℕ) → Edge
  -- a free in `packed`: an owner, an offset, and the number and the bytes given back;
  release : (owner offset number bytes : ℕ) → Edge
  -- the totals of `held`: used, free, peak and the longest free run;
  sums : (used rest peak longest : ℕ) → Edge
  -- demand 3's condition for 4,096 granules and quotas of 1,024 granules and 64 blocks in total: the table's rows, and whether these are the rows wanted; g, m, and whether the bound holds.
  condition : (rows : ℕ) (suffice : Bool) (g m : ℕ) (bounded : Bool) → Edge

-- Which bases there are.
abbrev ranges : List Edge
ranges =
    -- The lowest, for the shortest arena and the longest.
    range 16 0 true
    ∷ range 1048576 0 true
    -- Multiples of 16, and their neighbours.
    ∷ range 16 1 false
    ∷ range 16 8 false
    ∷ range 16 15 false
    ∷ range 16 16 true
    ∷ range 16 17 false
    ∷ range 16 24 false
    ∷ range 32 16 true
    ∷ range 32 48 true
    ∷ range 1048576 16 true
    ∷ range 1048576 536870928 true
    ∷ range 1048576 536870920 false
    ∷ range 16 2147483648 true
    -- The longest arena, and one a granule shorter, end at 4,294,967,296, one granule past it, one before it, and half of one before it.
    ∷ range 1048576 4293918720 true
    ∷ range 1048576 4293918736 false
    ∷ range 1048576 4293918704 true
    ∷ range 1048576 4293918712 false
    ∷ range 1048560 4293918736 true
    ∷ range 1048560 4293918752 false
    -- So do short ones.
    ∷ range 16 4294967264 true
    ∷ range 16 4294967272 false
    ∷ range 16 4294967280 true
    ∷ range 16 4294967288 false
    ∷ range 32 4294967264 true
    ∷ range 32 4294967280 false
    ∷ range 48 4294967264 false
    -- The largest number of 32 bits, and the first that has more.
    ∷ range 16 4294967295 false
    ∷ range 16 4294967296 false
    ∷ range 1048576 4294967296 false
    ∷ []

-- Makings.
abbrev makings : List Edge
makings =
    -- Both sides of a multiple of 16.
    making 16 4 0 65536 0
    ∷ making 16 4 1 65536 18
    ∷ making 16 4 8 65536 18
    ∷ making 16 4 15 65536 18
    ∷ making 16 4 16 65536 0
    ∷ making 16 4 17 65536 18
    ∷ making 32 8 16 65536 0
    ∷ making 32 2048 48 65536 0
    ∷ making 48 4 536870928 65536 0
    -- Both sides of the end.
    ∷ making 16 4 4294967264 65536 0
    ∷ making 16 4 4294967272 65536 18
    ∷ making 16 4 4294967280 65536 0
    ∷ making 32 4 4294967280 65536 18
    ∷ making 32 4 4294967264 65536 0
    ∷ making 48 4 4294967264 65536 18
    ∷ making 48 4 4294967248 65536 0
    ∷ making 16 4 4294967295 65536 18
    -- 11 before 18: by its remainder, by its end, by both.
    ∷ making 0 4 8 65536 11
    ∷ making 24 4 8 65536 11
    ∷ making 24 4 4294967280 65536 11
    ∷ making 15 4 4294967295 65536 11
    ∷ making 0 0 1 65537 11
    -- 11 where the base is allowed.
    ∷ making 0 4 0 65536 11
    ∷ making 24 4 16 65536 11
    ∷ making 8 4 4294967280 65536 11
    -- 18 before 12.
    ∷ making 16 0 8 65536 18
    ∷ making 16 5 17 65536 18
    ∷ making 32 2052 4294967280 65536 18
    -- 18 before 13.
    ∷ making 16 4 8 65537 18
    ∷ making 32 4 4294967280 65537 18
    -- 18 before both.
    ∷ making 48 3 4294967264 65537 18
    -- 12 and 13 where the base is allowed.
    ∷ making 16 0 16 65536 12
    ∷ making 16 5 0 65537 12
    ∷ making 16 2052 4294967280 65536 12
    ∷ making 16 4 16 65537 13
    ∷ making 32 4 4294967264 65537 13
    ∷ []

-- Allocations.
abbrev requests : List Edge
requests =
    -- Base 0: the address is the offset.
    request (held 0 8) 2 16 16 0 32
    ∷ request (held 0 8) 2 16 32 0 32
    ∷ request (held 0 8) 2 16 64 0 64
    ∷ request (held 0 8) 2 16 128 0 128
    ∷ request (held 0 8) 2 16 256 7 0
    ∷ request (held 0 8) 2 32 64 0 128
    ∷ request (held 0 8) 2 48 64 0 192
    ∷ request (held 0 8) 2 48 128 7 0
    ∷ request (held 0 8) 2 64 32 0 96
    ∷ request (held 0 8) 2 80 16 0 176
    ∷ request (held 0 8) 2 80 32 7 0
    -- Base 16: offsets 32, 64 and 128 are aligned and their addresses are not; 48, 112, 176 and 240 are not, and their addresses are.
    ∷ request (held 16 8) 2 16 16 0 32
    ∷ request (held 16 8) 2 16 32 0 48
    ∷ request (held 16 8) 2 16 64 0 48
    ∷ request (held 16 8) 2 16 128 0 112
    ∷ request (held 16 8) 2 32 64 0 48
    ∷ request (held 16 8) 2 48 64 0 112
    ∷ request (held 16 8) 2 64 64 0 176
    ∷ request (held 16 8) 2 48 128 0 112
    ∷ request (held 16 8) 2 64 128 7 0
    ∷ request (held 16 8) 2 64 32 0 176
    ∷ request (held 16 8) 2 80 32 0 176
    ∷ request (held 16 8) 2 80 64 0 176
    ∷ request (held 16 8) 2 80 128 7 0
    ∷ request (held 16 8) 2 81 16 7 0
    -- The last granule is on the boundary; with one granule more the block ends past the arena; the next boundary is past it.
    ∷ request (held 16 8) 2 16 256 0 240
    ∷ request (held 16 8) 2 17 256 7 0
    ∷ request (held 16 8) 2 16 512 7 0
    -- Base 48: the lower boundaries are in live blocks.
    ∷ request (held 48 8) 2 16 16 0 32
    ∷ request (held 48 8) 2 16 32 0 48
    ∷ request (held 48 8) 2 16 64 0 144
    ∷ request (held 48 8) 2 32 64 0 208
    ∷ request (held 48 8) 2 48 64 0 208
    ∷ request (held 48 8) 2 49 64 7 0
    ∷ request (held 48 8) 2 48 256 0 208
    ∷ request (held 48 8) 2 49 256 7 0
    ∷ request (held 48 8) 2 16 512 7 0
    -- Base 4,096: as base 0.
    ∷ request (held 4096 8) 2 16 32 0 32
    ∷ request (held 4096 8) 2 16 64 0 64
    ∷ request (held 4096 8) 2 32 64 0 128
    ∷ request (held 4096 8) 2 16 256 7 0
    ∷ request (held 4096 8) 2 80 32 7 0
    -- Bases 4,112 and 536,870,928: as base 16.
    ∷ request (held 4112 8) 2 16 32 0 48
    ∷ request (held 4112 8) 2 48 64 0 112
    ∷ request (held 4112 8) 2 16 256 0 240
    ∷ request (held 4112 8) 2 16 4096 7 0
    ∷ request (held 536870928 8) 2 16 32 0 48
    ∷ request (held 536870928 8) 2 32 64 0 48
    ∷ request (held 536870928 8) 2 48 128 0 112
    ∷ request (held 536870928 8) 2 16 256 0 240
    ∷ request (held 536870928 8) 2 17 256 7 0
    ∷ request (held 536870928 8) 2 16 4096 7 0
    -- The arena ends at 4,294,967,296, which is on every boundary, and no block begins there.
    ∷ request (held 4294967040 8) 2 16 64 0 64
    ∷ request (held 4294967040 8) 2 16 128 0 128
    ∷ request (held 4294967040 8) 2 80 16 0 176
    ∷ request (held 4294967040 8) 2 16 256 7 0
    ∷ request (held 4294967040 8) 2 16 512 7 0
    ∷ request (empty 4294967040 2) 2 256 256 0 0
    ∷ request (empty 4294967040 2) 2 257 256 7 0
    ∷ request (empty 4294967040 2) 2 1 512 7 0
    ∷ request (empty 4294967040 2) 2 1 4096 7 0
    -- Boundaries of 4,096: at the arena's first granule, its second, its last, and its end.
    ∷ request (empty 0 2) 2 256 4096 0 0
    ∷ request (empty 4096 2) 2 256 4096 0 0
    ∷ request (empty 2048 2) 2 1 4096 7 0
    ∷ request (empty 2048 2) 2 256 2048 0 0
    ∷ request (empty 4080 2) 2 240 4096 0 16
    ∷ request (empty 4080 2) 2 241 4096 7 0
    ∷ request (empty 3856 2) 2 16 4096 0 240
    ∷ request (empty 3856 2) 2 17 4096 7 0
    ∷ request (empty 3840 2) 2 1 4096 7 0
    ∷ request (empty 4112 2) 2 1 4096 7 0
    ∷ request (empty 536870896 3) 2 16 4096 0 16
    ∷ request (empty 536870928 2) 2 256 16 0 0
    ∷ request (empty 536870928 2) 2 256 32 7 0
    ∷ request (empty 536870928 2) 2 240 32 0 16
    -- 8: the row for the gap before the boundary. No gap and no rest; a rest; a gap; both, and then a later start that wants fewer rows is not tried.
    ∷ request (held 0 6) 2 48 16 0 32
    ∷ request (held 16 6) 2 48 16 0 32
    ∷ request (held 0 6) 2 32 32 8 0
    ∷ request (held 0 7) 2 32 32 0 32
    ∷ request (held 16 6) 2 32 32 8 0
    ∷ request (held 16 7) 2 32 32 0 48
    ∷ request (held 0 7) 2 16 32 0 32
    ∷ request (held 16 7) 2 16 32 8 0
    -- Base 0 wants no row more, and base 16 does.
    ∷ request (held 0 6) 2 64 32 0 96
    ∷ request (held 16 6) 2 64 32 8 0
    ∷ request (held 16 7) 2 64 32 0 176
    -- Base 16 and base 32 want none, and base 0 has no place or wants two.
    ∷ request (held 16 6) 2 80 32 0 176
    ∷ request (held 32 6) 2 48 64 0 32
    ∷ request (held 0 7) 2 48 64 8 0
    -- On a boundary of 64 base 0 wants a row for the gap, and base 16 one for the rest too.
    ∷ request (held 0 6) 2 16 64 8 0
    ∷ request (held 0 7) 2 16 64 0 64
    ∷ request (held 16 7) 2 16 64 8 0
    -- In an empty heap.
    ∷ request (empty 0 1) 2 256 32 0 0
    ∷ request (empty 16 1) 2 256 16 0 0
    ∷ request (empty 16 1) 2 240 32 8 0
    ∷ request (empty 16 2) 2 240 32 0 16
    ∷ request (empty 4080 2) 2 224 4096 8 0
    ∷ request (empty 4080 3) 2 224 4096 0 16
    -- 5 and 6 before 7, and where there is a place; 5 before 8.
    ∷ request (held 0 8) 4 80 32 5 0
    ∷ request (held 16 8) 4 80 32 5 0
    ∷ request (held 0 8) 3 80 32 6 0
    ∷ request (held 16 8) 3 80 32 6 0
    ∷ request (held 0 8) 1 80 32 7 0
    ∷ request (held 16 8) 1 80 32 0 176
    ∷ request (held 16 8) 1 81 32 6 0
    ∷ request (held 16 8) 2 81 32 7 0
    ∷ request (held 16 6) 4 32 32 5 0
    -- 2, 3 and 4 before them. 48 and 8,192 are no alignments, also where the base is a multiple of them.
    ∷ request (held 16 8) 0 0 8 2 0
    ∷ request (held 16 8) 9 80 32 2 0
    ∷ request (held 16 8) 4 0 8 3 0
    ∷ request (held 16 8) 4 80 8 4 0
    ∷ request (held 16 8) 2 16 0 4 0
    ∷ request (held 48 8) 2 16 48 4 0
    ∷ request (empty 8192 8) 2 16 8192 4 0
    -- 1: a record whose base breaks the rule is no valid heap.
    ∷ request (held 8 8) 0 0 8 1 0
    ∷ request (held 24 8) 2 16 16 1 0
    ∷ request (held 4294967056 8) 2 16 16 1 0
    ∷ request (empty 4294967295 8) 2 16 16 1 0
    ∷ []

-- The bases at which resizes, frees, totals and demand 3's condition are tried; an arena of 16 granules at the last ends at 4,294,967,296.
abbrev bases : List ℕ
bases = 0 ∷ 16 ∷ 48 ∷ 4096 ∷ 4112 ∷ 536870928 ∷ 4294967040 ∷ []

-- Resizes.
abbrev resizes : List Edge
resizes =
    -- It stays.
    resize 6 1 0 1 0 0
    ∷ resize 6 2 16 64 0 16
    ∷ resize 6 2 112 144 0 112
    -- It moves, to the lowest start at which there is room.
    ∷ resize 7 1 0 17 0 32
    ∷ resize 6 1 0 48 0 32
    ∷ resize 7 1 0 49 0 128
    ∷ resize 6 2 16 128 0 128
    ∷ resize 6 1 80 33 0 32
    ∷ resize 6 1 80 49 0 128
    ∷ resize 6 2 16 65 0 128
    -- Size 0 is a return.
    ∷ resize 6 1 80 0 0 32
    -- 8, 7 and 6, and both sides of them; 10 before 7.
    ∷ resize 6 1 0 17 8 0
    ∷ resize 6 1 0 49 8 0
    ∷ resize 7 2 0 129 10 0
    ∷ resize 7 2 16 129 7 0
    ∷ resize 7 2 112 145 7 0
    ∷ resize 7 1 0 96 0 128
    ∷ resize 7 1 0 97 6 0
    -- What is handed in is an offset, and no address.
    ∷ resize 7 1 256 17 15 0
    ∷ resize 7 1 8 17 16 0
    ∷ resize 7 1 32 17 17 0
    ∷ resize 7 1 96 17 9 0
    ∷ resize 7 1 16 17 10 0
    ∷ []

-- Frees, totals and demand 3's condition (its first two lines are document 01's P14 and P15).
abbrev others : List Edge
others =
    release 1 0 0 16
    ∷ release 1 80 0 32
    ∷ release 2 112 0 16
    ∷ release 2 80 10 0
    ∷ release 1 96 9 0
    ∷ release 1 32 17 0
    ∷ release 1 72 16 0
    ∷ release 1 256 15 0
    ∷ sums 64 192 128 80
    ∷ condition 129 true 49 1 true
    ∷ condition 128 false 50 1 false
    ∷ condition 512 true 2 48 true
    ∷ condition 1 false 2 49 false
    ∷ []

-- The table.
abbrev pub edges : List Edge
edges = ranges ++ (makings ++ (requests ++ (resizes ++ others)))

-- A plan with a base and a granule quota of owner 8.
abbrev plan : ℕ → ℕ → Plan
plan b q = record { base = b; guarded = false; granule_quotas = replicate 7 0 ++ (q ∷ []); block_quotas = replicate 8 256 }

-- What a heap is made with that has so many granules, a base, and all quotas as large as they may be.
abbrev ample : ℕ → ℕ → Config
ample g b = record { granules = g; base = b; guards = 0; capacity = 1; granule_quotas = replicate 8 65536; block_quotas = replicate 8 256 }

-- Demand 3's heap, at a base.
abbrev wide : ℕ → ℕ → Config
wide t b = record { granules = 4096; base = b; guards = 0; capacity = t; granule_quotas = replicate 8 128; block_quotas = replicate 8 8 }

-- Both tests hold, or neither does.
abbrev same : Bool → Bool → Bool
same true b = b
same false b = not b

-- The number and the value of an answer are these.
abbrev answers : ℕ → ℕ → Numbered → Bool
answers number value a = eqb a.0 number && eqb (get_or a.1 0 0) value

-- A heap is made with an arena of so many bytes, a table of so many words, a base and the quotas of `plan`, and is in range.
abbrev made_with : ℕ → ℕ → ℕ → ℕ → Config → Bool
made_with bytes words b q c =
    eqb (16 * c.granules) bytes && eqb c.base b && eqb (4 * c.capacity) words
    && (eqb (quota c.granule_quotas 1) 0 && eqb (quota c.granule_quotas 8) q)
    && eqb (quota c.block_quotas 8) 256
    && in_range c

-- There are so many live blocks, and the one at offset x is of an owner's n bytes.
abbrev is_live_at : ℕ → ℕ → ℕ → ℕ → State → Bool
is_live_at count x o n h =
    eqb (length h.blocks) count && option_map_or (λ b. eqb b.owner o && eqb b.requested n) (block_at x h.blocks) false

-- Bytes are so many, each of them k.
abbrev filled : ℕ → ℕ → List ℕ → Bool
filled count k bytes = eqb (length bytes) count && list_all (eqb k) bytes

-- Of an arena of 256 bytes the k from x on are 0, and the others 7.
abbrev cleared : ℕ → ℕ → List ℕ → Bool
cleared x k arena =
    filled x 7 (take x arena) && filled k 0 (slice x k arena) && filled (256 - (x + k)) 7 (drop (x + k) arena)

-- It holds at every base.
abbrev at_each : (ℕ → Bool) → Bool
at_each p = list_all p bases

-- A case comes out as the table says: the answer is the one there; if it is refused there are as many blocks as before, or the arena's bytes are what they were; else there is the block at the offset answered (none more or less), or the bytes of the one given back are zero.
abbrev pub holds : Edge → Bool
holds (range bytes b allowed) = same allowed (is_base bytes b) && same allowed (in_range (ample (bytes / 16) b))
holds (making bytes words b q number) =
    let arena : List ℕ = replicate bytes 7 in
    let table : List ℕ = replicate words 9 in
    let p : Plan = plan b q in
    eqb (made_numbered (init arena table p)).0 number
    && (if eqb number 0
    then filled bytes 0 (arena_after_init arena table p) && made_with bytes words b q (init_config arena table p)
    else filled bytes 7 (arena_after_init arena table p))
holds (request h o n a number x) =
    let after : State = after_alloc (is_valid h) (config h) (state h) [] o n a in
    answers number x (value_numbered (alloc (is_valid h) (config h) (state h) [] o n a))
    && (if eqb number 0 then is_live_at (length (state h).blocks + 1) x o n after else eqb (length after.blocks) (length (state h).blocks))
holds (resize t o x n number v) =
    at_each (λ (b : ℕ).
    let h : Heap = packed b t in
    let after : State = after_realloc (is_valid h) (config h) (state h) (replicate 256 7) o x n in
    answers number v (resized_numbered (realloc (is_valid h) (config h) (state h) (replicate 256 7) o x n))
    && (if eqb number 0 then (if eqb n 0 then eqb (length after.blocks) 3 else is_live_at 4 v o n after) else eqb (length after.blocks) 4))
holds (release o x number k) =
    at_each (λ (b : ℕ).
    let h : Heap = packed b 6 in
    answers number k (value_numbered (free (is_valid h) (config h) (state h) (replicate 256 7) o x))
    && cleared (if eqb number 0 then x else 0) k (arena_after_free (is_valid h) (config h) (state h) (replicate 256 7) o x))
holds (sums used rest peak longest) =
    at_each (λ (b : ℕ).
    let a : Numbered = totals_numbered (totals_of (is_valid (held b 6)) (config (held b 6)) (state (held b 6))) in
    answers 0 used a && eqb (get_or a.1 1 0) rest && eqb (get_or a.1 2 0) peak && eqb (get_or a.1 3 0) longest)
holds (condition t suffice g m bounded) =
    at_each (λ (b : ℕ). same suffice (rows_suffice (wide t b)) && same bounded (bound (wide t b) g m))

-- Each does.
pub each : list_all holds edges ≡ true
unfolding alloc_order free_order realloc_order init_order totals_order
each = refl
