-- Both sides of each edge of document 02's fourth request, on small heaps with and without guards; tables that compute.
-- Assumes nothing.
use mathlib.Core.Path.{◌≡◌, refl}
use mathlib.Core.Bool.{Bool, true, false}
use mathlib.Core.List.{List, [], ◌∷◌, ◌++◌, map}
use Prim.Native.Nat.{ℕ, zero, suc, ◌+◌, max}
use lib.ListN.{replicate, take, drop}
use Rattle.std.specs.Option.{option_map_or}
use Rattle.model.specs.Quantities.{Config, in_range}
use Rattle.model.specs.Allocation.{State, needed, granules_of}
use Rattle.model.specs.SegmentMap.{map_of}
use Rattle.model.specs.Orders.{first_reason, alloc_order, free_order, realloc_order, block_size_order, init_order, totals_order, holding_order, proper_order}
use Rattle.model.specs.Rules.{init, init_config, arena_after_init, alloc, after_alloc, granted_alloc, arena_after_alloc, free, after_free, returned_free, arena_after_free, realloc, after_realloc, granted_realloc, returned_realloc, arena_after_realloc, block_size, totals_of, holding_of}
use Rattle.model.specs.Numbers.{Numbered, number_of, made_numbered, value_numbered, resized_numbered, size_numbered, totals_numbered, holding_numbered}
use Rattle.model.specs.Bound.{rows_suffice, bound}
use Rattle.model.specs.declared.Segment.{Segment}
use Rattle.model.specs.declared.Plan.{Plan}

-- A row: start, length, owner, bytes requested.
abbrev row : ℕ → ℕ → ℕ → ℕ → Segment
row s l o n = record { start = s; length = l; owner = o; requested = n }

-- A free row.
abbrev hole : ℕ → ℕ → Segment
hole s l = row s l 0 0

-- The k bytes that stood from x on before the call: byte i is 128 + i, so that no two are alike and none is zero or a guard's.
abbrev was : ℕ → ℕ → List ℕ
was x zero = []
was x (suc k) = (128 + x) ∷ was (suc x) k

-- k zeros.
abbrev zeros : ℕ → List ℕ
zeros k = replicate k 0

-- A guard: sixteen times 0x77.
abbrev guard : List ℕ
guard = replicate 16 119

-- Byte i of an arena becomes v.
abbrev with : ℕ → ℕ → List ℕ → List ℕ
with i v arena = take i arena ++ (v ∷ drop (suc i) arena)

-- A heap of 8 granules: whether it has guards (0 or 1), its base, its table's rows, the granule quotas of owners 1 and 2 (of the others 0; each may have two blocks), its live blocks, the arena's bytes.
pub data Heap : Type 0 where
  heap : (guards base rows quota₁ quota₂ : ℕ) (blocks : List Segment) (arena : List ℕ) → Heap

-- What it is made with.
abbrev config : Heap → Config
config (heap g b t q r bs bytes) =
    record { granules = 8; base = b; guards = g; capacity = t; granule_quotas = q ∷ r ∷ replicate 6 0; block_quotas = 2 ∷ 2 ∷ replicate 6 0 }

-- Its state; the peak is 5, or what is live if that is more.
abbrev state : Heap → State
state (heap g b t q r bs bytes) = record { blocks = bs; peak = max 5 (granules_of bs) }

-- Its bytes.
abbrev arena_of : Heap → List ℕ
arena_of (heap g b t q r bs bytes) = bytes

-- Nothing is live.
abbrev empty : ℕ → ℕ → ℕ → Heap
empty g t q = heap g 0 t q 9 [] (was 0 128)

-- With guards: three granules of owner 1, two of owner 2, three free. Three rows. The guards are at bytes 32 and 64.
abbrev pair : ℕ → ℕ → ℕ → Heap
pair t q r = heap 1 0 t q r (row 0 3 1 20 ∷ row 3 2 2 16 ∷ []) (was 0 32 ++ (guard ++ (was 48 16 ++ (guard ++ was 80 48))))

-- With guards: two granules of owner 1, two free, two of owner 2, two free. Four rows. The guards are at bytes 16 and 80.
abbrev gaps : ℕ → ℕ → ℕ → Heap
gaps t q r = heap 1 0 t q r (row 0 2 1 16 ∷ row 4 2 2 1 ∷ []) (was 0 16 ++ (guard ++ (was 32 48 ++ (guard ++ was 96 32))))

-- With guards: two granules of owner 1, two of owner 2, four free. Three rows. The guards are at bytes 16 and 48.
abbrev left : ℕ → ℕ → ℕ → Heap
left t q r = heap 1 0 t q r (row 0 2 1 10 ∷ row 2 2 2 16 ∷ []) (was 0 16 ++ (guard ++ (was 32 16 ++ (guard ++ was 64 64))))

-- With guards: four free, two of owner 1, two of owner 2. Three rows. The guards are at bytes 80 and 112.
abbrev right : ℕ → ℕ → ℕ → Heap
right t q r = heap 1 0 t q r (row 4 2 1 16 ∷ row 6 2 2 16 ∷ []) (was 0 80 ++ (guard ++ (was 96 16 ++ guard)))

-- With guards: one block over the whole arena, and one row. The guard is at byte 112.
abbrev full : ℕ → Heap
full q = heap 1 0 1 q 9 (row 0 8 1 112 ∷ []) (was 0 112 ++ guard)

-- With guards: a block one granule longer than its size needs. No heap that is valid has one, but its size alone fixes where its guard is, at byte 32, and what it counts against the quota, three granules.
abbrev roomy : ℕ → ℕ → Heap
roomy t q = heap 1 0 t q 9 (row 0 4 1 20 ∷ []) (was 0 32 ++ (guard ++ was 48 80))

-- Without guards: the rows of `pair`.
abbrev plain_pair : ℕ → ℕ → ℕ → Heap
plain_pair t q r = heap 0 0 t q r (row 0 3 1 48 ∷ row 3 2 2 32 ∷ []) (was 0 128)

-- Without guards: the rows of `gaps`.
abbrev plain_gaps : ℕ → ℕ → ℕ → Heap
plain_gaps t q r = heap 0 0 t q r (row 0 2 1 32 ∷ row 4 2 2 32 ∷ []) (was 0 128)

-- The heap with other bytes in its arena.
abbrev lent : List ℕ → Heap → Heap
lent arena (heap g b t q r bs bytes) = heap g b t q r bs arena

-- The heap with byte i of its arena become v.
abbrev hit : ℕ → ℕ → Heap → Heap
hit i v (heap g b t q r bs bytes) = heap g b t q r bs (with i v bytes)

-- The heap at a base.
abbrev based : ℕ → Heap → Heap
based b (heap g c t q r bs bytes) = heap g b t q r bs bytes

-- The n numbers from x on.
abbrev from : ℕ → ℕ → List ℕ
from x zero = []
from x (suc n) = x ∷ from (suc x) n

-- The granules that sizes need: guards, a size, and the granules.
abbrev pub sizes : List (ℕ × ℕ × ℕ)
sizes =
    (0, 1, 1) ∷ (1, 1, 2)
    ∷ (0, 15, 1) ∷ (1, 15, 2)
    ∷ (0, 16, 1) ∷ (1, 16, 2)
    ∷ (0, 17, 2) ∷ (1, 17, 3)
    ∷ (0, 32, 2) ∷ (1, 32, 3)
    ∷ (0, 33, 3) ∷ (1, 33, 4)
    ∷ (0, 40, 3) ∷ (1, 40, 4)
    ∷ (0, 4294967280, 268435455) ∷ (1, 4294967280, 268435456)
    ∷ (0, 4294967295, 268435456) ∷ (1, 4294967295, 268435457)
    ∷ []

-- What may stand in a record for guards, and whether it is in range.
abbrev pub kinds : List (ℕ × Bool)
kinds = (0, true) ∷ (1, true) ∷ (2, false) ∷ (3, false) ∷ (119, false) ∷ (4294967295, false) ∷ []

-- An allocation: a heap, an owner, a size, an alignment; the offset, the rows afterwards, the peak (before it is 5, or what is live), the granules granted, the arena.
pub data Granted : Type 0 where
  granted : (h : Heap) (owner size alignment offset : ℕ) (rows : List Segment) (peak granules : ℕ) (arena : List ℕ) → Granted

-- Allocations that are not refused.
abbrev pub grants : List Granted
grants =
    -- The guard is the last granule by the size, and only its sixteen bytes are written.
    granted (empty 1 2 9) 1 1 16 0 (row 0 2 1 1 ∷ hole 2 6 ∷ []) 5 2 (was 0 16 ++ (guard ++ was 32 96))
    ∷ granted (empty 1 2 9) 1 15 16 0 (row 0 2 1 15 ∷ hole 2 6 ∷ []) 5 2 (was 0 16 ++ (guard ++ was 32 96))
    ∷ granted (empty 1 2 9) 1 16 16 0 (row 0 2 1 16 ∷ hole 2 6 ∷ []) 5 2 (was 0 16 ++ (guard ++ was 32 96))
    ∷ granted (empty 1 2 9) 1 17 16 0 (row 0 3 1 17 ∷ hole 3 5 ∷ []) 5 3 (was 0 32 ++ (guard ++ was 48 80))
    ∷ granted (empty 1 2 9) 1 32 16 0 (row 0 3 1 32 ∷ hole 3 5 ∷ []) 5 3 (was 0 32 ++ (guard ++ was 48 80))
    ∷ granted (empty 1 2 9) 1 40 16 0 (row 0 4 1 40 ∷ hole 4 4 ∷ []) 5 4 (was 0 48 ++ (guard ++ was 64 64))
    -- Without guards nothing is written.
    ∷ granted (empty 0 2 9) 1 1 16 0 (row 0 1 1 1 ∷ hole 1 7 ∷ []) 5 1 (was 0 128)
    ∷ granted (empty 0 2 9) 1 17 16 0 (row 0 2 1 17 ∷ hole 2 6 ∷ []) 5 2 (was 0 128)
    ∷ granted (empty 0 2 9) 1 40 16 0 (row 0 3 1 40 ∷ hole 3 5 ∷ []) 5 3 (was 0 128)
    -- The arena is filled exactly, and the quota too; the guard is its last granule.
    ∷ granted (empty 1 1 8) 1 112 16 0 (row 0 8 1 112 ∷ []) 8 8 (was 0 112 ++ guard)
    ∷ granted (empty 1 1 8) 1 97 16 0 (row 0 8 1 97 ∷ []) 8 8 (was 0 112 ++ guard)
    ∷ granted (empty 1 2 7) 1 96 16 0 (row 0 7 1 96 ∷ hole 7 1 ∷ []) 7 7 (was 0 96 ++ (guard ++ was 112 16))
    ∷ granted (empty 0 1 8) 1 128 16 0 (row 0 8 1 128 ∷ []) 8 8 (was 0 128)
    -- The run at 2 has just the two granules; the other guards stay.
    ∷ granted (gaps 4 4 9) 1 16 16 32 (row 0 2 1 16 ∷ row 2 2 1 16 ∷ row 4 2 2 1 ∷ hole 6 2 ∷ []) 6 2 (was 0 16 ++ (guard ++ (was 32 16 ++ (guard ++ (was 64 16 ++ (guard ++ was 96 32))))))
    ∷ granted (plain_gaps 4 4 9) 1 32 16 32 (row 0 2 1 32 ∷ row 2 2 1 32 ∷ row 4 2 2 32 ∷ hole 6 2 ∷ []) 6 2 (was 0 128)
    -- With a rest, and a row for it; without a rest, and no row for it.
    ∷ granted (pair 4 9 9) 1 16 16 80 (row 0 3 1 20 ∷ row 3 2 2 16 ∷ row 5 2 1 16 ∷ hole 7 1 ∷ []) 7 2 (was 0 32 ++ (guard ++ (was 48 16 ++ (guard ++ (was 80 16 ++ (guard ++ was 112 16))))))
    ∷ granted (pair 3 6 9) 1 32 16 80 (row 0 3 1 20 ∷ row 3 2 2 16 ∷ row 5 3 1 32 ∷ []) 8 3 (was 0 32 ++ (guard ++ (was 48 16 ++ (guard ++ (was 80 32 ++ guard)))))
    -- On a boundary: the start is on it, and the guard follows the size; the gap keeps its bytes.
    ∷ granted (pair 4 9 9) 2 1 32 96 (row 0 3 1 20 ∷ row 3 2 2 16 ∷ hole 5 1 ∷ row 6 2 2 1 ∷ []) 7 2 (was 0 32 ++ (guard ++ (was 48 16 ++ (guard ++ (was 80 32 ++ guard)))))
    ∷ granted (based 16 (empty 1 3 9)) 1 17 32 16 (hole 0 1 ∷ row 1 3 1 17 ∷ hole 4 4 ∷ []) 5 3 (was 0 48 ++ (guard ++ was 64 64))
    -- Guards of others that are broken are not looked at, and stay.
    ∷ granted (hit 32 0 (pair 3 6 9)) 1 32 16 80 (row 0 3 1 20 ∷ row 3 2 2 16 ∷ row 5 3 1 32 ∷ []) 8 3 (was 0 32 ++ ((0 ∷ replicate 15 119) ++ (was 48 16 ++ (guard ++ (was 80 32 ++ guard)))))
    -- A live block counts by its size.
    ∷ granted (roomy 3 5) 1 16 16 64 (row 0 4 1 20 ∷ row 4 2 1 16 ∷ hole 6 2 ∷ []) 6 2 (was 0 32 ++ (guard ++ (was 48 32 ++ (guard ++ was 96 32))))
    -- Without guards an arena of any length is lent, and stays.
    ∷ granted (lent [] (empty 0 2 9)) 1 17 16 0 (row 0 2 1 17 ∷ hole 2 6 ∷ []) 5 2 []
    ∷ granted (lent (was 0 127) (empty 0 2 9)) 1 17 16 0 (row 0 2 1 17 ∷ hole 2 6 ∷ []) 5 2 (was 0 127)
    ∷ granted (lent (was 0 144) (empty 0 2 9)) 1 17 16 0 (row 0 2 1 17 ∷ hole 2 6 ∷ []) 5 2 (was 0 144)
    ∷ []

-- An allocation that is refused: a heap, whether it is valid, an owner, a size, an alignment, the number.
pub data Denied : Type 0 where
  denied : (h : Heap) (is_valid : Bool) (owner size alignment number : ℕ) → Denied

-- Allocations that are refused.
abbrev pub denials : List Denied
denials =
    -- 1, then 11, then 2, 3 and 4. An arena one byte, or one granule, too short or too long, or of no byte.
    denied (lent [] (empty 1 2 9)) false 0 0 8 1
    ∷ denied (empty 1 2 9) false 1 16 16 1
    ∷ denied (lent [] (empty 1 2 9)) true 0 0 8 11
    ∷ denied (lent [] (empty 1 2 9)) true 1 16 16 11
    ∷ denied (lent (was 0 127) (empty 1 2 9)) true 9 16 16 11
    ∷ denied (lent (was 0 127) (empty 1 2 9)) true 1 16 16 11
    ∷ denied (lent (was 0 129) (empty 1 2 9)) true 1 16 16 11
    ∷ denied (lent (was 0 112) (empty 1 2 9)) true 1 16 16 11
    ∷ denied (lent (was 0 144) (empty 1 2 9)) true 1 0 16 11
    ∷ denied (lent (was 0 144) (empty 1 2 9)) true 1 16 8 11
    ∷ denied (lent (was 0 144) (empty 1 2 1)) true 1 16 16 11
    ∷ denied (empty 1 2 9) true 0 0 8 2
    ∷ denied (empty 1 2 9) true 9 16 16 2
    ∷ denied (empty 1 2 9) true 1 0 8 3
    ∷ denied (empty 1 2 9) true 1 16 8 4
    -- Without guards there is no 11.
    ∷ denied (lent [] (empty 0 2 9)) false 0 0 8 1
    ∷ denied (lent [] (empty 0 2 9)) true 0 0 8 2
    ∷ denied (lent (was 0 127) (empty 0 2 9)) true 1 0 8 3
    ∷ denied (lent (was 0 144) (empty 0 2 9)) true 1 16 8 4
    ∷ denied (lent [] (empty 0 2 9)) true 1 129 16 7
    -- 6: the guard counts, in what is asked and in what is live.
    ∷ denied (empty 1 1 7) true 1 112 16 6
    ∷ denied (empty 1 2 7) true 1 97 16 6
    ∷ denied (empty 1 2 1) true 1 1 16 6
    ∷ denied (gaps 4 3 9) true 1 16 16 6
    ∷ denied (gaps 4 3 9) true 1 1 16 6
    ∷ denied (pair 3 5 9) true 1 32 16 6
    ∷ denied (roomy 3 4) true 1 16 16 6
    ∷ denied (empty 0 1 7) true 1 113 16 6
    ∷ denied (plain_gaps 4 3 9) true 1 17 16 6
    ∷ denied (empty 1 2 9) true 1 4294967295 16 6
    -- 7 by one granule, the guard's.
    ∷ denied (empty 1 1 9) true 1 113 16 7
    ∷ denied (empty 1 1 9) true 1 128 16 7
    ∷ denied (gaps 4 9 9) true 1 17 16 7
    ∷ denied (gaps 4 9 9) true 1 32 16 7
    ∷ denied (pair 4 9 9) true 1 33 16 7
    ∷ denied (pair 4 9 9) true 1 17 32 7
    -- 8: the rest, or the gap, wants a row.
    ∷ denied (pair 3 9 9) true 1 16 16 8
    ∷ denied (pair 3 9 9) true 1 1 32 8
    ∷ denied (empty 1 1 9) true 1 96 16 8
    ∷ denied (empty 0 1 9) true 1 112 16 8
    ∷ []

-- A free: a heap, an owner, an offset; the bytes given back, the rows afterwards, the granules returned, the arena.
pub data Returned : Type 0 where
  returned : (h : Heap) (owner offset bytes : ℕ) (rows : List Segment) (granules : ℕ) (arena : List ℕ) → Returned

-- Frees that are not refused.
abbrev pub returns : List Returned
returns =
    -- The guard's bytes are zeroed with the others, and given back.
    returned (pair 3 9 9) 1 0 48 (hole 0 3 ∷ row 3 2 2 16 ∷ hole 5 3 ∷ []) 3 (zeros 48 ++ (was 48 16 ++ (guard ++ was 80 48)))
    ∷ returned (pair 3 9 9) 2 48 32 (row 0 3 1 20 ∷ hole 3 5 ∷ []) 2 (was 0 32 ++ (guard ++ (zeros 32 ++ was 80 48)))
    ∷ returned (full 8) 1 0 128 (hole 0 8 ∷ []) 8 (zeros 128)
    -- The byte before a guard and the byte after it may be any: a written one, zero, a guard's.
    ∷ returned (hit 31 0 (pair 3 9 9)) 1 0 48 (hole 0 3 ∷ row 3 2 2 16 ∷ hole 5 3 ∷ []) 3 (zeros 48 ++ (was 48 16 ++ (guard ++ was 80 48)))
    ∷ returned (hit 31 119 (pair 3 9 9)) 1 0 48 (hole 0 3 ∷ row 3 2 2 16 ∷ hole 5 3 ∷ []) 3 (zeros 48 ++ (was 48 16 ++ (guard ++ was 80 48)))
    ∷ returned (hit 48 0 (pair 3 9 9)) 1 0 48 (hole 0 3 ∷ row 3 2 2 16 ∷ hole 5 3 ∷ []) 3 (zeros 48 ++ ((0 ∷ was 49 15) ++ (guard ++ was 80 48)))
    ∷ returned (hit 48 119 (pair 3 9 9)) 1 0 48 (hole 0 3 ∷ row 3 2 2 16 ∷ hole 5 3 ∷ []) 3 (zeros 48 ++ ((119 ∷ was 49 15) ++ (guard ++ was 80 48)))
    ∷ returned (hit 63 0 (pair 3 9 9)) 2 48 32 (row 0 3 1 20 ∷ hole 3 5 ∷ []) 2 (was 0 32 ++ (guard ++ (zeros 32 ++ was 80 48)))
    ∷ returned (hit 80 0 (pair 3 9 9)) 2 48 32 (row 0 3 1 20 ∷ hole 3 5 ∷ []) 2 (was 0 32 ++ (guard ++ (zeros 32 ++ (0 ∷ was 81 47))))
    -- The guard of another block is not looked at, and stays broken.
    ∷ returned (hit 64 0 (pair 3 9 9)) 1 0 48 (hole 0 3 ∷ row 3 2 2 16 ∷ hole 5 3 ∷ []) 3 (zeros 48 ++ (was 48 16 ++ ((0 ∷ replicate 15 119) ++ was 80 48)))
    ∷ returned (hit 47 0 (pair 3 9 9)) 2 48 32 (row 0 3 1 20 ∷ hole 3 5 ∷ []) 2 (was 0 32 ++ ((replicate 15 119 ++ (0 ∷ [])) ++ (zeros 32 ++ was 80 48)))
    -- By the size, not by the block's end.
    ∷ returned (roomy 2 9) 1 0 64 (hole 0 8 ∷ []) 4 (zeros 64 ++ was 64 64)
    -- Without guards no byte matters.
    ∷ returned (plain_pair 3 9 9) 1 0 48 (hole 0 3 ∷ row 3 2 2 32 ∷ hole 5 3 ∷ []) 3 (zeros 48 ++ was 48 80)
    ∷ []

-- A free that is refused: a heap, whether it is valid, an owner, an offset, the number.
pub data Kept : Type 0 where
  kept : (h : Heap) (is_valid : Bool) (owner offset number : ℕ) → Kept

-- Frees that are refused.
abbrev pub refusals : List Kept
refusals =
    -- 19 for each byte of a guard: zero, one less, one more.
    map (λ (i : ℕ). kept (hit i 0 (pair 3 9 9)) true 1 0 19) (from 32 16)
    ++ (map (λ (i : ℕ). kept (hit i 118 (pair 3 9 9)) true 2 48 19) (from 64 16)
    ++ (map (λ (i : ℕ). kept (hit i 120 (full 8)) true 1 0 19) (from 112 16)
    -- By the size, not by the block's end.
    ++ (map (λ (i : ℕ). kept (hit i 0 (roomy 2 9)) true 1 0 19) (from 32 16)
    ++ (
    -- No guard at all, and a guard one granule early or late.
    kept (lent (was 0 128) (pair 3 9 9)) true 1 0 19
    ∷ kept (lent (zeros 128) (pair 3 9 9)) true 2 48 19
    ∷ kept (lent (was 0 16 ++ (guard ++ was 32 96)) (pair 3 9 9)) true 1 0 19
    ∷ kept (lent (was 0 48 ++ (guard ++ was 64 64)) (pair 3 9 9)) true 1 0 19
    ∷ kept (lent (was 0 33 ++ (guard ++ was 49 79)) (pair 3 9 9)) true 1 0 19
    ∷ kept (lent (was 0 31 ++ (guard ++ was 47 81)) (pair 3 9 9)) true 1 0 19
    ∷ kept (lent (was 0 48 ++ (guard ++ was 64 64)) (roomy 2 9)) true 1 0 19
    -- The whole order before it, the guard broken: 1, 11, 2, 15, 16, 17, 9, 10.
    ∷ kept (lent [] (pair 3 9 9)) false 0 129 1
    ∷ kept (lent [] (pair 3 9 9)) true 0 129 11
    ∷ kept (lent (zeros 127) (pair 3 9 9)) true 1 0 11
    ∷ kept (lent (zeros 144) (pair 3 9 9)) true 1 0 11
    ∷ kept (lent (zeros 128) (pair 3 9 9)) true 0 0 2
    ∷ kept (lent (zeros 128) (pair 3 9 9)) true 9 0 2
    ∷ kept (lent (zeros 128) (pair 3 9 9)) true 1 128 15
    ∷ kept (lent (zeros 128) (pair 3 9 9)) true 1 129 15
    ∷ kept (lent (zeros 128) (pair 3 9 9)) true 1 8 16
    ∷ kept (lent (zeros 128) (pair 3 9 9)) true 1 80 17
    -- The guard's granule is inside its block.
    ∷ kept (lent (zeros 128) (pair 3 9 9)) true 1 32 9
    ∷ kept (pair 3 9 9) true 1 32 9
    ∷ kept (pair 3 9 9) true 2 64 9
    ∷ kept (lent (zeros 128) (pair 3 9 9)) true 2 0 10
    ∷ kept (hit 32 0 (pair 3 9 9)) true 2 0 10
    ∷ kept (lent (zeros 128) (pair 3 9 9)) true 1 48 10
    ∷ []))))

-- A resize: a heap, an owner, an offset, a size; the value, the rows afterwards, the peak (before it is 5, or what is live), the granules granted and returned, the arena.
pub data Resized : Type 0 where
  resized : (h : Heap) (owner offset size value : ℕ) (rows : List Segment) (peak granted returned : ℕ) (arena : List ℕ) → Resized

-- Resizes that are not refused.
abbrev pub resizes : List Resized
resizes =
    -- The same count: the guard stands where it stood.
    resized (pair 3 3 9) 1 0 32 0 (row 0 3 1 32 ∷ row 3 2 2 16 ∷ hole 5 3 ∷ []) 5 3 3 (was 0 32 ++ (guard ++ (was 48 16 ++ (guard ++ was 80 48))))
    ∷ resized (pair 3 3 9) 1 0 17 0 (row 0 3 1 17 ∷ row 3 2 2 16 ∷ hole 5 3 ∷ []) 5 3 3 (was 0 32 ++ (guard ++ (was 48 16 ++ (guard ++ was 80 48))))
    ∷ resized (full 8) 1 0 97 0 (row 0 8 1 97 ∷ []) 8 8 8 (was 0 112 ++ guard)
    -- Shorter: the new guard over what was requested, the old guard zeroed with the tail.
    ∷ resized (pair 4 2 9) 1 0 16 0 (row 0 2 1 16 ∷ hole 2 1 ∷ row 3 2 2 16 ∷ hole 5 3 ∷ []) 5 2 3 (was 0 16 ++ (guard ++ (zeros 16 ++ (was 48 16 ++ (guard ++ was 80 48)))))
    ∷ resized (heap 1 0 2 8 9 (row 0 8 1 112 ∷ []) (was 0 112 ++ guard)) 1 0 33 0 (row 0 4 1 33 ∷ hole 4 4 ∷ []) 8 4 8 (was 0 48 ++ (guard ++ zeros 64))
    ∷ resized (heap 1 0 2 8 9 (row 0 8 1 112 ∷ []) (was 0 112 ++ guard)) 1 0 96 0 (row 0 7 1 96 ∷ hole 7 1 ∷ []) 8 7 8 (was 0 96 ++ (guard ++ zeros 16))
    -- Longer in place: the old guard's granule is zero, what was free keeps its bytes, the last granule is the guard. The quota is used up exactly.
    ∷ resized (pair 3 3 3) 2 48 17 48 (row 0 3 1 20 ∷ row 3 3 2 17 ∷ hole 6 2 ∷ []) 6 3 2 (was 0 32 ++ (guard ++ (was 48 16 ++ (zeros 16 ++ (guard ++ was 96 32)))))
    ∷ resized (pair 3 3 4) 2 48 40 48 (row 0 3 1 20 ∷ row 3 4 2 40 ∷ hole 7 1 ∷ []) 7 4 2 (was 0 32 ++ (guard ++ (was 48 16 ++ (zeros 16 ++ (was 80 16 ++ (guard ++ was 112 16))))))
    ∷ resized (pair 2 3 5) 2 48 64 48 (row 0 3 1 20 ∷ row 3 5 2 64 ∷ []) 8 5 2 (was 0 32 ++ (guard ++ (was 48 16 ++ (zeros 16 ++ (was 80 32 ++ guard)))))
    -- Longer in place up to the next block, whose bytes stay.
    ∷ resized (gaps 3 4 9) 1 0 48 0 (row 0 4 1 48 ∷ row 4 2 2 1 ∷ hole 6 2 ∷ []) 6 4 2 (was 0 16 ++ (zeros 16 ++ (was 32 16 ++ (guard ++ (was 64 16 ++ (guard ++ was 96 32))))))
    -- Moved: all its granules go along, the old guard as zeros; what was free keeps its bytes but for the guard; the old place is zeroed.
    ∷ resized (left 4 3 9) 1 0 17 64 (hole 0 2 ∷ row 2 2 2 16 ∷ row 4 3 1 17 ∷ hole 7 1 ∷ []) 5 3 2 (zeros 32 ++ (was 32 16 ++ (guard ++ (was 0 16 ++ (zeros 16 ++ (guard ++ was 112 16))))))
    ∷ resized (left 3 4 9) 1 0 40 64 (hole 0 2 ∷ row 2 2 2 16 ∷ row 4 4 1 40 ∷ []) 6 4 2 (zeros 32 ++ (was 32 16 ++ (guard ++ (was 0 16 ++ (zeros 16 ++ (was 96 16 ++ guard))))))
    -- Moved to the left.
    ∷ resized (right 3 4 9) 1 64 33 0 (row 0 4 1 33 ∷ hole 4 2 ∷ row 6 2 2 16 ∷ []) 6 4 2 (was 64 16 ++ (zeros 16 ++ (was 32 16 ++ (guard ++ (zeros 32 ++ (was 96 16 ++ guard))))))
    ∷ resized (right 4 3 9) 1 64 17 0 (row 0 3 1 17 ∷ hole 3 3 ∷ row 6 2 2 16 ∷ []) 5 3 2 (was 64 16 ++ (zeros 16 ++ (guard ++ (was 48 16 ++ (zeros 32 ++ (was 96 16 ++ guard))))))
    -- Size 0 is a return: the guard is zeroed, and none is filled.
    ∷ resized (pair 3 9 9) 1 0 0 48 (hole 0 3 ∷ row 3 2 2 16 ∷ hole 5 3 ∷ []) 5 0 3 (zeros 48 ++ (was 48 16 ++ (guard ++ was 80 48)))
    -- The old guard is where the size puts it: here it is not in the tail, and is zeroed none the less.
    ∷ resized (roomy 2 9) 1 0 48 0 (row 0 4 1 48 ∷ hole 4 4 ∷ []) 5 4 4 (was 0 32 ++ (zeros 16 ++ (guard ++ was 64 64)))
    ∷ resized (roomy 2 9) 1 0 64 0 (row 0 5 1 64 ∷ hole 5 3 ∷ []) 5 5 4 (was 0 32 ++ (zeros 16 ++ (was 48 16 ++ (guard ++ was 80 48))))
    -- The guard of another block is not looked at, and stays broken.
    ∷ resized (hit 32 0 (pair 3 3 3)) 2 48 17 48 (row 0 3 1 20 ∷ row 3 3 2 17 ∷ hole 6 2 ∷ []) 6 3 2 (was 0 32 ++ ((0 ∷ replicate 15 119) ++ (was 48 16 ++ (zeros 16 ++ (guard ++ was 96 32)))))
    -- Without guards: as before.
    ∷ resized (plain_pair 3 3 9) 1 0 33 0 (row 0 3 1 33 ∷ row 3 2 2 32 ∷ hole 5 3 ∷ []) 5 3 3 (was 0 128)
    ∷ resized (plain_pair 4 9 9) 1 0 32 0 (row 0 2 1 32 ∷ hole 2 1 ∷ row 3 2 2 32 ∷ hole 5 3 ∷ []) 5 2 3 (was 0 32 ++ (zeros 16 ++ was 48 80))
    ∷ resized (plain_pair 3 9 9) 2 48 33 48 (row 0 3 1 48 ∷ row 3 3 2 33 ∷ hole 6 2 ∷ []) 6 3 2 (was 0 128)
    ∷ resized (plain_gaps 4 9 9) 1 0 64 0 (row 0 4 1 64 ∷ row 4 2 2 32 ∷ hole 6 2 ∷ []) 6 4 2 (was 0 128)
    ∷ []

-- A resize that is refused: a heap, whether it is valid, an owner, an offset, a size, the number.
pub data Stayed : Type 0 where
  stayed : (h : Heap) (is_valid : Bool) (owner offset size number : ℕ) → Stayed

-- Resizes that are refused.
abbrev pub stays : List Stayed
stays =
    -- 19 for each byte of a guard: longer, and a return.
    map (λ (i : ℕ). stayed (hit i 118 (left 4 9 9)) true 1 0 17 19) (from 16 16)
    ++ (map (λ (i : ℕ). stayed (hit i 120 (left 4 9 9)) true 1 0 0 19) (from 16 16)
    ++ (
    -- 19, at the guard's first byte and its last: the same count, shorter, longer in place, moved, a return.
    stayed (hit 32 0 (pair 4 9 9)) true 1 0 32 19
    ∷ stayed (hit 47 120 (pair 4 9 9)) true 1 0 20 19
    ∷ stayed (hit 47 118 (pair 4 9 9)) true 1 0 16 19
    ∷ stayed (hit 64 0 (pair 4 9 9)) true 2 48 17 19
    ∷ stayed (hit 79 0 (pair 4 9 9)) true 2 48 64 19
    ∷ stayed (hit 16 0 (left 4 9 9)) true 1 0 17 19
    ∷ stayed (hit 31 0 (left 4 9 9)) true 1 0 40 19
    -- 19 before 6, 7 and 8; with the guard whole, these.
    ∷ stayed (hit 40 0 (pair 4 3 9)) true 1 0 33 19
    ∷ stayed (pair 4 3 9) true 1 0 33 6
    ∷ stayed (hit 40 0 (pair 4 9 9)) true 1 0 33 19
    ∷ stayed (pair 4 9 9) true 1 0 33 7
    ∷ stayed (hit 40 0 (pair 3 9 9)) true 1 0 16 19
    ∷ stayed (pair 3 9 9) true 1 0 16 8
    ∷ stayed (hit 40 0 (pair 4 9 9)) true 1 0 4294967295 19
    ∷ stayed (pair 4 9 9) true 1 0 4294967295 6
    -- 1, 11, 2, 15, 16, 17, 9 and 10 before 19, also for size 0.
    ∷ stayed (lent [] (pair 4 9 9)) false 0 129 33 1
    ∷ stayed (lent [] (pair 4 9 9)) true 0 129 33 11
    ∷ stayed (lent (zeros 112) (pair 4 9 9)) true 1 0 0 11
    ∷ stayed (lent (zeros 128) (pair 4 9 9)) true 9 0 0 2
    ∷ stayed (lent (zeros 128) (pair 4 9 9)) true 1 128 0 15
    ∷ stayed (lent (zeros 128) (pair 4 9 9)) true 1 8 33 16
    ∷ stayed (lent (zeros 128) (pair 4 9 9)) true 1 80 0 17
    ∷ stayed (lent (zeros 128) (pair 4 9 9)) true 1 32 33 9
    ∷ stayed (lent (zeros 128) (pair 4 9 9)) true 2 0 0 10
    ∷ stayed (lent (zeros 128) (pair 4 9 9)) true 2 0 33 10
    -- 6 by the guard: one granule more than the quota has, in place and where it would move.
    ∷ stayed (pair 3 3 2) true 2 48 17 6
    ∷ stayed (pair 3 3 3) true 2 48 40 6
    ∷ stayed (left 4 2 9) true 1 0 17 6
    ∷ stayed (left 4 3 9) true 1 0 40 6
    ∷ stayed (left 4 4 9) true 1 0 49 6
    -- 7 by one granule, the guard's: in place up to the end or the next block, and where it would move.
    ∷ stayed (pair 4 9 9) true 2 48 65 7
    ∷ stayed (gaps 4 9 9) true 1 0 49 7
    ∷ stayed (left 4 9 9) true 1 0 49 7
    ∷ stayed (right 4 9 9) true 1 64 49 7
    ∷ stayed (full 9) true 1 0 113 7
    -- 8: no row for the rest.
    ∷ stayed (full 9) true 1 0 96 8
    ∷ stayed (left 3 9 9) true 1 0 17 8
    ∷ stayed (right 3 9 9) true 2 96 17 8
    ∷ []))

-- Sizes of blocks: a heap, an owner, an offset; the number, the bytes requested and held.
pub data Sized : Type 0 where
  sized : (h : Heap) (owner offset number requested bytes : ℕ) → Sized

-- Enquiries.
abbrev pub enquiries : List Sized
enquiries =
    sized (pair 3 9 9) 1 0 0 20 48
    ∷ sized (pair 3 9 9) 2 48 0 16 32
    ∷ sized (gaps 4 9 9) 2 64 0 1 32
    ∷ sized (plain_pair 3 9 9) 1 0 0 48 48
    -- No 19: it is lent no arena.
    ∷ sized (hit 32 0 (pair 3 9 9)) 1 0 0 20 48
    ∷ sized (lent (zeros 128) (pair 3 9 9)) 2 48 0 16 32
    ∷ sized (pair 3 9 9) 2 0 10 0 0
    ∷ sized (pair 3 9 9) 1 32 9 0 0
    ∷ sized (pair 3 9 9) 1 80 17 0 0
    ∷ []

-- Proper allocations and others: a heap, an owner, a size, an alignment; the number, 0 for none.
pub data Proper : Type 0 where
  proper : (h : Heap) (owner size alignment number : ℕ) → Proper

-- Both sides of each part of it.
abbrev pub propers : List Proper
propers =
    proper (empty 1 1 0) 1 16 16 0
    ∷ proper (lent (was 0 127) (empty 1 1 0)) 1 16 16 11
    ∷ proper (lent (was 0 144) (empty 1 1 0)) 1 16 16 11
    ∷ proper (lent [] (empty 1 1 0)) 0 0 8 11
    ∷ proper (empty 1 1 0) 0 0 8 2
    ∷ proper (empty 1 1 0) 1 0 8 3
    ∷ proper (empty 1 1 0) 1 16 8 4
    -- Without guards the arena does not matter.
    ∷ proper (empty 0 1 0) 1 16 16 0
    ∷ proper (lent [] (empty 0 1 0)) 1 16 16 0
    ∷ proper (lent (was 0 127) (empty 0 1 0)) 1 16 16 0
    ∷ proper (lent (was 0 144) (empty 0 1 0)) 9 16 16 2
    ∷ []

-- The totals, which count guards as used: a heap; used, free, peak and the longest free run.
abbrev pub sums : List (Heap × List ℕ)
sums =
    (pair 3 9 9, 80 ∷ 48 ∷ 80 ∷ 48 ∷ [])
    ∷ (gaps 4 9 9, 64 ∷ 64 ∷ 80 ∷ 32 ∷ [])
    ∷ (full 8, 128 ∷ 0 ∷ 128 ∷ 0 ∷ [])
    ∷ (empty 1 1 9, 0 ∷ 128 ∷ 80 ∷ 128 ∷ [])
    ∷ []

-- What an owner holds, its guards included: a heap, an owner; its blocks and their bytes.
abbrev pub shares : List (Heap × ℕ × List ℕ)
shares =
    (pair 3 9 9, 1, 1 ∷ 48 ∷ [])
    ∷ (pair 3 9 9, 2, 1 ∷ 32 ∷ [])
    ∷ (heap 1 0 3 9 9 (row 0 2 1 1 ∷ row 2 3 1 32 ∷ []) (was 0 128), 1, 2 ∷ 80 ∷ [])
    ∷ (pair 3 9 9, 3, 0 ∷ 0 ∷ [])
    ∷ []

-- Document 01's heap of P14 and P15, with guards or without.
abbrev wide : ℕ → Config
wide g = record { granules = 4096; base = 0; guards = g; capacity = 129; granule_quotas = replicate 8 128; block_quotas = replicate 8 8 }

-- 16 granules, a block quota of 2 in total, and a granule quota: with guards or without.
abbrev narrow : ℕ → ℕ → Config
narrow g q = record { granules = 16; base = 0; guards = g; capacity = 5; granule_quotas = q ∷ replicate 7 0; block_quotas = 1 ∷ 1 ∷ replicate 6 0 }

-- The rows wanted are the same with guards: 5 for two blocks, 129 for 64.
abbrev pub wanted : List (Config × Bool)
wanted = (narrow 0 8, true) ∷ (narrow 1 8, true) ∷ (wide 0, true) ∷ (wide 1, true) ∷ (config (empty 1 8 9), false) ∷ (config (empty 1 9 9), true) ∷ []

-- Demand 3's condition: what a heap is made with, a size, a boundary in granules, and whether it holds.
abbrev pub conditions : List (Config × ℕ × ℕ × Bool)
conditions =
    (wide 0, 784, 1, true)
    ∷ (wide 0, 785, 1, false)
    ∷ (wide 1, 768, 1, true)
    ∷ (wide 1, 769, 1, false)
    -- By one granule: g is 2 with guards for 16 bytes, and without for 17.
    ∷ (narrow 1 15, 16, 1, true)
    ∷ (narrow 1 16, 16, 1, false)
    ∷ (narrow 0 15, 17, 1, true)
    ∷ (narrow 0 16, 17, 1, false)
    ∷ (narrow 0 16, 16, 1, true)
    ∷ (narrow 0 17, 16, 1, false)
    ∷ (narrow 1 13, 16, 2, true)
    ∷ (narrow 1 14, 16, 2, false)
    ∷ (narrow 1 14, 17, 1, true)
    ∷ (narrow 1 15, 17, 1, false)
    ∷ []

-- A call in a run, with its number and value; or a byte that a task writes.
pub data Step : Type 0 where
  ask : (owner size alignment number value : ℕ) → Step
  back : (owner offset number value : ℕ) → Step
  again : (owner offset size number value : ℕ) → Step
  write : (byte value : ℕ) → Step

-- A run from a making: whether with guards, the steps, the rows and the peak afterwards, the arena.
pub data Run : Type 0 where
  run : (guarded : Bool) (steps : List Step) (rows : List Segment) (peak : ℕ) (arena : List ℕ) → Run

-- The runs.
abbrev pub runs : List Run
runs =
    -- Nothing is filled at making.
    run true [] (hole 0 8 ∷ []) 0 (zeros 128)
    ∷ run true (ask 1 16 16 0 0 ∷ []) (row 0 2 1 16 ∷ hole 2 6 ∷ []) 2 (zeros 16 ++ (guard ++ zeros 96))
    -- A byte past the end is told until it is as it was; then the block moves, and what was its guard is payload.
    ∷ run true
    (ask 1 16 16 0 0
    ∷ ask 2 17 16 0 32
    ∷ write 5 200
    ∷ write 16 1
    ∷ back 1 0 19 0
    ∷ again 1 0 16 19 0
    ∷ again 1 0 40 19 0
    ∷ again 1 0 0 19 0
    ∷ write 16 119
    ∷ again 1 0 33 7 0
    ∷ again 1 0 17 0 80
    ∷ back 1 0 17 0
    ∷ ask 2 16 16 0 0
    ∷ ask 2 1 16 5 0
    ∷ back 2 32 0 48
    ∷ again 2 0 60 0 0
    ∷ [])
    (row 0 5 2 60 ∷ row 5 3 1 17 ∷ []) 8
    (zeros 64 ++ (guard ++ (zeros 5 ++ ((200 ∷ zeros 10) ++ (zeros 16 ++ guard)))))
    -- Without guards nobody tells.
    ∷ run false
    (ask 1 16 16 0 0
    ∷ ask 2 17 16 0 16
    ∷ write 16 1
    ∷ back 1 0 0 16
    ∷ again 2 16 40 0 16
    ∷ [])
    (hole 0 1 ∷ row 1 3 2 40 ∷ hole 4 4 ∷ []) 3
    (zeros 16 ++ ((1 ∷ zeros 15) ++ zeros 96))
    ∷ []

-- A call's number and values, the rows and the peak afterwards, the granules granted and returned, the arena.
pub record Outcome : Type 0 where
  pub numbered : Numbered
  pub rows : List Segment
  pub peak : ℕ
  pub granted : ℕ
  pub returned : ℕ
  pub arena : List ℕ

-- All as it was, and a number.
abbrev refused : Heap → ℕ → Outcome
refused h number =
    record { numbered = (number, 0 ∷ []); rows = map_of (config h) (state h).blocks; peak = (state h).peak; granted = 0; returned = 0; arena = arena_of h }

-- An allocation.
abbrev allocated : Heap → Bool → ℕ → ℕ → ℕ → Outcome
allocated h v o n a =
    let c : Config = config h in
    let s : State = state h in
    let bytes : List ℕ = arena_of h in
    record {
      numbered = value_numbered (alloc v c s bytes o n a);
      rows = map_of c (after_alloc v c s bytes o n a).blocks;
      peak = (after_alloc v c s bytes o n a).peak;
      granted = granted_alloc v c s bytes o n a;
      returned = 0;
      arena = arena_after_alloc v c s bytes o n a;
    }

-- A free.
abbrev freed : Heap → Bool → ℕ → ℕ → Outcome
freed h v o x =
    let c : Config = config h in
    let s : State = state h in
    let bytes : List ℕ = arena_of h in
    record {
      numbered = value_numbered (free v c s bytes o x);
      rows = map_of c (after_free v c s bytes o x).blocks;
      peak = (after_free v c s bytes o x).peak;
      granted = 0;
      returned = returned_free v c s bytes o x;
      arena = arena_after_free v c s bytes o x;
    }

-- A resize.
abbrev reallocated : Heap → Bool → ℕ → ℕ → ℕ → Outcome
reallocated h v o x n =
    let c : Config = config h in
    let s : State = state h in
    let bytes : List ℕ = arena_of h in
    record {
      numbered = resized_numbered (realloc v c s bytes o x n);
      rows = map_of c (after_realloc v c s bytes o x n).blocks;
      peak = (after_realloc v c s bytes o x n).peak;
      granted = granted_realloc v c s bytes o x n;
      returned = returned_realloc v c s bytes o x n;
      arena = arena_after_realloc v c s bytes o x n;
    }

-- What an allocation comes to, and what it is to come to.
abbrev grant : Granted → Outcome × Outcome
grant (granted h o n a x rows p g arena) =
    (allocated h true o n a, record { numbered = (0, x ∷ []); rows = rows; peak = p; granted = g; returned = 0; arena = arena })

-- The same of an allocation that is refused,
abbrev denial : Denied → Outcome × Outcome
denial (denied h v o n a number) = (allocated h v o n a, refused h number)

-- of a free,
abbrev return : Returned → Outcome × Outcome
return (returned h o x k rows g arena) =
    (freed h true o x, record { numbered = (0, k ∷ []); rows = rows; peak = (state h).peak; granted = 0; returned = g; arena = arena })

-- of one that is refused,
abbrev refusal : Kept → Outcome × Outcome
refusal (kept h v o x number) = (freed h v o x, refused h number)

-- of a resize,
abbrev resize : Resized → Outcome × Outcome
resize (resized h o x n y rows p g r arena) =
    (reallocated h true o x n, record { numbered = (0, y ∷ []); rows = rows; peak = p; granted = g; returned = r; arena = arena })

-- and of one that is refused.
abbrev stay : Stayed → Outcome × Outcome
stay (stayed h v o x n number) = (reallocated h v o x n, refused h number)

-- All calls of the tables.
abbrev pub calls : List (Outcome × Outcome)
calls = map grant grants ++ (map denial denials ++ (map return returns ++ (map refusal refusals ++ (map resize resizes ++ map stay stays))))

-- A heap in a run: its state and its arena.
pub record Moment : Type 0 where
  pub state : State
  pub arena : List ℕ

-- What a run is made with.
abbrev plan : Bool → Plan
plan g = record { base = 0; guarded = g; granule_quotas = 9 ∷ 9 ∷ replicate 6 0; block_quotas = 2 ∷ 2 ∷ replicate 6 0 }

-- The answers and the last moment of a run.
abbrev walk : Config → Moment → List Step → List Numbered × Moment
walk c m [] = ([], m)
walk c m (ask o n a number v ∷ ks) =
    let s : State = m.state in
    let rest : List Numbered × Moment = walk c (record { state = after_alloc true c s m.arena o n a; arena = arena_after_alloc true c s m.arena o n a }) ks in
    (value_numbered (alloc true c s m.arena o n a) ∷ rest.0, rest.1)
walk c m (back o x number v ∷ ks) =
    let s : State = m.state in
    let rest : List Numbered × Moment = walk c (record { state = after_free true c s m.arena o x; arena = arena_after_free true c s m.arena o x }) ks in
    (value_numbered (free true c s m.arena o x) ∷ rest.0, rest.1)
walk c m (again o x n number v ∷ ks) =
    let s : State = m.state in
    let rest : List Numbered × Moment = walk c (record { state = after_realloc true c s m.arena o x n; arena = arena_after_realloc true c s m.arena o x n }) ks in
    (resized_numbered (realloc true c s m.arena o x n) ∷ rest.0, rest.1)
walk c m (write i v ∷ ks) = walk c (record { state = m.state; arena = with i v m.arena }) ks

-- The answers that the table gives.
abbrev told : List Step → List Numbered
told [] = []
told (ask o n a number v ∷ ks) = (number, v ∷ []) ∷ told ks
told (back o x number v ∷ ks) = (number, v ∷ []) ∷ told ks
told (again o x n number v ∷ ks) = (number, v ∷ []) ∷ told ks
told (write i v ∷ ks) = told ks

-- A run comes to its answers, rows, peak and arena.
abbrev ran : Run → (Numbered × List Numbered × List Segment × ℕ × List ℕ) × (Numbered × List Numbered × List Segment × ℕ × List ℕ)
ran (run g steps rows p arena) =
    let c : Config = init_config (was 0 128) (was 0 32) (plan g) in
    let end : List Numbered × Moment = walk c (record { state = record { blocks = []; peak = 0 }; arena = arena_after_init (was 0 128) (was 0 32) (plan g) }) steps in (
      (made_numbered (init (was 0 128) (was 0 32) (plan g)), end.0, map_of c end.1.state.blocks, end.1.state.peak, end.1.arena),
      ((0, []), told steps, rows, p, arena),
    )

-- What a size enquiry comes to.
abbrev size : Sized → Numbered × Numbered
size (sized h o x number n k) = (size_numbered (block_size true (config h) (state h) o x), (number, n ∷ k ∷ []))

-- What is made of a proper allocation's order.
abbrev asked : Proper → ℕ × ℕ
asked (proper h o n a number) = (option_map_or number_of (first_reason (proper_order (config h) (arena_of h) o n a)) 0, number)

-- What the totals come to.
abbrev summed : Heap × List ℕ → Numbered × Numbered
summed k = (totals_numbered (totals_of true (config k.0) (state k.0)), (0, k.1))

-- What an owner holds.
abbrev shared : Heap × ℕ × List ℕ → Numbered × Numbered
shared k = (holding_numbered (holding_of true (config k.0) (state k.0) k.1), (0, k.2))

-- The first of two.
abbrev first {ℓ} : {A : Type ℓ} → A × A → A
first p = p.0

-- The second of two.
abbrev second {ℓ} : {A : Type ℓ} → A × A → A
second p = p.1

-- Each comes to what it is to come to.
pub each :
    (map (λ (k : ℕ × ℕ × ℕ). needed (wide k.0) k.1) sizes ≡ map (λ (k : ℕ × ℕ × ℕ). k.2) sizes)
    × (map (λ (k : ℕ × Bool). in_range (wide k.0)) kinds ≡ map (λ (k : ℕ × Bool). k.1) kinds)
    × (map (λ (k : Config × Bool). rows_suffice k.0) wanted ≡ map (λ (k : Config × Bool). k.1) wanted)
    × (map (λ (k : Config × ℕ × ℕ × Bool). bound k.0 (needed k.0 k.1) k.2) conditions ≡ map (λ (k : Config × ℕ × ℕ × Bool). k.3) conditions)
    × (map first calls ≡ map second calls)
    × (map first (map asked propers) ≡ map second (map asked propers))
    × (map first (map size enquiries) ≡ map second (map size enquiries))
    × (map first (map summed sums) ≡ map second (map summed sums))
    × (map first (map shared shares) ≡ map second (map shared shares))
    × (map first (map ran runs) ≡ map second (map ran runs))
unfolding alloc_order free_order realloc_order block_size_order init_order totals_order holding_order
each = (refl, refl, refl, refl, refl, refl, refl, refl, refl, refl)
