-- Both sides of each edge of document 02's second request, on four small heaps: two tables that compute.
-- Assumes nothing.
use Rattle.std.specs.Prelude.{Ok}
use mathlib.Core.Path.{◌≡◌, refl}
use mathlib.Core.Bool.{Bool, true, false}
use mathlib.Core.List.{List, [], ◌∷◌, ◌++◌, map}
use Prim.Native.Nat.{ℕ, zero, suc, ◌*◌}
use lib.ListN.{replicate}
use Rattle.model.specs.Quantities.{Config}
use Rattle.model.specs.Allocation.{State}
use Rattle.model.specs.SegmentMap.{map_of}
use Rattle.model.specs.Orders.{free_order, realloc_order}
use Rattle.model.specs.Rules.{resized_to, realloc, after_realloc, granted_realloc, returned_realloc, arena_after_realloc}
use Rattle.model.specs.Numbers.{Numbered, resized_numbered}
use Rattle.model.specs.declared.Segment.{Segment}
use Rattle.model.specs.declared.Resized.TheVariants as resized

-- A row: start, length, owner, bytes requested.
abbrev row : ℕ → ℕ → ℕ → ℕ → Segment
row s l o n = record { start = s; length = l; owner = o; requested = n }

-- A free row.
abbrev hole : ℕ → ℕ → Segment
hole s l = row s l 0 0

-- The k bytes that stood from x on before the call: byte i of an arena is i + 1, so that no two are alike and none is zero.
abbrev was : ℕ → ℕ → List ℕ
was x zero = []
was x (suc k) = suc x ∷ was (suc x) k

-- k zeros.
abbrev zeros : ℕ → List ℕ
zeros k = replicate k 0

-- A heap without guards: its granules, its table's rows, the granule quota of owner 1 (owner 2 has 5, the others 0), the block quotas of owners 1 and 2, its live blocks and its peak.
pub data Heap : Type 0 where
  heap : (granules rows quota : ℕ) (block_quotas : List ℕ) (blocks : List Segment) (peak : ℕ) → Heap

abbrev config : Heap → Config
config (heap g t q ks bs p) = record { granules = g; base = 0; guards = 0; capacity = t; granule_quotas = q ∷ 5 ∷ replicate 6 0; block_quotas = ks ++ replicate 6 0 }

abbrev state : Heap → State
state (heap g t q ks bs p) = record { blocks = bs; peak = p }

-- 12 granules: two of owner 1, two free, two of owner 2, one of owner 1, five free. Here and below the block quotas are used up: 5 does not apply to a resize.
abbrev long : ℕ → ℕ → Heap
long t q = heap 12 t q (2 ∷ 1 ∷ []) (row 0 2 1 20 ∷ row 4 2 2 32 ∷ row 6 1 1 16 ∷ []) 6

-- 8 granules: one of owner 1, one of owner 2, one free, two of owner 1, three free.
abbrev odd : ℕ → ℕ → Heap
odd t q = heap 8 t q (2 ∷ 1 ∷ []) (row 0 1 1 10 ∷ row 1 1 2 16 ∷ row 3 2 1 32 ∷ []) 4

-- 8 granules: three free, two of owner 1, three of owner 2 up to the end.
abbrev late : ℕ → ℕ → Heap
late t q = heap 8 t q (1 ∷ 1 ∷ []) (row 3 2 1 32 ∷ row 5 3 2 40 ∷ []) 5

-- 4 granules, all of them one block of owner 1, and one row.
abbrev full : Heap
full = heap 4 1 9 (1 ∷ 0 ∷ []) (row 0 4 1 64 ∷ []) 4

-- What a resize comes to: its number and value by its answer, its value by `resized_to`, the rows afterwards, the peak, the granules granted and returned, the arena.
pub record Outcome : Type 0 where
  pub numbered : Numbered
  pub value : ℕ
  pub rows : List Segment
  pub peak : ℕ
  pub granted : ℕ
  pub returned : ℕ
  pub arena : List ℕ

-- A resize that is not refused: a heap, an owner, an offset, a size; and its value, the rows afterwards, the peak, the granules granted and returned, the arena.
pub data Done : Type 0 where
  done : (h : Heap) (owner offset size : ℕ) (value : ℕ) (rows : List Segment) (peak granted returned : ℕ) (arena : List ℕ) → Done

-- The table of those that are not refused.
abbrev pub resizes : List Done
resizes =
    -- The same count: only the bytes requested change, to the most and to the least, also where the quota is used up.
    done (long 5 9) 1 0 32 0 (row 0 2 1 32 ∷ hole 2 2 ∷ row 4 2 2 32 ∷ row 6 1 1 16 ∷ hole 7 5 ∷ []) 6 2 2 (was 0 192)
    ∷ done (long 5 3) 1 0 17 0 (row 0 2 1 17 ∷ hole 2 2 ∷ row 4 2 2 32 ∷ row 6 1 1 16 ∷ hole 7 5 ∷ []) 6 2 2 (was 0 192)
    -- The same count where the block is the arena.
    ∷ done full 1 0 49 0 (row 0 4 1 49 ∷ []) 4 4 4 (was 0 64)
    -- Shorter before a free run: the tail joins it, and no row is wanted.
    ∷ done (long 5 3) 1 0 16 0 (row 0 1 1 16 ∷ hole 1 3 ∷ row 4 2 2 32 ∷ row 6 1 1 16 ∷ hole 7 5 ∷ []) 6 1 2 (was 0 16 ++ (zeros 16 ++ was 32 160))
    -- Shorter before a live block: the tail wants a row, and there is one.
    ∷ done (long 6 9) 2 64 16 64 (row 0 2 1 20 ∷ hole 2 2 ∷ row 4 1 2 16 ∷ hole 5 1 ∷ row 6 1 1 16 ∷ hole 7 5 ∷ []) 6 1 2 (was 0 80 ++ (zeros 16 ++ was 96 96))
    -- Shorter at the arena's end, by two granules.
    ∷ done (late 4 9) 2 80 1 80 (hole 0 3 ∷ row 3 2 1 32 ∷ row 5 1 2 1 ∷ hole 6 2 ∷ []) 5 1 3 (was 0 96 ++ zeros 32)
    -- Longer into a part of the run at the right: no byte changes.
    ∷ done (long 5 9) 1 0 33 0 (row 0 3 1 33 ∷ hole 3 1 ∷ row 4 2 2 32 ∷ row 6 1 1 16 ∷ hole 7 5 ∷ []) 6 3 2 (was 0 192)
    -- Longer into the whole run, and the quota used up: the old length is not counted beside the new.
    ∷ done (long 5 5) 1 0 64 0 (row 0 4 1 64 ∷ row 4 2 2 32 ∷ row 6 1 1 16 ∷ hole 7 5 ∷ []) 7 4 2 (was 0 192)
    -- Longer up to the arena's end.
    ∷ done (long 5 9) 1 96 96 96 (row 0 2 1 20 ∷ hole 2 2 ∷ row 4 2 2 32 ∷ row 6 6 1 96 ∷ []) 10 6 1 (was 0 192)
    -- Longer at a start that is no multiple of 32.
    ∷ done (odd 5 9) 1 48 48 48 (row 0 1 1 10 ∷ row 1 1 2 16 ∷ hole 2 1 ∷ row 3 3 1 48 ∷ hole 6 2 ∷ []) 5 3 2 (was 0 128)
    -- Longer by one granule more than the run has: it moves. All 32 bytes of its granules go along, not only the 20 requested.
    ∷ done (long 5 9) 1 0 65 112 (hole 0 4 ∷ row 4 2 2 32 ∷ row 6 1 1 16 ∷ row 7 5 1 65 ∷ []) 8 5 2 (zeros 32 ++ (was 32 80 ++ (was 0 32 ++ was 144 48)))
    -- Longer before a live block: it moves to 7; without the block itself 2 would serve. Both places together would want six rows, and raise the peak.
    ∷ done (long 5 9) 2 64 48 112 (row 0 2 1 20 ∷ hole 2 4 ∷ row 6 1 1 16 ∷ row 7 3 2 48 ∷ hole 10 2 ∷ []) 6 3 2 (was 0 64 ++ (zeros 32 ++ (was 96 16 ++ (was 64 32 ++ was 144 48))))
    -- One granule longer still: the peak rises to what is live afterwards.
    ∷ done (long 5 9) 2 64 64 112 (row 0 2 1 20 ∷ hole 2 4 ∷ row 6 1 1 16 ∷ row 7 4 2 64 ∷ hole 11 1 ∷ []) 7 4 2 (was 0 64 ++ (zeros 32 ++ (was 96 16 ++ (was 64 32 ++ was 144 48))))
    -- It moves to 5, past a run that is too short; on a boundary of 32 it would be 6. The rows and the quota are used up.
    ∷ done (odd 6 4) 1 0 17 80 (hole 0 1 ∷ row 1 1 2 16 ∷ hole 2 1 ∷ row 3 2 1 32 ∷ row 5 2 1 17 ∷ hole 7 1 ∷ []) 5 2 1 (zeros 16 ++ (was 16 64 ++ (was 0 16 ++ was 96 32)))
    -- It moves to the left, up to its old start.
    ∷ done (late 3 9) 1 48 33 0 (row 0 3 1 33 ∷ hole 3 2 ∷ row 5 3 2 40 ∷ []) 6 3 2 (was 48 32 ++ (was 32 16 ++ (zeros 32 ++ was 80 48)))
    -- Size 0 is a return: it answers the bytes given back.
    ∷ done (long 5 9) 2 64 0 32 (row 0 2 1 20 ∷ hole 2 4 ∷ row 6 1 1 16 ∷ hole 7 5 ∷ []) 6 0 2 (was 0 64 ++ (zeros 32 ++ was 96 96))
    ∷ []

-- What each comes to.
abbrev pub done_outcome : Done → Outcome
done_outcome (done h o x n v rows p g r arena) =
    let c : Config = config h in
    let bytes : List ℕ = was 0 (16 * c.granules) in
    record {
      numbered = resized_numbered (realloc true c (state h) bytes o x n);
      value = resized_to c (state h) o x n;
      rows = map_of c (after_realloc true c (state h) bytes o x n).blocks;
      peak = (after_realloc true c (state h) bytes o x n).peak;
      granted = granted_realloc true c (state h) bytes o x n;
      returned = returned_realloc true c (state h) bytes o x n;
      arena = arena_after_realloc true c (state h) bytes o x n;
    }

-- What it is to come to.
abbrev pub done_expected : Done → Outcome
done_expected (done h o x n v rows p g r arena) = record { numbered = (0, v ∷ []); value = v; rows = rows; peak = p; granted = g; returned = r; arena = arena }

-- Each does.
pub each_done : map done_outcome resizes ≡ map done_expected resizes
unfolding realloc_order free_order
each_done = refl

-- A resize that is refused: a heap, whether it is valid, the bytes that are lent, an owner, an offset, a size, and the number.
pub data Refused : Type 0 where
  refused : (h : Heap) (is_valid : Bool) (bytes owner offset size : ℕ) (number : ℕ) → Refused

-- The table of those that are refused.
abbrev pub refusals : List Refused
refusals =
    -- The whole order, most lines with a later reason applying too; size 0 has it up to 10.
    refused (long 5 9) false 0 0 193 33 1
    ∷ refused (long 5 9) false 0 0 193 0 1
    ∷ refused (long 5 9) true 191 0 193 33 11
    ∷ refused (long 5 9) true 208 0 193 0 11
    ∷ refused (long 5 9) true 192 0 193 33 2
    ∷ refused (long 5 9) true 192 9 193 0 2
    ∷ refused (long 5 9) true 192 1 193 33 15
    ∷ refused (long 5 9) true 192 1 192 0 15
    ∷ refused (long 5 9) true 192 1 191 33 16
    ∷ refused (long 5 9) true 192 2 1 0 16
    ∷ refused (long 5 9) true 192 1 32 4294967295 17
    ∷ refused (long 5 9) true 192 1 112 0 17
    ∷ refused (long 5 9) true 192 2 16 4294967295 9
    ∷ refused (long 5 9) true 192 1 80 0 9
    ∷ refused (long 5 9) true 192 2 0 4294967295 10
    ∷ refused (long 5 9) true 192 3 64 0 10
    ∷ refused (long 5 9) true 192 1 0 4294967295 6
    -- 6: one granule more than the quota has beside the other block, in place and where it would move.
    ∷ refused (long 5 3) true 192 1 0 33 6
    ∷ refused (long 5 5) true 192 1 0 65 6
    -- 6 before 7: six granules stand nowhere, and are one too many.
    ∷ refused (long 5 6) true 192 1 0 81 6
    -- 7: the quota has them.
    ∷ refused (long 5 7) true 192 1 0 81 7
    -- 7: one granule past the arena's end, and no run for them.
    ∷ refused (long 5 9) true 192 1 96 97 7
    ∷ refused (late 4 9) true 128 2 80 49 7
    ∷ refused full true 64 1 0 65 7
    -- 7: without the block itself, 0 would serve.
    ∷ refused (late 4 9) true 128 1 48 49 7
    -- 8 in a move: six rows afterwards.
    ∷ refused (odd 5 4) true 128 1 0 17 8
    -- 6 before 8.
    ∷ refused (odd 5 3) true 128 1 0 17 6
    -- 8 in a shorter block: the tail wants a row, and there is none.
    ∷ refused (long 5 9) true 192 2 64 16 8
    ∷ refused (late 3 9) true 128 2 80 1 8
    ∷ refused full true 64 1 0 48 8
    ∷ []

-- Its number and value, and what it leaves.
abbrev pub refused_outcome : Refused → Numbered × State × List ℕ × ℕ × ℕ
refused_outcome (refused h v k o x n number) = (
  resized_numbered (realloc v (config h) (state h) (was 0 k) o x n),
  after_realloc v (config h) (state h) (was 0 k) o x n,
  arena_after_realloc v (config h) (state h) (was 0 k) o x n,
  granted_realloc v (config h) (state h) (was 0 k) o x n,
  returned_realloc v (config h) (state h) (was 0 k) o x n,
)

-- It is told its number and a zero, leaves all as it was, and is granted and returns nothing.
abbrev pub refused_expected : Refused → Numbered × State × List ℕ × ℕ × ℕ
refused_expected (refused h v k o x n number) = ((number, 0 ∷ []), state h, was 0 k, 0, 0)

-- Each does.
pub each_refused : map refused_outcome refusals ≡ map refused_expected refusals
unfolding realloc_order free_order
each_refused = refl

-- A return is answered as one, and a resize to another size is not.
pub kinds : (realloc true (config (long 5 9)) (state (long 5 9)) (was 0 192) 2 64 0 ≡ Ok (resized.Freed 32))
    × (realloc true (config (long 5 9)) (state (long 5 9)) (was 0 192) 2 64 32 ≡ Ok (resized.At 64))
unfolding realloc_order free_order
kinds = (refl, refl)
