-- What the functions within the crate do, step by step: a caller needs none of it.
-- Assumes nothing.
use Rattle.std.specs.Prelude.{ℕ, ◌+◌, ◌-◌, ◌%◌, max, Bool, true, false, not, if◌then◌else◌, ◌&&◌, List, length, replicate, ◌==◌, nat_le, nat_lt, slice_index, slice_set}
use Rattle.model.specs.Quantities.{Config}
use Rattle.model.specs.SegmentMap.{is_free, free_run}
use Rattle.segments.specs.Rows.{nth_row}
use Rattle.segments.specs.Tiling.{well_formed}
use Rattle.model.specs.declared.Segment.{Segment}
use Rattle.segments.specs.declared.census.Census.{Census}

-- From s it is so many granules to the next multiple of m, none if s is one.
abbrev pub padding : ℕ → ℕ → ℕ
padding m s = (m - s % m) % m

-- The count before the first row.
abbrev pub none_counted : Census
none_counted = record { end = 0; after_free = false; used = 0; longest = 0; blocks = replicate 8 0; held = replicate 8 0 }

-- A row may follow those counted: it begins where they end, is at least 1 long, ends in the arena, is well formed, and is not the second free one of two that touch.
unfoldable pub follows_of : Config → Census → Segment → Bool
follows_of c k x =
    x.start == k.end
    && nat_le 1 x.length
    && nat_le x.length (c.granules - k.end)
    && well_formed c x
    && not (k.after_free && is_free x)

-- The count with a free row of so many granules.
abbrev pub free_of : Census → ℕ → Census
free_of k n =
    record {
      end = k.end + n;
      after_free = true;
      used = k.used;
      longest = max k.longest n;
      blocks = k.blocks;
      held = k.held;
    }

-- The count with a live block of owner o of so many granules.
abbrev pub live_of : Census → ℕ → ℕ → Census
live_of k o n =
    record {
      end = k.end + n;
      after_free = false;
      used = k.used + n;
      longest = k.longest;
      blocks = slice_set k.blocks (o - 1) (slice_index k.blocks (o - 1) + 1);
      held = slice_set k.held (o - 1) (slice_index k.held (o - 1) + n);
    }

-- The free run that row i leaves when it is released begins at the row before it if that is free, else at row i.
abbrev pub run_from : List Segment → ℕ → ℕ
run_from xs i = if nat_lt 0 i && is_free (nth_row xs (i - 1)) then (nth_row xs (i - 1)).start else (nth_row xs i).start

-- It ends with the row after it if there is one and that is free, else with row i.
abbrev pub run_to : List Segment → ℕ → ℕ
run_to xs i =
    if nat_lt (i + 1) (length xs) && is_free (nth_row xs (i + 1))
    then (nth_row xs (i + 1)).start + (nth_row xs (i + 1)).length
    else (nth_row xs i).start + (nth_row xs i).length

-- It is one free row.
abbrev pub run_around : List Segment → ℕ → Segment
run_around xs i = free_run (run_from xs i) (run_to xs i - run_from xs i)
