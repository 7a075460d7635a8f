-- A valid table: the bounds of its rows, and what a call that changes its live blocks leaves.
-- Assumes nothing.
use mathlib.Core.Path.{◌≡◌, ap, ◌∙◌}
use mathlib.Core.List.{List}
use mathlib.Core.Bool.{true}
use Prim.Native.Nat.{ℕ, ◌+◌, ◌*◌, ◌%◌, ◌≤◌, ◌<◌, max}
use native.Mathlib.Omega.{arith}
use lib.ListN.{length}
use Rattle.model.specs.Allocation.{granules_of, changed}
use Rattle.model.specs.SegmentMap.{map_of, rows_of}
use Rattle.model.proofs.Ranges.{base_whole, few_guards, few_granules, few_rows}
use Rattle.segments.specs.Rows.{nth_row, segments_in, table_of, Rewritten}
use Rattle.segments.proofs.Rows.{length_segments}
use Rattle.segments.proofs.Reading.{row_end}
use Rattle.segments.proofs.Rewriting.{rewritten_table}
use Rattle.segments.proofs.Parted.{map_granules}
use Rattle.heap.specs.Stored.{handed, store, config_of, state_in}
use Rattle.heap.specs.Valid.{valid}
use Rattle.heap.specs.Steps.{updated_of}
use Rattle.heap.proofs.Conditions.{Conditions, valid_conditions}
use Rattle.heap.proofs.ValidStored.{valid_map, table_rows_are}
use Rattle.model.specs.declared.Segment.{Segment}
use Rattle.heap.specs.declared.record.Heap.{Heap}

-- A record is updated if its peak is the larger of what it was and what is used.
pub updated_is : (r : Heap) (rows used peak : ℕ) → peak ≡ max r.peak used
    → record { capacity = r.capacity; rows = rows; granules = r.granules; base = r.base; guards = r.guards; used = used; peak = peak; granule_quotas = r.granule_quotas; block_quotas = r.block_quotas }
    ≡ updated_of r rows used
updated_is r rows used peak e =
    λ i. record { capacity = r.capacity; rows = rows; granules = r.granules; base = r.base; guards = r.guards; used = used; peak = e i; granule_quotas = r.granule_quotas; block_quotas = r.block_quotas }

module _ (r : Heap) (ws : List ℕ) (v : valid r ws ≡ true) where
  all : Conditions r ws
  all = valid_conditions r ws v

  -- What the functions of the table ask for, and what keeps sums within a word.
  pub record Bounds : Type 0 where
    pub words : length ws ≡ 4 * r.capacity
    pub rows_least : 1 ≤ r.rows
    pub rows_most : r.rows ≤ r.capacity
    pub capacity : r.capacity ≤ 512
    pub granules : r.granules ≤ 65536
    pub base : r.base % 16 ≡ 0
    pub guards : r.guards ≤ 1
    pub used : r.used ≤ r.peak
    pub peak : r.peak ≤ r.granules
    pub whole : granules_of (segments_in r.rows ws) ≤ 65536
    pub row : (i : ℕ) → i < r.rows → (nth_row (segments_in r.rows ws) i).start + (nth_row (segments_in r.rows ws) i).length ≤ r.granules

  pub bounds : Bounds
  bounds =
      record {
        words = all.words;
        rows_least = all.rows_least;
        rows_most = all.rows_most;
        capacity = few_rows (config_of r) all.range;
        granules = few_granules (config_of r) all.range;
        base = base_whole (config_of r) all.range;
        guards = few_guards (config_of r) all.range;
        used = all.peak_least;
        peak = all.peak_most;
        whole = omega (arith, map_granules (config_of r) (segments_in r.rows ws) (valid_map r ws v), few_granules (config_of r) all.range);
        row = λ i h. row_end r.granules (segments_in r.rows ws) i all.tiled (omega (arith, h, length_segments r.rows ws));
      }

  -- The rows of other live blocks put into the table, and the record updated with what they hold, are the state with those blocks, stored.
  pub stored_changed : (bs xs : List Segment) (m used : ℕ) (after : List ℕ) → xs ≡ map_of (config_of r) bs → used ≡ granules_of bs
      → Rewritten r.rows ws xs m after
      → handed (updated_of r m used) after ≡ store (config_of r) (changed (state_in r ws) bs)
  stored_changed bs xs m used after e u w =
      let rows : m ≡ rows_of (config_of r) bs = w.rows ∙ ap length e in
      let words : after ≡ table_of r.capacity (map_of (config_of r) bs) =
      rewritten_table r.capacity r.rows m ws after xs all.rows_most (table_rows_are r ws v) w ∙ ap (table_of r.capacity) e in
      λ i. record {
        heap = record {
          capacity = r.capacity;
          rows = rows i;
          granules = r.granules;
          base = r.base;
          guards = r.guards;
          used = u i;
          peak = max r.peak (u i);
          granule_quotas = r.granule_quotas;
          block_quotas = r.block_quotas;
        };
        words = words i;
      }
