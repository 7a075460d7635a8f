-- What the functions within the crate decide and leave, step by step: a caller needs none of it.
-- Assumes nothing.
use Rattle.std.specs.Prelude.{ℕ, ◌-◌, ◌*◌, ◌/◌, ◌<◌, max, ◌≡◌, Bool, true, false, not, ◌&&◌, List, [], ◌∷◌, leb, ltb, eqb, length, get_or, drop, None, Some, Result, Ok, Err}
use Rattle.std.specs.List.{list_all}
use Rattle.model.specs.Quantities.{within, owners, in_range, quota}
use Rattle.model.specs.Allocation.{needed, lowest_start, block, block_at, refit}
use Rattle.model.specs.SegmentMap.{is_free}
use Rattle.model.specs.Reasons.{not_aligned}
use Rattle.model.specs.Orders.{Order, first_reason}
use Rattle.segments.specs.Rows.{segments_in, nth_row, blocks_in}
use Rattle.segments.specs.Search.{Room}
use Rattle.segments.specs.Counting.{Figures}
use Rattle.heap.specs.Stored.{config_of}
use Rattle.heap.specs.Valid.{valid}
use Rattle.model.specs.declared.Segment.{Segment}
use Rattle.model.specs.declared.Refusal.{Refusal}
use Rattle.model.specs.declared.Refusal.TheVariants as refusal
use Rattle.segments.specs.declared.census.Census.{Census}
use Rattle.heap.specs.declared.record.Heap.{Heap}
use Rattle.segments.specs.declared.searching.Place.{Place}
use Rattle.heap.specs.declared.finding.LiveRow.{LiveRow}
use Rattle.heap.specs.declared.resizing.Refitted.{Refitted}

-- The conditions of a valid heap that can be told without a look at a row: the ranges, the table's length, and that the rows in use are 1 to its rows.
abbrev pub framed : Heap → List ℕ → Bool
framed r ws =
    in_range (config_of r) && eqb (length ws) (4 * r.capacity) && within 1 r.capacity r.rows

-- Each owner's figure is within its quota.
abbrev pub keeps_all : List ℕ → List ℕ → Bool
keeps_all figures quotas = list_all (λ (o : ℕ). leb (get_or figures (o - 1) 0) (quota quotas o)) owners

-- The conditions that are left when the rows in use are a map, told by the figures counted in them.
abbrev pub agrees_with : Heap → List ℕ → Census → Bool
agrees_with r ws k =
    list_all (eqb 0) (drop (4 * r.rows) ws)
    && eqb r.used k.used
    && within r.used r.granules r.peak
    && keeps_all k.blocks r.block_quotas
    && keeps_all k.held r.granule_quotas

-- The record and the table are valid, and the figures are those of the live blocks and free runs.
pub record Examination (r : Heap) (ws : List ℕ) (k : Census) : Type 0 where
  pub valid : valid r ws ≡ true
  pub figures : Figures (config_of r) (segments_in r.rows ws) k

-- What a check of a record and a table tells: the figures of a valid heap, or 1 if they are no valid heap.
abbrev pub Examined : Heap → List ℕ → Result Census Refusal → Type 0
Examined r ws (Ok k) = Examination r ws k
Examined r ws (Err why) = (valid r ws ≡ false) × (why ≡ refusal.InvalidHeap)

-- A place for a block: the start is the lowest, and the row is free and has room from there on.
pub record Lowest (r : Heap) (ws : List ℕ) (n a row start : ℕ) : Type 0 where
  pub lowest : lowest_start (config_of r) (blocks_in r.rows ws) (needed (config_of r) n) a ≡ Some start
  pub room : Room (segments_in r.rows ws) (needed (config_of r) n) row start

-- What is decided by an order of an allocation of n bytes on a boundary of a bytes: why it is refused, or its place.
abbrev pub Decided : Order Refusal → Heap → List ℕ → ℕ → ℕ → Result Place Refusal → Type 0
Decided order r ws n a (Err why) = first_reason order ≡ Some why
Decided order r ws n a (Ok at) = (first_reason order ≡ None) × Lowest r ws n a at.row at.start

-- What is asked of owner o's offset x, given the arena's length in bytes and, if x is in the arena, the segment that has its granule: 15, 16, 17, 9, 10.
abbrev pub segment_order : Segment → ℕ → ℕ → ℕ → Order Refusal
segment_order s bytes o x =
    (leb bytes x, refusal.PastEnd)
    ∷ not_aligned x
    ∷ (is_free s, refusal.FreeMemory)
    ∷ (ltb s.start (x / 16), refusal.InsideBlock)
    ∷ (not (eqb s.owner o), refusal.OtherOwner)
    ∷ []

-- What was found is the block at x, and its row is one in use.
pub record IsBlock (r : Heap) (ws : List ℕ) (x : ℕ) (found : LiveRow) : Type 0 where
  pub in_use : found.row < r.rows
  pub there : found.block ≡ nth_row (segments_in r.rows ws) found.row
  pub block : block_at x (blocks_in r.rows ws) ≡ Some found.block

-- What is decided of a call on the block at x by an order: why it is refused, or the block.
abbrev pub LookedUp : Order Refusal → Heap → List ℕ → ℕ → Result LiveRow Refusal → Type 0
LookedUp order r ws x (Err why) = first_reason order ≡ Some why
LookedUp order r ws x (Ok found) = (first_reason order ≡ None) × IsBlock r ws x found

-- Where the block at x is with n bytes requested by owner o: the old one is the block at x, and the start is the resized block's.
pub record IsRefitted (r : Heap) (ws : List ℕ) (o x n : ℕ) (to : Refitted) : Type 0 where
  pub old : IsBlock r ws x to.old
  pub new : refit (config_of r) (blocks_in r.rows ws) o x n ≡ Some (block (config_of r) o n to.start)

-- What is decided by an order of a resize of the block at x to n bytes, not 0: why it is refused, or that block and the start of the resized one.
abbrev pub ResizeDecided : Order Refusal → Heap → List ℕ → ℕ → ℕ → ℕ → Result Refitted Refusal → Type 0
ResizeDecided order r ws o x n (Err why) = first_reason order ≡ Some why
ResizeDecided order r ws o x n (Ok to) = (first_reason order ≡ None) × IsRefitted r ws o x n to

-- The record with other rows in use and other granules used: the peak is raised to those if they are more.
abbrev pub updated_of : Heap → ℕ → ℕ → Heap
updated_of r rows used =
    record {
      capacity = r.capacity;
      rows = rows;
      granules = r.granules;
      base = r.base;
      guards = r.guards;
      used = used;
      peak = max r.peak used;
      granule_quotas = r.granule_quotas;
      block_quotas = r.block_quotas;
    }
