-- What each call answers and leaves, of a set of live blocks; a call to which a reason applies answers the first, and leaves all as it was.
-- Assumes nothing.
use Rattle.std.specs.Prelude.{ℕ, ◌*◌, ◌/◌, Bool, if◌then◌else◌, List, length, replicate, Result, Ok, Err}
use Rattle.std.specs.Option.{option_map_or}
use Rattle.model.specs.Quantities.{Config}
use Rattle.model.specs.Allocation.{State, fit, put, offset, block_at, without, resize, bytes, owned_by, granules_of, free_granules, changed}
use Rattle.model.specs.Arena.{zeroed, moved, with_guard, without_guard}
use Rattle.model.specs.SegmentMap.{longest_free}
use Rattle.model.specs.Orders.{unless, alloc_order, free_order, realloc_order, init_order, block_size_order, totals_order, holding_order}
use Rattle.model.specs.declared.Plan.{Plan}
use Rattle.model.specs.declared.Resized.{Resized}
use Rattle.model.specs.declared.Resized.TheVariants as resized
use Rattle.model.specs.declared.BlockSize.{BlockSize}
use Rattle.model.specs.declared.Totals.{Totals}
use Rattle.model.specs.declared.Holding.{Holding}
use Rattle.model.specs.declared.Refusal.{Refusal}
use Rattle.model.specs.declared.InitRefusal.{InitRefusal}

-- Making is handed an arena, a table's words and a plan.
module _ (arena words : List ℕ) (p : Plan) where
  -- It answers that it is done, or why not.
  abbrev pub init : Result (Unit {0}) InitRefusal
  init = unless (init_order arena words p) (Ok tt) Err

  -- The heap is made with the arena's granules, the plan's base, guards if the plan says so, the table's rows and the plan's quotas.
  abbrev pub init_config : Config
  init_config =
      record {
        granules = length arena / 16;
        base = p.base;
        guards = if p.guarded then 1 else 0;
        capacity = length words / 4;
        granule_quotas = p.granule_quotas;
        block_quotas = p.block_quotas;
      }

  -- It zeroes the arena, unless it is refused.
  abbrev pub arena_after_init : List ℕ
  arena_after_init = unless (init_order arena words p) (replicate (length arena) 0) (λ r. arena)

-- Placing adds the block of an allocation to the live blocks.
abbrev pub placing : Config → State → ℕ → ℕ → ℕ → State
placing c h o n a = changed h (put (fit c h.blocks o n a) h.blocks)

-- Releasing takes the block at x out of the live blocks.
abbrev pub releasing : State → ℕ → State
releasing h x = changed h (without x h.blocks)

-- Resizing takes the block at x out of the live blocks and adds the one that is left; the peak counts what is live then.
abbrev pub resizing : Config → State → ℕ → ℕ → ℕ → State
resizing c h o x n = changed h (put (resize c h.blocks o x n) (without x h.blocks))

-- The block of an allocation begins at so many bytes, 0 if there is none.
abbrev pub offset_for : Config → State → ℕ → ℕ → ℕ → ℕ
offset_for c h o n a = option_map_or offset (fit c h.blocks o n a) 0

-- The block at x holds so many bytes, 0 if there is none.
abbrev pub bytes_at : State → ℕ → ℕ
bytes_at h x = option_map_or bytes (block_at x h.blocks) 0

-- The arena with the guard of the block at x zeroed; as it is if there is none.
abbrev pub without_guard_at : Config → State → ℕ → List ℕ → List ℕ
without_guard_at c h x arena = option_map_or (λ b. without_guard c b arena) (block_at x h.blocks) arena

-- A free's answer, as a resize's.
abbrev pub as_resize : Result ℕ Refusal → Result Resized Refusal
as_resize (Ok k) = Ok (resized.Freed k)
as_resize (Err why) = Err why

-- The value that a resize answers is the byte offset of the block that is left; if none is, the bytes that the block at x holds.
abbrev pub resized_to : Config → State → ℕ → ℕ → ℕ → ℕ
resized_to c h o x n = option_map_or offset (resize c h.blocks o x n) (bytes_at h x)

-- The block at x was requested with so many bytes, 0 if there is none.
abbrev pub requested_at : State → ℕ → ℕ
requested_at h x = option_map_or (λ b. b.requested) (block_at x h.blocks) 0

-- Used is so many bytes.
abbrev pub used_bytes : State → ℕ
used_bytes h = 16 * granules_of h.blocks

-- Free is so many bytes.
abbrev pub free_bytes : Config → State → ℕ
free_bytes c h = 16 * free_granules c h.blocks

-- Peak is so many bytes.
abbrev pub peak_bytes : State → ℕ
peak_bytes h = 16 * h.peak

-- The longest free run is so many bytes.
abbrev pub longest_bytes : Config → State → ℕ
longest_bytes c h = 16 * longest_free c h.blocks

-- An owner has so many live blocks.
abbrev pub owned_blocks : State → ℕ → ℕ
owned_blocks h o = length (owned_by o h.blocks)

-- They hold so many bytes.
abbrev pub owned_bytes : State → ℕ → ℕ
owned_bytes h o = 16 * granules_of (owned_by o h.blocks)

-- Every other call is told whether the record and the table are a valid heap, what that was made with, and its state.
module _ (is_valid : Bool) (c : Config) (h : State) where
  -- An allocation of n bytes on a boundary of a bytes answers the byte offset of its block.
  abbrev pub alloc : List ℕ → ℕ → ℕ → ℕ → Result ℕ Refusal
  alloc arena o n a = unless (alloc_order is_valid c h arena o n a) (Ok (offset_for c h o n a)) Err

  -- Its block is live then, unless it is refused.
  abbrev pub after_alloc : List ℕ → ℕ → ℕ → ℕ → State
  after_alloc arena o n a = unless (alloc_order is_valid c h arena o n a) (placing c h o n a) (λ r. h)

  -- It is granted the granules of its block; refused, none.
  abbrev pub granted_alloc : List ℕ → ℕ → ℕ → ℕ → ℕ
  granted_alloc arena o n a = unless (alloc_order is_valid c h arena o n a) (option_map_or (λ b. b.length) (fit c h.blocks o n a) 0) (λ r. 0)

  -- Its block's guard is filled then, unless it is refused, and every other byte of the arena stays; in a heap without guards all do.
  abbrev pub arena_after_alloc : List ℕ → ℕ → ℕ → ℕ → List ℕ
  arena_after_alloc arena o n a =
      unless (alloc_order is_valid c h arena o n a) (option_map_or (λ b. with_guard c b arena) (fit c h.blocks o n a) arena) (λ r. arena)

  -- A free answers the bytes that its block holds.
  abbrev pub free : List ℕ → ℕ → ℕ → Result ℕ Refusal
  free arena o x = unless (free_order is_valid c h arena o x) (Ok (bytes_at h x)) Err

  -- Its block is live no more, unless it is refused.
  abbrev pub after_free : List ℕ → ℕ → ℕ → State
  after_free arena o x = unless (free_order is_valid c h arena o x) (releasing h x) (λ r. h)

  -- It returns the granules of its block; refused, none.
  abbrev pub returned_free : List ℕ → ℕ → ℕ → ℕ
  returned_free arena o x = unless (free_order is_valid c h arena o x) (option_map_or (λ b. b.length) (block_at x h.blocks) 0) (λ r. 0)

  -- All bytes of its block are zero then, unless it is refused, and every other byte of the arena stays.
  abbrev pub arena_after_free : List ℕ → ℕ → ℕ → List ℕ
  arena_after_free arena o x = unless (free_order is_valid c h arena o x) (zeroed x (bytes_at h x) arena) (λ r. arena)

  -- A resize of the block at x to n bytes answers the byte offset of the block that is left; to size 0 it answers as a free does.
  abbrev pub realloc : List ℕ → ℕ → ℕ → ℕ → Result Resized Refusal
  realloc arena o x n =
      unless (realloc_order is_valid c h arena o x n)
      (option_map_or (λ b. Ok (resized.At (offset b))) (resize c h.blocks o x n) (Ok (resized.Freed (bytes_at h x))))
      Err

  -- The block that is left is live then instead of the one at x, unless it is refused.
  abbrev pub after_realloc : List ℕ → ℕ → ℕ → ℕ → State
  after_realloc arena o x n = unless (realloc_order is_valid c h arena o x n) (resizing c h o x n) (λ r. h)

  -- It is granted the granules of the block that is left, if one is; refused, none.
  abbrev pub granted_realloc : List ℕ → ℕ → ℕ → ℕ → ℕ
  granted_realloc arena o x n =
      unless (realloc_order is_valid c h arena o x n) (option_map_or (λ b. b.length) (resize c h.blocks o x n) 0) (λ r. 0)

  -- It returns the granules of the block at x; refused, none. (Both are counted whole, so that used changes by their difference.)
  abbrev pub returned_realloc : List ℕ → ℕ → ℕ → ℕ → ℕ
  returned_realloc arena o x n = unless (realloc_order is_valid c h arena o x n) (option_map_or (λ b. b.length) (block_at x h.blocks) 0) (λ r. 0)

  -- The guard of the block at x is zeroed; then its bytes, as many as the block that is left has room for, stand from that block's start on, and the rest of the old place is zero; then the guard of the block that is left is filled, and every other byte stays. If no block is left, all bytes of the old place are zero; refused, all bytes stay.
  abbrev pub arena_after_realloc : List ℕ → ℕ → ℕ → ℕ → List ℕ
  arena_after_realloc arena o x n =
      unless (realloc_order is_valid c h arena o x n)
      (option_map_or (λ b. with_guard c b (moved x (bytes_at h x) (offset b) (bytes b) (without_guard_at c h x arena))) (resize c h.blocks o x n) (zeroed x (bytes_at h x) arena))
      (λ r. arena)

  -- A block's size is the bytes requested and the bytes held.
  abbrev pub block_size : ℕ → ℕ → Result BlockSize Refusal
  block_size o x =
      unless (block_size_order is_valid c h o x) (Ok (record { requested = requested_at h x; held = bytes_at h x })) Err

  -- The totals are used, free, peak and the longest free run, all in bytes.
  abbrev pub totals_of : Result Totals Refusal
  totals_of =
      unless (totals_order is_valid) (Ok (record { used = used_bytes h; free = free_bytes c h; peak = peak_bytes h; longest = longest_bytes c h })) Err

  -- What one owner holds is its blocks, and the bytes that they hold.
  abbrev pub holding_of : ℕ → Result Holding Refusal
  holding_of o =
      unless (holding_order is_valid o) (Ok (record { blocks = owned_blocks h o; bytes = owned_bytes h o })) Err
