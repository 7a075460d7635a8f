-- Document 01's "Numbers that say no", 1 to 13, and document 02's 15 to 19: when each applies. (14 is the script program's.)
-- Assumes nothing.
use Rattle.std.specs.Prelude.{ℕ, ◌+◌, ◌*◌, ◌/◌, ◌%◌, Bool, false, not, ◌&&◌, List, leb, ltb, eqb, length, Option, is_none}
use Rattle.std.specs.Option.{option_map_or}
use Rattle.model.specs.Choose.{total}
use Rattle.model.specs.Quantities.{is_arena, is_base, is_table, is_owner, quotas_in_range, is_alignment, Config, quota}
use Rattle.model.specs.Allocation.{needed, charge, put, block_at, block_over, owned_by}
use Rattle.model.specs.Arena.{has_recorded_length, is_broken}
use Rattle.model.specs.SegmentMap.{rows_of}
use Rattle.model.specs.declared.Segment.{Segment}
use Rattle.model.specs.declared.Plan.{Plan}
use Rattle.model.specs.declared.Refusal.{Refusal}
use Rattle.model.specs.declared.Refusal.TheVariants as refusal
use Rattle.model.specs.declared.InitRefusal.{InitRefusal}
use Rattle.model.specs.declared.InitRefusal.TheVariants as init_refusal

-- A reason is a refusal, with whether it applies.
abbrev pub Reason : Type 0 → Type 0
Reason R = Bool × R

-- 1: the record and the table are not a valid heap.
abbrev pub invalid_heap : Bool → Reason Refusal
invalid_heap is_valid = (not is_valid, refusal.InvalidHeap)

-- 2: the owner is not 1 to 8.
abbrev pub bad_owner : ℕ → Reason Refusal
bad_owner o = (not (is_owner o), refusal.BadOwner)

-- 3: the size is 0.
abbrev pub zero_size : ℕ → Reason Refusal
zero_size n = (eqb n 0, refusal.ZeroSize)

-- 4: the alignment is not a power of two from 16 to 4,096.
abbrev pub bad_alignment : ℕ → Reason Refusal
bad_alignment a = (not (is_alignment a), refusal.BadAlignment)

-- 5: the owner already has as many live blocks as its block quota.
abbrev pub block_quota_reached : Config → List Segment → ℕ → Reason Refusal
block_quota_reached c bs o = (leb (quota c.block_quotas o) (length (owned_by o bs)), refusal.BlockQuota)

-- 6: the owner's live granules plus those of n bytes exceed its granule quota (its blocks are counted by `charge`).
abbrev pub granule_quota_exceeded : Config → List Segment → ℕ → ℕ → Reason Refusal
granule_quota_exceeded c bs o n = (ltb (quota c.granule_quotas o) (total (charge c) (owned_by o bs) + needed c n), refusal.GranuleQuota)

-- 7: there is no place for the block.
abbrev pub no_place : Option Segment → Reason Refusal
no_place f = (is_none f, refusal.NoPlace)

-- 8: with the block placed, the rows in use exceed the table's; the laws `eight` (proofs/Laws) and `six_seven_eight` (proofs/ResizeLaws) say so in the papers' words.
abbrev pub table_full : Config → List Segment → Option Segment → Reason Refusal
table_full c bs f = (ltb c.capacity (rows_of c (put f bs)), refusal.TableFull)

-- 15: the offset is at or past the arena's end.
abbrev pub past_end : Config → ℕ → Reason Refusal
past_end c x = (leb (16 * c.granules) x, refusal.PastEnd)

-- 16: it is not a multiple of 16.
abbrev pub not_aligned : ℕ → Reason Refusal
not_aligned x = (not (eqb (x % 16) 0), refusal.NotAligned)

-- 17: it is in free memory: no live block has its granule.
abbrev pub free_memory : List Segment → ℕ → Reason Refusal
free_memory bs x = (is_none (block_over (x / 16) bs), refusal.FreeMemory)

-- 9: it is in a live block, after its first granule.
abbrev pub inside_block : List Segment → ℕ → Reason Refusal
inside_block bs x = (option_map_or (λ b. ltb b.start (x / 16)) (block_over (x / 16) bs) false, refusal.InsideBlock)

-- 10: it is the first byte of a live block, but the block has another owner.
abbrev pub other_owner : List Segment → ℕ → ℕ → Reason Refusal
other_owner bs o x = (option_map_or (λ b. not (eqb b.owner o)) (block_at x bs) false, refusal.OtherOwner)

-- 19: it is the first byte of a live block, but a byte of the block's guard differs from 0x77.
abbrev pub broken_guard : Config → List Segment → List ℕ → ℕ → Reason Refusal
broken_guard c bs arena x = (option_map_or (is_broken c arena) (block_at x bs) false, refusal.BrokenGuard)

-- 11 of a free and of a resize: the arena's length is not the one recorded.
abbrev pub other_arena : Config → List ℕ → Reason Refusal
other_arena c arena = (not (has_recorded_length c arena), refusal.ArenaLength)

-- 11 of an allocation: the same, but only in a heap with guards.
abbrev pub other_guarded_arena : Config → List ℕ → Reason Refusal
other_guarded_arena c arena = (ltb 0 c.guards && not (has_recorded_length c arena), refusal.ArenaLength)

-- 11 of a making: the arena's length is not allowed.
abbrev pub bad_arena : List ℕ → Reason InitRefusal
bad_arena arena = (not (is_arena (length arena)), init_refusal.ArenaLength)

-- 18: the base is not a multiple of 16, or the arena ends past 4,294,967,296.
abbrev pub bad_base : List ℕ → Plan → Reason InitRefusal
bad_base arena p = (not (is_base (length arena) p.base), init_refusal.BadBase)

-- 12: the table's length is not 4 to 2,048 words in steps of 4.
abbrev pub bad_table : List ℕ → Reason InitRefusal
bad_table words = (not (is_table (length words)), init_refusal.TableLength)

-- 13: a quota is out of range.
abbrev pub bad_quota : Plan → Reason InitRefusal
bad_quota p = (not (quotas_in_range p.granule_quotas p.block_quotas), init_refusal.BadQuota)
