-- What each call of a task answers and leaves: what the heap's call that it stands for does. s is the record and the table that it is handed, o its owner.
-- Assumes nothing.
use Rattle.std.specs.Prelude.{ℕ, List, Result}
use Rattle.std.specs.Result.{result_map_both}
use Rattle.heap.specs.Stored.{Stored}
use Rattle.heap.specs.Calls as calls
use Rattle.printing.specs.declared.calls.Call.{Call}
use Rattle.printing.specs.declared.calls.Call.TheVariants.{Alloc, AllocAligned, Free, Realloc, BlockSize, Holding}
use Rattle.model.specs.declared.Refusal.{Refusal}
use Rattle.printing.specs.declared.answers.Granted.{Granted}
use Rattle.printing.specs.declared.answers.Granted.TheVariants as granted

-- The call answers as the heap's does; a value says which call it is of.
abbrev pub answer_to : Stored → List ℕ → ℕ → Call → Result Granted Refusal
answer_to s bytes o (Alloc n) = result_map_both granted.At (λ why. why) (calls.alloc s bytes o n)
answer_to s bytes o (AllocAligned n a) = result_map_both granted.At (λ why. why) (calls.alloc_aligned s bytes o n a)
answer_to s bytes o (Free x) = result_map_both granted.Freed (λ why. why) (calls.free s bytes o x)
answer_to s bytes o (Realloc x n) = result_map_both granted.Resized (λ why. why) (calls.realloc s bytes o x n)
answer_to s bytes o (BlockSize x) = result_map_both granted.BlockSize (λ why. why) (calls.block_size s o x)
answer_to s bytes o Holding = result_map_both granted.Holding (λ why. why) (calls.holding_of s o)

-- The enquiry for the totals, which is no owner's, answers as the heap's does.
abbrev pub totals_answer : Stored → Result Granted Refusal
totals_answer s = result_map_both granted.Totals (λ why. why) (calls.totals_of s)

-- A call leaves the record and the table that the heap's leaves; an enquiry leaves them as they were.
abbrev pub after_call : Stored → List ℕ → ℕ → Call → Stored
after_call s bytes o (Alloc n) = calls.after_alloc s bytes o n
after_call s bytes o (AllocAligned n a) = calls.after_alloc_aligned s bytes o n a
after_call s bytes o (Free x) = calls.after_free s bytes o x
after_call s bytes o (Realloc x n) = calls.after_realloc s bytes o x n
after_call s bytes o (BlockSize x) = s
after_call s bytes o Holding = s

-- A call leaves the arena that the heap's leaves; an enquiry leaves it as it was.
abbrev pub arena_after_call : Stored → List ℕ → ℕ → Call → List ℕ
arena_after_call s bytes o (Alloc n) = calls.arena_after_alloc_aligned s bytes o n 16
arena_after_call s bytes o (AllocAligned n a) = calls.arena_after_alloc_aligned s bytes o n a
arena_after_call s bytes o (Free x) = calls.arena_after_free s bytes o x
arena_after_call s bytes o (Realloc x n) = calls.arena_after_realloc s bytes o x n
arena_after_call s bytes o (BlockSize x) = bytes
arena_after_call s bytes o Holding = bytes
