-- What the function of each call promises for every input: its answer, the number and the values of that, and the record and every lent word and byte afterwards.
-- (A table that is lent to an enquiry cannot change, and an enquiry gives no record back. `is_valid` is no call of document 01: it answers `valid`.)
-- Assumes nothing.
use Rattle.std.specs.Prelude.{ℕ, ◌≡◌, List, Result}
use Rattle.model.specs.Numbers as numbers
use Rattle.heap.specs.Stored.{handed}
use Rattle.heap.specs.Calls as calls
use Rattle.heap.specs.declared.record.Heap.{Heap}
use Rattle.heap.specs.declared.record.Initialized.{Initialized}
use Rattle.model.specs.declared.Resized.{Resized}
use Rattle.heap.specs.declared.record.Outcome.{Outcome}
use Rattle.model.specs.declared.Plan.{Plan}
use Rattle.model.specs.declared.BlockSize.{BlockSize}
use Rattle.model.specs.declared.Totals.{Totals}
use Rattle.model.specs.declared.Holding.{Holding}
use Rattle.model.specs.declared.Refusal.{Refusal}

-- A making, handed an arena's bytes, a table's words and a plan.
pub record InitDone (bytes words : List ℕ) (p : Plan) (out : Initialized) (bytes_after words_after : List ℕ) : Type 0 where
  pub answer : out.answer ≡ calls.init bytes words p
  pub numbered : numbers.made_numbered out.answer ≡ calls.numbered_init bytes words p
  pub heap : out.heap ≡ (calls.after_init bytes words p).heap
  pub table : words_after ≡ (calls.after_init bytes words p).words
  pub arena : bytes_after ≡ calls.arena_after_init bytes words p

-- An allocation by owner o of n bytes on a boundary of a bytes, handed the arena's bytes; one that names no alignment is the one on a boundary of 16.
pub record AllocDone (r : Heap) (words bytes : List ℕ) (o n a : ℕ) (out : Outcome ℕ) (words_after bytes_after : List ℕ) : Type 0 where
  pub answer : out.answer ≡ calls.alloc_aligned (handed r words) bytes o n a
  pub numbered : numbers.value_numbered out.answer ≡ calls.numbered_alloc (handed r words) bytes o n a
  pub heap : out.heap ≡ (calls.after_alloc_aligned (handed r words) bytes o n a).heap
  pub table : words_after ≡ (calls.after_alloc_aligned (handed r words) bytes o n a).words
  pub arena : bytes_after ≡ calls.arena_after_alloc_aligned (handed r words) bytes o n a

-- A free by owner o of the block at x, handed the arena's bytes.
pub record FreeDone (r : Heap) (words bytes : List ℕ) (o x : ℕ) (out : Outcome ℕ) (words_after bytes_after : List ℕ) : Type 0 where
  pub answer : out.answer ≡ calls.free (handed r words) bytes o x
  pub numbered : numbers.value_numbered out.answer ≡ calls.numbered_free (handed r words) bytes o x
  pub heap : out.heap ≡ (calls.after_free (handed r words) bytes o x).heap
  pub table : words_after ≡ (calls.after_free (handed r words) bytes o x).words
  pub arena : bytes_after ≡ calls.arena_after_free (handed r words) bytes o x

-- A resize by owner o of the block at x to n bytes, handed the arena's bytes.
pub record ReallocDone (r : Heap) (words bytes : List ℕ) (o x n : ℕ) (out : Outcome Resized) (words_after bytes_after : List ℕ) : Type 0 where
  pub answer : out.answer ≡ calls.realloc (handed r words) bytes o x n
  pub numbered : numbers.resized_numbered out.answer ≡ calls.numbered_realloc (handed r words) bytes o x n
  pub heap : out.heap ≡ (calls.after_realloc (handed r words) bytes o x n).heap
  pub table : words_after ≡ (calls.after_realloc (handed r words) bytes o x n).words
  pub arena : bytes_after ≡ calls.arena_after_realloc (handed r words) bytes o x n

-- The enquiry by owner o for the size of the block at x.
pub record BlockSizeDone (r : Heap) (words : List ℕ) (o x : ℕ) (out : Result BlockSize Refusal) : Type 0 where
  pub answer : out ≡ calls.block_size (handed r words) o x
  pub numbered : numbers.size_numbered out ≡ calls.numbered_block_size (handed r words) o x

-- The enquiry for the totals.
pub record TotalsDone (r : Heap) (words : List ℕ) (out : Result Totals Refusal) : Type 0 where
  pub answer : out ≡ calls.totals_of (handed r words)
  pub numbered : numbers.totals_numbered out ≡ calls.numbered_totals (handed r words)

-- The enquiry for what owner o holds.
pub record HoldingDone (r : Heap) (words : List ℕ) (o : ℕ) (out : Result Holding Refusal) : Type 0 where
  pub answer : out ≡ calls.holding_of (handed r words) o
  pub numbered : numbers.holding_numbered out ≡ calls.numbered_holding (handed r words) o
