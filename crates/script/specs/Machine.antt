-- What a script is carried out on, and what each command answers and leaves, for every state.
-- Assumes nothing.
use Rattle.std.specs.Prelude.{ℕ, ◌-◌, ◌*◌, false, not, ◌||◌, List, [], ◌∷◌, ◌++◌, ltb, length, take, drop, set, replicate, Option, None, Some, Result, Ok, Err}
use Rattle.model.specs.Quantities.{is_arena, is_table}
use Rattle.model.specs.Reasons.{bad_owner, bad_quota}
use Rattle.model.specs.Orders.{Order, unless}
use Rattle.model.specs.Numbers.{number_of, init_number_of, Numbered, numbered_by}
use Rattle.segments.specs.Rows.{segments_in}
use Rattle.heap.specs.Stored.{Stored, handed}
use Rattle.heap.specs.Calls as calls
use Rattle.script.specs.Text.{ascii, line_of}
use Rattle.model.specs.declared.Plan.{Plan}
use Rattle.model.specs.declared.Segment.{Segment}
use Rattle.model.specs.declared.Refusal.{Refusal}
use Rattle.model.specs.declared.InitRefusal.{InitRefusal}
use Rattle.model.specs.declared.InitRefusal.TheVariants as init_refusal
use Rattle.model.specs.declared.Totals.{Totals}
use Rattle.heap.specs.declared.record.Heap.{Heap}
use Rattle.script.specs.declared.carrying_out.Script.{Script}
use Rattle.script.specs.declared.command.Command.{Command}
use Rattle.script.specs.declared.command.Command.TheVariants as command
use Rattle.script.specs.declared.answer.Why.{Why}
use Rattle.script.specs.declared.answer.Why.TheVariants as why

-- A script is carried out on the quotas for the next make and the heap's record, on the words that are lent for tables, and on the bytes lent for arenas.
pub record Machine : Type 0 where
  pub script : Script
  pub table : List ℕ
  pub arena : List ℕ

-- A call is handed a script's record, a table's words and an arena's bytes.
abbrev pub machine : Script → List ℕ → List ℕ → Machine
machine s ws bs = record { script = s; table = ws; arena = bs }

-- Before any line all quotas are 0, and the record is all zero, which is not valid.
abbrev pub started : Script
started = record { granule_quotas = replicate 8 0; block_quotas = replicate 8 0; heap = calls.zero_heap }

-- A call on the heap leaves its record; the quotas for the next make stay.
abbrev pub with_heap : Script → Heap → Script
with_heap s r = record { granule_quotas = s.granule_quotas; block_quotas = s.block_quotas; heap = r }

-- A make is handed the quotas that the limit lines gave; its heaps have base 0 and no guards.
abbrev pub plan_of : Script → Plan
plan_of s = record { base = 0; guarded = false; granule_quotas = s.granule_quotas; block_quotas = s.block_quotas }

-- A make refuses more than so many bytes, whatever is lent.
abbrev pub most_bytes : ℕ
most_bytes = 65536

-- For `limit O G B`: 2.
abbrev pub limit_order : ℕ → Order Refusal
limit_order o = bad_owner o ∷ []

-- What a call on the heap answers, as the answer to a line: an allocation's offset, or the bytes that a free gives back.
abbrev pub call_answer : Result ℕ Refusal → Result ℕ Why
call_answer (Ok v) = Ok v
call_answer (Err r) = Err (why.Call r)

-- What a make answers, as the answer to a line.
abbrev pub make_answer : Result ℕ InitRefusal → Result ℕ Why
make_answer (Ok v) = Ok v
make_answer (Err r) = Err (why.Make r)

-- A row is written in bytes: start, length, owner, bytes requested.
abbrev pub seg_line : Segment → List ℕ
seg_line x = line_of (ascii "seg") (16 * x.start ∷ 16 * x.length ∷ x.owner ∷ x.requested ∷ [])

-- The rows are written one after the other.
abbrev pub seg_lines : List Segment → List ℕ
seg_lines [] = []
seg_lines (x ∷ xs) = seg_line x ++ seg_lines xs

module _ (m : Machine) where
  -- The plan of the next make.
  abbrev pub plan : Plan
  plan = plan_of m.script

  -- The heap's record.
  abbrev pub heap : Heap
  heap = m.script.heap

  -- The heap's table is the first T rows of the words that are lent.
  abbrev pub words : List ℕ
  words = take (4 * heap.capacity) m.table

  -- The heap's arena is as many of the bytes that are lent as it was made with.
  abbrev pub bytes : List ℕ
  bytes = take (16 * heap.granules) m.arena

  -- A call on the heap is handed its record and its table.
  abbrev pub stored : Stored
  stored = handed heap words

  -- It leaves a record, a table and the bytes lent for arenas; every other word that is lent stays.
  abbrev pub leaving : Stored → List ℕ → Machine
  leaving t bs = machine (with_heap m.script t.heap) (t.words ++ drop (4 * heap.capacity) m.table) bs

  -- `limit O G B` sets the owner's quotas for the next make; the heap stays.
  abbrev pub limited : ℕ → ℕ → ℕ → Machine
  limited o g b =
      machine
      (record {
        granule_quotas = set m.script.granule_quotas (o - 1) g;
        block_quotas = set m.script.block_quotas (o - 1) b;
        heap = heap;
      })
      m.table
      m.arena

  -- For `make BYTES ROWS`: 11, 12, 13. 11 is also more bytes than 65,536 or than are lent, 12 more rows than are lent.
  unfoldable pub make_order : ℕ → ℕ → Order InitRefusal
  make_order b r =
      (not (is_arena b) || (ltb most_bytes b || ltb (length m.arena) b), init_refusal.ArenaLength)
      ∷ (not (is_table (4 * r)) || ltb (length m.table) (4 * r), init_refusal.TableLength)
      ∷ bad_quota plan
      ∷ []

  -- A make is a making of the first BYTES bytes and the first ROWS rows that are lent; the others stay.
  abbrev pub made : ℕ → ℕ → Machine
  made b r =
      machine
      (with_heap m.script (calls.after_init (take b m.arena) (take (4 * r) m.table) plan).heap)
      ((calls.after_init (take b m.arena) (take (4 * r) m.table) plan).words ++ drop (4 * r) m.table)
      (calls.arena_after_init (take b m.arena) (take (4 * r) m.table) plan ++ drop b m.arena)

  -- Each command answers V or why not: V is G for limit, BYTES for make, the offset for ask, the bytes returned for back.
  abbrev pub answer_to : Option Command → Result ℕ Why
  answer_to (Some (command.Limit o g b)) = call_answer (unless (limit_order o) (Ok g) Err)
  answer_to (Some (command.Make b r)) = make_answer (unless (make_order b r) (Ok b) Err)
  answer_to (Some (command.Ask o n a)) = call_answer (calls.alloc_aligned stored bytes o n a)
  answer_to (Some (command.Back o x)) = call_answer (calls.free stored bytes o x)
  answer_to None = Err why.Unreadable

  -- In numbers this is what the order says: 0 and V, or the number of the first reason and 0.
  abbrev pub numbered_to : Option Command → Numbered
  numbered_to (Some (command.Limit o g b)) = numbered_by number_of (limit_order o) (g ∷ [])
  numbered_to (Some (command.Make b r)) = numbered_by init_number_of (make_order b r) (b ∷ [])
  numbered_to (Some (command.Ask o n a)) = calls.numbered_alloc stored bytes o n a
  numbered_to (Some (command.Back o x)) = calls.numbered_free stored bytes o x
  numbered_to None = (14, 0 ∷ [])

  -- A command that is refused leaves all as it was: after a refused make there is the heap that there was.
  abbrev pub after : Option Command → Machine
  after (Some (command.Limit o g b)) = unless (limit_order o) (limited o g b) (λ r. m)
  after (Some (command.Make b r)) = unless (make_order b r) (made b r) (λ r. m)
  after (Some (command.Ask o n a)) =
      leaving (calls.after_alloc_aligned stored bytes o n a) (calls.arena_after_alloc_aligned stored bytes o n a ++ drop (16 * heap.granules) m.arena)
  after (Some (command.Back o x)) =
      leaving (calls.after_free stored bytes o x) (calls.arena_after_free stored bytes o x ++ drop (16 * heap.granules) m.arena)
  after None = m

  -- At the end come the rows in use, then `sum` with the totals.
  abbrev pub closing_with : Result Totals Refusal → List ℕ
  closing_with (Ok t) = seg_lines (segments_in heap.rows words) ++ line_of (ascii "sum") (t.used ∷ t.free ∷ t.peak ∷ t.longest ∷ [])
  closing_with (Err r) = []

  -- There is a heap if its totals are not refused, that is, if it is valid; after a script from its start on, exactly if some make was granted (`proofs/Laws`).
  abbrev pub closing : List ℕ
  closing = closing_with (calls.totals_of stored)
