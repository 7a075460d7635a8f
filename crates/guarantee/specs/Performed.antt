-- A list of calls as the functions perform it, of each of which nothing is said but its promise, and demand 3 of such a list.
-- Assumes nothing.
use Rattle.std.specs.Prelude.{◌≡◌, List, [], ◌∷◌, ℕ, Result, Ok}
use Rattle.model.specs.Quantities.{Config}
use Rattle.model.specs.Allocation.{fresh}
use Rattle.model.specs.Rules.{init_config}
use Rattle.model.specs.Run.{history}
use Rattle.heap.specs.Stored.{Stored, handed, store}
use Rattle.heap.specs.Calls.{after_init}
use Rattle.heap.specs.Promises.{InitDone, AllocDone, FreeDone, ReallocDone, BlockSizeDone, TotalsDone, HoldingDone}
use Rattle.guarantee.specs.Lists.{Call, alloc, alloc_aligned, free, realloc, block_size, totals, holding, Answer, by_rules}
use Rattle.guarantee.specs.Guarantee.{state_after, Entitled, Served, Guaranteed}
use Rattle.heap.specs.declared.record.Initialized.{Initialized}
use Rattle.model.specs.declared.Plan.{Plan}
use Rattle.model.specs.declared.Refusal.{Refusal}

-- Handed s, the function of a call answers r and leaves t: its promise. (An allocation, a free and a resize leave some bytes in the arena too; an enquiry leaves what it found.)
abbrev pub Promised : Stored → (k : Call) → Answer k → Stored → Type 0
Promised s (alloc arena o n) r t = (left : List ℕ) × AllocDone s.heap s.words arena o n 16 (record { answer = r; heap = t.heap }) t.words left
Promised s (alloc_aligned arena o n a) r t = (left : List ℕ) × AllocDone s.heap s.words arena o n a (record { answer = r; heap = t.heap }) t.words left
Promised s (free arena o x) r t = (left : List ℕ) × FreeDone s.heap s.words arena o x (record { answer = r; heap = t.heap }) t.words left
Promised s (realloc arena o x n) r t = (left : List ℕ) × ReallocDone s.heap s.words arena o x n (record { answer = r; heap = t.heap }) t.words left
Promised s (block_size o x) r t = BlockSizeDone s.heap s.words o x r × (t ≡ s)
Promised s totals r t = TotalsDone s.heap s.words r × (t ≡ s)
Promised s (holding o) r t = HoldingDone s.heap s.words o r × (t ≡ s)

-- A call with its answer.
abbrev pub Entry : Type 0
Entry = (k : Call) × Answer k

-- The functions, called one after the other, each handed what the one before left, answer so and leave t in the end.
abbrev pub Performed : Stored → List Entry → Stored → Type 0
Performed s [] t = t ≡ s
Performed s (e ∷ es) t = (u : Stored) × Promised s e.0 e.1 u × Performed u es t

-- The calls, without their answers.
abbrev pub calls_of : List Entry → List Call
calls_of [] = []
calls_of (e ∷ es) = e.0 ∷ calls_of es

-- The claim about a list that the functions performed with these answers, and that left t, of a heap that is made with c and that its making leaves as s.
pub record GuaranteedOf (c : Config) (s : Stored) (es : List Entry) (t : Stored) : Type 0 where
  -- Each answer is the one that the rules and orders give.
  pub answers : es ≡ history (by_rules c) fresh (calls_of es)
  -- The record and the table are those of the set worked out.
  pub stored : t ≡ store c (state_after c (calls_of es))
  -- Demand 3's claim holds of the list.
  pub guaranteed : Guaranteed c s (calls_of es)
  -- The next allocation, if it is entitled to its block, gets it: so its function answers, if it keeps its promise.
  pub served : (arena : List ℕ) (o n a : ℕ) → Entitled c (state_after c (calls_of es)) arena o n a → (r : Result ℕ Refusal) (u : Stored) → Promised t (alloc_aligned arena o n a) r u → Served c (state_after c (calls_of es)) n a r

-- Demand 3 of the functions: the claim holds of every making that is not refused and of every list after it, as long as each function keeps its promise.
abbrev pub Demand3Performed : Type 0
Demand3Performed =
    (arena words : List ℕ) (p : Plan) (out : Initialized) (arena_left words_left : List ℕ) → InitDone arena words p out arena_left words_left → out.answer ≡ Ok tt
    → (es : List Entry) (t : Stored) → Performed (handed out.heap words_left) es t
    → GuaranteedOf (init_config arena words p) (after_init arena words p) es t
