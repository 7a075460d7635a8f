-- What a task may lean on of guards, after every list of calls: one that nobody writes to is never found broken, and one that is broken is told.
-- Assumes nothing.
use Rattle.std.specs.Prelude.{ℕ, ◌+◌, ◌≡◌, Bool, true, not, if◌then◌else◌, ◌&&◌, List, [], ◌∷◌, find, leb, ltb, get_or, Some, is_none, Ok}
use Rattle.model.specs.Quantities.{Config}
use Rattle.model.specs.Allocation.{State, fresh, offset, block_at, owned_by}
use Rattle.model.specs.Arena.{has_recorded_length, in_guard}
use Rattle.model.specs.Rules as rules
use Rattle.model.specs.Run.{history}
use Rattle.heap.specs.Stored.{Stored}
use Rattle.heap.specs.Calls as calls
use Rattle.guarantee.specs.Lists.{Call, alloc, alloc_aligned, free, realloc, block_size, totals, holding, Answer, by_rules, execute, numbered}
use Rattle.guarantee.specs.Guarantee.{state_after, stored_after}
use Rattle.model.specs.declared.Segment.{Segment}
use Rattle.model.specs.declared.Plan.{Plan}

-- These bytes, if a call is handed an arena of the recorded length; one of another length is not the heap's, whose arena is still what was left.
abbrev pub if_recorded : Config → List ℕ → List ℕ → List ℕ → List ℕ
if_recorded c arena bytes left = if has_recorded_length c arena then bytes else left

-- A call finds an arena; an enquiry, which is lent none, counts as finding what was left.
abbrev pub found : Config → List ℕ → Call → List ℕ
found c left (alloc arena o n) = if_recorded c arena arena left
found c left (alloc_aligned arena o n a) = if_recorded c arena arena left
found c left (free arena o x) = if_recorded c arena arena left
found c left (realloc arena o x n) = if_recorded c arena arena left
found c left (block_size o x) = left
found c left totals = left
found c left (holding o) = left

-- A call leaves an arena, by the rules alone; an enquiry leaves what it found.
abbrev pub arena_after : Config → State → List ℕ → Call → List ℕ
arena_after c h left (alloc arena o n) = if_recorded c arena (rules.arena_after_alloc true c h arena o n 16) left
arena_after c h left (alloc_aligned arena o n a) = if_recorded c arena (rules.arena_after_alloc true c h arena o n a) left
arena_after c h left (free arena o x) = if_recorded c arena (rules.arena_after_free true c h arena o x) left
arena_after c h left (realloc arena o x n) = if_recorded c arena (rules.arena_after_realloc true c h arena o x n) left
arena_after c h left (block_size o x) = left
arena_after c h left totals = left
arena_after c h left (holding o) = left

-- The owner that a call names, 0 if it names none.
abbrev pub caller : Call → ℕ
caller (alloc arena o n) = o
caller (alloc_aligned arena o n a) = o
caller (free arena o x) = o
caller (realloc arena o x n) = o
caller (block_size o x) = o
caller totals = 0
caller (holding o) = o

-- Byte i is one of those that a block was requested with.
abbrev pub is_requested : ℕ → Segment → Bool
is_requested i b = leb (offset b) i && ltb i (offset b + b.requested)

-- Byte i is in the guard of one of owner o's live blocks.
abbrev pub in_guard_of : Config → ℕ → State → ℕ → Bool
in_guard_of c o h i = not (is_none (find (in_guard c i) (owned_by o h.blocks)))

-- Byte i is none of those that a live block was requested with.
abbrev pub not_requested : State → ℕ → Bool
not_requested h i = is_none (find (is_requested i) h.blocks)

-- Between the calls of a list nobody writes to the bytes of which a test holds: each call finds them as the call before, or the making, left them.
abbrev pub Unwritten : Config → (State → ℕ → Bool) → State → List ℕ → List Call → Type 0
Unwritten c test h left [] = Unit {0}
Unwritten c test h left (k ∷ ks) =
    ((i : ℕ) → test h i ≡ true → get_or (found c left k) i 0 ≡ get_or left i 0) × Unwritten c test (by_rules c h k).1 (arena_after c h left k) ks

-- No call of owner o in a list is answered 19.
abbrev pub Never19 : ℕ → List ((k : Call) × Answer k) → Type 0
Never19 o [] = Unit {0}
Never19 o (e ∷ es) = (caller e.0 ≡ o → (numbered e.0 e.1).0 ≡ 19 → ⊥) × Never19 o es

-- A making that is not refused, and a list after it.
module _ (arena words : List ℕ) (p : Plan) (ks : List Call) where
  -- Its heap is made with this,
  abbrev config : Config
  config = rules.init_config arena words p

  -- and left so.
  abbrev initial : Stored
  initial = calls.after_init arena words p

  -- The answers in the list, as the calls are executed.
  abbrev answers : List ((k : Call) × Answer k)
  answers = history execute initial ks

  -- The arena that the making leaves.
  abbrev zeros : List ℕ
  zeros = calls.arena_after_init arena words p

  -- A task to whose guards nobody writes, whatever else is written, never gets 19.
  abbrev pub OwnGuardsHold : Type 0
  OwnGuardsHold = (o : ℕ) → Unwritten config (in_guard_of config o) fresh zeros ks → Never19 o answers

  -- If only bytes are written that some live block was requested with, as when every task writes to none but its own, no task ever gets 19.
  abbrev pub RequestedAlone : Type 0
  RequestedAlone = Unwritten config not_requested fresh zeros ks → (o : ℕ) → Never19 o answers

  -- If a byte of the guard of the block at x differs, its owner's free and its resize, to whatever size, are answered 19; the record, the table, which are a valid heap, and the arena are left as they were.
  pub record BrokenTold (bytes : List ℕ) (o x n : ℕ) : Type 0 where
    pub valid : calls.is_valid (stored_after initial ks) ≡ true
    pub free : numbered (free bytes o x) (calls.free (stored_after initial ks) bytes o x) ≡ (19, 0 ∷ [])
    pub free_leaves : calls.after_free (stored_after initial ks) bytes o x ≡ stored_after initial ks
    pub free_bytes : calls.arena_after_free (stored_after initial ks) bytes o x ≡ bytes
    pub realloc : numbered (realloc bytes o x n) (calls.realloc (stored_after initial ks) bytes o x n) ≡ (19, 0 ∷ [])
    pub realloc_leaves : calls.after_realloc (stored_after initial ks) bytes o x n ≡ stored_after initial ks
    pub realloc_bytes : calls.arena_after_realloc (stored_after initial ks) bytes o x n ≡ bytes

  -- So it is for the next call after the list, handed an arena of the recorded length with any bytes.
  abbrev pub BrokenIsTold : Type 0
  BrokenIsTold =
      (bytes : List ℕ) → has_recorded_length config bytes ≡ true
      → (x : ℕ) (b : Segment) → block_at x (state_after config ks).blocks ≡ Some b
      → (i : ℕ) → in_guard config i b ≡ true → (get_or bytes i 0 ≡ 0x77 → ⊥)
      → (n : ℕ) → BrokenTold bytes b.owner x n

-- The three hold of every making that is not refused, and of every list after it.
pub record GuardsHold : Type 0 where
  pub own : (arena words : List ℕ) (p : Plan) → calls.init arena words p ≡ Ok tt → (ks : List Call) → OwnGuardsHold arena words p ks
  pub requested : (arena words : List ℕ) (p : Plan) → calls.init arena words p ≡ Ok tt → (ks : List Call) → RequestedAlone arena words p ks
  pub broken : (arena words : List ℕ) (p : Plan) → calls.init arena words p ≡ Ok tt → (ks : List Call) → BrokenIsTold arena words p ks
