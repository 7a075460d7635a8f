-- What the contracts of this layer come to, for a reader.
-- Assumes nothing.
use Rattle.std.specs.Prelude.{ℕ, List, Err}
use mathlib.Core.Path.{◌≡◌, sym, ◌∙◌, ap}
use Rattle.heap.specs.Stored.{Stored, handed}
use Rattle.heap.specs.Promises.{AllocDone, FreeDone, ReallocDone}
use Rattle.heap.proofs.Laws.{alloc_refused, free_refused}
use Rattle.heap.proofs.ReallocLaws.{realloc_refused}
use Rattle.heap.specs.declared.record.Heap.{Heap}
use Rattle.model.specs.declared.Refusal.{Refusal}

-- What is left is what was handed in, if by the definitions it is.
as_handed : (h h' : Heap) (words words' bytes bytes' arena : List ℕ) (left : Stored) → (left ≡ handed h words) × (arena ≡ bytes)
    → h' ≡ left.heap → words' ≡ left.words → bytes' ≡ arena → (h' ≡ h) × (words' ≡ words) × (bytes' ≡ bytes)
as_handed h h' words words' bytes bytes' arena left same heap table bytes_left =
    (heap ∙ ap (λ (s : Stored). s.heap) same.0, table ∙ ap (λ (s : Stored). s.words) same.0, bytes_left ∙ same.1)

module _ (h h' : Heap) (words words' bytes bytes' : List ℕ) (o : ℕ) (why : Refusal) where
  -- A refused allocation leaves the record where it stands as it was, and the table and the arena,
  pub alloc_stays : (n a : ℕ) → AllocDone h words bytes o n a (record { answer = Err why; heap = h' }) words' bytes'
      → (h' ≡ h) × (words' ≡ words) × (bytes' ≡ bytes)
  alloc_stays n a done =
      as_handed h h' words words' bytes bytes' _ _ (alloc_refused (handed h words) bytes o n a why (sym done.answer)) done.heap done.table done.arena

  -- so does a refused free,
  pub free_stays : (x : ℕ) → FreeDone h words bytes o x (record { answer = Err why; heap = h' }) words' bytes'
      → (h' ≡ h) × (words' ≡ words) × (bytes' ≡ bytes)
  free_stays x done =
      as_handed h h' words words' bytes bytes' _ _ (free_refused (handed h words) bytes o x why (sym done.answer)) done.heap done.table done.arena

  -- and a refused resize.
  pub realloc_stays : (x n : ℕ) → ReallocDone h words bytes o x n (record { answer = Err why; heap = h' }) words' bytes'
      → (h' ≡ h) × (words' ≡ words) × (bytes' ≡ bytes)
  realloc_stays x n done =
      as_handed h h' words words' bytes bytes' _ _ (realloc_refused (handed h words) bytes o x n why (sym done.answer)) done.heap done.table done.arena
