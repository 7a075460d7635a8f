-- What the functions within the crate answer and leave, step by step: a caller needs none of it.
-- Assumes nothing.
use Rattle.std.specs.Prelude.{ℕ, zero, suc, ◌+◌, ◌≡◌, List, [], ◌∷◌, ◌++◌, ltb, length, take, map, Option, None, Some, if◌then◌else◌}
use Rattle.std.specs.Option.{option_map}
use Rattle.std.specs.Borrow.{Bor}
use Rattle.std.proofs.lemmas.List.Edits.{sets}
use Rattle.script.specs.Text.{at_front}
use Rattle.script.specs.Session.{most_held, held_bytes}
use Rattle.script.specs.declared.held.Held.{Held}

-- The first so many of a list, as far as there are so many.
abbrev pub firsts : ℕ → List (List ℕ) → List (Option (List ℕ))
firsts zero fs = []
firsts (suc k) [] = None ∷ firsts k []
firsts (suc k) (f ∷ fs) = Some f ∷ firsts k fs

-- The texts that are lent.
abbrev pub texts : List (Option (Bor (List ℕ))) → List (Option (List ℕ))
texts fs = map (option_map (λ f. f.now)) fs

-- As many as are wanted, or none if fewer are lent.
abbrev pub part_of : ℕ → ℕ → ℕ
part_of n lent = if ltb lent n then 0 else n

-- A text is put into a buffer at a place, and the place after it is answered; every other byte stays.
pub record Put (text buffer : List ℕ) (at next : ℕ) (after : List ℕ) : Type 0 where
  pub end : next ≡ at + length text
  pub bytes : after ≡ sets buffer at text

-- What is held of a line with more of it.
abbrev pub held_with : Held → List ℕ → Held
held_with h part =
    record { line = at_front (take most_held (held_bytes h ++ part)) h.line; count = length (take most_held (held_bytes h ++ part)) }
