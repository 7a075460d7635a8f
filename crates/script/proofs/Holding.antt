-- What is held of a line: its first 81 bytes, whatever part of it comes next.
-- Assumes nothing.
use mathlib.Core.Path.{◌≡◌, sym, ap, ◌∙◌}
use mathlib.Core.List.{List, ◌++◌}
use Prim.Native.Nat.{ℕ, ◌+◌, ◌-◌, min}
use native.Mathlib.Omega.{arith}
use lib.ListN.{length, take, length-append}
use lib.Seq.{sets-eq, take-append-add, take-append_seam, length-take-le}
use Rattle.script.specs.Text.{at_front}
use Rattle.script.specs.Commands.{read_line}
use Rattle.script.specs.Session.{most_held, held_bytes}
use Rattle.script.specs.Steps.{held_with}
use Rattle.script.specs.declared.held.Held.{Held}
use borrow.Rule.Slice.PartMut.{put_mid}
use Rattle.script.proofs.Lists.{at_most, copied}
use Rattle.script.proofs.Parts.{first_reads}

module _ (h : Held) (part : List ℕ) (from n : ℕ) (whole : length h.line ≡ 81) (f : from ≡ min h.count 81) (k : n ≡ min (length part) (81 - from)) where
  -- What was held, and as much of the part as has room.
  held_text : take most_held (held_bytes h ++ part) ≡ take from h.line ++ take n part
  held_text =
      let e : take from h.line ≡ held_bytes h = (at_most h.count from h.line (rw whole f)).0 in
      let l : length (take from h.line) ≡ from = length-take-le from h.line (omega arith) in
      let z : 81 ≡ length (take from h.line) + (81 - from) = omega arith in
      let t : take n part ≡ take (81 - from) part = (at_most (81 - from) n part (omega arith)).0 in
      rw (← e, t) (ap (λ (x : ℕ). take x (take from h.line ++ part)) z ∙ take-append-add (take from h.line) part (81 - from))

  -- It is so many bytes.
  held_count : length (take most_held (held_bytes h ++ part)) ≡ from + n
  held_count = rw (held_text, length-append) (omega (arith, length-take-le from h.line (omega arith), length-take-le n part (omega arith)))

  -- Copied after what was held, it stands at the front.
  pub held_done : (mid : List ℕ) (m : ℕ) → mid ≡ take n part → m ≡ n → record { line = put_mid from m h.line mid; count = from + n } ≡ held_with h part
  held_done mid m e z =
      let l : length (take n part) ≡ n = length-take-le n part (omega arith) in
      let same : put_mid from m h.line mid ≡ at_front (take most_held (held_bytes h ++ part)) h.line =
      copied h.line (take n part) mid from m (omega arith) e (omega arith)
      ∙ sets-eq (take n part) h.line from (omega arith)
      ∙ rw (held_count, held_text, l) in
      λ j. record { line = same j; count = sym held_count j }

-- What is held can be read in place of the whole line.
pub read_held_with : (h : Held) (part : List ℕ) → read_line (held_bytes (held_with h part)) ≡ read_line (held_bytes h ++ part)
read_held_with h part =
    ap read_line (take-append_seam (take most_held (held_bytes h ++ part)) _) ∙ first_reads (held_bytes h ++ part)
