-- What the functions write, part by part, is the output of the whole input, as long as each keeps its promise.
-- Assumes nothing.
use mathlib.Core.Path.{◌≡◌, sym, ap, ◌∙◌}
use mathlib.Core.List.{List, [], ◌∷◌, ◌++◌}
use Prim.Native.Nat.{ℕ}
use lib.ListN.{take}
use Rattle.script.specs.Text.{ended, unended}
use Rattle.script.specs.Machine.{machine}
use Rattle.script.specs.Session.{answers_to, answers_and_closing, after_lines, most_held, held, pieces_with}
use Rattle.script.specs.Promises.{fed_pieces, fed_text, last_lines}
use Rattle.script.specs.Performed.{Feeds, Performed, NoLineLost}
use Rattle.script.proofs.Lists.{front_text}
use Rattle.script.proofs.Parts.{in_parts, in_parts_lem}
use Rattle.script.proofs.Finishing.{has_room}
use Rattle.script.specs.declared.session.Session.{Session}

-- A part that is fed: its answers, the machine afterwards, and what is held.
module _ (s : Session) (words bytes part : List ℕ) (f : Feeds s words bytes part) where
  same_pieces : fed_pieces s words bytes f.input f.room ≡ pieces_with (held s) part
  same_pieces = rw (f.takes, f.done.taken)

  pub fed_answers : take f.out.written f.room_after ≡ answers_to (machine s.script words bytes) (ended (pieces_with (held s) part))
  fed_answers =
      front_text (fed_text s words bytes f.input f.room) f.room f.room_after f.out.written f.done.written f.done.buffer
      ∙ ap (λ (ls : List (List ℕ)). answers_to (machine s.script words bytes) (ended ls)) same_pieces

  pub fed_leaves : machine f.s_after.script f.words_after f.bytes_after ≡ after_lines (machine s.script words bytes) (ended (pieces_with (held s) part))
  fed_leaves =
      f.done.leaves
      ∙ ap (λ (ls : List (List ℕ)). after_lines (machine s.script words bytes) (ended ls)) same_pieces

  pub fed_holds : held f.s_after ≡ take most_held (unended (pieces_with (held s) part))
  fed_holds =
      front_text (take most_held (unended (fed_pieces s words bytes f.input f.room))) s.held.line f.s_after.held.line f.s_after.held.count f.done.count f.done.line
      ∙ ap (λ (ls : List (List ℕ)). take most_held (unended ls)) same_pieces

  -- What is written for the part and others is what was put for it, and then what is written for the others.
  pub fed_goes : (parts : List (List ℕ))
      → in_parts (machine s.script words bytes) (held s) (part ∷ parts) ≡ take f.out.written f.room_after ++ in_parts (machine f.s_after.script f.words_after f.bytes_after) (held f.s_after) parts
  fed_goes parts = rw (fed_answers, fed_leaves, fed_holds)

-- So what is written is what `in_parts` says.
parts_performed : (parts : List (List ℕ)) (s : Session) (words bytes text : List ℕ) → Performed s words bytes parts text
    → text ≡ in_parts (machine s.script words bytes) (held s) parts
parts_performed [] s words bytes text p =
    let f = p.0 in
    let h = has_room f.done.put in
    p.1 ∙ front_text (answers_and_closing (machine s.script words bytes) (last_lines s)) f.room f.room_after f.out h.1 h.2
parts_performed (part ∷ parts) s words bytes text p =
    let f = p.0 in
    let rest : List ℕ = p.1 in
    p.2
    ∙ ap (λ (out : List ℕ). take f.out.written f.room_after ++ out) (parts_performed parts f.s_after f.words_after f.bytes_after rest p.3)
    ∙ sym (fed_goes s words bytes part f parts)

-- No line is lost or answered twice.
pub no_line_lost : NoLineLost
no_line_lost s e z words bytes parts text p =
    parts_performed parts s words bytes text p
    ∙ rw (e, z) (in_parts_lem words bytes parts)
