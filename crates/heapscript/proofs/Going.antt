-- What is written for parts that are fed one after the other, with whatever comes after them; and beginnings of it.
-- Assumes nothing.
use Rattle.std.proofs.Common.{◌≡◌, ℕ, List, [], ◌∷◌, ◌++◌, take, sym, ap, ◌∙◌, append_assoc, append-nil}
use Rattle.script.specs.Text.{ended, unended}
use Rattle.script.specs.Machine.{Machine, machine, started}
use Rattle.script.specs.Session.{output, joined, answers_to, after_lines, most_held, held, pieces_with}
use Rattle.script.specs.Performed.{Feeds}
use Rattle.script.proofs.Parts.{in_parts, in_parts_lem}
use Rattle.script.proofs.Performed.{fed_goes}
use Rattle.script.specs.declared.session.Session.{Session}
use Rattle.heapscript.specs.Steps.{Begins}

-- With whatever comes after the input so far, the output is the text so far, and then what is written for the rest.
pub record Going (s : Session) (words bytes input text : List ℕ) (s' : Session) (words' bytes' : List ℕ) : Type 0 where
  pub goes : s.script ≡ started → s.held.count ≡ 0 → (parts : List (List ℕ))
      → output words bytes (input ++ joined parts) ≡ text ++ in_parts (machine s'.script words' bytes') (held s') parts

-- Before any part.
pub Going-none : (s : Session) (words bytes : List ℕ) → Going s words bytes [] [] s words bytes
Going-none s words bytes =
    record { goes = λ e z parts. rw (e, z) (sym (in_parts_lem words bytes parts)) }

module _ (s : Session) (words bytes input text : List ℕ) (s' : Session) (words' bytes' : List ℕ) (before : Going s words bytes input text s' words' bytes') (part : List ℕ) where
  -- One more part.
  pub Going-more : (f : Feeds s' words' bytes' part) → Going s words bytes (input ++ part) (text ++ take f.out.written f.room_after) f.s_after f.words_after f.bytes_after
  Going-more f =
      record {
        goes = λ e z parts.
            ap (λ x. output words bytes x) (append_assoc input part (joined parts))
            ∙ before.goes e z (part ∷ parts)
            ∙ ap (λ x. text ++ x) (fed_goes s' words' bytes' part f parts)
            ∙ sym (append_assoc text (take f.out.written f.room_after) _);
      }

  -- A beginning of the part's answers.
  pub Going-stops : (t : List ℕ) → Begins t (answers_to (machine s'.script words' bytes') (ended (pieces_with (held s') part))) → s.script ≡ started → s.held.count ≡ 0
      → (rest : List ℕ) → Begins (text ++ t) (output words bytes ((input ++ part) ++ rest))
  Going-stops t b e z rest =
      let m : Machine = after_lines (machine s'.script words' bytes') (ended (pieces_with (held s') part)) in
      let p : List ℕ = take most_held (unended (pieces_with (held s') part)) in
      let others : List ℕ = in_parts m p (rest ∷ []) in
      let same : (input ++ part) ++ rest ≡ input ++ (part ++ (rest ++ [])) =
      append_assoc input part rest ∙ ap (λ x. input ++ (part ++ x)) (sym (append-nil rest)) in
      let cut : text ++ ((t ++ b.more) ++ others) ≡ (text ++ t) ++ (b.more ++ others) = simp append_assoc in
      record {
        more = b.more ++ others;
        is =
            ap (λ x. output words bytes x) same
            ∙ before.goes e z (part ∷ rest ∷ [])
            ∙ ap (λ x. text ++ (x ++ others)) b.is
            ∙ cut;
      }
