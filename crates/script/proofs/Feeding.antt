-- The lines of an input that comes in parts, taken one after the other.
-- Assumes nothing.
use mathlib.Core.Path.{◌≡◌, refl, sym, ap, ◌∙◌}
use mathlib.Core.List.{List, [], ◌∷◌, ◌++◌, append_assoc, append-nil}
use Rattle.std.specs.Prelude.{Option, None, Some}
use Rattle.std.specs.List.{position}
use Prim.Native.Nat.{ℕ, ◌+◌, ◌*◌, ◌≤◌}
use native.Mathlib.Omega.{arith}
use lib.Dec.{eqb}
use lib.ListN.{length, take, drop, length-append, length-drop}
use lib.Seq.{sets, length-take-le}
use Rattle.script.specs.Text.{pieces, ended, unended, at_front}
use Rattle.script.specs.Commands.{read_line, answer_line}
use Rattle.script.specs.Machine.{Machine, machine, answer_to, after}
use Rattle.script.specs.Session.{answers_to, after_lines, held, pieces_with, taken_of}
use Rattle.script.specs.Promises.{fed_pieces, fed_text, FeedDone}
use Rattle.script.specs.Steps.{Put, held_with}
use Rattle.script.proofs.Lists.{sets_append, sets_front, front_counts}
use Rattle.script.proofs.Reading.{newline_none, newline_some}
use Rattle.script.proofs.Parts.{prefixed_none, ended_more, unended_more}
use Rattle.script.specs.declared.session.Session.{Session}
use Rattle.script.specs.declared.session.Fed.{Fed}
use Rattle.script.specs.declared.held.Held.{Held}
use Rattle.script.specs.declared.command.Command.{Command}

-- What is left to do of a part of the input, the rest with p before it, after what was written so far.
pub record Feeding (m₀ : Machine) (p₀ part room : List ℕ) (m : Machine) (p : List ℕ) (buffer : List ℕ) (end : ℕ) (rest : List ℕ) : Type 0 where
  pub most : end + 14 * length rest ≤ 14 * length part
  pub text : List ℕ
  pub written : end ≡ length text
  pub bytes : buffer ≡ sets room 0 text
  pub answers : answers_to m₀ (ended (pieces_with p₀ part)) ≡ text ++ answers_to m (ended (pieces_with p rest))
  pub leaves : after_lines m₀ (ended (pieces_with p₀ part)) ≡ after_lines m (ended (pieces_with p rest))
  pub begun : unended (pieces_with p₀ part) ≡ unended (pieces_with p rest)

-- At first nothing is written, and all of the part is left.
pub begin_feeding : (m : Machine) (p part room : List ℕ) → Feeding m p part room m p room 0 part
begin_feeding m p part room =
    record {
      most = omega arith;
      text = [];
      written = refl;
      bytes = refl;
      answers = refl;
      leaves = refl;
      begun = refl;
    }

module _ (m₀ : Machine) (p₀ part room : List ℕ) (m : Machine) (p buffer : List ℕ) (end : ℕ) (rest : List ℕ) (s : Feeding m₀ p₀ part room m p buffer end rest) where
  -- A newline at n ends a line, whose answer is written after the others; what is left begins after the newline, with nothing before it.
  pub feed_line : (n : ℕ) → position (λ b. eqb b 10) rest ≡ Some n
      → (k : Option Command) → k ≡ read_line (p ++ take n rest)
      → (m' : Machine) → m' ≡ after m k → (buffer' : List ℕ) (end' : ℕ) → Put (answer_line (answer_to m k)) buffer end end' buffer' → end' ≤ end + 14
      → (rest' : List ℕ) → rest' ≡ drop (n + 1) rest → Feeding m₀ p₀ part room m' [] buffer' end' rest'
  feed_line n at k is m' e buffer' end' put most rest' after_line =
      rw after_line
      (let cut = newline_some rest n at in
      let a : List ℕ = answer_line (answer_to m k) in
      let line : List ℕ = p ++ take n rest in
      let others : List (List ℕ) = pieces_with [] (drop (n + 1) rest) in
      let first : pieces_with p rest ≡ line ∷ others = rw (cut.1, prefixed_none) in
      let f : ended (pieces_with p rest) ≡ line ∷ ended others = ap ended first ∙ ended_more line [] (pieces 10 (drop (n + 1) rest)) in
      let z : end ≡ 0 + length s.text = omega (arith, s.written) in
      record {
        most = omega (arith, s.most, cut.0, length-drop (n + 1) rest);
        text = s.text ++ a;
        written = rw length-append (omega (arith, put.end, s.written));
        bytes =
            put.bytes
            ∙ ap (λ (b : List ℕ). sets b end a) s.bytes
            ∙ ap (λ (k : ℕ). sets (sets room 0 s.text) k a) z
            ∙ sets_append room 0 s.text a;
        answers =
            s.answers
            ∙ ap (λ (ls : List (List ℕ)). s.text ++ answers_to m ls) f
            ∙ ap (λ (k : Option Command). s.text ++ (answer_line (answer_to m k) ++ answers_to (after m k) (ended others))) (sym is)
            ∙ sym (append_assoc s.text a (answers_to (after m k) (ended others)))
            ∙ ap (λ (x : Machine). (s.text ++ a) ++ answers_to x (ended others)) (sym e);
        leaves = s.leaves ∙ ap (after_lines m) f ∙ ap (λ (k : Option Command). after_lines (after m k) (ended others)) (sym is) ∙ ap (λ (x : Machine). after_lines x (ended others)) (sym e);
        begun = s.begun ∙ ap unended first ∙ unended_more line [] (pieces 10 (drop (n + 1) rest));
      })

-- With no newline left, the part is done: what is left is held.
module _ (s : Session) (words bytes input room : List ℕ) (now : Session) (words_after bytes_after buffer : List ℕ) (end taken : ℕ) (rest : List ℕ) (t : taken ≡ taken_of input room)
    (f : Feeding (machine s.script words bytes) (held s) (take taken input) room (machine now.script words_after bytes_after) (held now) buffer end rest)
    (over : position (λ b. eqb b 10) rest ≡ None) where
  -- The part has so many bytes.
  whole : length (take taken input) ≡ taken
  whole = length-take-le taken input (omega (arith, t))

  -- Its pieces are those that are promised.
  same_pieces : fed_pieces s words bytes input room ≡ pieces_with (held s) (take taken input)
  same_pieces = rw (← t)

  -- One piece is left, which no newline ends.
  last_piece : pieces_with (held now) rest ≡ (held now ++ rest) ∷ []
  last_piece = rw (newline_none rest over)

  -- What was written are the answers to the others.
  same_text : fed_text s words bytes input room ≡ f.text
  same_text =
      ap (λ (ls : List (List ℕ)). answers_to (machine s.script words bytes) (ended ls)) same_pieces
      ∙ f.answers
      ∙ ap (λ (ls : List (List ℕ)). f.text ++ answers_to (machine now.script words_after bytes_after) (ended ls)) last_piece
      ∙ append-nil f.text

  -- That piece is what is begun.
  begun_piece : unended (fed_pieces s words bytes input room) ≡ held now ++ rest
  begun_piece = ap unended same_pieces ∙ f.begun ∙ ap unended last_piece

  -- So the promise is kept.
  pub fed_done : now.held.line ≡ s.held.line → (h : Held) → h ≡ held_with now.held rest
      → (room_after : List ℕ) → room_after ≡ buffer
      → FeedDone s words bytes input room (record { taken = taken; written = end }) (record { script = now.script; held = h }) words_after bytes_after room_after
  fed_done same h e room_after stored =
      record {
        taken = t;
        written = f.written ∙ ap length (sym same_text);
        buffer =
            stored
            ∙ f.bytes
            ∙ sets_front f.text room (omega (arith, f.written, f.most, whole, t))
            ∙ ap (λ (x : List ℕ). at_front x room) (sym same_text);
        leaves =
            sym (ap (λ (ls : List (List ℕ)). after_lines (machine s.script words bytes) (ended ls)) same_pieces
            ∙ f.leaves
            ∙ ap (λ (ls : List (List ℕ)). after_lines (machine now.script words_after bytes_after) (ended ls)) last_piece);
        line = ap (λ (x : Held). x.line) e ∙ rw (begun_piece, same);
        count = ap (λ (x : Held). x.count) e ∙ rw begun_piece;
      }

-- What was written is the buffer's first bytes.
pub fed_counts : {s : Session} {words bytes input room : List ℕ} {out : Fed} {s_after : Session} {words_after bytes_after room_after : List ℕ} → FeedDone s words bytes input room out s_after words_after bytes_after room_after
    → (out.written ≤ length room_after) × (out.written ≡ length (take out.written room_after))
fed_counts {s} {words} {bytes} {input} {room} {out} {s_after} {words_after} {bytes_after} {room_after} d =
    front_counts (fed_text s words bytes input room) room room_after out.written d.written d.buffer
