-- The end of an input: what is held is answered, and the rows and the totals come after it.
-- Assumes nothing.
use mathlib.Core.Path.{◌≡◌, refl, ◌∙◌, subst}
use mathlib.Core.Bool.{true, false}
use mathlib.Core.List.{List, [], ◌∷◌, ◌++◌, append-nil}
use Rattle.std.specs.Prelude.{Option, None, Some}
use Prim.Native.Nat.{ℕ, ◌≤◌, ◌<◌}
use native.Mathlib.Omega.{arith}
use lib.Dec.{leb}
use borrow.Author.Tests.{le-leb, lt-leb}
use Rattle.model.proofs.Choosing.{split}
use lib.ListN.{length, take, length-take}
use Rattle.script.specs.Text.{unless_empty, at_front}
use Rattle.script.specs.Commands.{read_line, answer_line}
use Rattle.script.specs.Machine.{Machine, machine, answer_to, closing}
use Rattle.script.specs.Session.{answers_to, after_lines, held}
use Rattle.script.specs.Promises.{WriteDone, end_most, last_lines, FinishDone}
use Rattle.script.specs.Steps.{Put}
use Rattle.script.proofs.Lists.{sets_front, front_counts}
use Rattle.script.proofs.Writing.{put_append}
use Rattle.script.specs.declared.command.Command.{Command}
use Rattle.script.specs.declared.session.Session.{Session}

-- What has bytes is a line.
unless_empty_lem : (l : List ℕ) → 1 ≤ length l → unless_empty l ≡ l ∷ []
unless_empty_lem [] h = absurd (omega arith)
unless_empty_lem (b ∷ bs) h = refl

-- If something is held, it is the line that is left.
one_left : (s : Session) → 1 ≤ s.held.count → length s.held.line ≡ 81 → last_lines s ≡ held s ∷ []
one_left s one whole = unless_empty_lem (held s) (rw length-take (omega arith))

-- Its answer is what is written for what is left.
pub one_answer : (s : Session) (m : Machine) (k : Option Command) → 1 ≤ s.held.count → length s.held.line ≡ 81 → k ≡ read_line (held s)
    → answer_line (answer_to m k) ≡ answers_to m (last_lines s)
one_answer s m k one whole e = rw (one_left s one whole, append-nil, ← e)

-- A text that was put at the front of a buffer that has room is promised so.
pub write_bytes : (text room : List ℕ) (needed out : ℕ) (room_after : List ℕ) → needed ≤ length room → length text ≤ length room → Put text room 0 out room_after
    → WriteDone text needed room (Some out) room_after
write_bytes text room needed out room_after h fits put =
    let q : leb needed (length room) ≡ true = le-leb _ _ h in
    let e : out ≡ length text = omega (arith, put.end) in
    record { written = rw (q, e); buffer = rw q (put.bytes ∙ sets_front text room fits) }

-- In a buffer that is too short nothing is put.
pub write_none : (text room : List ℕ) (needed : ℕ) → length room < needed → WriteDone text needed room None room
write_none text room needed h =
    let q : leb needed (length room) ≡ false = lt-leb _ _ h in
    record { written = rw q; buffer = rw q }

module _ (s : Session) (words bytes room : List ℕ) where
  -- Too short a buffer: nothing is done.
  pub finish_short : length room < end_most → FinishDone s words bytes room None words bytes room
  finish_short h =
      let q : leb end_most (length room) ≡ false = lt-leb _ _ h in
      record { put = write_none _ room end_most h; table = rw q; arena = rw q }

  -- The text of the line that is left, and what comes after it, in a buffer that has room.
  pub finish_done : end_most ≤ length room → (now : Session) (words_after bytes_after : List ℕ)
      → machine now.script words_after bytes_after ≡ after_lines (machine s.script words bytes) (last_lines s)
      → (mid : ℕ) (between : List ℕ) → Put (answers_to (machine s.script words bytes) (last_lines s)) room 0 mid between
      → (out : ℕ) (buffer : List ℕ) → Put (closing (machine now.script words_after bytes_after)) between mid out buffer → out ≤ end_most
      → (room_after : List ℕ) → room_after ≡ buffer → FinishDone s words bytes room (Some out) words_after bytes_after room_after
  finish_done h now words_after bytes_after leaves mid between answers out buffer closes most room_after stored =
      let q : leb end_most (length room) ≡ true = le-leb _ _ h in
      let put = put_append answers closes in
      record {
        put =
            subst (λ (m : Machine). WriteDone (answers_to (machine s.script words bytes) (last_lines s) ++ closing m) end_most room (Some out) room_after) leaves
            (rw stored
            (write_bytes (answers_to (machine s.script words bytes) (last_lines s) ++ closing (machine now.script words_after bytes_after)) room end_most out buffer h (omega (arith, put.end)) put));
        table = rw (q, ← leaves);
        arena = rw (q, ← leaves);
      }

-- Where bytes were written, there was room.
pub has_room : {text : List ℕ} {needed : ℕ} {room : List ℕ} {n : ℕ} {room_after : List ℕ} → WriteDone text needed room (Some n) room_after
    → (leb needed (length room) ≡ true) × (n ≡ length text) × (room_after ≡ at_front text room)
has_room {text} {needed} {room} {n} {room_after} d =
    split (leb needed (length room))
    (λ q.
    let e : Some n ≡ Some (length text) = rw q at d.written in
    let z : n ≡ length text = cc in
    (q, z, rw q at d.buffer))
    (λ q. let e : Some n ≡ None = rw q at d.written in let z : ◌≡◌ {A = ℕ} 0 1 = cc in absurd (omega arith))

-- What was written is the buffer's first bytes.
pub write_counts : {text : List ℕ} {needed : ℕ} {room : List ℕ} {out : Option ℕ} {room_after : List ℕ} → WriteDone text needed room out room_after
    → (n : ℕ) → out ≡ Some n → (n ≤ length room_after) × (n ≡ length (take n room_after))
write_counts {text} {needed} {room} {out} {room_after} d n e =
    let h = has_room (subst (λ (w : Option ℕ). WriteDone text needed room w room_after) e d) in
    front_counts text room room_after n h.1 h.2
