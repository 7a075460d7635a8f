-- What the functions of the crate promise for every input and every state.
-- Assumes nothing.
use Rattle.std.specs.Prelude.{ℕ, ◌+◌, ◌*◌, ◌≡◌, List, leb, length, take, Option, None, Some, if◌then◌else◌}
use Rattle.script.specs.Text.{ended, unended, unless_empty, at_front}
use Rattle.script.specs.Commands.{answer_most}
use Rattle.script.specs.Machine.{Machine, machine}
use Rattle.script.specs.Session.{answers_to, after_lines, answers_and_closing, most_held, held, pieces_with, taken_of}
use Rattle.script.specs.declared.session.Session.{Session}
use Rattle.script.specs.declared.session.Fed.{Fed}

-- A part of the input, of which so much is taken that the answers have room in the buffer.
module _ (s : Session) (words bytes input room : List ℕ) where
  -- The lines that end in it, after what was held, and what is begun there.
  abbrev pub fed_pieces : List (List ℕ)
  fed_pieces = pieces_with (held s) (take (taken_of input room) input)

  -- The answers to these lines.
  abbrev pub fed_text : List ℕ
  fed_text = answers_to (machine s.script words bytes) (ended fed_pieces)

  -- The answers are put at the front of the buffer, the lines are carried out, and what is begun is held.
  pub record FeedDone (out : Fed) (s_after : Session) (words_after bytes_after room_after : List ℕ) : Type 0 where
    pub taken : out.taken ≡ taken_of input room
    pub written : out.written ≡ length fed_text
    pub buffer : room_after ≡ at_front fed_text room
    pub leaves : machine s_after.script words_after bytes_after ≡ after_lines (machine s.script words bytes) (ended fed_pieces)
    pub line : s_after.held.line ≡ at_front (take most_held (unended fed_pieces)) s.held.line
    pub count : s_after.held.count ≡ length (take most_held (unended fed_pieces))

-- A text, put at the front of a buffer that has at least so many bytes. A shorter buffer stays as it was, and that is answered.
pub record WriteDone (text : List ℕ) (needed : ℕ) (room : List ℕ) (out : Option ℕ) (room_after : List ℕ) : Type 0 where
  pub written : out ≡ (if leb needed (length room) then Some (length text) else None)
  pub buffer : room_after ≡ (if leb needed (length room) then at_front text room else room)

-- What is written at the end has at most so many bytes: an answer, 512 rows of at most 50 bytes, and the totals, at most 50 bytes too.
abbrev pub end_most : ℕ
end_most = answer_most + (512 * 50 + 50)

-- At the end of the input what is held is a line without its newline, unless nothing is.
abbrev pub last_lines : Session → List (List ℕ)
last_lines s = unless_empty (held s)

-- The end of the input.
module _ (s : Session) (words bytes room : List ℕ) where
  -- That line is carried out; if there is no room, nothing is.
  abbrev pub left : Machine
  left =
      if leb end_most (length room) then after_lines (machine s.script words bytes) (last_lines s) else machine s.script words bytes

  -- The text is put into the buffer, and the words and bytes are as the last line leaves them.
  pub record FinishDone (out : Option ℕ) (words_after bytes_after room_after : List ℕ) : Type 0 where
    pub put : WriteDone (answers_and_closing (machine s.script words bytes) (last_lines s)) end_most room out room_after
    pub table : words_after ≡ left.table
    pub arena : bytes_after ≡ left.arena
