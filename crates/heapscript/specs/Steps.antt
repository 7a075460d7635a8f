-- What the program's inner functions promise.
-- Assumes nothing.
use Rattle.std.specs.Prelude.{◌≡◌, ℕ, ◌-◌, ◌^◌, ◌<◌, List, ◌++◌, length, take, Option}
use Rattle.std.specs.Io.KnownBytes.{Consumes, Appends, IsAtEnd}
use Rattle.script.specs.Text.{ended}
use Rattle.script.specs.Machine.{machine, started}
use Rattle.script.specs.Session.{joined, output, answers_to, held, pieces_with}
use Rattle.script.specs.Performed.{Feeds, Finishes, Performed}
use Rattle.script.specs.declared.session.Session.{Session}

-- A text begins with another.
pub record Begins (text whole : List ℕ) : Type 0 where
  pub more : List ℕ
  pub is : whole ≡ text ++ more

-- A part of n bytes was read and fed, and what that put was written. The part is empty only at the end of the input.
pub record AnswersPart (unread still_unread held holds : Option (List ℕ)) (s : Session) (words bytes : List ℕ) (s_after : Session) (words_after bytes_after : List ℕ) (n : ℕ) : Type 0 where
  pub part : List ℕ
  pub size : length part ≡ n
  pub read : Consumes unread still_unread part
  pub end : n ≡ 0 → IsAtEnd still_unread
  pub fed : Feeds s words bytes part
  pub session : s_after ≡ fed.s_after
  pub table : words_after ≡ fed.words_after
  pub arena : bytes_after ≡ fed.bytes_after
  pub written : Appends held holds (take fed.out.written fed.room_after)

-- Reading failed, or writing did after a part was read: what was written is a beginning of the answers to the lines that end in it.
pub record StopsPart (unread still_unread was_held holds : Option (List ℕ)) (s : Session) (words bytes : List ℕ) : Type 0 where
  pub part : List ℕ
  pub text : List ℕ
  pub read : Consumes unread still_unread part
  pub written : Appends was_held holds text
  pub begins : Begins text (answers_to (machine s.script words bytes) (ended (pieces_with (held s) part)))

-- An input was fed, part by part, and a text was put for it: with whatever is fed after it, all that is put is that text and then what is put for the rest.
pub record FeedsOn (s : Session) (words bytes input text : List ℕ) (s_after : Session) (words_after bytes_after : List ℕ) : Type 0 where
  pub goes_on : (parts : List (List ℕ)) (rest : List ℕ) → Performed s_after words_after bytes_after parts rest
      → (all : List (List ℕ)) × (joined all ≡ input ++ joined parts) × Performed s words bytes all (text ++ rest)

-- An input was read, fed, and what that put was written: all of the input, unless it has 2^64 - 1 bytes or more.
pub record AnswersInput (unread still_unread held holds : Option (List ℕ)) (s : Session) (words bytes : List ℕ) (s_after : Session) (words_after bytes_after : List ℕ) : Type 0 where
  pub input : List ℕ
  pub text : List ℕ
  pub read : Consumes unread still_unread input
  pub whole : length input < 2 ^ 64 - 1 → IsAtEnd still_unread
  pub fed : FeedsOn s words bytes input text s_after words_after bytes_after
  pub written : Appends held holds text

-- From a session's start on, reading or writing failed: whatever comes after what was read, what was written is a beginning of the output for all.
pub record StopsInput (unread still_unread was_held holds : Option (List ℕ)) (s : Session) (words bytes : List ℕ) : Type 0 where
  pub input : List ℕ
  pub text : List ℕ
  pub read : Consumes unread still_unread input
  pub written : Appends was_held holds text
  pub begins : s.script ≡ started → s.held.count ≡ 0 → (rest : List ℕ) → Begins text (output words bytes (input ++ rest))

-- What comes at the end was put, and written.
pub record WritesEnd (held holds : Option (List ℕ)) (s : Session) (words bytes : List ℕ) : Type 0 where
  pub finished : Finishes s words bytes
  pub written : Appends held holds (take finished.out finished.room_after)

-- What comes at the end was put, and some of its first bytes were written.
pub record StopsEnd (was_held holds : Option (List ℕ)) (s : Session) (words bytes : List ℕ) : Type 0 where
  pub finished : Finishes s words bytes
  pub count : ℕ
  pub written : Appends was_held holds (take count (take finished.out finished.room_after))
