-- What the program promises of a whole script, at a reader and a writer whose bytes are known.
-- Assumes nothing.
use Rattle.std.specs.Prelude.{ℕ, ◌-◌, ◌^◌, ◌<◌, List, length, Option, IfSome}
use Rattle.std.specs.Io.KnownBytes.{Consumes, Appends, IsAtEnd}
use Rattle.script.specs.Session.{output}
use Rattle.heapscript.specs.Steps.{Begins}

-- A reader had these bytes and has those, a writer held these and holds those, and these words and bytes were lent.
-- What was written is the output for what was read, and all was read, unless the input has 2^64 - 1 bytes or more.
pub record AnswersScript (unread still_unread held holds : Option (List ℕ)) (words bytes : List ℕ) : Type 0 where
  pub input : List ℕ
  pub read : Consumes unread still_unread input
  pub written : Appends held holds (output words bytes input)
  pub whole : length input < 2 ^ 64 - 1 → IsAtEnd still_unread

-- Where reading or writing fails, what was written is a beginning of the output for the reader's whole input, again unless that has 2^64 - 1 bytes or more.
pub record StopsScript (unread held holds : Option (List ℕ)) (words bytes : List ℕ) : Type 0 where
  pub text : List ℕ
  pub written : Appends held holds text
  pub begins : IfSome unread (λ input. length input < 2 ^ 64 - 1 → Begins text (output words bytes input))
