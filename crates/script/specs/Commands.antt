-- What a line of a script may be, and what is written in answer.
-- Assumes nothing.
use Rattle.std.specs.Prelude.{ℕ, zero, suc, List, [], ◌∷◌, leb, length, codes, if◌then◌else◌, Option, None, Some, Result}
use Rattle.std.specs.Str.{bytes_eq}
use Rattle.model.specs.Numbers.{number_of, init_number_of, Numbered, in_numbers}
use Rattle.script.specs.Text.{ascii, fields_of, number_in, line_of}
use Rattle.script.specs.declared.command.Command.{Command}
use Rattle.script.specs.declared.command.Command.TheVariants.{Limit, Make, Ask, Back}
use Rattle.script.specs.declared.answer.Why.{Why}
use Rattle.script.specs.declared.answer.Why.TheVariants as why

-- A word with three numbers is `limit O G B` or `ask O N A`.
abbrev pub with_three : List ℕ → Option ℕ → Option ℕ → Option ℕ → Option Command
with_three w (Some a) (Some b) (Some c) =
    if bytes_eq w (codes "limit") then Some (Limit a b c) else (if bytes_eq w (codes "ask") then Some (Ask a b c) else None)
with_three w (Some a) (Some b) None = None
with_three w (Some a) None c = None
with_three w None b c = None

-- A word with two numbers is `make BYTES ROWS` or `back O OFFSET`.
abbrev pub with_two : List ℕ → Option ℕ → Option ℕ → Option Command
with_two w (Some a) (Some b) =
    if bytes_eq w (codes "make") then Some (Make a b) else (if bytes_eq w (codes "back") then Some (Back a b) else None)
with_two w (Some a) None = None
with_two w None b = None

-- A command is a word and two or three numbers; with fewer fields or more it cannot be read.
abbrev pub command_of : List (List ℕ) → Option Command
command_of [] = None
command_of (w ∷ []) = None
command_of (w ∷ a ∷ []) = None
command_of (w ∷ a ∷ b ∷ []) = with_two w (number_in a) (number_in b)
command_of (w ∷ a ∷ b ∷ c ∷ []) = with_three w (number_in a) (number_in b) (number_in c)
command_of (w ∷ a ∷ b ∷ c ∷ d ∷ fs) = None

-- A line is at most 80 bytes without its newline. `None` is a line that cannot be read.
unfoldable pub read_line : List ℕ → Option Command
read_line line = if leb (length line) 80 then command_of (fields_of line) else None

-- Each reason has its number; 14 is a line that cannot be read.
abbrev pub why_number : Why → ℕ
why_number (why.Call r) = number_of r
why_number (why.Make r) = init_number_of r
why_number why.Unreadable = 14

-- The number and the value of each answer: 0 and V, or the reason's number and 0.
abbrev pub answer_numbered : Result ℕ Why → Numbered
answer_numbered = in_numbers why_number (λ v. v ∷ []) 1

-- `ok V` is written where there is no number, `no N` where there is.
abbrev pub numbered_line : ℕ → List ℕ → List ℕ
numbered_line zero values = line_of (ascii "ok") values
numbered_line (suc n) values = line_of (ascii "no") (suc n ∷ [])

-- An answer is written by its number and its value.
abbrev pub answer_line : Result ℕ Why → List ℕ
answer_line a = numbered_line (answer_numbered a).0 (answer_numbered a).1

-- An answer's line has at most so many bytes: `ok`, a space, ten digits and a newline.
abbrev pub answer_most : ℕ
answer_most = 14
