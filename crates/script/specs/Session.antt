-- A whole script: what is written for an input; and what is held of a line whose newline has not come yet.
-- Assumes nothing.
use Rattle.std.specs.Prelude.{ℕ, ◌/◌, min, List, [], ◌∷◌, ◌++◌, length, take}
use Rattle.script.specs.Text.{prefixed, pieces, lines_of}
use Rattle.script.specs.Commands.{read_line, answer_line, answer_most}
use Rattle.script.specs.Machine.{Machine, machine, started, answer_to, after, closing}
use Rattle.script.specs.declared.held.Held.{Held}
use Rattle.script.specs.declared.session.Session.{Session}

-- Each line is answered, in order.
abbrev pub answers_to : Machine → List (List ℕ) → List ℕ
answers_to m [] = []
answers_to m (l ∷ ls) = answer_line (answer_to m (read_line l)) ++ answers_to (after m (read_line l)) ls

-- Each line is carried out on what the one before left.
abbrev pub after_lines : Machine → List (List ℕ) → Machine
after_lines m [] = m
after_lines m (l ∷ ls) = after_lines (after m (read_line l)) ls

-- The answers to the lines, then what comes at the end.
abbrev pub answers_and_closing : Machine → List (List ℕ) → List ℕ
answers_and_closing m ls = answers_to m ls ++ closing (after_lines m ls)

-- The whole output for an input, with these words and bytes lent.
abbrev pub output : List ℕ → List ℕ → List ℕ → List ℕ
output table arena input = answers_and_closing (machine started table arena) (lines_of input)

-- Of a line whose newline has not come yet the first 81 bytes are held: one more than a line may have.
abbrev pub most_held : ℕ
most_held = 81

-- What is held are the first bytes of 81.
abbrev pub held_bytes : Held → List ℕ
held_bytes h = take h.count h.line

-- A session holds what has come of a line.
abbrev pub held : Session → List ℕ
held s = held_bytes s.held

-- With a part of the input these are the pieces: the first goes on with what is held, and the last has no newline yet.
abbrev pub pieces_with : List ℕ → List ℕ → List (List ℕ)
pieces_with p part = prefixed p (pieces 10 part)

-- The parts one after the other.
abbrev pub joined : List (List ℕ) → List ℕ
joined [] = []
joined (part ∷ parts) = part ++ joined parts

-- Of an input so many bytes are taken at once that all answers have room: each line takes a byte at least, and its answer `answer_most` at most.
abbrev pub taken_of : List ℕ → List ℕ → ℕ
taken_of input buffer = min (length input) (length buffer / answer_most)
