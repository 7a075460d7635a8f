-- Bytes as text: the pieces between separators, and numbers in decimal digits, read and written.
-- Assumes nothing.
use Rattle.std.specs.Prelude.{ℕ, zero, suc, ◌+◌, ◌-◌, ◌*◌, ◌/◌, ◌%◌, Bool, if◌then◌else◌, ◌&&◌, List, [], ◌∷◌, ◌++◌, leb, ltb, eqb, length, drop, Option, None, Some}
use Rattle.std.specs.List.{list_all}
use Prim.Native.Char.{code}
use Prim.Native.String.{String, len, char_at}
use Rattle.model.specs.Quantities.{within}

-- The n characters of a text from place i on, as bytes.
abbrev pub bytes_from : String → ℕ → ℕ → List ℕ
bytes_from text i zero = []
bytes_from text i (suc n) = code (char_at text i) ∷ bytes_from text (suc i) n

-- A text in ASCII is a byte for each character.
abbrev pub ascii : String → List ℕ
ascii text = bytes_from text 0 (len text)

-- Bytes that stand before the first piece belong to it.
abbrev pub prefixed : List ℕ → List (List ℕ) → List (List ℕ)
prefixed p [] = p ∷ []
prefixed p (f ∷ fs) = (p ++ f) ∷ fs

-- A separator ends a piece and begins the next: there is one piece more than there are separators, and each may be empty.
abbrev pub pieces : ℕ → List ℕ → List (List ℕ)
pieces s [] = [] ∷ []
pieces s (b ∷ bs) = if eqb b s then [] ∷ pieces s bs else prefixed (b ∷ []) (pieces s bs)

-- The pieces that a separator ends are all but the last.
abbrev pub ended : List (List ℕ) → List (List ℕ)
ended [] = []
ended (f ∷ []) = []
ended (f ∷ g ∷ fs) = f ∷ ended (g ∷ fs)

-- The last piece is what stands after the last separator.
abbrev pub unended : List (List ℕ) → List ℕ
unended [] = []
unended (f ∷ []) = f
unended (f ∷ g ∷ fs) = unended (g ∷ fs)

-- What stands after the last newline is a line only if there is anything.
abbrev pub unless_empty : List ℕ → List (List ℕ)
unless_empty [] = []
unless_empty (b ∷ bs) = (b ∷ bs) ∷ []

-- The lines of an input end in a newline (byte 10); that of the last may be missing.
abbrev pub lines_of : List ℕ → List (List ℕ)
lines_of bytes = ended (pieces 10 bytes) ++ unless_empty (unended (pieces 10 bytes))

-- The fields of a line are separated by one space (byte 32).
abbrev pub fields_of : List ℕ → List (List ℕ)
fields_of line = pieces 32 line

-- A decimal digit is one of the bytes 48 to 57, `0` to `9`.
abbrev pub is_digit : ℕ → Bool
is_digit b = within 48 57 b

-- The value of digits that follow others, whose value is v.
abbrev pub value_from : ℕ → List ℕ → ℕ
value_from v [] = v
value_from v (d ∷ ds) = value_from (10 * v + (d - 48)) ds

-- The value of decimal digits, the most significant first.
abbrev pub value_of : List ℕ → ℕ
value_of ds = value_from 0 ds

-- A number is 1 to 10 decimal digits, and at most 4,294,967,295.
abbrev pub is_number : List ℕ → Bool
is_number f = within 1 10 (length f) && list_all is_digit f && leb (value_of f) 4294967295

-- The number in a field, if there is one.
unfoldable pub number_in : List ℕ → Option ℕ
number_in f = if is_number f then Some (value_of f) else None

-- The digits of n, the most significant first, at most k of them.
abbrev pub digits_within : ℕ → ℕ → List ℕ
digits_within zero n = []
digits_within (suc k) n = if ltb n 10 then (48 + n) ∷ [] else digits_within k (n / 10) ++ ((48 + n % 10) ∷ [])

-- A number is written in decimal digits with no zero before it; n has at most n + 1 of them. std's `decimal` has 64 at most.
unfoldable pub decimal : ℕ → List ℕ
decimal n = digits_within (suc n) n

-- Each number stands after one space.
abbrev pub spaced : List ℕ → List ℕ
spaced [] = []
spaced (n ∷ ns) = 32 ∷ (decimal n ++ spaced ns)

-- A line that is written is a word, its numbers and a newline.
abbrev pub line_of : List ℕ → List ℕ → List ℕ
line_of word ns = word ++ (spaced ns ++ (10 ∷ []))

-- A text that is put at the front of a buffer leaves the bytes after it as they were.
abbrev pub at_front : List ℕ → List ℕ → List ℕ
at_front text buffer = text ++ drop (length text) buffer
