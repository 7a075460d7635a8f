-- However an input is cut into parts, what is written for them is what is written for the whole.
-- Assumes nothing.
use mathlib.Core.Path.{◌≡◌, refl, sym, ap, ◌∙◌}
use mathlib.Core.List.{List, [], ◌∷◌, ◌++◌, append-nil, append_assoc}
use Prim.Native.Nat.{ℕ, ◌≤◌, ◌<◌}
use native.Mathlib.Omega.{arith}
use lib.Dec.{leb, eqb}
use lib.ListN.{length, take, length-append, length-take}
use lib.Seq.{take_all, take-append-le, take-take}
use borrow.Author.Tests.{leb-true, leb-false}
use Rattle.model.proofs.Choosing.{split, tests}
use Rattle.script.specs.Text.{prefixed, pieces, ended, unended, unless_empty}
use Rattle.script.specs.Commands.{read_line}
use Rattle.script.specs.Machine.{Machine, machine, started, after}
use Rattle.script.specs.Session.{answers_to, after_lines, answers_and_closing, output, most_held, pieces_with, joined}
use Rattle.script.proofs.Reading.{long_line}

-- Bytes before bytes before the first piece stand before it together.
prefixed_twice : (p q : List ℕ) (fs : List (List ℕ)) → prefixed p (prefixed q fs) ≡ prefixed (p ++ q) fs
prefixed_twice p q [] = refl
prefixed_twice p q (f ∷ fs) = rw append_assoc

-- There is always a piece.
pub prefixed_none : (s : ℕ) (bs : List ℕ) → prefixed [] (pieces s bs) ≡ pieces s bs
prefixed_none s [] = refl
prefixed_none s (b ∷ bs) = split (eqb b s) (λ q. rw q) (λ q. rw q (prefixed_twice [] (b ∷ []) (pieces s bs)))

-- A piece before others is ended.
pub ended_more : (x q : List ℕ) (fs : List (List ℕ)) → ended (x ∷ prefixed q fs) ≡ x ∷ ended (prefixed q fs)
ended_more x q [] = refl
ended_more x q (f ∷ fs) = refl

-- It is not the last.
pub unended_more : (x q : List ℕ) (fs : List (List ℕ)) → unended (x ∷ prefixed q fs) ≡ unended (prefixed q fs)
unended_more x q [] = refl
unended_more x q (f ∷ fs) = refl

-- Pieces and then others: the last of the first goes on with the first of the others.
abbrev followed : List (List ℕ) → List (List ℕ) → List (List ℕ)
followed fs gs = ended fs ++ prefixed (unended fs) gs

-- Bytes before the first piece stand before the first of both.
prefixed_followed : (p : List ℕ) (fs gs : List (List ℕ)) → prefixed p (followed fs gs) ≡ followed (prefixed p fs) gs
prefixed_followed p [] gs = rw (prefixed_twice, append-nil)
prefixed_followed p (f ∷ []) gs = prefixed_twice p f gs
prefixed_followed p (f ∷ g ∷ fs) gs = refl

-- A piece before others stays by itself.
piece_followed : (f : List ℕ) (fs gs : List (List ℕ)) → prefixed [] fs ≡ fs → f ∷ followed fs gs ≡ followed (f ∷ fs) gs
piece_followed f [] gs e = cc
piece_followed f (g ∷ fs) gs e = refl

-- The pieces of bytes and then others.
pieces_append : (s : ℕ) (xs ys : List ℕ) → pieces s (xs ++ ys) ≡ followed (pieces s xs) (pieces s ys)
pieces_append s [] ys = sym (prefixed_none s ys)
pieces_append s (b ∷ xs) ys =
    split (eqb b s)
    (λ q. rw (q, pieces_append s xs ys) (piece_followed [] (pieces s xs) (pieces s ys) (prefixed_none s xs)))
    (λ q. rw (q, pieces_append s xs ys) (prefixed_followed (b ∷ []) (pieces s xs) (pieces s ys)))

-- The lines of pieces: those that are ended, and the last unless it is empty.
abbrev lines_in : List (List ℕ) → List (List ℕ)
lines_in fs = ended fs ++ unless_empty (unended fs)

-- Pieces before others are lines.
lines_before : (fs : List (List ℕ)) (p : List ℕ) (gs : List (List ℕ)) → lines_in (fs ++ prefixed p gs) ≡ fs ++ lines_in (prefixed p gs)
lines_before [] p gs = refl
lines_before (f ∷ []) p [] = refl
lines_before (f ∷ []) p (g ∷ gs) = refl
lines_before (f ∷ h ∷ fs) p gs = ap (λ ls. f ∷ ls) (lines_before (h ∷ fs) p gs)

-- With p begun, the lines of bytes and then others are those that end in the first, and then those of the others with what the first began.
lines_append : (p xs ys : List ℕ) → lines_in (pieces_with p (xs ++ ys)) ≡ ended (pieces_with p xs) ++ lines_in (pieces_with (unended (pieces_with p xs)) ys)
lines_append p xs ys =
    rw (pieces_append 10 xs ys, prefixed_followed p (pieces 10 xs) (pieces 10 ys))
    (lines_before (ended (pieces_with p xs)) (unended (pieces_with p xs)) (pieces 10 ys))

-- Of what is begun the first 81 bytes say how the line is read.
begun_reads : (p f : List ℕ) → read_line (take most_held p ++ f) ≡ read_line (p ++ f)
begun_reads p f =
    split (leb (length p) 81)
    (λ q. rw (take_all 81 p (leb-true (length p) 81 q)))
    (λ q.
    let long : 81 < length p = leb-false (length p) 81 q in
    sym (long_line (take 81 p ++ f) (simp (length-append, length-take) (omega arith)))
    ∙ long_line (p ++ f) (simp length-append (omega arith)))

-- So the first 81 bytes of a line say how it is read.
pub first_reads : (l : List ℕ) → read_line (take most_held l) ≡ read_line l
first_reads l = simp append-nil at (begun_reads l [])

-- Of what is begun the first 81 bytes say what is held of it.
begun_held : (p f : List ℕ) → take most_held (take most_held p ++ f) ≡ take most_held (p ++ f)
begun_held p f =
    split (leb (length p) 81)
    (λ q. rw (take_all 81 p (leb-true (length p) 81 q)))
    (λ q.
    let long : 81 ≤ length p = omega tests in
    let full : 81 ≤ length (take 81 p) = simp length-take (omega arith) in
    rw (take-append-le 81 (take 81 p) f full, take-append-le 81 p f long) (take-take 81 81 p (omega arith)))

-- Of what is begun the first 81 bytes say what is answered and left.
begun_lines : (m : Machine) (p : List ℕ) (fs : List (List ℕ))
    → (answers_to m (ended (prefixed (take most_held p) fs)) ≡ answers_to m (ended (prefixed p fs)))
    × (after_lines m (ended (prefixed (take most_held p) fs)) ≡ after_lines m (ended (prefixed p fs)))
begun_lines m p [] = (refl, refl)
begun_lines m p (f ∷ []) = (refl, refl)
begun_lines m p (f ∷ g ∷ fs) = (rw begun_reads, rw begun_reads)

-- Of what is begun the first 81 bytes say what is held after a part.
begun_holds : (p : List ℕ) (fs : List (List ℕ)) → take most_held (unended (prefixed (take most_held p) fs)) ≡ take most_held (unended (prefixed p fs))
begun_holds p [] = take-take 81 81 p (omega arith)
begun_holds p (f ∷ []) = begun_held p f
begun_holds p (f ∷ g ∷ fs) = refl

-- The answers to lines and then others.
answers_append : (m : Machine) (ls ks : List (List ℕ)) → answers_to m (ls ++ ks) ≡ answers_to m ls ++ answers_to (after_lines m ls) ks
answers_append m [] ks = refl
answers_append m (l ∷ ls) ks = rw (answers_append (after m (read_line l)) ls ks, append_assoc)

-- What lines and then others leave.
leaves_append : (m : Machine) (ls ks : List (List ℕ)) → after_lines m (ls ++ ks) ≡ after_lines (after_lines m ls) ks
leaves_append m [] ks = refl
leaves_append m (l ∷ ls) ks = leaves_append (after m (read_line l)) ls ks

-- What is written for lines and then others.
written_append : (m : Machine) (ls ks : List (List ℕ)) → answers_and_closing m (ls ++ ks) ≡ answers_to m ls ++ answers_and_closing (after_lines m ls) ks
written_append m ls ks = rw (answers_append m ls ks, leaves_append m ls ks, append_assoc)

-- What is begun and goes no further is a line of which the first 81 bytes say what is written.
begun_written : (m : Machine) (p : List ℕ) → answers_and_closing m (unless_empty (take most_held p)) ≡ answers_and_closing m (unless_empty p)
begun_written m [] = refl
begun_written m (b ∷ p) =
    let e : read_line (take most_held (b ∷ p)) ≡ read_line (b ∷ p) = first_reads (b ∷ p) in
    rw e

-- What is written for an input that comes in parts, with p held of the line before the first.
abbrev pub in_parts : Machine → List ℕ → List (List ℕ) → List ℕ
in_parts m p [] = answers_and_closing m (unless_empty p)
in_parts m p (part ∷ parts) =
    answers_to m (ended (pieces_with p part))
    ++ in_parts (after_lines m (ended (pieces_with p part))) (take most_held (unended (pieces_with p part))) parts

-- What is written for parts, of a line with p begun and then the parts one after the other.
parts_written : (m : Machine) (p : List ℕ) (parts : List (List ℕ)) → in_parts m (take most_held p) parts ≡ answers_and_closing m (lines_in (pieces_with p (joined parts)))
parts_written m p [] = rw append-nil (begun_written m p)
parts_written m p (part ∷ parts) =
    rw (
      lines_append p part (joined parts),
      written_append m (ended (pieces_with p part)) (lines_in (pieces_with (unended (pieces_with p part)) (joined parts))),
      (begun_lines m p (pieces 10 part)).0,
      (begun_lines m p (pieces 10 part)).1,
      begun_holds p (pieces 10 part),
    )
    (ap (λ out. answers_to m (ended (pieces_with p part)) ++ out)
    (parts_written (after_lines m (ended (pieces_with p part))) (unended (pieces_with p part)) parts))

-- What is written for an input that comes in parts, whatever they are, is what is written for the whole.
pub in_parts_lem : (table arena : List ℕ) (parts : List (List ℕ)) → in_parts (machine started table arena) [] parts ≡ output table arena (joined parts)
in_parts_lem table arena parts =
    parts_written (machine started table arena) [] parts
    ∙ ap (λ fs. answers_and_closing (machine started table arena) (lines_in fs)) (prefixed_none 10 (joined parts))
