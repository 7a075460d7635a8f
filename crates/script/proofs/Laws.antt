-- What the definitions come to, for a reader: laws that hold for every input and every state.
-- Assumes nothing.
use mathlib.Core.Path.{◌≡◌, refl, sym, ap, ◌∙◌, subst}
use mathlib.Core.Bool.{Bool, true, false, not}
use mathlib.Core.List.{List, [], ◌∷◌, ◌++◌, append_assoc, append-nil}
use Rattle.std.specs.Prelude.{Option, None, Some, Result, Ok, Err, ◌&&◌, ◌||◌}
use Rattle.std.specs.List.{list_all}
use Prim.Native.Nat.{ℕ, zero, suc, ◌+◌, ◌-◌, ◌*◌, ◌/◌, ◌%◌, ◌≤◌, ◌<◌, min}
use native.Mathlib.Omega.{arith}
use lib.Dec.{ltb, eqb}
use lib.ListN.{length, take, drop, length-append, take-append-drop}
use lib.Seq.{take_at}
use borrow.Author.Tests.{eqb-true, not-true, le-leb, ne_eqb}
use Rattle.model.specs.Quantities.{Config, in_range}
use Rattle.model.specs.Allocation.{State, fresh}
use Rattle.model.specs.SegmentMap.{map_of}
use Rattle.model.specs.Orders.{Order, first_reason, alloc_order, free_order, init_order, totals_order}
use Rattle.model.specs.Rules.{init_config, placing, releasing}
use Rattle.model.proofs.Choosing.{split, split_option, clash, tests, every_append, every_weaker, every_head, every_tail}
use Rattle.model.proofs.Ranges.{within_least, bounds_within}
use Rattle.model.proofs.Kept.{Kept, keep_alloc, keep_free}
use Rattle.segments.specs.Rows.{segments_in}
use Rattle.segments.proofs.Rows.{length_table}
use Rattle.heap.specs.Stored.{Stored, handed, record_for, table_for, store}
use Rattle.heap.specs.Calls.{is_valid, config, state, init, afterwards}
use Rattle.heap.proofs.StoredValid.{stored_valid}
use Rattle.heap.proofs.ValidStored.{valid_kept, valid_range}
use Rattle.heap.proofs.Makes.{init_leaves, init_range, fresh_kept, zero_invalid}
use Rattle.heap.proofs.Laws.{alloc_invalid, free_invalid}
use Rattle.script.specs.Text.{ascii, prefixed, pieces, ended, unended, is_digit, value_from, value_of, number_in, digits_within, decimal, spaced, line_of}
use Rattle.script.specs.Commands.{why_number, read_line, answer_line}
use Rattle.script.specs.Machine.{Machine, machine, started, with_heap, most_bytes, seg_lines, plan, heap, words, bytes, stored, leaving, limit_order, make_order, made, answer_to, after, closing}
use Rattle.script.specs.Session.{answers_to, after_lines, taken_of}
use Rattle.script.specs.Steps.{part_of}
use Rattle.script.proofs.Carrying.{either_true, either_false, same_reason, parts_whole}
use Rattle.script.proofs.Writing.{length_decimal, why_line}
use Rattle.script.proofs.Parts.{prefixed_none, ended_more, unended_more}
use Rattle.script.specs.declared.carrying_out.Script.{Script}
use Rattle.model.specs.declared.Refusal.{Refusal}
use Rattle.script.specs.declared.command.Command.{Command}
use Rattle.script.specs.declared.command.Command.TheVariants as command
use Rattle.script.specs.declared.answer.Why.{Why}

-- Pieces with the separator between them.
abbrev pub joined_by : ℕ → List (List ℕ) → List ℕ
joined_by s [] = []
joined_by s (f ∷ []) = f
joined_by s (f ∷ g ∷ fs) = f ++ (s ∷ joined_by s (g ∷ fs))

-- Bytes before the first piece stand before them all.
joined_prefixed : (s : ℕ) (p : List ℕ) (fs : List (List ℕ)) → joined_by s (prefixed p fs) ≡ p ++ joined_by s fs
joined_prefixed s p [] = sym (append-nil p)
joined_prefixed s p (f ∷ []) = refl
joined_prefixed s p (f ∷ g ∷ fs) = append_assoc p f (s ∷ joined_by s (g ∷ fs))

-- A piece before others is followed by a separator.
joined_more : (s : ℕ) (f p : List ℕ) (fs : List (List ℕ)) → joined_by s (f ∷ prefixed p fs) ≡ f ++ (s ∷ joined_by s (prefixed p fs))
joined_more s f p [] = refl
joined_more s f p (g ∷ fs) = refl

-- The pieces with the separator between them are the bytes: none is lost.
pub pieces_joined : (s : ℕ) (bs : List ℕ) → joined_by s (pieces s bs) ≡ bs
pieces_joined s [] = refl
pieces_joined s (b ∷ bs) =
    split (eqb b s)
    (λ q.
    let e : b ≡ s = eqb-true b s q in
    let more : joined_by s ([] ∷ pieces s bs) ≡ s ∷ joined_by s (pieces s bs) = rw prefixed_none at (joined_more s [] [] (pieces s bs)) in
    rw q (more ∙ rw (pieces_joined s bs, e)))
    (λ q. rw q (joined_prefixed s (b ∷ []) (pieces s bs) ∙ rw (pieces_joined s bs)))

-- A byte is not the separator.
abbrev pub is_other : ℕ → ℕ → Bool
is_other s b = not (eqb b s)

-- No piece holds a separator: every separator ends one.
pub pieces_apart : (s : ℕ) (bs : List ℕ) → list_all (list_all (is_other s)) (pieces s bs) ≡ true
pieces_apart s [] = refl
pieces_apart s (b ∷ bs) =
    split (eqb b s)
    (λ q. rw (q, pieces_apart s bs))
    (λ q. rw q (prefixed_apart (pieces s bs) (rw q) (pieces_apart s bs)))
  where
    prefixed_apart : (fs : List (List ℕ)) → is_other s b ≡ true → list_all (list_all (is_other s)) fs ≡ true → list_all (list_all (is_other s)) (prefixed (b ∷ []) fs) ≡ true
    prefixed_apart [] h e = rw h
    prefixed_apart (f ∷ fs) h e = rw (h, e)

-- One more digit.
value_last : (v : ℕ) (ds : List ℕ) (d : ℕ) → value_from v (ds ++ (d ∷ [])) ≡ 10 * value_from v ds + (d - 48)
value_last v [] d = refl
value_last v (c ∷ ds) d = value_last (10 * v + (c - 48)) ds d

-- The value of the digits of n.
value_digits : (k n : ℕ) → n < k → value_of (digits_within k n) ≡ n
value_digits zero n h = absurd (omega arith)
value_digits (suc k) n h =
    split (ltb n 10)
    (λ q. rw q (omega arith))
    (λ q. let less : n / 10 < k = omega tests in
    rw (q, value_last 0 (digits_within k (n / 10)) (48 + n % 10), value_digits k (n / 10) less) (omega arith))

-- The value of what is written for n is n.
pub value_decimal : (n : ℕ) → value_of (decimal n) ≡ n
unfolding decimal
value_decimal n = value_digits (suc n) n (omega arith)

-- What is written are digits.
digits_only : (k n : ℕ) → list_all is_digit (digits_within k n) ≡ true
digits_only zero n = refl
digits_only (suc k) n =
    split (ltb n 10)
    (λ q. rw (q, bounds_within 48 57 (48 + n) (omega arith) (omega tests)))
    (λ q. rw q (every_append is_digit (digits_within k (n / 10)) ((48 + n % 10) ∷ []) (digits_only k (n / 10)) (rw (bounds_within 48 57 (48 + n % 10) (omega arith) (omega arith)))))

-- There is a digit.
digits_some : (k n : ℕ) → 1 ≤ length (digits_within (suc k) n)
digits_some k n =
    split (ltb n 10) (λ q. rw q (omega arith)) (λ q. rw (q, length-append (digits_within k (n / 10)) ((48 + n % 10) ∷ [])) (omega arith))

-- What is written for a number is read as that number.
pub number_decimal : (n : ℕ) → n ≤ 4294967295 → number_in (decimal n) ≡ Some n
unfolding decimal number_in
number_decimal n h =
    rw (
      bounds_within 1 10 (length (digits_within (suc n) n)) (digits_some n n) (length_decimal 9 n (omega arith)),
      digits_only (suc n) n,
      value_digits (suc n) n (omega arith),
      le-leb n 4294967295 h,
    )

-- A byte is no newline.
abbrev plain : ℕ → Bool
plain b = is_other 10 b

-- A digit is no newline.
digit_plain : (d : ℕ) → is_digit d ≡ true → plain d ≡ true
digit_plain d h = rw (ne_eqb d 10 (λ e. absurd (omega (arith, within_least 48 57 d h))))

-- Numbers are written with no newline.
spaced_plain : (ns : List ℕ) → list_all plain (spaced ns) ≡ true
unfolding decimal
spaced_plain [] = refl
spaced_plain (n ∷ ns) =
    every_append plain (decimal n) (spaced ns) (every_weaker is_digit plain digit_plain (decimal n) (digits_only (suc n) n)) (spaced_plain ns)

-- A text with no newline, and then a newline, is a piece.
plain_piece : (text rest : List ℕ) → list_all plain text ≡ true → pieces 10 (text ++ (10 ∷ rest)) ≡ text ∷ pieces 10 rest
plain_piece [] rest h = refl
plain_piece (b ∷ text) rest h =
    rw (not-true (eqb b 10) (every_head plain b text h), plain_piece text rest (every_tail plain b text h))

-- A line that is written is a piece.
line_piece : (word ns rest : List ℕ) → list_all plain word ≡ true → pieces 10 (line_of word ns ++ rest) ≡ (word ++ spaced ns) ∷ pieces 10 rest
line_piece word ns rest h =
    simp append_assoc (simp append_assoc at (plain_piece (word ++ spaced ns) rest (every_append plain word (spaced ns) h (spaced_plain ns))))

-- An answer's line is a piece.
answer_piece : (a : Result ℕ Why) (rest : List ℕ) → (text : List ℕ) × (pieces 10 (answer_line a ++ rest) ≡ text ∷ pieces 10 rest)
answer_piece (Ok v) rest = (_, line_piece (ascii "ok") (v ∷ []) rest refl)
answer_piece (Err w) rest =
    (ascii "no" ++ spaced (why_number w ∷ []), rw (why_line w) (line_piece (ascii "no") (why_number w ∷ []) rest refl))

-- The answers are as many lines as there were, and then nothing.
answers_pieces : (m : Machine) (ls : List (List ℕ)) → (length (ended (pieces 10 (answers_to m ls))) ≡ length ls) × (unended (pieces 10 (answers_to m ls)) ≡ [])
answers_pieces m [] = (refl, refl)
answers_pieces m (l ∷ ls) =
    let rest : List ℕ = answers_to (after m (read_line l)) ls in
    let piece = answer_piece (answer_to m (read_line l)) rest in
    let first : ended (piece.0 ∷ pieces 10 rest) ≡ piece.0 ∷ ended (pieces 10 rest) = rw prefixed_none at (ended_more piece.0 [] (pieces 10 rest)) in
    let others : unended (piece.0 ∷ pieces 10 rest) ≡ unended (pieces 10 rest) = rw prefixed_none at (unended_more piece.0 [] (pieces 10 rest)) in
    let all = answers_pieces (after m (read_line l)) ls in
    (rw (piece.1, first) (ap suc all.0), rw (piece.1, others) all.1)

-- There is one answer line for each line.
pub one_each : (m : Machine) (ls : List (List ℕ)) → length (ended (pieces 10 (answers_to m ls))) ≡ length ls
one_each m ls = (answers_pieces m ls).0

-- The answers end in a newline.
pub answers_end : (m : Machine) (ls : List (List ℕ)) → unended (pieces 10 (answers_to m ls)) ≡ []
answers_end m ls = (answers_pieces m ls).1

-- A command is answered with a value.
abbrev pub is_ok : Result ℕ Why → Bool
is_ok (Ok v) = true
is_ok (Err w) = false

-- What a call on the heap leaves if it leaves the heap as it was: the words as they were.
leaving_same : (m : Machine) (bs : List ℕ) → leaving m (stored m) bs ≡ machine m.script m.table bs
leaving_same m bs = ap (λ ws. machine m.script ws bs) (take-append-drop (4 * (heap m).capacity) m.table)

-- If it leaves the arena so too, all is as it was.
all_same : (m : Machine) → leaving m (stored m) (bytes m ++ drop (16 * (heap m).granules) m.arena) ≡ m
all_same m =
    leaving_same m (bytes m ++ drop (16 * (heap m).granules) m.arena)
    ∙ ap (λ bs. machine m.script m.table bs) (take-append-drop (16 * (heap m).granules) m.arena)

-- A command that is refused, or cannot be read, leaves all as it was.
pub refused_stays : (m : Machine) (k : Option Command) → is_ok (answer_to m k) ≡ false → after m k ≡ m
refused_stays m (Some (command.Limit o g b)) e =
    split_option (first_reason (limit_order o)) (λ q. absurd (clash true refl (rw q at e))) (λ r q. rw q)
refused_stays m (Some (command.Make b r)) e =
    split_option (first_reason (make_order m b r)) (λ q. absurd (clash true refl (rw q at e))) (λ r q. rw q)
refused_stays m (Some (command.Ask o n a)) e =
    split_option (first_reason (alloc_order (is_valid (stored m)) (config (stored m)) (state (stored m)) (bytes m) o n a))
    (λ q. absurd (clash true refl (rw q at e)))
    (λ r q. rw q (all_same m))
refused_stays m (Some (command.Back o x)) e =
    split_option (first_reason (free_order (is_valid (stored m)) (config (stored m)) (state (stored m)) (bytes m) o x))
    (λ q. absurd (clash true refl (rw q at e)))
    (λ r q. rw q (all_same m))
refused_stays m None e = refl

-- A command is a make.
abbrev pub is_make : Option Command → Bool
is_make (Some (command.Limit o g b)) = false
is_make (Some (command.Make b r)) = true
is_make (Some (command.Ask o n a)) = false
is_make (Some (command.Back o x)) = false
is_make None = false

-- Some make among the lines is granted.
abbrev pub makes : Machine → List (List ℕ) → Bool
makes m [] = false
makes m (l ∷ ls) = (is_make (read_line l) && is_ok (answer_to m (read_line l))) || makes (after m (read_line l)) ls

-- Whether one of three tests holds does not depend on how they are grouped. std has it, but not as a public lemma.
either_three : (a b c : Bool) → (a || b || c) ≡ (a || (b || c))
either_three true b c = refl
either_three false b c = refl

-- The record and the table that are left at the front of the words are what the next call is handed, if the table has the rows that the record says.
stored_front : (t : Stored) (s : Script) (rest bs : List ℕ) → length t.words ≡ 4 * t.heap.capacity
    → stored (machine (with_heap s t.heap) (t.words ++ rest) bs) ≡ t
stored_front t s rest bs h = ap (λ ws. handed t.heap ws) (take_at t.words rest (4 * t.heap.capacity) h)

-- So a state that is kept is left as a valid heap.
kept_valid : (c : Config) (h : State) (s : Script) (rest bs : List ℕ) → in_range c ≡ true → Kept c h
    → is_valid (stored (machine (with_heap s (record_for c h)) (table_for c h ++ rest) bs)) ≡ true
kept_valid c h s rest bs ranged k =
    ap is_valid (stored_front (store c h) s rest bs (length_table c.capacity (map_of c h.blocks) k.rows)) ∙ stored_valid c h k ranged

module _ (m : Machine) where
  -- A call on the heap makes none and loses none.
  call_stays : (order : Order Refusal) (h : State) (bs : List ℕ)
      → (is_valid (stored m) ≡ false → afterwards (stored m) order h ≡ stored m)
      → (is_valid (stored m) ≡ true → first_reason order ≡ None → Kept (config (stored m)) h)
      → is_valid (stored (leaving m (afterwards (stored m) order h) bs)) ≡ (is_valid (stored m) || false)
  call_stays order h bs stays keeps =
      let valid-after : Stored → Bool = λ t. is_valid (stored (leaving m t bs)) in
      let same : valid-after (stored m) ≡ is_valid (stored m) = ap (λ k. is_valid (stored k)) (leaving_same m bs) in
      split (is_valid (stored m))
      (λ v. split_option (first_reason order)
      (λ q.
      let left : afterwards (stored m) order h ≡ store (config (stored m)) h = rw q in
      ap valid-after left
      ∙ kept_valid (config (stored m)) h m.script (drop (4 * (heap m).capacity) m.table) bs (valid_range (heap m) (words m) v) (keeps v q)
      ∙ sym v)
      (λ r q. let left : afterwards (stored m) order h ≡ stored m = rw q in ap valid-after left ∙ same))
      (λ v. ap valid-after (stays v) ∙ same)
      ∙ sym (either_false (is_valid (stored m)) false refl)

  module _ (b r : ℕ) (granted : first_reason (make_order m b r) ≡ None) where
    -- A make that is granted is a making that is not refused.
    make_init : init (take b m.arena) (take (4 * r) m.table) (plan m) ≡ Ok tt
    make_init =
        let n : ℕ = part_of b (min (length m.arena) most_bytes) in
        let k : ℕ = part_of (4 * r) (length m.table) in
        let whole : (n ≡ b) × (k ≡ 4 * r) = parts_whole m.script m.table m.arena b r n k refl refl granted in
        let q : first_reason (init_order (take n m.arena) (take k m.table) (plan m)) ≡ None =
        sym (same_reason m.script m.table m.arena b r n k refl refl) ∙ granted in
        let e : first_reason (init_order (take b m.arena) (take (4 * r) m.table) (plan m)) ≡ None =
        subst (λ (l : ℕ × ℕ). first_reason (init_order (take l.0 m.arena) (take l.1 m.table) (plan m)) ≡ None) (λ i. (whole.0 i, whole.1 i)) q in
        rw e

    -- It leaves a valid heap.
    make_valid : is_valid (stored (made m b r)) ≡ true
    make_valid =
        let c : Config = init_config (take b m.arena) (take (4 * r) m.table) (plan m) in
        let ranged : in_range c ≡ true = init_range (take b m.arena) (take (4 * r) m.table) (plan m) make_init in
        ap (λ t. is_valid (stored (machine (with_heap m.script t.heap) (t.words ++ drop (4 * r) m.table) [])))
        (init_leaves (take b m.arena) (take (4 * r) m.table) (plan m) make_init)
        ∙ kept_valid c fresh m.script (drop (4 * r) m.table) [] ranged (fresh_kept c ranged)

  -- One command: there is a heap after it if there was one, or if it is a make that is granted.
  step_valid : (k : Option Command) → is_valid (stored (after m k)) ≡ (is_valid (stored m) || (is_make k && is_ok (answer_to m k)))
  step_valid (Some (command.Limit o g b)) =
      split_option (first_reason (limit_order o)) (λ q. rw q (sym (either_false _ false refl))) (λ t q. rw q (sym (either_false _ false refl)))
  step_valid (Some (command.Make b r)) =
      split_option (first_reason (make_order m b r)) (λ q. rw q (make_valid b r q ∙ sym (either_true (is_valid (stored m)) true refl))) (λ t q. rw q (sym (either_false _ false refl)))
  step_valid (Some (command.Ask o n a)) =
      call_stays (alloc_order (is_valid (stored m)) (config (stored m)) (state (stored m)) (bytes m) o n a) _ []
      (λ v. (alloc_invalid (stored m) v (bytes m) o n a 0).1)
      (λ v q. rw q at (keep_alloc (config (stored m)) (state (stored m)) (valid_kept (heap m) (words m) v) (is_valid (stored m)) (bytes m) o n a))
  step_valid (Some (command.Back o x)) =
      call_stays (free_order (is_valid (stored m)) (config (stored m)) (state (stored m)) (bytes m) o x) _ []
      (λ v. (free_invalid (stored m) v (bytes m) o 0 0 x).1)
      (λ v q. rw q at (keep_free (config (stored m)) (state (stored m)) (valid_kept (heap m) (words m) v) (is_valid (stored m)) (bytes m) o x))
  step_valid None = sym (either_false _ false refl)

  -- A call on the heap leaves the guards as they were.
  call_guards : (order : Order Refusal) (h : State) (bs : List ℕ) → (heap (leaving m (afterwards (stored m) order h) bs)).guards ≡ (heap m).guards
  call_guards order h bs = split_option (first_reason order) (λ q. rw q) (λ r q. rw q)

  -- One command gives a heap without guards none.
  step_unguarded : (k : Option Command) → (heap m).guards ≡ 0 → (heap (after m k)).guards ≡ 0
  step_unguarded (Some (command.Limit o g b)) z = split_option (first_reason (limit_order o)) (λ q. rw q z) (λ r q. rw q z)
  step_unguarded (Some (command.Make b r)) z =
      split_option (first_reason (make_order m b r))
      (λ q. rw q (split_option (first_reason (init_order (take b m.arena) (take (4 * r) m.table) (plan m))) (λ p. rw p) (λ t p. rw p)))
      (λ t q. rw q z)
  step_unguarded (Some (command.Ask o n a)) z = call_guards (alloc_order (is_valid (stored m)) (config (stored m)) (state (stored m)) (bytes m) o n a) (placing (config (stored m)) (state (stored m)) o n a) [] ∙ z
  step_unguarded (Some (command.Back o x)) z = call_guards (free_order (is_valid (stored m)) (config (stored m)) (state (stored m)) (bytes m) o x) (releasing (state (stored m)) x) [] ∙ z
  step_unguarded None z = z

-- No heap of a script has guards: not after any lines.
lines_unguarded : (m : Machine) (ls : List (List ℕ)) → (heap m).guards ≡ 0 → (heap (after_lines m ls)).guards ≡ 0
lines_unguarded m [] z = z
lines_unguarded m (l ∷ ls) z = lines_unguarded (after m (read_line l)) ls (step_unguarded m (read_line l) z)

-- So it is from the start on.
pub script_unguarded : (words bytes : List ℕ) (ls : List (List ℕ)) → (heap (after_lines (machine started words bytes) ls)).guards ≡ 0
script_unguarded words bytes ls = lines_unguarded (machine started words bytes) ls refl

-- After lines there is a heap if there was one, or if some make among them was granted.
lines_valid : (m : Machine) (ls : List (List ℕ)) → is_valid (stored (after_lines m ls)) ≡ (is_valid (stored m) || makes m ls)
lines_valid m [] = sym (either_false _ false refl)
lines_valid m (l ∷ ls) =
    lines_valid (after m (read_line l)) ls
    ∙ ap (λ t. t || makes (after m (read_line l)) ls) (step_valid m (read_line l))
    ∙ either_three (is_valid (stored m)) (is_make (read_line l) && is_ok (answer_to m (read_line l))) (makes (after m (read_line l)) ls)

-- From the start there is a heap exactly if some make was granted, after every list of lines and whatever the words and bytes that are lent hold.
pub heap_made : (table arena : List ℕ) (ls : List (List ℕ))
    → is_valid (stored (after_lines (machine started table arena) ls)) ≡ makes (machine started table arena) ls
heap_made table arena ls =
    lines_valid (machine started table arena) ls
    ∙ ap (λ t. t || makes (machine started table arena) ls) (zero_invalid (words (machine started table arena)))

-- A text with a byte in it is not empty.
not_empty : (xs : List ℕ) (y : ℕ) (ys : List ℕ) → xs ++ (y ∷ ys) ≡ [] → ⊥
not_empty xs y ys e = omega (arith, simp length-append at (ap length e))

-- Of a heap something is written at the end.
closing_some : (m : Machine) → is_valid (stored m) ≡ true → closing m ≡ [] → ⊥
unfolding totals_order
closing_some m v e = not_empty (seg_lines (segments_in (heap m).rows (words m))) _ _ (rw v at e)

-- Where there is none, nothing is.
closing_empty : (m : Machine) → is_valid (stored m) ≡ false → closing m ≡ []
unfolding totals_order
closing_empty m v = rw v

-- So from the start rows and totals are written at the end exactly if some make was granted.
pub closing_made : (table arena : List ℕ) (ls : List (List ℕ))
    → (makes (machine started table arena) ls ≡ false → closing (after_lines (machine started table arena) ls) ≡ [])
    × (makes (machine started table arena) ls ≡ true → closing (after_lines (machine started table arena) ls) ≡ [] → ⊥)
closing_made table arena ls = (
  λ e. closing_empty (after_lines (machine started table arena) ls) (heap_made table arena ls ∙ e),
  λ e. closing_some (after_lines (machine started table arena) ls) (heap_made table arena ls ∙ e),
)

-- With 14 bytes of room for each byte of an input, all of it is taken.
pub all_taken : (input room : List ℕ) → 14 * length input ≤ length room → taken_of input room ≡ length input
all_taken input room h = omega arith
