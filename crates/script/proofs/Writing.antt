-- Texts put into a buffer one after the other, the digits of a number, how long the lines are that are written, and what comes at the end.
-- Assumes nothing.
use Rattle.std.specs.Prelude.{Result, Ok, Err, if◌then◌else◌}
use mathlib.Core.Path.{◌≡◌, refl, sym, ap, ◌∙◌, subst}
use mathlib.Core.Bool.{true}
use mathlib.Core.List.{List, [], ◌∷◌, ◌++◌, append_assoc, append-nil}
use Prim.Native.Nat.{ℕ, zero, suc, ◌+◌, ◌*◌, ◌/◌, ◌%◌, ◌^◌, ◌≤◌, ◌<◌, min}
use native.Mathlib.Nat.{pow-suc}
use native.Mathlib.Numerals.{add-one}
use native.Mathlib.Omega.{arith}
use lib.Dec.{ltb}
use lib.ListN.{length, take, drop, get_or, length-append, take-append-drop}
use lib.Seq.{length-sets, take-suc, drop-cons}
use borrow.Author.Tests.{lt-ltb, le-ltb}
use Rattle.model.specs.Choose.{total}
use Rattle.model.specs.Orders.{totals_order}
use Rattle.model.specs.SegmentMap.{free_run}
use Rattle.model.proofs.Choosing.{split, tests}
use Rattle.script.specs.Text.{ascii, digits_within, decimal, spaced, line_of}
use Rattle.script.specs.Machine.{machine, seg_line, seg_lines, closing, closing_with}
use Rattle.script.specs.Steps.{Put}
use Rattle.segments.specs.Rows.{nth_row, segments_in}
use Rattle.segments.proofs.Rows.{length_segments}
use Rattle.heap.specs.Stored.{handed}
use Rattle.heap.specs.Valid.{valid}
use Rattle.heap.specs.Calls.{totals_of}
use Rattle.heap.proofs.Changing.{Bounds, bounds}
use Rattle.model.specs.declared.Segment.{Segment}
use Rattle.model.specs.declared.Refusal.{Refusal}
use Rattle.model.specs.declared.Refusal.TheVariants as refusal
use Rattle.model.specs.declared.InitRefusal.TheVariants as init_refusal
use Rattle.script.specs.Commands.{answer_line, why_number}
use Rattle.script.specs.declared.answer.Why.{Why}
use Rattle.script.specs.declared.answer.Why.TheVariants as why
use Rattle.std.specs.Fmt as std
use Rattle.std.proofs.lemmas.Fmt.{decimal_by_steps}
use Rattle.model.specs.declared.Totals.{Totals}
use Rattle.heap.specs.declared.record.Heap.{Heap}
use Rattle.script.proofs.Lists.{sets_append, at_most}
use Rattle.script.specs.declared.carrying_out.Script.{Script}

-- The buffer keeps its length.
pub put_length : {text buffer after : List ℕ} {at p : ℕ} → Put text buffer at p after → length after ≡ length buffer
put_length {text} {buffer} {after} {at} {p} f = ap length f.bytes ∙ length-sets buffer at text

-- Where nothing is put, the place and the buffer stay.
pub put_none : {buffer : List ℕ} {at p : ℕ} → p ≡ at → Put [] buffer at p buffer
put_none {buffer} {at} {p} e = record { end = omega arith; bytes = refl }

-- Two texts that are put one after the other are one text.
pub put_append : {a b buffer mid after : List ℕ} {at p q : ℕ} → Put a buffer at p mid → Put b mid p q after → Put (a ++ b) buffer at q after
put_append {a} {b} {buffer} {mid} {after} {at} {p} {q} f g =
    record { end = omega (arith, length-append a b); bytes = g.bytes ∙ rw (f.bytes, f.end) (sets_append buffer at a b) }

-- What is put is put as any text that equals it.
pub put_same : {a b buffer after : List ℕ} {at p : ℕ} → a ≡ b → Put a buffer at p after → Put b buffer at p after
put_same {a} {b} {buffer} {after} {at} {p} e f = subst (λ (t : List ℕ). Put t buffer at p after) e f

-- The digits of a number do not depend on how many more there may be.
digits_enough : (k j n : ℕ) → n < k → n < j → digits_within k n ≡ digits_within j n
digits_enough zero j n h g = absurd (omega arith)
digits_enough (suc k) zero n h g = absurd (omega arith)
digits_enough (suc k) (suc j) n h g =
    split (ltb n 10) (λ q. rw q) (λ q. rw (q, digits_enough k j (n / 10) (omega tests) (omega tests)))

-- The digits of a number go by the test whether it is below ten.
decimal_step : (n : ℕ) → decimal n ≡ (if ltb n 10 then (48 + n) ∷ [] else decimal (n / 10) ++ ((48 + n % 10) ∷ []))
unfolding decimal
decimal_step n =
    split (ltb n 10) (λ q. rw q) (λ q. rw (q, digits_enough n (suc (n / 10)) (n / 10) (omega tests) (omega arith)))

-- A number below ten is one digit.
pub decimal_one : (n : ℕ) → n < 10 → decimal n ≡ (48 + n) ∷ []
decimal_one n h = decimal_step n ∙ rw (lt-ltb n 10 h)

-- A number from ten on is its tenth's digits, and then the last one.
pub decimal_more : (n : ℕ) → 10 ≤ n → decimal n ≡ decimal (n / 10) ++ ((48 + n % 10) ∷ [])
decimal_more n h = decimal_step n ∙ rw (le-ltb n 10 h)

-- It has one digit more than its tenth.
pub length_more : (n : ℕ) → 10 ≤ n → length (decimal n) ≡ length (decimal (n / 10)) + 1
length_more n h = rw (decimal_more n h) (length-append (decimal (n / 10)) ((48 + n % 10) ∷ []))

-- A number below a power of ten has no more digits than the exponent says.
pub length_decimal : (k n : ℕ) → n < 10 ^ suc k → length (decimal n) ≤ suc k
length_decimal zero n h = rw (decimal_one n h) (omega arith)
length_decimal (suc k) n h =
    split (ltb n 10)
    (λ q. rw (decimal_one n (omega tests)) (omega arith))
    (λ q.
    let z : n / 10 < 10 ^ suc k = omega (tests, pow-suc 10 (suc k)) in
    omega (arith, length_more n (omega tests), length_decimal k (n / 10) z))

-- The numbers in a line have a space each before their digits.
pub length_spaced : (ns : List ℕ) → length (spaced ns) ≡ total (λ (n : ℕ). suc (length (decimal n))) ns
length_spaced [] = refl
length_spaced (n ∷ ns) = omega (arith, length-append (decimal n) (spaced ns), length_spaced ns)

-- A line is as long as its word, its numbers and the newline.
pub length_line : (word ns : List ℕ) → length (line_of word ns) ≡ length word + (total (λ (n : ℕ). suc (length (decimal n))) ns + 1)
length_line word ns = simp length-append (omega (arith, length_spaced ns))

-- The numbers up to one more are those before it, and that number.
spaced_append : (ns ms : List ℕ) → spaced (ns ++ ms) ≡ spaced ns ++ spaced ms
spaced_append [] ms = refl
spaced_append (n ∷ ns) ms = rw (spaced_append ns ms) (ap (λ l. 32 ∷ l) (sym (append_assoc (decimal n) (spaced ns) (spaced ms))))

-- A number that is put after others is one more of them.
pub put_number : (word ns : List ℕ) (i : ℕ) → i < length ns → {buffer mid after : List ℕ} {at p q : ℕ} → Put (word ++ spaced (take i ns)) buffer at p mid
    → Put (spaced (get_or ns i 0 ∷ [])) mid p q after → Put (word ++ spaced (take (i + 1) ns)) buffer at q after
put_number word ns i h f g =
    rw (add-one i, take-suc ns i 0 h, spaced_append) (rw append_assoc at (put_append f g))

-- The numbers up to some are no longer than all of them.
pub spaced_most : (ns : List ℕ) (i : ℕ) → i < length ns → length (spaced (take i ns)) + length (spaced (get_or ns i 0 ∷ [])) ≤ length (spaced ns)
spaced_most ns i h =
    let cut : spaced ns ≡ spaced (take i ns) ++ (32 ∷ (decimal (get_or ns i 0) ++ spaced (drop (suc i) ns))) =
    ap spaced (sym (take-append-drop i ns)) ∙ spaced_append (take i ns) (drop i ns) ∙ ap (λ l. spaced (take i ns) ++ spaced l) (drop-cons ns i 0 h) in
    omega (
      arith,
      ap length cut,
      length-append (spaced (take i ns)) (32 ∷ (decimal (get_or ns i 0) ++ spaced (drop (suc i) ns))),
      length-append (decimal (get_or ns i 0)) (spaced (drop (suc i) ns)),
      length-append (decimal (get_or ns i 0)) [],
    )

-- std writes a number in the same digits.
pub decimal_std : (n : ℕ) → n < 2 ^ 64 → std.decimal n ≡ decimal n
decimal_std =
    decimal_by_steps (λ n ds. ds ≡ decimal n) (λ n h. sym (decimal_one n h))
    (λ n ds h e. rw e (sym (decimal_more n h)))

-- A line with one number that fits 32 bits has at most 12 bytes after its word.
pub one_most : (word : List ℕ) (n : ℕ) → n < 2 ^ 32 → length (line_of word (n ∷ [])) ≤ length word + 12
one_most word n h = omega (arith, length_line word (n ∷ []), length_decimal 9 n (omega arith))

-- Each reason has a number, so that it is written `no N`.
pub why_line : (w : Why) → answer_line (Err w) ≡ line_of (ascii "no") (why_number w ∷ [])
why_line (why.Call refusal.InvalidHeap) = refl
why_line (why.Call refusal.BadOwner) = refl
why_line (why.Call refusal.ZeroSize) = refl
why_line (why.Call refusal.BadAlignment) = refl
why_line (why.Call refusal.BlockQuota) = refl
why_line (why.Call refusal.GranuleQuota) = refl
why_line (why.Call refusal.NoPlace) = refl
why_line (why.Call refusal.TableFull) = refl
why_line (why.Call refusal.InsideBlock) = refl
why_line (why.Call refusal.OtherOwner) = refl
why_line (why.Call refusal.ArenaLength) = refl
why_line (why.Call refusal.PastEnd) = refl
why_line (why.Call refusal.NotAligned) = refl
why_line (why.Call refusal.FreeMemory) = refl
why_line (why.Call refusal.BrokenGuard) = refl
why_line (why.Make init_refusal.ArenaLength) = refl
why_line (why.Make init_refusal.BadBase) = refl
why_line (why.Make init_refusal.TableLength) = refl
why_line (why.Make init_refusal.BadQuota) = refl
why_line why.Unreadable = refl

-- The line of an answer, a word of two letters and a number, has at most 14 bytes.
pub put_line : (word : List ℕ) (n : ℕ) {text buffer after : List ℕ} {at p : ℕ} → text ≡ line_of word (n ∷ []) → length word ≡ 2 → n < 2 ^ 32
    → Put (line_of word (n ∷ [])) buffer at p after → Put text buffer at p after × (p ≤ at + 14)
put_line word n {text} {buffer} {after} {at} {p} e l h f = (put_same (sym e) f, omega (arith, f.end, one_most word n h))

-- A line with four numbers, two of which fit 36 bits and the others 32, has at most 47 bytes after its word.
pub four_most : (word : List ℕ) (a b c d : ℕ) → a < 2 ^ 36 → b < 2 ^ 36 → c < 2 ^ 32 → d < 2 ^ 32
    → length (line_of word (a ∷ b ∷ c ∷ d ∷ [])) ≤ length word + 47
four_most word a b c d h i j k =
    omega (
      arith,
      length_line word (a ∷ b ∷ c ∷ d ∷ []),
      length_decimal 10 a (omega arith),
      length_decimal 10 b (omega arith),
      length_decimal 9 c (omega arith),
      length_decimal 9 d (omega arith),
    )

-- The lines of rows joined are their lines joined.
rows_append : (xs ys : List Segment) → seg_lines (xs ++ ys) ≡ seg_lines xs ++ seg_lines ys
rows_append [] ys = refl
rows_append (x ∷ xs) ys = ap (λ r. seg_line x ++ r) (rows_append xs ys) ∙ sym (append_assoc (seg_line x) (seg_lines xs) (seg_lines ys))

-- The lines of one more row are those of the rows before it, and that row's.
lines_more : (i : ℕ) (xs : List Segment) → i < length xs → seg_lines (take (i + 1) xs) ≡ seg_lines (take i xs) ++ seg_line (nth_row xs i)
lines_more i xs h =
    rw (add-one i)
    (ap seg_lines (take-suc xs i (free_run 0 0) h)
    ∙ rows_append (take i xs) (nth_row xs i ∷ [])
    ∙ ap (λ r. seg_lines (take i xs) ++ r) (append-nil (seg_line (nth_row xs i))))

-- The line of a row that is put after those of the rows before it is one more of them.
pub put_row : (i : ℕ) (xs : List Segment) (x : Segment) → i < length xs → x ≡ nth_row xs i → {buffer mid after : List ℕ} {at p q : ℕ}
    → Put (seg_lines (take i xs)) buffer at p mid → Put (seg_line x) mid p q after → Put (seg_lines (take (i + 1) xs)) buffer at q after
put_row i xs x h e f g = put_same (ap (λ s. seg_lines (take i xs) ++ seg_line s) e ∙ sym (lines_more i xs h)) (put_append f g)

-- Totals that are not refused are those of a valid heap.
totals_valid : (r : Heap) (ws : List ℕ) (sums : Totals) → totals_of (handed r ws) ≡ Ok sums → valid r ws ≡ true
unfolding totals_order
totals_valid r ws sums e =
    split (valid r ws)
    (λ v. v)
    (λ v. let e' : Err refusal.InvalidHeap ≡ Ok sums = rw v at e in let w : ◌≡◌ {A = ℕ} 0 1 = cc in absurd (omega arith))

-- What comes at the end, where the heap's table is lent in the first n words.
module _ (s : Script) (table : List ℕ) (n : ℕ) (lent : n ≡ min (4 * s.heap.capacity) (length table)) where
  -- These are the heap's table.
  lent_words : take n table ≡ take (4 * s.heap.capacity) table
  lent_words = (at_most (4 * s.heap.capacity) n table lent).0

  -- What is written at the end goes by the totals.
  closing_told : (t : Result Totals Refusal) → t ≡ totals_of (handed s.heap (take n table)) → (bs : List ℕ) → closing (machine s table bs) ≡ closing_with (machine s table bs) t
  closing_told t done bs =
      ap (closing_with (machine s table bs)) (sym (ap (λ ws. totals_of (handed s.heap ws)) lent_words) ∙ sym done)

  -- Nothing is written where the totals are refused.
  pub closing_none : (t : Result Totals Refusal) → t ≡ totals_of (handed s.heap (take n table)) → (why : Refusal) → t ≡ Err why
      → {buffer : List ℕ} {at : ℕ} (bs : List ℕ) → Put (closing (machine s table bs)) buffer at at buffer
  closing_none t done why e bs =
      put_same (sym (closing_told t done bs ∙ ap (closing_with (machine s table bs)) e)) (put_none refl)

  module _ (t : Result Totals Refusal) (done : t ≡ totals_of (handed s.heap (take n table))) (sums : Totals) (e : t ≡ Ok sums) where
    -- The heap is valid otherwise, so that its rows are few, and all lent.
    pub rows_lent : (s.heap.rows ≤ 512) × (4 * s.heap.rows ≤ length (take n table))
    rows_lent =
        let b : Bounds s.heap (take n table) (totals_valid s.heap (take n table) sums (sym done ∙ e)) = bounds _ _ _ in
        (omega arith, omega arith)

    pub rows_few : {xs : List Segment} → xs ≡ segments_in s.heap.rows (take n table) → length xs ≤ 512
    rows_few read = omega (arith, rows_lent, ap length read, length_segments s.heap.rows (take n table))

    -- The rows are written then, and the totals.
    pub closing_rows : {xs : List Segment} → xs ≡ segments_in s.heap.rows (take n table) → {buffer mid after : List ℕ} {at p q : ℕ} → Put (seg_lines xs) buffer at p mid
        → Put (line_of (ascii "sum") (sums.used ∷ sums.free ∷ sums.peak ∷ sums.longest ∷ [])) mid p q after → (bs : List ℕ) → Put (closing (machine s table bs)) buffer at q after
    closing_rows read f g bs =
        put_same
        (ap (λ xs. seg_lines xs ++ line_of (ascii "sum") (sums.used ∷ sums.free ∷ sums.peak ∷ sums.longest ∷ [])) read
        ∙ ap (λ ws. seg_lines (segments_in s.heap.rows ws) ++ line_of (ascii "sum") (sums.used ∷ sums.free ∷ sums.peak ∷ sums.longest ∷ [])) lent_words
        ∙ sym (closing_told t done bs ∙ ap (closing_with (machine s table bs)) e))
        (put_append f g)
