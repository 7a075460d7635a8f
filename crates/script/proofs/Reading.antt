-- How a line is read: its fields, its numbers, and where it ends.
-- Assumes nothing.
use Rattle.std.proofs.Common.{◌≡◌, ℕ, suc, ◌+◌, ◌-◌, ◌*◌, ◌≤◌, ◌<◌, Bool, true, false, List, [], ◌∷◌, ◌++◌, refl, sym, ap, ◌∙◌, subst, eqb, length, get_or, take, drop, drop-cons, drop_of_length-le, add-one, arith, Option, Some, None, Bor}
use mathlib.Core.Bool.{cond}
use denote.Param.Members.{Mut}
use lib.Dec.{ltb}
use borrow.Author.Tests.{leb-true, le-leb, lt-leb, le-ltb, lt-ltb}
use Rattle.std.specs.Bool.{MatchBool}
use Rattle.std.specs.Option.{option_map}
use Rattle.std.specs.List.{slice_split, onto_first, position, position_or_len, All, IsFirstMatchOrLen, list_all}
use Rattle.std.specs.Prelude.{if◌then◌else◌}
use Rattle.std.specs.Slice.Iter.{split_steps, split_rest, split_done, split_callee}
use Rattle.std.specs.Fn.{ComputesKey, CalledAt}
use Rattle.std.proofs.lemmas.List.Splits.{slice_split_none, slice_split_at, slice_split_first}
use Rattle.std.proofs.lemmas.List.Sums.{position_or_len_is}
use Rattle.std.proofs.lemmas.Bool.{false_from_ne_true}
use Rattle.std.proofs.lemmas.Fn.{always_returns_same}
use Rattle.std.proofs.lemmas.Grind.{common_steps}
use Rattle.memchr.specs.Find.{IsFirstByte, is_byte}
use Rattle.model.specs.Quantities.{within}
use Rattle.model.proofs.Choosing.{split, parts, tests, every_head}
use Rattle.model.proofs.Ranges.{within_least, within_most, bounds_within}
use Rattle.script.specs.Text.{prefixed, pieces, fields_of, is_digit, value_from, value_of, is_number, number_in}
use Rattle.script.specs.Commands.{command_of, read_line}
use Rattle.script.specs.Steps.{firsts}

-- A byte before the first piece stands at its front.
prefixed_onto : (b : ℕ) (fs : List (List ℕ)) → prefixed (b ∷ []) fs ≡ onto_first b fs
prefixed_onto b [] = refl
prefixed_onto b (f ∷ fs) = refl

-- A choice is std's.
chosen : {A : Type 0} (t : Bool) (a b : A) → (if t then a else b) ≡ cond t a b
chosen true a b = refl
chosen false a b = refl

-- The pieces are those that std's `split` gives.
pub pieces_split : (s : ℕ) (l : List ℕ) → pieces s l ≡ slice_split (λ b. eqb b s) l
pieces_split s [] = refl
pieces_split s (b ∷ l) = rw (pieces_split s l, prefixed_onto, chosen)

-- The first part that a call of `next` takes off.
part_first : {A : Type 0} (p : A → Bool) (xs x rest : List A) (done : Bool) → MatchBool done (xs ≡ x) ((y : A) × (xs ≡ x ++ (y ∷ rest))) → IsFirstMatchOrLen p xs (length x)
    → slice_split p xs ≡ x ∷ cond done [] (slice_split p rest)
part_first p xs x rest true e h = ap (slice_split p) e ∙ slice_split_none p x (λ k d l. subst (λ ys. p (get_or ys k d) ≡ false) e (h.0 k d (omega arith) l))
part_first p xs x rest false e h =
    let front : All (λ z. p z ≡ false) x = λ k d l. let a = h.0 k d (omega arith) l in let b = e.1 in grind (arith, common_steps) in
    let hit : p e.0 ≡ true = let b = e.1 in let a = h.1 (grind (arith, common_steps)) e.0 in grind (arith, common_steps) in
    ap (slice_split p) e.1 ∙ slice_split_at p x e.0 rest front hit

-- The parts that a `split` by the test p still gives.
module _ {F : Type 0} (g : Mut F (Bor ℕ × Unit {0}) Bool) (p : ℕ → Bool) where
  abbrev left : Bool → List ℕ → List (List ℕ)
  left done rest = cond done [] (slice_split p rest)

  -- A call of `next` takes the first of them.
  pub next_part : (s t : _) (r : Option (Bor (List ℕ))) → split_steps g s r t → ComputesKey g p (split_callee s)
      → ComputesKey g p (split_callee t) × ((k : ℕ) → firsts (suc k) (left (split_done s) (split_rest s)) ≡ option_map (λ f. f.now) r ∷ firsts k (left (split_done t) (split_rest t)))
  next_part s t None h c = (subst (λ u. ComputesKey g p (split_callee u)) (sym h.1) c, λ k. rw (h.1, h.0))
  next_part s t (Some x) h c = (
    (h.2 p c).0,
    λ k.
        ap (λ b. firsts (suc k) (cond b [] (slice_split p (split_rest s)))) h.0
        ∙ ap (firsts (suc k)) (part_first p _ x.now _ (split_done t) h.1 (h.2 p c).1),
  )

  -- A closure that stays as it is computes p at each call.
  pub same_test : (f : F) → ((x : ℕ) (b : Bool) (q : F) → CalledAt g f x b q → (q ≡ f) × (b ≡ p x)) → ComputesKey g p f
  same_test f tests =
      always_returns_same g (λ a r. r ≡ p a.0.now) f (λ a r q k. let m = tests a.0.now r q (record { shown = a.0; shows = refl; called = k }) in (m.1, m.0))

-- Without a newline there is one piece.
pub newline_none : (l : List ℕ) → position (λ b. eqb b 10) l ≡ None → pieces 10 l ≡ l ∷ []
newline_none [] e = refl
newline_none (b ∷ l) e =
    let p : ℕ → Bool = λ b. eqb b 10 in
    let over : length (b ∷ l) ≤ position_or_len p (b ∷ l) =
    split (ltb (position_or_len p (b ∷ l)) (length (b ∷ l)))
    (λ q. let z : Some (position_or_len p (b ∷ l)) ≡ None = rw q at e in let y : ◌≡◌ {A = ℕ} 0 1 = cc in absurd (omega arith))
    (λ q. omega tests) in
    split (eqb b 10)
    (λ q. let h : suc (length l) ≤ 0 = rw q at over in absurd (omega arith))
    (λ q.
    let h : suc (length l) ≤ 1 + position_or_len p l = rw q at over in
    let e' : position p l ≡ None = rw (le-ltb (position_or_len p l) (length l) (omega arith)) refl in
    rw (q, newline_none l e'))

-- The first newline ends the first piece.
pub newline_some : (l : List ℕ) (n : ℕ) → position (λ b. eqb b 10) l ≡ Some n → (n < length l) × (pieces 10 l ≡ take n l ∷ pieces 10 (drop (n + 1) l))
newline_some l n e =
    split (ltb (position_or_len (λ b. eqb b 10) l) (length l))
    (λ q.
    let z : Some (position_or_len (λ b. eqb b 10) l) ≡ Some n = rw q at e in
    let y : position_or_len (λ b. eqb b 10) l ≡ n = cc in (
      omega tests,
      pieces_split 10 l ∙ slice_split_first (λ b. eqb b 10) l 0 (omega tests) ∙ rw y (ap (λ fs. take n l ∷ fs) (sym (pieces_split 10 (drop (n + 1) l)))),
    ))
    (λ q. let z : None ≡ Some n = rw q at e in let y : ◌≡◌ {A = ℕ} 0 1 = cc in absurd (omega arith))

-- The first byte that is a newline is where std's `position` finds it.
pub newline_first : (l : List ℕ) (r : Option ℕ) → IsFirstByte (is_byte 10) l r → r ≡ position (λ b. eqb b 10) l
newline_first l None h =
    let at : position_or_len (λ b. eqb b 10) l ≡ length l =
    position_or_len_is (λ b. eqb b 10) l (length l) 0 (omega arith) (λ k q. false_from_ne_true _ (h k (omega arith) q)) (λ q. absurd (omega arith)) in
    rw (at, le-ltb (length l) (length l) (omega arith)) refl
newline_first l (Some n) h =
    let at : position_or_len (λ b. eqb b 10) l ≡ n =
    position_or_len_is (λ b. eqb b 10) l n 0 (omega (arith, h.0.high)) (λ k q. false_from_ne_true _ (h.0.before k (omega arith) q)) (λ q. h.1) in
    rw (at, lt-ltb n (length l) h.0.high) refl

-- What a number is.
pub record Readable (f : List ℕ) : Type 0 where
  pub some_digits : 1 ≤ length f
  pub few : length f ≤ 10
  pub digits : list_all is_digit f ≡ true
  pub fits : value_of f ≤ 4294967295

-- The test of a number says what a number is.
readable : (f : List ℕ) → is_number f ≡ true → Readable f
readable f e =
    let r : within 1 10 (length f) ≡ true = search parts in
    record {
      some_digits = within_least 1 10 (length f) r;
      few = within_most 1 10 (length f) r;
      digits = search parts;
      fits = leb-true (value_of f) 4294967295 (search parts);
    }

-- A field that is no number has none.
pub no_number : (f : List ℕ) → (Readable f → ⊥) → None ≡ number_in f
unfolding number_in
no_number f h = split (is_number f) (λ q. absurd (h (readable f q))) (λ q. rw q)

-- A field has no number if the byte at place i, before which all are digits, is none.
pub stray_byte : (f : List ℕ) (i : ℕ) → i < length f → list_all is_digit f ≡ list_all is_digit (drop i f) → (48 ≤ get_or f i 0 → get_or f i 0 ≤ 57 → ⊥) → None ≡ number_in f
stray_byte f i h e q =
    no_number f (λ r.
    let b : is_digit (get_or f i 0) ≡ true = every_head is_digit (get_or f i 0) (drop (suc i) f) (rw (drop-cons f i 0 h) at (sym e ∙ r.digits)) in
    q (within_least 48 57 (get_or f i 0) b) (within_most 48 57 (get_or f i 0) b))

-- A field that is a number has its value.
pub a_number : (f : List ℕ) → Readable f → Some (value_of f) ≡ number_in f
unfolding number_in
a_number f r = rw (bounds_within 1 10 (length f) r.some_digits r.few, r.digits, le-leb (value_of f) 4294967295 r.fits)

-- Further digits make a value no smaller.
pub value_least : (v : ℕ) (ds : List ℕ) → v ≤ value_from v ds
value_least v [] = omega arith
value_least v (d ∷ ds) = omega (arith, value_least (10 * v + (d - 48)) ds)

-- The value of the digits from place i on, after others of value v.
module _ (v : ℕ) (f : List ℕ) (i : ℕ) where
  -- There is a digit at i.
  pub value_more : i < length f → value_from v (drop i f) ≡ value_from (10 * v + (get_or f i 0 - 48)) (drop (i + 1) f)
  value_more h = rw (add-one i, drop-cons f i 0 h)

  -- There is none.
  pub value_none : length f ≤ i → value_from v (drop i f) ≡ v
  value_none h = rw (drop_of_length-le f h)

-- A line that is too long cannot be read.
pub long_line : (l : List ℕ) → 80 < length l → None ≡ read_line l
unfolding read_line
long_line l h = rw (lt-leb (length l) 80 h)

-- A line that is not is a command by its fields.
pub short_line : (l : List ℕ) → length l ≤ 80 → command_of (fields_of l) ≡ read_line l
unfolding read_line
short_line l h = rw (le-leb (length l) 80 h)
