-- What a command answers and leaves, from what the call of the heap promises of the part that is lent to it.
-- Assumes nothing.
use mathlib.Core.Path.{◌≡◌, refl, sym, ap, ◌∙◌, subst}
use mathlib.Core.Bool.{Bool, true, false, not}
use mathlib.Core.List.{List, ◌++◌}
use Rattle.std.specs.Prelude.{Option, None, Some, Result, Ok, Err, ◌||◌}
use Prim.Native.Nat.{ℕ, ◌*◌, ◌≤◌, min}
use native.Mathlib.Omega.{arith}
use lib.Dec.{ltb}
use lib.ListN.{length, take, drop, take-append-drop}
use lib.Seq.{length-take-le}
use Rattle.model.specs.Quantities.{is_arena, is_table}
use Rattle.model.specs.Orders.{first_reason, init_order, alloc_order, free_order}
use borrow.Author.Tests.{lt-ltb, le-ltb}
use Rattle.model.proofs.Ranges.{zero_base}
use Rattle.model.proofs.Choosing.{split, split_option, tests, clash}
use Rattle.model.proofs.Refusing.{no_reason}
use Rattle.heap.specs.Stored.{Stored}
use Rattle.heap.specs.Calls.{is_valid, config, state}
use Rattle.heap.specs.Promises.{InitDone, AllocDone, FreeDone}
use Rattle.heap.specs.declared.record.Heap.{Heap}
use Rattle.heap.specs.declared.record.Initialized.{Initialized}
use Rattle.heap.specs.declared.record.Outcome.{Outcome}
use Rattle.heap.proofs.Makes.{init_reason, none_applies}
use Rattle.std.specs.Result.{MatchResult, IsErrAnd}
use Rattle.model.specs.declared.Refusal.{Refusal}
use Rattle.model.specs.declared.InitRefusal.{InitRefusal}
use Rattle.script.specs.declared.answer.Why.{Why}
use Rattle.script.specs.declared.answer.Why.TheVariants as why
use Rattle.script.specs.Commands.{answer_numbered}
use Rattle.script.specs.Machine.{Machine, machine, with_heap, plan_of, most_bytes, call_answer, make_answer, limit_order, make_order, words, bytes, stored, leaving, answer_to, numbered_to, after}
use Rattle.script.specs.Steps.{part_of}
use Rattle.script.proofs.Lists.{at_most}
use Rattle.script.specs.declared.carrying_out.Script.{Script}
use Rattle.script.specs.declared.command.Command.{Command}
use Rattle.script.specs.declared.command.Command.TheVariants as command

-- The number and the value of a command's answer are those that its order gives.
pub answer_numbered_lem : (m : Machine) (k : Option Command) → answer_numbered (answer_to m k) ≡ numbered_to m k
answer_numbered_lem m (Some (command.Limit o g b)) = split_option (first_reason (limit_order o)) (λ q. rw q) (λ r q. rw q)
answer_numbered_lem m (Some (command.Make b r)) = split_option (first_reason (make_order m b r)) (λ q. rw q) (λ t q. rw q)
answer_numbered_lem m (Some (command.Ask o n a)) =
    split_option (first_reason (alloc_order (is_valid (stored m)) (config (stored m)) (state (stored m)) (bytes m) o n a)) (λ q. rw q) (λ r q. rw q)
answer_numbered_lem m (Some (command.Back o x)) =
    split_option (first_reason (free_order (is_valid (stored m)) (config (stored m)) (state (stored m)) (bytes m) o x)) (λ q. rw q) (λ r q. rw q)
answer_numbered_lem m None = refl

-- An answer of a call on the heap that is handed on, with its refusal among a line's reasons.
pub called : (r : Result ℕ Refusal) (a : Result ℕ Why) (makes : Refusal → Why → Type 0) → ((e : Refusal) (w : Why) → makes e w → w ≡ why.Call e)
    → MatchResult r (λ x. a ≡ Ok x) (λ e. IsErrAnd a (makes e)) → a ≡ call_answer r
called (Ok x) a makes f h = h
called (Err e) (Ok v) makes f h = absurd h
called (Err e) (Err w) makes f h = ap Err (f e w h)

-- The same of a make.
pub called_make : (r : Result ℕ InitRefusal) (a : Result ℕ Why) (makes : InitRefusal → Why → Type 0) → ((e : InitRefusal) (w : Why) → makes e w → w ≡ why.Make e)
    → MatchResult r (λ x. a ≡ Ok x) (λ e. IsErrAnd a (makes e)) → a ≡ make_answer r
called_make (Ok x) a makes f h = h
called_make (Err e) (Ok v) makes f h = absurd h
called_make (Err e) (Err w) makes f h = ap Err (f e w h)

-- A call is lent the first k words and the first n bytes: the heap's table and arena, or all that there are if these are fewer.
module _ (s : Script) (ws bs : List ℕ) (k n : ℕ) (e : k ≡ min (4 * s.heap.capacity) (length ws)) (f : n ≡ min (16 * s.heap.granules) (length bs)) where
  -- What is promised of what is lent is promised of the heap's table and arena.
  lent : (Done : List ℕ → List ℕ → Type 0) → Done (take k ws) (take n bs) → Done (words (machine s ws bs)) (bytes (machine s ws bs))
  lent Done d =
      subst (λ (l : List ℕ × List ℕ). Done l.0 l.1) (λ i. ((at_most (4 * s.heap.capacity) k ws e).0 i, (at_most (16 * s.heap.granules) n bs f).0 i)) d

  -- With a record, a table and an arena left, the other words and bytes stay.
  left : (t : Stored) (arena : List ℕ) (out : Heap) (words_left bytes_left : List ℕ) → out ≡ t.heap → words_left ≡ t.words → bytes_left ≡ arena
      → machine (with_heap s out) (words_left ++ drop k ws) (bytes_left ++ drop n bs) ≡ leaving (machine s ws bs) t (arena ++ drop (16 * s.heap.granules) bs)
  left t arena out words_left bytes_left h w b =
      λ i. machine (with_heap s (h i)) (w i ++ (at_most (4 * s.heap.capacity) k ws e).1 i) (b i ++ (at_most (16 * s.heap.granules) n bs f).1 i)

  -- So an allocation is carried out,
  pub ask_done : (o m a : ℕ) (out : Outcome ℕ) (words_left bytes_left : List ℕ) → AllocDone s.heap (take k ws) (take n bs) o m a out words_left bytes_left
      → (call_answer out.answer ≡ answer_to (machine s ws bs) (Some (command.Ask o m a)))
      × (machine (with_heap s out.heap) (words_left ++ drop k ws) (bytes_left ++ drop n bs) ≡ after (machine s ws bs) (Some (command.Ask o m a)))
  ask_done o m a out words_left bytes_left d =
      let w = lent (λ ws bs. AllocDone s.heap ws bs o m a out words_left bytes_left) d in
      (ap call_answer w.answer, left _ _ out.heap words_left bytes_left w.heap w.table w.arena)

  -- and a free.
  pub back_done : (o x : ℕ) (out : Outcome ℕ) (words_left bytes_left : List ℕ) → FreeDone s.heap (take k ws) (take n bs) o x out words_left bytes_left
      → (call_answer out.answer ≡ answer_to (machine s ws bs) (Some (command.Back o x)))
      × (machine (with_heap s out.heap) (words_left ++ drop k ws) (bytes_left ++ drop n bs) ≡ after (machine s ws bs) (Some (command.Back o x)))
  back_done o x out words_left bytes_left d =
      let w = lent (λ ws bs. FreeDone s.heap ws bs o x out words_left bytes_left) d in
      (ap call_answer w.answer, left _ _ out.heap words_left bytes_left w.heap w.table w.arena)

-- One of two tests holds if the second does.
pub either_true : (t u : Bool) → u ≡ true → (t || u) ≡ true
either_true true u e = refl
either_true false u e = e

-- If the second does not, the first decides.
pub either_false : (t u : Bool) → u ≡ false → (t || u) ≡ t
either_false true u e = refl
either_false false u e = e

-- More than the one or than the other is more than the smaller.
over_smaller : (a b x : ℕ) → (ltb a x || ltb b x) ≡ ltb (min b a) x
over_smaller a b x =
    split (ltb a x)
    (λ q. rw (q, lt-ltb (min b a) x (omega tests)))
    (λ q. split (ltb b x) (λ p. rw (q, p, lt-ltb (min b a) x (omega tests))) (λ p. rw (q, p, le-ltb (min b a) x (omega tests))))

-- A test that does not hold of 0 holds of the length of a part exactly if it holds of the number asked for, and there are so many.
part_test : (p : ℕ → Bool) → p 0 ≡ false → (b m : ℕ) (l : List ℕ) → m ≤ length l → (not (p b) || ltb m b) ≡ not (p (length (take (part_of b m) l)))
part_test p nothing b m l h =
    split (ltb m b)
    (λ q. either_true (not (p b)) (ltb m b) q ∙ rw (q, nothing))
    (λ q. let z : length (take b l) ≡ b = length-take-le b l (omega tests) in either_false (not (p b)) (ltb m b) q ∙ rw (q, z))

-- If there are so many, the part has so many.
part_whole : (t : Bool) (b m : ℕ) → (t || ltb m b) ≡ false → part_of b m ≡ b
part_whole t b m e = split (ltb m b) (λ q. absurd (clash (t || ltb m b) (either_true t (ltb m b) q) e)) (λ q. rw q)

-- A make of b bytes and r rows.
module _ (s : Script) (ws bs : List ℕ) (b r n k : ℕ) (bytes_part : n ≡ part_of b (min (length bs) most_bytes)) (words_part : k ≡ part_of (4 * r) (length ws)) where
  -- Its order finds the reason that the order of the making finds in the parts that are handed on: base 0 is no reason.
  pub same_reason : first_reason (make_order (machine s ws bs) b r) ≡ first_reason (init_order (take n bs) (take k ws) (plan_of s))
  unfolding make_order init_order
  same_reason =
      rw (over_smaller most_bytes (length bs) b, bytes_part, words_part, part_test is_arena refl b (min (length bs) most_bytes) bs (omega arith), part_test is_table refl (4 * r) (length ws) ws (omega arith))
      (split (is_arena (length (take (part_of b (min (length bs) most_bytes)) bs))) (λ q. rw (q, zero_base _ q)) (λ q. rw q))

  -- If it finds none, the parts have so many bytes and so many rows.
  pub parts_whole : first_reason (make_order (machine s ws bs) b r) ≡ None → (n ≡ b) × (k ≡ 4 * r)
  unfolding make_order
  parts_whole q =
      let free = no_reason (make_order (machine s ws bs) b r) q in
      (bytes_part ∙ part_whole (not (is_arena b)) b (min (length bs) most_bytes) (rw (over_smaller most_bytes (length bs) b) at free.0), words_part ∙ part_whole (not (is_table (4 * r))) (4 * r) (length ws) free.1.0)

  module _ (out : Initialized) (bytes words : List ℕ) (d : InitDone (take n bs) (take k ws) (plan_of s) out bytes words) where
    -- Refused, the parts come back as they were.
    pub make_refused : (why : InitRefusal) → out.answer ≡ Err why
        → (make_answer (Err why) ≡ answer_to (machine s ws bs) (Some (command.Make b r)))
        × (machine s (words ++ drop k ws) (bytes ++ drop n bs) ≡ after (machine s ws bs) (Some (command.Make b r)))
    make_refused why e =
        let q : first_reason (init_order (take n bs) (take k ws) (plan_of s)) ≡ Some why = init_reason (take n bs) (take k ws) (plan_of s) why (sym d.answer ∙ e) in
        let table : words ≡ take k ws = rw q at d.table in
        let arena : bytes ≡ take n bs = rw q at d.arena in
        (rw (same_reason, q), rw (same_reason, q, table, arena, take-append-drop k ws, take-append-drop n bs))

    -- Done, the parts are the first b bytes and the first r rows.
    pub make_done : out.answer ≡ Ok tt
        → (make_answer (Ok b) ≡ answer_to (machine s ws bs) (Some (command.Make b r)))
        × (machine (with_heap s out.heap) (words ++ drop k ws) (bytes ++ drop n bs) ≡ after (machine s ws bs) (Some (command.Make b r)))
    make_done e =
        let q : first_reason (make_order (machine s ws bs) b r) ≡ None = same_reason ∙ none_applies _ _ _ (sym d.answer ∙ e) in
        let whole : (n ≡ b) × (k ≡ 4 * r) = parts_whole q in
        let w : InitDone (take b bs) (take (4 * r) ws) (plan_of s) out bytes words =
        subst (λ (l : ℕ × ℕ). InitDone (take l.0 bs) (take l.1 ws) (plan_of s) out bytes words) (λ i. (whole.0 i, whole.1 i)) d in
        (rw q, rw q (λ i. machine (with_heap s (w.heap i)) (w.table i ++ drop (whole.1 i) ws) (w.arena i ++ drop (whole.0 i) bs)))
