-- Parts of lists, and texts that are set into them.
-- Assumes nothing.
use borrow.Rule.Slice.PartMut.{put_mid}
use Rattle.std.proofs.lemmas.Slice.{put_mid-paste}
use mathlib.Core.Path.{◌≡◌, refl, sym, ap, ◌∙◌}
use mathlib.Core.List.{List, [], ◌∷◌, ◌++◌}
use Prim.Native.Nat.{ℕ, suc, ◌+◌, ◌-◌, ◌≤◌, min}
use native.Mathlib.Omega.{arith}
use lib.Dec.{leb}
use lib.ListN.{length, set, take, drop, length-append, length-drop, drop_of_length-le}
use lib.Seq.{sets, sets-eq, take_all, take-length, take-append_seam, drop-length, length-take-le}
use Rattle.model.proofs.Choosing.{split, tests}
use Rattle.script.specs.Text.{at_front}

-- The first n, where n is k or all if there are fewer, are the first k, and what is left is what is left after k.
pub at_most : (k n : ℕ) (l : List ℕ) → n ≡ min k (length l) → (take n l ≡ take k l) × (drop n l ≡ drop k l)
at_most k n l e =
    split (leb k (length l))
    (λ q. let z : n ≡ k = omega tests in (rw z, rw z))
    (λ q.
    let z : n ≡ length l = omega tests in
    let h : length l ≤ k = omega tests in
    (rw z (take-length l ∙ sym (take_all k l h)), rw z (drop-length l ∙ sym (drop_of_length-le l h))))

-- The part of a text from place i on, as a loan of it is made; std has it of a whole list.
pub rest_part : (l : List ℕ) (i : ℕ) → take (length l - i) (drop i l) ≡ drop i l
rest_part l i = take_all (length l - i) (drop i l) (omega (arith, length-drop i l))

-- Bytes that are set after others are set with them.
pub sets_append : (l : List ℕ) (i : ℕ) (a b : List ℕ) → sets (sets l i a) (i + length a) b ≡ sets l i (a ++ b)
sets_append l i [] b = let z : i + 0 ≡ i = omega arith in rw z
sets_append l i (x ∷ a) b =
    let z : i + suc (length a) ≡ suc i + length a = omega arith in rw z (sets_append (set l i x) (suc i) a b)

-- A text that is copied into a part is set there.
pub copied : (l text ys : List ℕ) (at k : ℕ) → at + length text ≤ length l → ys ≡ text → k ≡ length text → put_mid at k l ys ≡ sets l at text
copied l text ys at k h e z = put_mid-paste at k l ys text (length text) e (sym z) refl ∙ rw take-length (sym (sets-eq text l at h))

-- A text that is set from the start on stands at the front.
pub sets_front : (text l : List ℕ) → length text ≤ length l → sets l 0 text ≡ at_front text l
sets_front text l h = let z : 0 + length text ≡ length text = omega arith in sets-eq text l 0 (omega arith) ∙ rw z

-- A text at the front of a buffer is read back from there.
pub front_text : (text l after : List ℕ) (n : ℕ) → n ≡ length text → after ≡ at_front text l → take n after ≡ text
front_text text l after n e f = rw (e, f) (take-append_seam text _)

-- It is the buffer's first bytes, and there are so many.
pub front_counts : (text l after : List ℕ) (n : ℕ) → n ≡ length text → after ≡ at_front text l → (n ≤ length after) × (n ≡ length (take n after))
front_counts text l after n e f =
    let h : n ≤ length after = omega (arith, ap length f, length-append text (drop (length text) l)) in
    (h, sym (length-take-le n after h))
