-- No two free segments touch: read from the first on, and of lists joined and parted.
-- Assumes nothing.
use Rattle.std.proofs.Common.{◌≡◌, ℕ, Bool, true, false, not, ltb, List, [], ◌∷◌, ◌++◌, refl, ap}
use borrow.Author.Tests.{not-true}
use Rattle.std.specs.Prelude.{◌&&◌}
use Rattle.model.specs.SegmentMap.{is_free, gap}
use Rattle.model.proofs.Choosing.{split, clash, both_left, both_right, both_true}
use Rattle.segments.specs.Tiling.{no_two_free}
use Rattle.model.specs.declared.Segment.{Segment}

-- no two free segments touch, after one that is free or not
abbrev pub apart_from : Bool → List Segment → Bool
apart_from b [] = true
apart_from b (x ∷ xs) = not (b && is_free x) && apart_from (is_free x) xs

pub apart_from_lem : (x : Segment) (xs : List Segment) → no_two_free (x ∷ xs) ≡ apart_from (is_free x) xs
apart_from_lem x [] = refl
apart_from_lem x (y ∷ ys) = ap (◌&&◌ (not (is_free x && is_free y))) (apart_from_lem y ys)

pub apart_all : (xs : List Segment) → no_two_free xs ≡ apart_from false xs
apart_all [] = refl
apart_all (x ∷ xs) = apart_from_lem x xs

-- the first segment is free, and the last one is; the last of none is as given
abbrev pub first_free : List Segment → Bool
first_free [] = false
first_free (x ∷ xs) = is_free x

abbrev pub last_free : Bool → List Segment → Bool
last_free b [] = b
last_free b (y ∷ ys) = last_free (is_free y) ys

pub last_end : (b : Bool) (ys : List Segment) (y : Segment) → last_free b (ys ++ (y ∷ [])) ≡ is_free y
last_end b [] y = refl
last_end b (x ∷ xs) y = last_end (is_free x) xs y

-- a list that is apart is so in both its parts
pub apart_front : (b : Bool) (ys zs : List Segment) → apart_from b (ys ++ zs) ≡ true → apart_from b ys ≡ true
apart_front b [] zs e = refl
apart_front b (y ∷ ys) zs e =
    both_true _ _ (both_left (not (b && is_free y)) (apart_from (is_free y) (ys ++ zs)) e)
    (apart_front (is_free y) ys zs (both_right (not (b && is_free y)) (apart_from (is_free y) (ys ++ zs)) e))

pub apart_back : (b : Bool) (ys zs : List Segment) → apart_from b (ys ++ zs) ≡ true → apart_from (last_free b ys) zs ≡ true
apart_back b [] zs e = e
apart_back b (y ∷ ys) zs e = apart_back (is_free y) ys zs (both_right (not (b && is_free y)) (apart_from (is_free y) (ys ++ zs)) e)

pub apart_join : (b : Bool) (ys zs : List Segment) → apart_from b ys ≡ true → apart_from (last_free b ys) zs ≡ true → apart_from b (ys ++ zs) ≡ true
apart_join b [] zs e f = f
apart_join b (y ∷ ys) zs e f =
    both_true _ _ (both_left (not (b && is_free y)) (apart_from (is_free y) ys) e)
    (apart_join (is_free y) ys zs (both_right (not (b && is_free y)) (apart_from (is_free y) ys) e) f)

-- before a free segment there is none
pub apart_free : (b : Bool) (x : Segment) (xs : List Segment) → is_free x ≡ true → apart_from b (x ∷ xs) ≡ true → b ≡ false
apart_free false x xs q e = refl
apart_free true x xs q e = absurd (clash false (rw q at (both_left (not (true && is_free x)) (apart_from (is_free x) xs) e)) refl)

-- after a segment that is free or not, unless the first is free
pub apart_any : (b d : Bool) (xs : List Segment) → first_free xs ≡ false → apart_from b xs ≡ true → apart_from d xs ≡ true
apart_any b d [] q e = refl
apart_any b d (x ∷ xs) q e =
    let r : apart_from (is_free x) xs ≡ true = both_right (not (b && is_free x)) (apart_from (is_free x) xs) e in
    both_true (not (d && is_free x)) (apart_from (is_free x) xs) (split d (λ p. rw (p, q)) (λ p. rw p)) r

-- after a free segment none is free
pub apart_first : (xs : List Segment) → apart_from true xs ≡ true → first_free xs ≡ false
apart_first [] e = refl
apart_first (x ∷ xs) e = not-true (is_free x) (both_left (not (true && is_free x)) (apart_from (is_free x) xs) e)

pub gap_apart : (s e : ℕ) (zs : List Segment) → apart_from true zs ≡ true → apart_from false (gap s e ++ zs) ≡ true
gap_apart s e zs a = split (ltb s e) (λ q. rw q a) (λ q. rw q (apart_any true false zs (apart_first zs a) a))
