-- Rows replaced one change after another, apart from how they are written down.
-- Assumes nothing.
use Rattle.std.proofs.Common.{◌≡◌, ℕ, ◌+◌, ◌-◌, ◌<◌, ◌≤◌, true, false, List, [], ◌∷◌, ◌++◌, length, take, drop, sym, refl, ap, ◌∙◌, append_assoc, arith, length-append, take-append-drop, take_at, drop_at, le-ltb, lt-ltb}
use lib.Seq.{drop-append-add}
use Rattle.std.specs.Prelude.{◌&&◌}
use Rattle.model.specs.Allocation.{granules_of}
use Rattle.model.specs.SegmentMap.{is_free, free_run, gap}
use Rattle.model.proofs.Choosing.{split}
use Rattle.segments.specs.Changes.{replaced, removed, cut, join_first, joined, free_first, freed}
use Rattle.model.specs.declared.Segment.{Segment}

-- A window replaced, where the rows are given in parts.
pub replaced_at : (ys old new zs : List Segment) (i k : ℕ) → length ys ≡ i → length old ≡ k → replaced i k new (ys ++ (old ++ zs)) ≡ ys ++ (new ++ zs)
replaced_at ys old new zs i k li lk =
    let back : drop (i + k) (ys ++ (old ++ zs)) ≡ zs =
    ap (λ (j : ℕ). drop (j + k) (ys ++ (old ++ zs))) (sym li) ∙ drop-append-add ys (old ++ zs) k ∙ drop_at old zs k lk in
    rw (take_at ys (old ++ zs) i li, back)

pub replaced_none : (i : ℕ) (xs : List Segment) → replaced i 0 [] xs ≡ xs
replaced_none i xs = let z : i + 0 ≡ i = omega arith in rw (z, take-append-drop)

pub gap_some : (s e : ℕ) → s < e → gap s e ≡ free_run s (e - s) ∷ []
gap_some s e h = rw (lt-ltb s e h)

pub gap_none : (s e : ℕ) → e ≤ s → gap s e ≡ []
gap_none s e h = rw (le-ltb s e h)

-- A row set to a block, then what is left after it inserted, then what is left before it: the row cut for the block.
pub cut_steps : (ys zs : List Segment) (x b : Segment) (before after : List Segment) (i : ℕ) → length ys ≡ i
    → replaced i 0 before (replaced (i + 1) 0 after (replaced i 1 (b ∷ []) (ys ++ (x ∷ zs)))) ≡ replaced i 1 (before ++ (b ∷ after)) (ys ++ (x ∷ zs))
cut_steps ys zs x b before after i l =
    let one : replaced i 1 (b ∷ []) (ys ++ (x ∷ zs)) ≡ (ys ++ (b ∷ [])) ++ zs =
    replaced_at ys (x ∷ []) (b ∷ []) zs i 1 l refl ∙ sym (append_assoc ys (b ∷ []) zs) in
    let two : replaced (i + 1) 0 after ((ys ++ (b ∷ [])) ++ zs) ≡ ys ++ (b ∷ (after ++ zs)) =
    replaced_at (ys ++ (b ∷ [])) [] after zs (i + 1) 0 (simp length-append (omega arith)) refl ∙ append_assoc ys (b ∷ []) (after ++ zs) in
    ap (λ (q : List Segment). replaced i 0 before (replaced (i + 1) 0 after q)) one
    ∙ ap (replaced i 0 before) two
    ∙ replaced_at ys [] before (b ∷ (after ++ zs)) i 0 l refl
    ∙ sym (replaced_at ys (x ∷ []) (before ++ (b ∷ after)) zs i 1 l refl ∙ ap (λ (q : List Segment). ys ++ q) (append_assoc before (b ∷ after) zs))

pub cut_length : (x b : Segment) → length (cut x b) ≡ length (gap x.start b.start) + 1 + length (gap (b.start + b.length) (x.start + x.length))
cut_length x b = simp length-append (omega arith)

-- Two rows that become one: the first set, the second removed.
pub join_steps : (ys zs : List Segment) (x y run : Segment) (i : ℕ) → length ys ≡ i
    → removed (i + 1) (replaced i 1 (run ∷ []) (ys ++ (x ∷ y ∷ zs))) ≡ ys ++ (run ∷ zs)
join_steps ys zs x y run i l =
    let one : replaced i 1 (run ∷ []) (ys ++ (x ∷ y ∷ zs)) ≡ (ys ++ (run ∷ [])) ++ (y ∷ zs) =
    replaced_at ys (x ∷ []) (run ∷ []) (y ∷ zs) i 1 l refl ∙ sym (append_assoc ys (run ∷ []) (y ∷ zs)) in
    ap (removed (i + 1)) one
    ∙ replaced_at (ys ++ (run ∷ [])) (y ∷ []) [] zs (i + 1) 1 (simp length-append (omega arith)) refl
    ∙ append_assoc ys (run ∷ []) zs

-- Two rows are joined exactly if both are free.
pub first_live : (x : Segment) (ys : List Segment) → is_free x ≡ false → join_first (x ∷ ys) ≡ x ∷ ys
first_live x [] q = refl
first_live x (y ∷ ys) q = rw q

pub second_live : (x y : Segment) (ys : List Segment) → is_free y ≡ false → join_first (x ∷ y ∷ ys) ≡ x ∷ y ∷ ys
second_live x y ys q = split (is_free x) (λ p. rw (p, q)) (λ p. rw p)

pub both_free : (x y : Segment) (ys : List Segment) → is_free x ≡ true → is_free y ≡ true → join_first (x ∷ y ∷ ys) ≡ free_run x.start (x.length + y.length) ∷ ys
both_free x y ys p q = rw (p, q)

-- Freeing and joining keep the sum of the lengths; freeing keeps the number of rows, and joining takes at most one.
pub granules_append : (xs ys : List Segment) → granules_of (xs ++ ys) ≡ granules_of xs + granules_of ys
granules_append [] ys = omega arith
granules_append (x ∷ xs) ys = omega (arith, granules_append xs ys)

module _ (f : List Segment → List Segment) (i : ℕ) (xs : List Segment) where
  granules_from : granules_of (f (drop i xs)) ≡ granules_of (drop i xs) → granules_of (take i xs ++ f (drop i xs)) ≡ granules_of xs
  granules_from h =
      omega (arith, granules_append (take i xs) (f (drop i xs)), granules_append (take i xs) (drop i xs), ap granules_of (take-append-drop i xs))

  length_from : (k : ℕ) → length (f (drop i xs)) + k ≡ length (drop i xs) → length (take i xs ++ f (drop i xs)) + k ≡ length xs
  length_from k h =
      omega (arith, length-append (take i xs) (f (drop i xs)), length-append (take i xs) (drop i xs), ap length (take-append-drop i xs))

granules_join_first : (xs : List Segment) → granules_of (join_first xs) ≡ granules_of xs
granules_join_first [] = refl
granules_join_first (x ∷ []) = refl
granules_join_first (x ∷ y ∷ ys) = split (is_free x && is_free y) (λ q. rw q (omega arith)) (λ q. rw q)

granules_free_first : (xs : List Segment) → granules_of (free_first xs) ≡ granules_of xs
granules_free_first [] = refl
granules_free_first (x ∷ xs) = refl

length_join_first : (xs : List Segment) → (k : ℕ) × (k ≤ 1) × (length (join_first xs) + k ≡ length xs)
length_join_first [] = (0, omega arith, omega arith)
length_join_first (x ∷ []) = (0, omega arith, omega arith)
length_join_first (x ∷ y ∷ ys) =
    split (is_free x && is_free y) (λ q. rw q (1, omega arith, omega arith)) (λ q. rw q (0, omega arith, omega arith))

length_free_first : (xs : List Segment) → length (free_first xs) + 0 ≡ length xs
length_free_first [] = refl
length_free_first (x ∷ xs) = omega arith

module _ (i : ℕ) (xs : List Segment) where
  pub granules_joined : granules_of (joined i xs) ≡ granules_of xs
  granules_joined = granules_from join_first i xs (granules_join_first (drop i xs))

  pub granules_freed : granules_of (freed i xs) ≡ granules_of xs
  granules_freed = granules_from free_first i xs (granules_free_first (drop i xs))

  pub length_freed : length (freed i xs) ≡ length xs
  length_freed = omega (arith, length_from free_first i xs 0 (length_free_first (drop i xs)))

  pub length_joined : (length (joined i xs) ≤ length xs) × (length xs ≤ length (joined i xs) + 1)
  length_joined =
      let e = length_join_first (drop i xs) in
      let z = length_from join_first i xs e.0 e.2 in
      (omega arith, omega arith)
