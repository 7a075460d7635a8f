-- Rows in use that are replaced by others, as words: what one row set, opened or closed comes to, and one replacement after another.
-- Assumes nothing.
use Rattle.std.proofs.Common.{◌≡◌, ℕ, zero, suc, ◌+◌, ◌-◌, ◌*◌, ◌<◌, ◌≤◌, max, List, [], ◌∷◌, ◌++◌, length, take, drop, replicate, sym, refl, ap, ◌∙◌, append_assoc, append-nil, arith, length-append, length-drop, take-append-drop, drop_of_length-le, length-take, length-take-le, drop-drop, take_at, drop_at}
use lib.ListN.{replicate-append-replicate}
use lib.Seq.{drop-append-add}
use Rattle.std.specs.List.{copy_within}
use Rattle.std.proofs.lemmas.List.{take-append-le, take-take}
use borrow.Rule.Slice.PartMut.{put_mid}
use Rattle.segments.specs.Rows.{words_of, table_of, segment_at, segments_in, with_row, with_rows}
use Rattle.segments.specs.Changes.{replaced, inserted, removed}
use Rattle.segments.proofs.Rows.{length_words, length_segments, words_back}
use Rattle.model.specs.declared.Segment.{Segment}

pub words_append : (ys zs : List Segment) → words_of (ys ++ zs) ≡ words_of ys ++ words_of zs
words_append [] zs = refl
words_append (y ∷ ys) zs = ap (λ r. y.start ∷ y.length ∷ y.owner ∷ y.requested ∷ r) (words_append ys zs)

-- zeros before other words; std has zeros alone
drop_zeros : (k n : ℕ) (ws : List ℕ) → drop k (replicate n 0 ++ ws) ≡ replicate (n - k) 0 ++ drop (k - n) ws
drop_zeros zero n ws = let z : n - 0 ≡ n = omega arith in let y : 0 - n ≡ 0 = omega arith in rw (z, y)
drop_zeros (suc k) zero ws = let z : 0 - suc k ≡ 0 = omega arith in let y : suc k - 0 ≡ suc k = omega arith in rw (z, y)
drop_zeros (suc k) (suc n) ws = let z : suc n - suc k ≡ n - k = omega arith in let y : suc k - suc n ≡ k - n = omega arith in rw (z, y) (drop_zeros k n ws)

-- the words of the first n rows
words_read : (n : ℕ) (ws : List ℕ) → 4 * n ≤ length ws → take (4 * n) ws ≡ words_of (segments_in n ws)
words_read n ws h =
    ap (take (4 * n)) (sym (words_back n ws h))
    ∙ take_at (words_of (segments_in n ws)) (drop (4 * n) ws) (4 * n) (omega (arith, length_words (segments_in n ws), length_segments n ws))

segments_front : (i n : ℕ) (ws : List ℕ) → i ≤ n → segments_in i ws ≡ take i (segments_in n ws)
segments_front zero n ws h = refl
segments_front (suc i) zero ws h = absurd (omega arith)
segments_front (suc i) (suc n) ws h = ap (λ r. segment_at ws 0 ∷ r) (segments_front i n (drop 4 ws) (omega arith))

segments_back : (i n : ℕ) (ws : List ℕ) → i ≤ n → segments_in (n - i) (drop (4 * i) ws) ≡ drop i (segments_in n ws)
segments_back zero n ws h = let z : n - 0 ≡ n = omega arith in rw z
segments_back (suc i) zero ws h = absurd (omega arith)
segments_back (suc i) (suc n) ws h =
    let z : suc n - suc i ≡ n - i = omega arith in
    let d : drop (4 * suc i) ws ≡ drop (4 * i) (drop 4 ws) =
    (let y : 4 * suc i ≡ 4 + 4 * i = omega arith in ap (λ (k : ℕ). drop k ws) y ∙ sym (drop-drop (4 * i) 4 ws)) in
    rw (z, d) (segments_back i n (drop 4 ws) (omega arith))

module _ (n : ℕ) (ws : List ℕ) (fits : 4 * n ≤ length ws) (i : ℕ) (h : i ≤ n) where
  -- the words before row i, and those of the rows from there on
  words_front : take (4 * i) ws ≡ words_of (take i (segments_in n ws))
  words_front = words_read i ws (omega arith) ∙ ap words_of (segments_front i n ws h)

  words_rest : take (4 * (n - i)) (drop (4 * i) ws) ≡ words_of (drop i (segments_in n ws))
  words_rest =
      words_read (n - i) (drop (4 * i) ws) (omega (arith, length-drop (4 * i) ws)) ∙ ap words_of (segments_back i n ws h)

-- rows that are no fewer, or no more, than those in use
module _ (n : ℕ) (ws : List ℕ) (xs : List Segment) where
  pub more_rows : n ≤ length xs → with_rows n ws xs ≡ words_of xs ++ drop (4 * length xs) ws
  more_rows h =
      let z : 4 * (n - length xs) ≡ 0 = omega arith in
      let y : max n (length xs) ≡ length xs = omega arith in
      rw (z, y)

  pub fewer_rows : length xs ≤ n → with_rows n ws xs ≡ words_of xs ++ (replicate (4 * (n - length xs)) 0 ++ drop (4 * n) ws)
  fewer_rows h = let y : max n (length xs) ≡ n = omega arith in rw y

pub length_replaced : (i k : ℕ) (new xs : List Segment) → i + k ≤ length xs → length (replaced i k new xs) ≡ length xs - k + length new
length_replaced i k new xs h = simp (length-append, length-take, length-drop) (omega arith)

-- the words of rows of which some were replaced
words_replaced : (n : ℕ) (ws : List ℕ) (i k : ℕ) (new : List Segment) (t : List ℕ) → 4 * n ≤ length ws → i + k ≤ n
    → words_of (replaced i k new (segments_in n ws)) ++ t ≡ take (4 * i) ws ++ (words_of new ++ (take (4 * (n - (i + k))) (drop (4 * (i + k)) ws) ++ t))
words_replaced n ws i k new t fits h =
    rw (words_front n ws fits i (omega arith), words_rest n ws fits (i + k) h, words_append, words_append, append_assoc, append_assoc)

module _ (n : ℕ) (ws : List ℕ) (fits : 4 * n ≤ length ws) (i : ℕ) where
  abbrev segs : List Segment
  segs = segments_in n ws

  pub replaced_count : (k : ℕ) (new : List Segment) → i + k ≤ n → length (replaced i k new segs) ≡ n - k + length new
  replaced_count k new h = length_replaced i k new segs (omega (arith, length_segments n ws)) ∙ ap (λ (m : ℕ). m - k + length new) (length_segments n ws)

  -- One row set.
  pub row_set : (x : Segment) → i < n → with_row ws i x ≡ with_rows n ws (replaced i 1 (x ∷ []) segs)
  row_set x h =
      let l : length (replaced i 1 (x ∷ []) segs) ≡ n = replaced_count 1 (x ∷ []) (omega arith) ∙ omega arith in
      let m : 4 * (i + 1) ≡ 4 * i + 4 = omega arith in
      let e : 4 * i + 4 + 4 * (n - (i + 1)) ≡ 4 * n = omega arith in
      let back : take (4 * (n - (i + 1))) (drop (4 * i + 4) ws) ++ drop (4 * n) ws ≡ drop (4 * i + 4) ws =
      ap (λ (q : List ℕ). take (4 * (n - (i + 1))) (drop (4 * i + 4) ws) ++ q) (ap (λ (q : ℕ). drop q ws) (sym e) ∙ sym (drop-drop (4 * (n - (i + 1))) (4 * i + 4) ws))
      ∙ take-append-drop (4 * (n - (i + 1))) (drop (4 * i + 4) ws) in
      sym (more_rows n ws (replaced i 1 (x ∷ []) segs) (omega arith)
      ∙ ap (λ (q : ℕ). words_of (replaced i 1 (x ∷ []) segs) ++ drop (4 * q) ws) l
      ∙ words_replaced n ws i 1 (x ∷ []) (drop (4 * n) ws) fits (omega arith)
      ∙ rw m (ap (λ (q : List ℕ). take (4 * i) ws ++ (words_of (x ∷ []) ++ q)) back))

  -- The rows from row i on moved up by one, and row i set.
  pub row_more : (x : Segment) → 4 * n + 4 ≤ length ws → i ≤ n → with_row (copy_within ws (4 * i) (4 * n) (4 * i + 4)) i x ≡ with_rows n ws (inserted i x segs)
  row_more x room h =
      let r : List ℕ = take (4 * n - 4 * i) (drop (4 * i) ws) ++ drop (4 * i + 4 + (4 * n - 4 * i)) ws in
      let l : length (inserted i x segs) ≡ n + 1 = replaced_count 0 (x ∷ []) (omega arith) ∙ omega arith in
      let la : length (take (4 * i + 4) ws) ≡ 4 * i + 4 = length-take-le (4 * i + 4) ws (omega arith) in
      let front : take (4 * i) (take (4 * i + 4) ws ++ r) ≡ take (4 * i) ws =
      take-append-le (4 * i) (take (4 * i + 4) ws) r (omega arith) ∙ take-take (4 * i) (4 * i + 4) ws (omega arith) in
      let back : drop (4 * i + 4) (take (4 * i + 4) ws ++ r) ≡ r = drop_at (take (4 * i + 4) ws) r (4 * i + 4) la in
      let e : 4 * i + 4 + (4 * n - 4 * i) ≡ 4 * (n + 1) = omega arith in
      let k : 4 * n - 4 * i ≡ 4 * (n - (i + 0)) = omega arith in
      let z : i ≡ i + 0 = omega arith in
      ap (λ (q : List ℕ). with_row q i x) (append_assoc (take (4 * i + 4) ws) (take (4 * n - 4 * i) (drop (4 * i) ws)) (drop (4 * i + 4 + (4 * n - 4 * i)) ws))
      ∙ (λ j. front j ++ (words_of (x ∷ []) ++ back j))
      ∙ (λ j. take (4 * i) ws ++ (words_of (x ∷ []) ++ (take (k j) (drop (4 * z j) ws) ++ drop (e j) ws)))
      ∙ sym (more_rows n ws (inserted i x segs) (omega arith)
      ∙ ap (λ (q : ℕ). words_of (inserted i x segs) ++ drop (4 * q) ws) l
      ∙ words_replaced n ws i 0 (x ∷ []) (drop (4 * (n + 1)) ws) fits (omega arith))

  -- The rows after row i moved down by one, and the last row zeroed.
  pub row_less : i < n → put_mid (4 * n - 4) 4 (copy_within ws (4 * i + 4) (4 * n) (4 * i)) (replicate 4 0) ≡ with_rows n ws (removed i segs)
  row_less h =
      let a : List ℕ = take (4 * i) ws ++ take (4 * n - (4 * i + 4)) (drop (4 * i + 4) ws) in
      let t : List ℕ = drop (4 * i + (4 * n - (4 * i + 4))) ws in
      let l : length (removed i segs) ≡ n - 1 = replaced_count 1 [] (omega arith) ∙ omega arith in
      let la : length a ≡ 4 * n - 4 = simp (length-append, length-take, length-drop) (omega arith) in
      let front : take (4 * n - 4) (a ++ t) ≡ a = take_at a t (4 * n - 4) la in
      let back : drop (4 * n - 4) (a ++ t) ≡ t = drop_at a t (4 * n - 4) la in
      let tail : drop 4 t ≡ drop (4 * n) ws = drop-drop 4 (4 * i + (4 * n - (4 * i + 4))) ws ∙ ap (λ (q : ℕ). drop q ws) (omega arith) in
      let four : 4 * (n - (n - 1)) ≡ 4 = omega arith in
      let m : 4 * i + 4 ≡ 4 * (i + 1) = omega arith in
      let c : 4 * n - (4 * i + 4) ≡ 4 * (n - (i + 1)) = omega arith in
      (λ j. front j ++ (replicate 4 0 ++ drop 4 (back j)))
      ∙ (λ j. a ++ (replicate 4 0 ++ tail j))
      ∙ append_assoc (take (4 * i) ws) (take (4 * n - (4 * i + 4)) (drop (4 * i + 4) ws)) (replicate 4 0 ++ drop (4 * n) ws)
      ∙ (λ j. take (4 * i) ws ++ (take (c j) (drop (m j) ws) ++ (replicate 4 0 ++ drop (4 * n) ws)))
      ∙ sym (fewer_rows n ws (removed i segs) (omega arith)
      ∙ ap (λ (q : ℕ). words_of (removed i segs) ++ (replicate (4 * (n - q)) 0 ++ drop (4 * n) ws)) l
      ∙ ap (λ (q : ℕ). words_of (removed i segs) ++ (replicate q 0 ++ drop (4 * n) ws)) four
      ∙ words_replaced n ws i 1 [] (replicate 4 0 ++ drop (4 * n) ws) fits (omega arith))

  -- The rows as they are.
  pub rows_same : with_rows n ws segs ≡ ws
  rows_same = more_rows n ws segs (omega (arith, length_segments n ws)) ∙ ap (λ (q : ℕ). words_of segs ++ drop (4 * q) ws) (length_segments n ws) ∙ words_back n ws fits

-- what stands after b rows, written over a rows that were written over n
module _ (n a b : ℕ) (h : a ≤ max n b) where
  zeros_left : 4 * (a - b) + (4 * (n - a) - 4 * (b - a)) ≡ 4 * (n - b)
  zeros_left = omega arith

  words_left : 4 * max n a + (4 * (b - a) - 4 * (n - a)) ≡ 4 * max n b
  words_left = omega arith

  tail_left : (us ws : List ℕ) → length us ≡ 4 * a
      → replicate (4 * (a - b)) 0 ++ drop (4 * max a b) (us ++ (replicate (4 * (n - a)) 0 ++ drop (4 * max n a) ws)) ≡ replicate (4 * (n - b)) 0 ++ drop (4 * max n b) ws
  tail_left us ws l =
      let z : 4 * max a b ≡ length us + 4 * (b - a) = omega arith in
      rw (z, drop-append-add, drop_zeros, drop-drop, words_left, ← append_assoc, replicate-append-replicate, zeros_left)

-- One change after another leaves what the second alone does, unless the first takes rows into use that the second takes out of use again.
pub then_rows : (n : ℕ) (ws : List ℕ) (xs ys : List Segment) → length xs ≤ max n (length ys) → with_rows (length xs) (with_rows n ws xs) ys ≡ with_rows n ws ys
then_rows n ws xs ys h = ap (λ (q : List ℕ). words_of ys ++ q) (tail_left n (length xs) (length ys) h (words_of xs) ws (length_words xs))

-- A row before zeros.
pub row_zeros : (n : ℕ) (x : Segment) → with_row (replicate n 0) 0 x ≡ words_of (x ∷ []) ++ replicate (n - 4) 0
row_zeros n x =
    ap (λ (q : List ℕ). words_of (x ∷ []) ++ q)
    (ap (drop 4) (sym (append-nil (replicate n 0))) ∙ drop_zeros 4 n [] ∙ rw (drop_of_length-le {A = ℕ} [] {i = 4 - n} (omega arith)) (append-nil (replicate (n - 4) 0)))

-- the table of some segments, as rows written over none
table_is : (capacity : ℕ) (xs : List Segment) → table_of capacity xs ≡ with_rows capacity [] xs
table_is capacity xs =
    sym (rw (drop_of_length-le {A = ℕ} [] {i = 4 * max capacity (length xs)} (omega arith), append-nil (replicate {A = ℕ} (4 * (capacity - length xs)) 0)))

-- The table of some segments with others in use instead is the table of those.
pub table_rows : (capacity : ℕ) (xs ys : List Segment) → length xs ≤ capacity → with_rows (length xs) (table_of capacity xs) ys ≡ table_of capacity ys
table_rows capacity xs ys h =
    ap (λ (q : List ℕ). with_rows (length xs) q ys) (table_is capacity xs) ∙ then_rows capacity [] xs ys (omega arith) ∙ sym (table_is capacity ys)
