-- Rows written as words and read back, both ways.
-- Assumes nothing.
use Rattle.std.proofs.Common.{◌≡◌, ℕ, zero, suc, ◌-◌, ◌*◌, ◌≤◌, true, eqb, List, [], ◌∷◌, ◌++◌, length, drop, replicate, refl, ap, ◌∙◌, arith, length-append, length-drop, drop_at, eqb-true}
use lib.ListN.{length-replicate}
use Rattle.std.specs.List.{list_all}
use Rattle.model.proofs.Choosing.{every_head, every_tail}
use Rattle.segments.specs.Rows.{words_of, table_of, segments_in}
use Rattle.model.specs.declared.Segment.{Segment}

-- Segments that are written are read back.
pub read_back : (ss : List Segment) (rest : List ℕ) → segments_in (length ss) (words_of ss ++ rest) ≡ ss
read_back [] rest = refl
read_back (s ∷ ss) rest = ap (λ r. s ∷ r) (read_back ss rest)

pub length_words : (ss : List Segment) → length (words_of ss) ≡ 4 * length ss
length_words [] = refl
length_words (s ∷ ss) = omega (arith, length_words ss)

pub length_table : (n : ℕ) (ss : List Segment) → length ss ≤ n → length (table_of n ss) ≡ 4 * n
length_table n ss h = rw length-append (omega (arith, length_words ss, length-replicate (4 * (n - length ss)) (zero)))

pub length_segments : (n : ℕ) (ws : List ℕ) → length (segments_in n ws) ≡ n
length_segments zero ws = refl
length_segments (suc n) ws = ap suc (length_segments n (drop 4 ws))

-- Words that are read as segments are written again.
pub words_back : (n : ℕ) (ws : List ℕ) → 4 * n ≤ length ws → words_of (segments_in n ws) ++ drop (4 * n) ws ≡ ws
words_back zero ws h = refl
words_back (suc n) [] h = absurd (omega arith)
words_back (suc n) (a ∷ []) h = absurd (omega arith)
words_back (suc n) (a ∷ b ∷ []) h = absurd (omega arith)
words_back (suc n) (a ∷ b ∷ c ∷ []) h = absurd (omega arith)
words_back (suc n) (a ∷ b ∷ c ∷ d ∷ ws) h =
    let z : 4 * suc n ≡ suc (suc (suc (suc (4 * n)))) = omega arith in
    rw z (ap (λ r. a ∷ b ∷ c ∷ d ∷ r) (words_back n ws (omega arith)))

-- Words are all zero exactly if they are so many zeros.
zeros : (n : ℕ) → list_all (eqb 0) (replicate n 0) ≡ true
zeros zero = refl
zeros (suc n) = zeros n

pub zeros_back : (xs : List ℕ) → list_all (eqb 0) xs ≡ true → replicate (length xs) 0 ≡ xs
zeros_back [] e = refl
zeros_back (x ∷ xs) e = let z : 0 ≡ x = eqb-true 0 x (every_head (eqb 0) x xs e) in λ i. z i ∷ zeros_back xs (every_tail (eqb 0) x xs e) i

-- The rows after those in use are all zero.
pub rest_zeros : (n : ℕ) (ss : List Segment) → list_all (eqb 0) (drop (4 * length ss) (table_of n ss)) ≡ true
rest_zeros n ss = rw (drop_at (words_of ss) (replicate (4 * (n - length ss)) 0) (4 * length ss) (length_words ss)) (zeros (4 * (n - length ss)))

-- A table of so many rows whose words after the first n rows are all zero is the table of the segments in those.
pub table_back : (capacity n : ℕ) (ws : List ℕ) → length ws ≡ 4 * capacity → n ≤ capacity → list_all (eqb 0) (drop (4 * n) ws) ≡ true
    → table_of capacity (segments_in n ws) ≡ ws
table_back capacity n ws l h z =
    let k : 4 * (capacity - length (segments_in n ws)) ≡ length (drop (4 * n) ws) = omega (arith, length-drop (4 * n) ws, length_segments n ws) in
    ap (λ (k : ℕ). words_of (segments_in n ws) ++ replicate k 0) k
    ∙ ap (λ (q : List ℕ). words_of (segments_in n ws) ++ q) (zeros_back (drop (4 * n) ws) z)
    ∙ words_back n ws (omega arith)
