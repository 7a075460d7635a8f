-- The rows in use read one after the other, and how far those of a tiling reach.
-- Assumes nothing.
use Rattle.std.proofs.Common.{◌≡◌, ℕ, zero, suc, ◌+◌, ◌*◌, ◌<◌, ◌≤◌, Bool, true, leb, List, [], ◌∷◌, ◌++◌, length, get_or, take, drop, sym, refl, ap, ◌∙◌, arith, take-append-drop, drop_of_length-le, length-take-le, get_or-drop, eqb-true, le-leb, leb-true}
use Rattle.std.specs.List.{list_all}
use Rattle.model.proofs.Choosing.{tests, every_head, every_tail}
use Rattle.segments.specs.Rows.{segment_at, segments_in, nth_row}
use Rattle.segments.specs.Tiling.{tiles}
use Rattle.segments.proofs.TilesMap.{First, first}
use Rattle.model.specs.declared.Segment.{Segment}

pub row_below : (ws : List ℕ) (j : ℕ) → segment_at (drop 4 ws) j ≡ segment_at ws (suc j)
row_below ws j =
    let at : (k : ℕ) → get_or (drop 4 ws) (4 * j + k) 0 ≡ get_or ws (4 * suc j + k) 0 =
    λ k. get_or-drop 4 ws (4 * j + k) 0 ∙ ap (λ (i : ℕ). get_or ws i 0) (omega arith) in
    let z : get_or (drop 4 ws) (4 * j) 0 ≡ get_or ws (4 * suc j) 0 = get_or-drop 4 ws (4 * j) 0 ∙ ap (λ (i : ℕ). get_or ws i 0) (omega arith) in
    λ i. record { start = z i; length = at 1 i; owner = at 2 i; requested = at 3 i }

-- A row in use is the segment in its four words.
pub row_got : (n i : ℕ) (ws : List ℕ) → i < n → nth_row (segments_in n ws) i ≡ segment_at ws i
row_got zero i ws h = absurd (omega arith)
row_got (suc n) zero ws h = refl
row_got (suc n) (suc i) ws h = row_got n i (drop 4 ws) (omega arith) ∙ row_below ws i

pub row_read : (n : ℕ) (ws : List ℕ) {i : ℕ} {x : Segment} → i < n → x ≡ segment_at ws i → x ≡ nth_row (segments_in n ws) i
row_read n ws {i} h e = e ∙ sym (row_got n i ws h)

-- The rows from row i on begin with that row.
pub rest_row : (xs : List Segment) (i : ℕ) → i < length xs → drop i xs ≡ nth_row xs i ∷ drop (i + 1) xs
rest_row [] i h = absurd (omega arith)
rest_row (x ∷ xs) zero h = refl
rest_row (x ∷ xs) (suc i) h =
    let z : suc i + 1 ≡ suc (i + 1) = omega arith in
    rw z (rest_row xs i (omega arith))

pub rest_none : (xs : List Segment) (i : ℕ) → length xs ≤ i → drop i xs ≡ []
rest_none xs i h = drop_of_length-le xs {i = i} h

-- The rows in use are those before row i, row i and those after it.
pub row_parted : (xs : List Segment) (i : ℕ) → i < length xs → xs ≡ take i xs ++ (nth_row xs i ∷ drop (i + 1) xs)
row_parted xs i h = sym (take-append-drop i xs) ∙ ap (λ (r : List Segment). take i xs ++ r) (rest_row xs i h)

pub rows_before : (xs : List Segment) (i : ℕ) → i < length xs → length (take i xs) ≡ i
rows_before xs i h = length-take-le i xs (omega arith)

-- what holds of every segment holds of each row
pub every_row : (p : Segment → Bool) (xs : List Segment) (i : ℕ) → i < length xs → list_all p xs ≡ true → p (nth_row xs i) ≡ true
every_row p [] i h e = absurd (omega arith)
every_row p (x ∷ xs) zero h e = every_head p x xs e
every_row p (x ∷ xs) (suc i) h e = every_row p xs i (omega arith) (every_tail p x xs e)

pub tiles_le : (s e : ℕ) (xs : List Segment) → tiles s e xs ≡ true → s ≤ e
tiles_le s e [] t = omega (tests, eqb-true s e t)
tiles_le s e (x ∷ xs) t =
    let f : First s e x xs = first s e x xs t in
    omega (arith, tiles_le (x.start + x.length) e xs f.rest)

-- no segment of a tiling ends after it
abbrev pub ends_by : ℕ → Segment → Bool
ends_by e x = leb (x.start + x.length) e

pub tiles_end : (s e : ℕ) (xs : List Segment) → tiles s e xs ≡ true → list_all (ends_by e) xs ≡ true
tiles_end s e [] t = refl
tiles_end s e (x ∷ xs) t =
    let f : First s e x xs = first s e x xs t in
    rw (le-leb (x.start + x.length) e (tiles_le (x.start + x.length) e xs f.rest)) (tiles_end (x.start + x.length) e xs f.rest)

-- No row of a tiling ends after it.
pub row_end : (e : ℕ) (xs : List Segment) (i : ℕ) → tiles 0 e xs ≡ true → i < length xs → (nth_row xs i).start + (nth_row xs i).length ≤ e
row_end e xs i t h = leb-true _ e (every_row (ends_by e) xs i h (tiles_end 0 e xs t))
