-- The rows of a tiling, one after the other: each ends where the next one starts.
-- Assumes nothing.
use Rattle.std.proofs.Common.{◌≡◌, ℕ, zero, suc, ◌+◌, ◌<◌, ◌≤◌, true, ltb, List, length, drop, sym, ap, ◌∙◌, add-one, arith, eqb-true, le-leb}
use Rattle.model.proofs.Choosing.{split, tests}
use Rattle.segments.specs.Rows.{nth_row}
use Rattle.segments.specs.Tiling.{tiles}
use Rattle.segments.specs.Search.{RowOf}
use Rattle.segments.proofs.TilesMap.{First, first}
use Rattle.segments.proofs.Reading.{rest_row, rest_none}
use Rattle.model.specs.declared.Segment.{Segment}

module _ (s e : ℕ) (xs : List Segment) (t : tiles s e xs ≡ true) where
  abbrev end_of : ℕ → ℕ
  end_of i = (nth_row xs i).start + (nth_row xs i).length

  -- what tiles says of row i, if the rows from there on begin at b
  at : (b i : ℕ) → i < length xs → tiles b e (drop i xs) ≡ true → First b e (nth_row xs i) (drop (i + 1) xs)
  at b i h r = first b e (nth_row xs i) (drop (i + 1) xs) (ap (tiles b e) (sym (rest_row xs i h)) ∙ r)

  row_0 : 0 < length xs → First s e (nth_row xs 0) (drop 1 xs)
  row_0 h = at s 0 h t

  -- the rows after row i begin where it ends
  after : (i : ℕ) → i < length xs → tiles (end_of i) e (drop (i + 1) xs) ≡ true
  after zero h = (row_0 h).rest
  after (suc i) h = rw (← add-one i) (at (end_of i) (i + 1) (omega arith) (after i (omega arith))).rest

  -- Row 0 starts where the tiling does.
  pub row_first : 0 < length xs → (nth_row xs 0).start ≡ s
  row_first h = (row_0 h).start

  -- A row that is not the last ends where the next one starts.
  pub row_next : (i : ℕ) → i + 1 < length xs → (nth_row xs i).start + (nth_row xs i).length ≡ (nth_row xs (i + 1)).start
  row_next i h = sym (at (end_of i) (i + 1) h (after i (omega arith))).start

  -- The last row ends where the tiling does.
  pub row_last : (i : ℕ) → i + 1 ≡ length xs → (nth_row xs i).start + (nth_row xs i).length ≡ e
  row_last i h = eqb-true _ _ (ap (tiles (end_of i) e) (sym (rest_none xs (i + 1) (omega arith))) ∙ after i (omega arith))

-- A row is the granule's if it is row 0 or does not start after it, and is the last or the next one starts after it.
pub row_has : {x i : ℕ} {xs : List Segment} → i < length xs → (0 < i → (nth_row xs i).start ≤ x) → (i + 1 < length xs → x < (nth_row xs (i + 1)).start) → RowOf xs x i
row_has {x} {i} {xs} h low high =
    record {
      in_use = h;
      has = λ e t l.
          let a : (nth_row xs i).start ≤ x =
          split (ltb 0 i)
          (λ q. low (omega tests))
          (λ q. let z : i ≡ 0 = omega tests in rw z (omega (arith, row_first 0 e xs t (omega arith)))) in
          let b : x < (nth_row xs i).start + (nth_row xs i).length =
          split (ltb (i + 1) (length xs))
          (λ q. omega (arith, high (omega tests), row_next 0 e xs t i (omega tests)))
          (λ q. omega (arith, row_last 0 e xs t i (omega tests))) in
          rw (le-leb (nth_row xs i).start x a) (omega tests);
    }
