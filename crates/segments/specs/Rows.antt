-- The rows of a table as words: written, read back, and written over.
-- Assumes nothing.
use Rattle.std.specs.Prelude.{◌≡◌, ℕ, zero, suc, ◌+◌, ◌-◌, ◌*◌, max, List, [], ◌∷◌, ◌++◌, filter, length, take, drop, replicate, slice_index, slice_index_or}
use Rattle.model.specs.SegmentMap.{is_live, free_run}
use Rattle.model.specs.declared.Segment.{Segment}

-- Each row is four words: start granule, length in granules, owner (0 means free), bytes requested (0 if free).
abbrev pub words_of : List Segment → List ℕ
words_of [] = []
words_of (x ∷ xs) = x.start ∷ x.length ∷ x.owner ∷ x.requested ∷ words_of xs

-- A table of so many rows has the rows in use from row 0 on, and the rows after those are all zero.
abbrev pub table_of : ℕ → List Segment → List ℕ
table_of capacity xs = words_of xs ++ replicate (4 * (capacity - length xs)) 0

-- Row i holds the segment made of its four words; a word past the end reads as 0.
abbrev pub segment_at : List ℕ → ℕ → Segment
segment_at ws i = record { start = slice_index ws (4 * i); length = slice_index ws (4 * i + 1); owner = slice_index ws (4 * i + 2); requested = slice_index ws (4 * i + 3) }

-- The first n rows hold a segment each.
abbrev pub segments_in : ℕ → List ℕ → List Segment
segments_in zero ws = []
segments_in (suc n) ws = segment_at ws 0 ∷ segments_in n (drop 4 ws)

-- Row i of the rows in use; past the last it reads as zeros.
abbrev pub nth_row : List Segment → ℕ → Segment
nth_row xs i = slice_index_or xs i (free_run 0 0)

-- The live blocks in the first n rows are the segments there that are not free.
abbrev pub blocks_in : ℕ → List ℕ → List Segment
blocks_in n ws = filter is_live (segments_in n ws)

-- A table with its row i set has every other word as it was.
abbrev pub with_row : List ℕ → ℕ → Segment → List ℕ
with_row ws i x = take (4 * i) ws ++ (words_of (x ∷ []) ++ drop (4 * i + 4) ws)

-- A table whose first n rows were in use has these rows in use instead: a row that falls out of use is zero, and every word after both stays.
abbrev pub with_rows : ℕ → List ℕ → List Segment → List ℕ
with_rows n ws xs = words_of xs ++ (replicate (4 * (n - length xs)) 0 ++ drop (4 * max n (length xs)) ws)

-- A call that is handed a table with n rows in use leaves these rows in it, and answers how many they are.
pub record Rewritten (n : ℕ) (before : List ℕ) (xs : List Segment) (m : ℕ) (after : List ℕ) : Type 0 where
  pub rows : m ≡ length xs
  pub words : after ≡ with_rows n before xs
