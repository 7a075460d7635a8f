-- The rows in use changed in steps, one function after another: a gap inserted, a row cut, two rows joined, a row released.
-- Assumes nothing.
use Rattle.std.proofs.Common.{◌≡◌, ℕ, ◌+◌, ◌-◌, ◌*◌, ◌<◌, ◌≤◌, max, true, false, List, [], ◌∷◌, ◌++◌, length, take, drop, replicate, sym, ap, ◌∙◌, subst, arith, take-append-drop, drop_of_length-le, le-ltb, lt-ltb}
use Rattle.segments.specs.Rows.{table_of, segment_at, nth_row, segments_in, with_row, with_rows, Rewritten}
use Rattle.model.specs.Allocation.{granules_of}
use Rattle.model.specs.SegmentMap.{is_free, free_run, gap}
use Rattle.segments.specs.Changes.{replaced, inserted, removed, cut, join_first, joined, free_first, freed, released}
use Rattle.segments.proofs.Cuts.{replaced_none, gap_some, gap_none, cut_steps, join_steps, first_live, second_live, both_free, granules_append, granules_joined, granules_freed, length_freed, length_joined}
use Rattle.segments.proofs.Reading.{rest_row, row_parted, rows_before}
use Rattle.segments.proofs.Written.{length_replaced, replaced_count, row_set, rows_same, then_rows, table_rows}
use Rattle.segments.proofs.Rows.{read_back, length_segments}
use Rattle.model.specs.declared.Segment.{Segment}

module _ (n : ℕ) (ws : List ℕ) (fits : 4 * n ≤ length ws) (i : ℕ) where
  abbrev segs : List Segment
  segs = segments_in n ws

  -- A gap inserted, or none.
  pub gap_more : (from to : ℕ) (run : Segment) (after : List ℕ) → i ≤ n → from < to → run ≡ free_run from (to - from) → after ≡ with_rows n ws (inserted i run segs)
      → (n + 1 ≡ n + length (gap from to)) × Rewritten n ws (replaced i 0 (gap from to) segs) (n + 1) after
  gap_more from to run after h k r e =
      let g : run ∷ [] ≡ gap from to = ap (λ (x : Segment). x ∷ []) r ∙ sym (gap_some from to k) in (
        ap (λ (q : List Segment). n + length q) g,
        record {
          rows = sym (ap (λ (q : List Segment). length (replaced i 0 q segs)) (sym g) ∙ replaced_count n ws fits i 0 (run ∷ []) (omega arith) ∙ omega arith);
          words = e ∙ ap (λ (q : List Segment). with_rows n ws (replaced i 0 q segs)) g;
        },
      )

  pub gap_less : (from to : ℕ) → to ≤ from → (n ≡ n + length (gap from to)) × Rewritten n ws (replaced i 0 (gap from to) segs) n ws
  gap_less from to k =
      let g : segs ≡ replaced i 0 (gap from to) segs = sym (ap (λ (q : List Segment). replaced i 0 q segs) (gap_none from to k) ∙ replaced_none i segs) in (
        omega (arith, ap length (gap_none from to k)),
        record { rows = sym (ap length (sym g) ∙ length_segments n ws); words = sym (rows_same n ws fits i) ∙ ap (with_rows n ws) g },
      )

-- The rows of a table that was rewritten are those written.
pub rows_read : {n m : ℕ} {ws after : List ℕ} {xs : List Segment} → Rewritten n ws xs m after → segments_in m after ≡ xs
rows_read {n} {m} {ws} {after} {xs} r =
    (λ j. segments_in (r.rows j) (r.words j)) ∙ read_back xs (replicate (4 * (n - length xs)) 0 ++ drop (4 * max n (length xs)) ws)

module _ {n m k : ℕ} {ws part after : List ℕ} {xs : List Segment} (f : List Segment → List Segment)
    (r : Rewritten n ws xs m part) (q : Rewritten m part (f (segments_in m part)) k after) where
  same_next : f (segments_in m part) ≡ f xs
  same_next = ap f (rows_read r)

  -- One change after another, as a single one.
  pub change : length xs ≤ max n (length (f xs)) → Rewritten n ws (f xs) k after
  change h =
      record {
        rows = q.rows ∙ ap length same_next;
        words = q.words ∙ (λ j. with_rows (r.rows j) (r.words j) (same_next j)) ∙ then_rows n ws xs (f xs) h;
      }

module _ (n : ℕ) (ws : List ℕ) (fits : 4 * n ≤ length ws) (i : ℕ) (h : i < n) where
  abbrev here : List Segment
  here = segments_in n ws

  in_use : i < length here
  in_use = omega (arith, length_segments n ws)

  -- One row set, as a change of the rows in use.
  pub set_rows : (x : Segment) (after : List ℕ) → after ≡ with_row ws i x → Rewritten n ws (replaced i 1 (x ∷ []) here) n after
  set_rows x after e =
      record { rows = sym (replaced_count n ws fits i 1 (x ∷ []) (omega arith) ∙ omega arith); words = e ∙ row_set n ws fits i x h }

  -- a row set, and rows inserted after it and before it
  three_rows : (b : Segment) (first last : List Segment) (m k : ℕ) (one two three : List ℕ) → one ≡ with_row ws i b
      → Rewritten n one (replaced (i + 1) 0 last (segments_in n one)) m two → Rewritten m two (replaced i 0 first (segments_in m two)) k three
      → Rewritten n ws (replaced i 1 (first ++ (b ∷ last)) here) k three
  three_rows b first last m k one two three e r q =
      let xs : List Segment = replaced i 1 (b ∷ []) here in
      let ys : List Segment = replaced (i + 1) 0 last xs in
      let lx : length (replaced i 1 (b ∷ []) here) ≡ n = sym (set_rows b one e).rows in
      let ly : length (replaced (i + 1) 0 last xs) ≡ length xs - 0 + length last = length_replaced (i + 1) 0 last xs (omega arith) in
      let lz : length (replaced i 0 first ys) ≡ length ys - 0 + length first = length_replaced i 0 first ys (omega arith) in
      let r2 : Rewritten n ws ys m two = change (replaced (i + 1) 0 last) (set_rows b one e) r (omega arith) in
      let r3 : Rewritten n ws (replaced i 0 first ys) k three = change (replaced i 0 first) r2 q (omega arith) in
      let z : replaced i 0 first ys ≡ replaced i 1 (first ++ (b ∷ last)) here =
      ap (λ (t : List Segment). replaced i 0 first (replaced (i + 1) 0 last (replaced i 1 (b ∷ []) t))) (row_parted here i in_use)
      ∙ cut_steps (take i here) (drop (i + 1) here) (nth_row here i) b first last i (rows_before here i in_use)
      ∙ ap (replaced i 1 (first ++ (b ∷ last))) (sym (row_parted here i in_use)) in
      subst (λ (t : List Segment). Rewritten n ws t k three) z r3

  -- A row cut for a block, in three steps.
  pub cut_rows : (s b : Segment) (m k : ℕ) (one two three : List ℕ) → s ≡ segment_at ws i → one ≡ with_row ws i b
      → Rewritten n one (replaced (i + 1) 0 (gap (b.start + b.length) (s.start + s.length)) (segments_in n one)) m two
      → Rewritten m two (replaced i 0 (gap s.start b.start) (segments_in m two)) k three
      → Rewritten n ws (replaced i 1 (cut (segment_at ws i) b) here) k three
  cut_rows s b m k one two three z e r q =
      subst (λ (x : Segment). Rewritten n ws (replaced i 1 (cut x b) here) k three) z (three_rows b (gap s.start b.start) (gap (b.start + b.length) (s.start + s.length)) m k one two three e r q)

  -- Row i freed.
  pub freed_is : replaced i 1 (free_run (nth_row here i).start (nth_row here i).length ∷ []) here ≡ freed i here
  freed_is = sym (ap (λ (q : List Segment). take i here ++ free_first q) (rest_row here i in_use))

  -- Rows i and i + 1 where they are not both free.
  pub joined_same : join_first (nth_row here i ∷ drop (i + 1) here) ≡ nth_row here i ∷ drop (i + 1) here → Rewritten n ws (joined i here) n ws
  joined_same e =
      let z : here ≡ joined i here = row_parted here i in_use ∙ ap (λ (q : List Segment). take i here ++ q) (sym e ∙ ap join_first (sym (rest_row here i in_use))) in
      record { rows = sym (ap length (sym z) ∙ length_segments n ws); words = sym (rows_same n ws fits i) ∙ ap (with_rows n ws) z }

  pub joined_end : n ≤ i + 1 → Rewritten n ws (joined i here) n ws
  joined_end k = joined_same (rw (drop_of_length-le here {i = i + 1} (omega (arith, length_segments n ws))))

  pub joined_live : is_free (nth_row here i) ≡ false → Rewritten n ws (joined i here) n ws
  joined_live q = joined_same (first_live (nth_row here i) (drop (i + 1) here) q)

module _ (n : ℕ) (ws : List ℕ) (fits : 4 * n ≤ length ws) (i : ℕ) (h : i + 1 < n) where
  abbrev these : List Segment
  these = segments_in n ws

  in_first : i < length these
  in_first = omega (arith, length_segments n ws)

  in_second : i + 1 < length these
  in_second = omega (arith, length_segments n ws)

  two_first : drop i these ≡ nth_row these i ∷ nth_row these (i + 1) ∷ drop (i + 1 + 1) these
  two_first = rest_row these i in_first ∙ ap (λ (q : List Segment). nth_row these i ∷ q) (rest_row these (i + 1) in_second)

  -- the sum of two rows' lengths is among that of all
  pub two_granules : (nth_row these i).length + (nth_row these (i + 1)).length ≤ granules_of these
  two_granules =
      omega (arith, granules_append (take i these) (drop i these), ap granules_of (take-append-drop i these), ap granules_of two_first)

  pub joined_apart : is_free (nth_row these (i + 1)) ≡ false → Rewritten n ws (joined i these) n ws
  joined_apart q =
      joined_same n ws fits i (omega arith)
      (rw (rest_row these (i + 1) in_second) (second_live (nth_row these i) (nth_row these (i + 1)) (drop (i + 1 + 1) these) q))

  -- both free
  pub joined_free : (run : Segment) (one two : List ℕ) → is_free (nth_row these i) ≡ true → is_free (nth_row these (i + 1)) ≡ true
      → run ≡ free_run (nth_row these i).start ((nth_row these i).length + (nth_row these (i + 1)).length) → one ≡ with_row ws i run
      → two ≡ with_rows n one (removed (i + 1) (segments_in n one)) → Rewritten n ws (joined i these) (n - 1) two
  joined_free run one two p q r e g =
      let s : Rewritten n ws (replaced i 1 (run ∷ []) these) n one = set_rows n ws fits i (omega arith) run one e in
      let xs : List Segment = replaced i 1 (run ∷ []) these in
      let lx : length (replaced i 1 (run ∷ []) these) ≡ n = sym s.rows in
      let ly : length (removed (i + 1) xs) ≡ length xs - 1 + 0 = length_replaced (i + 1) 1 [] xs (omega arith) in
      let t : Rewritten n one (removed (i + 1) (segments_in n one)) (n - 1) two =
      record { rows = sym (ap (λ (q : List Segment). length (removed (i + 1) q)) (rows_read s) ∙ ly ∙ omega arith); words = g } in
      let w : take i these ++ (run ∷ drop (i + 1 + 1) these) ≡ joined i these =
      ap (λ (x : Segment). take i these ++ (x ∷ drop (i + 1 + 1) these)) r
      ∙ sym (ap (λ (q : List Segment). take i these ++ join_first q) two_first ∙ ap (λ (q : List Segment). take i these ++ q) (both_free (nth_row these i) (nth_row these (i + 1)) (drop (i + 1 + 1) these) p q)) in
      let z : removed (i + 1) xs ≡ joined i these =
      ap (λ (q : List Segment). removed (i + 1) (replaced i 1 (run ∷ []) q)) (row_parted these i in_first ∙ ap (λ (q : List Segment). take i these ++ (nth_row these i ∷ q)) (rest_row these (i + 1) in_second))
      ∙ join_steps (take i these) (drop (i + 1 + 1) these) (nth_row these i) (nth_row these (i + 1)) run i (rows_before these i in_first)
      ∙ w in
      subst (λ (q : List Segment). Rewritten n ws q (n - 1) two) z (change (removed (i + 1)) s t (omega arith))

-- A table of some segments in which other rows were put is the table of those.
pub rewritten_table : (capacity n m : ℕ) (ws after : List ℕ) (xs : List Segment) → n ≤ capacity → table_of capacity (segments_in n ws) ≡ ws
    → Rewritten n ws xs m after → after ≡ table_of capacity xs
rewritten_table capacity n m ws after xs h e w =
    let l : length (segments_in n ws) ≡ n = length_segments n ws in
    w.words ∙ sym (λ i. with_rows (l i) (e i) xs) ∙ table_rows capacity (segments_in n ws) xs (omega arith)

-- Row i freed, and joined with the rows beside it.
module _ (n : ℕ) (ws : List ℕ) (fits : 4 * n ≤ length ws) (i : ℕ) (h : i < n) (s run : Segment) (one : List ℕ)
    (z : s ≡ nth_row (segments_in n ws) i) (r : run ≡ free_run s.start s.length) (e : one ≡ with_row ws i run) where
  abbrev rows : List Segment
  rows = segments_in n ws

  freed_rows : Rewritten n ws (freed i rows) n one
  freed_rows =
      subst (λ (xs : List Segment). Rewritten n ws xs n one) (ap (λ (x : Segment). replaced i 1 (x ∷ []) rows) (r ∙ ap (λ (x : Segment). free_run x.start x.length) z) ∙ freed_is n ws fits i h)
      (set_rows n ws fits i h run one e)

  pub freed_granules : granules_of (segments_in n one) ≡ granules_of rows
  freed_granules = ap granules_of (rows_read freed_rows) ∙ granules_freed i rows

  module _ (m : ℕ) (two : List ℕ) (j : Rewritten n one (joined i (segments_in n one)) m two) where
    -- What is left after row i is joined with the row after it: at most one row fewer, and the same sum of lengths.
    pub record JoinedOnce : Type 0 where
      pub rewritten : Rewritten n ws (joined i (freed i rows)) m two
      pub fewer : m ≤ n
      pub most : n ≤ m + 1
      pub granules : granules_of (segments_in m two) ≡ granules_of rows

    pub joined_once : JoinedOnce
    joined_once =
        let l = length_joined i (freed i rows) in
        let k : length (freed i rows) ≡ n = length_freed i rows ∙ length_segments n ws in
        let r : Rewritten n ws (joined i (freed i rows)) m two = change (joined i) freed_rows j (omega arith) in
        record {
          rewritten = r;
          fewer = omega arith;
          most = omega arith;
          granules = ap granules_of (rows_read r) ∙ granules_joined i (freed i rows) ∙ granules_freed i rows;
        }

    pub released_first : i ≤ 0 → Rewritten n ws (released i rows) m two
    released_first k = rw (le-ltb 0 i k) joined_once.rewritten

    pub released_rows : 0 < i → (k : ℕ) (three : List ℕ) → Rewritten m two (joined (i - 1) (segments_in m two)) k three → Rewritten n ws (released i rows) k three
    released_rows p k three q =
        let o : JoinedOnce = joined_once in
        rw (lt-ltb 0 i p)
        (change (joined (i - 1)) o.rewritten q (omega (arith, o.rewritten.rows)))
