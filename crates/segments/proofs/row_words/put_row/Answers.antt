-- `segments::row_words::put_row` meets its contract: the four words of a row, set one after the other, are the row set.
-- Assumes nothing.
use Rattle.std.proofs.Common.{◌≡◌, ℕ, suc, ◌+◌, ◌*◌, ◌≤◌, List, [], ◌∷◌, ◌++◌, length, take, drop, set, ◌∙◌, append_assoc, arith}
use lib.Seq.{sets-eq}
use Rattle.segments.proofs.row_words.put_row.Goals as goal

-- four words set one after the other
four_set : (l : List ℕ) (k a b c d : ℕ) → k + 4 ≤ length l → set (set (set (set l k a) (k + 1) b) (k + 2) c) (k + 3) d ≡ take k l ++ (a ∷ b ∷ c ∷ d ∷ drop (k + 4) l)
four_set l k a b c d h =
    let one : k + 1 ≡ suc k = omega arith in
    let two : k + 2 ≡ suc (suc k) = omega arith in
    let three : k + 3 ≡ suc (suc (suc k)) = omega arith in
    rw (one, two, three) (sets-eq (a ∷ b ∷ c ∷ d ∷ []) l k h ∙ append_assoc (take k l) (a ∷ b ∷ c ∷ d ∷ []) (drop (k + 4) l))

pub returns : goal.returns
returns c =
    let s = c.args.s in
    four_set c.args.table.now (4 * c.args.i) s.start s.length s.owner s.requested c.requires
