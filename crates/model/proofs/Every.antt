-- A test of every element from a place on, or of a run, one element after the other.
-- Assumes nothing.
use mathlib.Core.Path.{◌≡◌}
use mathlib.Core.Bool.{Bool, true, false}
use mathlib.Core.List.{List}
use Prim.Native.Nat.{ℕ, suc, ◌+◌, ◌≤◌, ◌<◌}
use native.Mathlib.Numerals.{add-one}
use lib.ListN.{length, get_or, drop, drop_of_length-le}
use lib.Seq.{drop-cons}
use Rattle.std.specs.List.{list_all}
use Rattle.model.specs.Arena.{slice}

module _ (p : ℕ → Bool) (xs : List ℕ) (i : ℕ) where
  -- It holds of element i: those after it decide.
  pub every_more : i < length xs → p (get_or xs i 0) ≡ true → list_all p (drop i xs) ≡ list_all p (drop (i + 1) xs)
  every_more h q = rw (add-one i, drop-cons xs i 0 h, q)

  -- It does not hold of element i: from i on, where std has it of the whole list.
  pub every_not : i < length xs → p (get_or xs i 0) ≡ false → list_all p (drop i xs) ≡ false
  every_not h q = rw (drop-cons xs i 0 h, q)

  -- There is no element i.
  pub every_none : length xs ≤ i → list_all p (drop i xs) ≡ true
  every_none h = rw (drop_of_length-le xs h)

  -- The same of a run that begins with element i: it holds of that element.
  pub run_more : (k : ℕ) → i < length xs → p (get_or xs i 0) ≡ true → list_all p (slice i (suc k) xs) ≡ list_all p (slice (i + 1) k xs)
  run_more k h q = rw (add-one i, drop-cons xs i 0 h, q)

  -- It does not hold of that element.
  pub run_not : (k : ℕ) → i < length xs → p (get_or xs i 0) ≡ false → list_all p (slice i (suc k) xs) ≡ false
  run_not k h q = rw (drop-cons xs i 0 h, q)
