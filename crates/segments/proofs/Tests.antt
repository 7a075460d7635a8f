-- A test of every element, in std's words and in the model's.
-- Assumes nothing.
use Rattle.std.proofs.Common.{◌≡◌, ℕ, eqb, List, [], ◌∷◌, refl, sym, eq-eqb, ne_eqb}
use Rattle.std.specs.Prelude.{◌==◌}
use Rattle.std.specs.List.{list_all}
use Rattle.model.proofs.Choosing.{split, tests, ne_of_eqb}

pub every_is : (v : ℕ) (xs : List ℕ) → list_all (λ x. x == v) xs ≡ list_all (eqb v) xs
every_is v [] = refl
every_is v (x ∷ xs) =
    split (eqb x v)
    (λ q. let e : x ≡ v = omega tests in rw (q, eq-eqb v x (sym e)) (every_is v xs))
    (λ q. rw (q, ne_eqb v x (λ e. absurd (ne_of_eqb x v q (sym e)))))
