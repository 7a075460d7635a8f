-- When no reason of an order applies, and what a call comes to then.
-- Assumes nothing.
use mathlib.Core.Path.{◌≡◌, refl}
use mathlib.Core.Bool.{false}
use mathlib.Core.List.{[], ◌∷◌, ◌++◌}
use Rattle.std.specs.Prelude.{None, Some, Result, Ok, Err}
use Prim.Native.Nat.{ℕ}
use native.Mathlib.Omega.{arith}
use Rattle.model.specs.Orders.{Order, first_reason, unless}
use Rattle.model.proofs.Choosing.{split, split_option}

-- no reason of the order applies
abbrev pub NoReason : {R : Type 0} → Order R → Type 0
NoReason [] = Unit {0}
NoReason (r ∷ rs) = (r.0 ≡ false) × NoReason rs

pub no_reason : {R : Type 0} (rs : Order R) → first_reason rs ≡ None → NoReason rs
no_reason [] e = tt
no_reason (r ∷ rs) e =
    split r.0 (λ q. let z : Some r.1 ≡ None = rw q at e in absurd (never r.1 z)) (λ q. (q, no_reason rs (rw q at e)))
  where
    never : {R : Type 0} (x : R) → Some x ≡ None → ⊥
    never x z = let w : ◌≡◌ {A = ℕ} 0 1 = cc in omega arith

pub reason_none : {R : Type 0} (rs : Order R) → NoReason rs → first_reason rs ≡ None
reason_none [] n = refl
reason_none (r ∷ rs) n = rw n.0 (reason_none rs n.1)

-- of an order and then another
pub no_first : {R : Type 0} (rs ts : Order R) → NoReason (rs ++ ts) → NoReason rs
no_first [] ts n = tt
no_first (r ∷ rs) ts n = (n.0, no_first rs ts n.1)

pub no_second : {R : Type 0} (rs ts : Order R) → NoReason (rs ++ ts) → NoReason ts
no_second [] ts n = n
no_second (r ∷ rs) ts n = no_second rs ts n.1

pub no_both : {R : Type 0} (rs ts : Order R) → NoReason rs → NoReason ts → NoReason (rs ++ ts)
no_both [] ts n m = m
no_both (r ∷ rs) ts n m = (n.0, no_both rs ts n.1 m)

-- the first of an order and then another
pub first_then : {R : Type 0} (rs ts : Order R) → first_reason rs ≡ None → first_reason (rs ++ ts) ≡ first_reason ts
first_then [] ts e = refl
first_then (r ∷ rs) ts e = let n = no_reason (r ∷ rs) e in rw n.0 (first_then rs ts (reason_none rs n.1))

pub first_stays : {R : Type 0} (rs ts : Order R) (why : R) → first_reason rs ≡ Some why → first_reason (rs ++ ts) ≡ Some why
first_stays [] ts why e = let w : ◌≡◌ {A = ℕ} 0 1 = cc in absurd (omega arith)
first_stays (r ∷ rs) ts why e = split r.0 (λ q. rw q (rw q at e)) (λ q. rw q (first_stays rs ts why (rw q at e)))

-- A part of an order is checked: it refuses with its first reason,
pub refused_by : {R : Type 0} (order : Order R) (why : R) → ◌≡◌ {A = Result (Unit {0}) R} (Err why) (unless order (Ok tt) Err) → first_reason order ≡ Some why
refused_by {R} order why e =
    split_option (first_reason order)
    (λ q. let z : ◌≡◌ {A = Result (Unit {0}) R} (Err why) (Ok tt) = rw q at e in let w : ◌≡◌ {A = ℕ} 0 1 = cc in absurd (omega arith))
    (λ t q. let z : ◌≡◌ {A = Result (Unit {0}) R} (Err why) (Err t) = rw q at e in let w : why ≡ t = cc in rw (q, w))

-- and where it passes it has none.
pub passed_by : {R : Type 0} (order : Order R) → ◌≡◌ {A = Result (Unit {0}) R} (Ok tt) (unless order (Ok tt) Err) → first_reason order ≡ None
passed_by {R} order e =
    split_option (first_reason order)
    (λ q. q)
    (λ t q. let z : ◌≡◌ {A = Result (Unit {0}) R} (Ok tt) (Err t) = rw q at e in let w : ◌≡◌ {A = ℕ} 0 1 = cc in absurd (omega arith))

-- a call whose answer is a refusal found a reason
pub refused_some : {R A : Type 0} (order : Order R) (a : A) (refused : R → A) (r : R) → (a ≡ refused r → ⊥)
    → unless order a refused ≡ refused r → (t : R) × (first_reason order ≡ Some t)
refused_some order a refused r never e = split_option (first_reason order) (λ q. absurd (never (rw q at e))) (λ t q. (t, q))
