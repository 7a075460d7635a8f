-- A start padded to the next boundary.
-- Assumes nothing.
use Rattle.segments.specs.Steps.{padding}
use Rattle.std.proofs.Common.{◌≡◌, ℕ, ◌+◌, ◌-◌, ◌*◌, ◌/◌, ◌%◌, ◌<◌, ◌≤◌, eqb, ltb, leb, ap, ◌∙◌, mul-le-mul_right, mod-lt, mod-eq_of_lt, div-add-mod', arith}
use native.Mathlib.Nat.{mod_self, mod-add-mod, add-mod-mod, add-mod_right, mul-mod_left}
use Rattle.model.proofs.Choosing.{split, tests}

-- a start with its padding is a multiple of m
padded_multiple : (m s : ℕ) → 1 ≤ m → (q : ℕ) × (s + padding m s ≡ q * m)
padded_multiple m s h =
    let d : s / m * m + s % m ≡ s = div-add-mod' s m in
    let r : s % m < m = mod-lt s h in
    split (eqb (s % m) 0)
    (λ q. let z : m - s % m ≡ m = omega tests in (s / m, rw (z, mod_self m) (omega tests)))
    (λ q. let z : (m - s % m) % m ≡ m - s % m = mod-eq_of_lt (omega tests) in (s / m + 1, rw z (omega arith)))

-- A start with its padding, which is that of its granule counted from address 0, has its address on a boundary of a bytes, and is the first such from the start on.
pub record Padded (m a base s : ℕ) : Type 0 where
  pub aligned : (base + 16 * (s + padding m (base / 16 + s))) % a ≡ 0
  pub least : (t : ℕ) → s ≤ t → (base + 16 * t) % a ≡ 0 → s + padding m (base / 16 + s) ≤ t

-- It is so for every start if a bytes are m granules, and the base is a whole number of granules.
pub padded : (m a base : ℕ) → 1 ≤ m → a ≡ 16 * m → base % 16 ≡ 0 → (s : ℕ) → Padded m a base s
padded m a base h e whole s =
    let k : (q : ℕ) × (base / 16 + s + padding m (base / 16 + s) ≡ q * m) = padded_multiple m (base / 16 + s) h in
    let q : ℕ = k.0 in
    let r : padding m (base / 16 + s) < m = mod-lt (m - (base / 16 + s) % m) h in
    let z : base + 16 * (s + padding m (base / 16 + s)) ≡ q * (16 * m) = omega (arith, k.1) in
    record {
      aligned = rw (z, e) (mul-mod_left q (16 * m));
      least = λ t l o.
          let p : ℕ = (base + 16 * t) / a in
          let b : p * a + (base + 16 * t) % a ≡ base + 16 * t = div-add-mod' (base + 16 * t) a in
          let y : p * a ≡ 16 * (p * m) = rw e (omega arith) in
          split (leb q p)
          (λ w. omega (tests, k.1, mul-le-mul_right {m = q} {n = p} m (omega tests)))
          (λ w. absurd (omega (tests, k.1, mul-le-mul_right {m = p + 1} {n = q} m (omega tests))));
    }

-- two units less x, and one unit less the remainder of x, have the same remainder
two_units : (m x : ℕ) → x < 2 * m → (2 * m - x) % m ≡ padding m x
two_units m x h =
    split (ltb x m)
    (λ q. let z : 2 * m - x ≡ m - x + m = omega tests in
    let y : x % m ≡ x = mod-eq_of_lt (omega tests) in
    rw (z, y) (add-mod_right (m - x) m))
    (λ q. let z : x ≡ x - m + m = omega tests in
    let y : x % m ≡ x - m = ap (λ (i : ℕ). i % m) z ∙ add-mod_right (x - m) m ∙ mod-eq_of_lt (omega tests) in
    let w : m - (x - m) ≡ 2 * m - x = omega tests in
    rw (y, w))

-- The padding of a sum, from two units less the first part and the remainder of the second: what `padding_of` computes.
pub padding_two : (m p s : ℕ) → p < m → (2 * m - p - s % m) % m ≡ padding m (p + s)
padding_two m p s h =
    let r : s % m < m = mod-lt s (omega arith) in
    let z : 2 * m - p - s % m ≡ 2 * m - (p + s % m) = omega arith in
    ap (λ (i : ℕ). i % m) z ∙ two_units m (p + s % m) (omega arith) ∙ ap (λ (i : ℕ). (m - i) % m) (add-mod-mod p s m)

-- Of the first part of a sum only the remainder counts for its padding.
pub padding_past : (m p s : ℕ) → padding m (p % m + s) ≡ padding m (p + s)
padding_past m p s = ap (λ (i : ℕ). (m - i) % m) (mod-add-mod p m s)
