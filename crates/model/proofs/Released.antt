-- A free that is not refused: what it has, and what it answers.
-- Assumes nothing.
use mathlib.Core.Path.{◌≡◌, refl, sym}
use mathlib.Core.Bool.{Bool, true, false}
use mathlib.Core.List.{List}
use Rattle.std.specs.Prelude.{None, Some, Ok, Err}
use Prim.Native.Nat.{ℕ, ◌/◌, ◌%◌}
use native.Mathlib.Omega.{arith}
use lib.Dec.{ltb, eqb}
use borrow.Author.Tests.{not-false, eqb-true}
use Rattle.model.specs.Quantities.{is_owner, Config}
use Rattle.model.specs.Allocation.{State, bytes, block_at, block_over}
use Rattle.model.specs.Arena.{has_recorded_length, is_broken}
use Rattle.model.specs.Orders.{first_reason, free_order}
use Rattle.model.specs.Rules.{free}
use Rattle.model.proofs.Choosing.{split_option, clash, tests}
use Rattle.model.proofs.Refusing.{NoReason, no_reason}
use Rattle.model.proofs.Offsets.{over_inside}
use Rattle.model.specs.declared.Segment.{Segment}

module _ (v : Bool) (c : Config) (h : State) (arena : List ℕ) (o x : ℕ) where
  pub record Released : Type 0 where
    pub valid : v ≡ true
    pub whole : has_recorded_length c arena ≡ true
    pub owner : is_owner o ≡ true
    pub block : Segment
    pub found : block_at x h.blocks ≡ Some block
    pub owned : block.owner ≡ o
    pub unbroken : is_broken c arena block ≡ false

  pub released : first_reason (free_order v c h arena o x) ≡ None → Released
  unfolding free_order
  released e =
      let r : NoReason (free_order v c h arena o x) = no_reason (free_order v c h arena o x) e in
      split_option (block_at x h.blocks)
      (λ q. split_option (block_over (x / 16) h.blocks)
      (λ f. absurd (clash true refl (rw f at r.1.1.1.1.1.0)))
      (λ b f. let a : eqb (x % 16) 0 ≡ true = not-false (eqb (x % 16) 0) r.1.1.1.1.0 in
      let t : ltb b.start (x / 16) ≡ false = rw f at r.1.1.1.1.1.1.0 in
      absurd (omega (tests, over_inside x h.blocks b q f (omega tests)))))
      (λ b q. record {
        valid = not-false v r.0;
        whole = not-false (has_recorded_length c arena) r.1.0;
        owner = not-false (is_owner o) r.1.1.0;
        block = b;
        found = q;
        owned = eqb-true b.owner o (not-false _ (rw q at r.1.1.1.1.1.1.1.0));
        unbroken = rw q at r.1.1.1.1.1.1.1.1.0;
      })

  -- It answers the bytes that its block holds.
  pub answered : (k : ℕ) → free v c h arena o x ≡ Ok k → (r : Released) × (first_reason (free_order v c h arena o x) ≡ None) × (k ≡ bytes r.block)
  answered k e =
      split_option (first_reason (free_order v c h arena o x))
      (λ q. let r : Released = released q in
      let e' : Ok (bytes r.block) ≡ Ok k = rw (q, r.found) at e in
      let z : bytes r.block ≡ k = cc in (r, q, sym z))
      (λ t q. let e' : Err t ≡ Ok k = rw q at e in let w : ◌≡◌ {A = ℕ} 0 1 = cc in absurd (omega arith))
