-- A resize keeps what every call keeps, and the live granules change by what it is granted and what it returns.
-- Assumes nothing.
use mathlib.Core.Path.{◌≡◌, refl}
use mathlib.Core.Bool.{Bool, true}
use mathlib.Core.List.{List}
use Rattle.std.specs.Prelude.{Some, if◌then◌else◌}
use Rattle.std.specs.Option.{option_map_or}
use Prim.Native.Nat.{ℕ, ◌+◌, ◌≤◌, max}
use native.Mathlib.Omega.{arith}
use lib.Dec.{eqb}
use borrow.Author.Tests.{leb-true, eq-eqb}
use Rattle.model.specs.Choose.{total}
use Rattle.model.specs.Quantities.{is_owner, Config}
use Rattle.model.specs.Allocation.{needed, State, block, insert, block_at, without, resize, granules_of, changed, owned_by}
use Rattle.model.specs.Orders.{first_reason, realloc_order}
use Rattle.model.specs.Rules.{after_realloc, granted_realloc, returned_realloc}
use Rattle.model.proofs.Choosing.{split, split_option, tests, parts, length_total, total_only}
use Rattle.model.proofs.Ordered.{total_insert, total_without}
use Rattle.model.proofs.Kept.{Kept, keep_put, keep_others, keep_without}
use Rattle.model.proofs.Refitted.{Accepted, accepted}
use Rattle.model.specs.declared.Segment.{Segment}

module _ (c : Config) (h : State) (k : Kept c h) where
  -- what the blocks hold without the block at x
  left : (x : ℕ) → granules_of (without x h.blocks) + option_map_or (λ b. b.length) (block_at x h.blocks) 0 ≡ granules_of h.blocks
  left x = total_without c (λ (b : Segment). b.length) 0 x h.blocks k.ordered

  -- A block in place of the one at x: what both hold is exchanged.
  pub exchanged : (o x n s : ℕ) (b : Segment) → block_at x h.blocks ≡ Some b
      → granules_of (insert (block c o n s) (without x h.blocks)) + b.length ≡ needed c n + granules_of h.blocks
  exchanged o x n s b e = omega (arith, rw e at (left x), total_insert (λ (b : Segment). b.length) (block c o n s) (without x h.blocks))

  -- What an owner has without its block at x is less by what that block counts.
  pub owner_without : (f : Segment → ℕ) (o x : ℕ) (b : Segment) → block_at x h.blocks ≡ Some b → b.owner ≡ o
      → total f (owned_by o (without x h.blocks)) + f b ≡ total f (owned_by o h.blocks)
  owner_without f o x b e q =
      let own : Segment → Bool = λ (b : Segment). eqb b.owner o in
      let w = rw (e, eq-eqb b.owner o q) at (total_without c (λ (b : Segment). if own b then f b else 0) 0 x h.blocks k.ordered) in
      rw (total_only f own h.blocks, total_only f own (without x h.blocks)) w

  module _ (v : Bool) (arena : List ℕ) (o x n : ℕ) where
    keep_resized : 1 ≤ n → (r : Accepted v c h arena o x n) → Kept c (changed h (insert (block c o n r.place.start) (without x h.blocks)))
    keep_resized hn r =
        let owner : is_owner o ≡ true = r.freed.owner in
        keep_put c (record { blocks = without x h.blocks; peak = h.peak }) (keep_others c h k x) (block c o n r.place.start)
        (record { owned = leb-true 1 o (search parts); known = leb-true o 8 (search parts); requested = hn; sized = refl })
        r.place.inside r.place.clear
        (omega (arith, k.blocks o, owner_without (λ (b : Segment). 1) o x r.freed.block r.freed.found r.freed.owned, length_total (owned_by o h.blocks), length_total (owned_by o (without x h.blocks))))
        (omega (arith, r.granules)) r.rows

    pub keep_realloc : Kept c (after_realloc v c h arena o x n)
    keep_realloc =
        split_option (first_reason (realloc_order v c h arena o x n))
        (λ q. split (eqb n 0)
        (λ z. rw (q, z) (keep_without c h k x))
        (λ z. let r : Accepted v c h arena o x n = accepted v c h arena o x n (omega tests) q in
        rw (q, z, r.place.fits) (keep_resized (omega tests) r)))
        (λ r q. rw q k)

    -- The live granules grow by what is granted and shrink by what is returned.
    pub counts_realloc : granules_of (after_realloc v c h arena o x n).blocks + returned_realloc v c h arena o x n ≡ granted_realloc v c h arena o x n + granules_of h.blocks
    counts_realloc =
        split_option (first_reason (realloc_order v c h arena o x n))
        (λ q. split_option (resize c h.blocks o x n)
        (λ p. rw (q, p) (omega (arith, left x)))
        (λ d p. rw (q, p) (omega (arith, left x, total_insert (λ (b : Segment). b.length) d (without x h.blocks)))))
        (λ r q. rw q (omega arith))

    -- The peak counts what is live after the call, and not the old place and the new one together.
    pub realloc_peak : (after_realloc v c h arena o x n).peak ≡ max h.peak (granules_of (after_realloc v c h arena o x n).blocks)
    realloc_peak = split_option (first_reason (realloc_order v c h arena o x n)) (λ q. rw q) (λ r q. rw q (omega (arith, k.used)))
