-- What the figures counted in a valid heap say of a request within limits, of the totals and of what an owner holds.
-- Assumes nothing.
use mathlib.Core.Path.{◌≡◌, sym, subst, ◌∙◌}
use mathlib.Core.Bool.{true, false}
use mathlib.Core.List.{List}
use Rattle.std.specs.Prelude.{None, Some, Result, Ok, Err, if◌then◌else◌}
use Prim.Native.Nat.{ℕ, ◌+◌, ◌-◌, ◌*◌, ◌≤◌, ◌<◌}
use native.Mathlib.Omega.{arith}
use lib.Dec.{leb, ltb}
use lib.ListN.{length, get_or}
use borrow.Author.Tests.{le-leb, lt-leb, lt-ltb, le-ltb}
use Rattle.model.specs.Quantities.{is_owner}
use Rattle.model.specs.Allocation.{needed, granules_of, owned_by}
use Rattle.model.specs.Orders.{first_reason, unless, quota_order, totals_order, holding_order}
use Rattle.model.proofs.Choosing.{split, tests}
use Rattle.model.proofs.Ranges.{within_least, within_most, quota_at}
use Rattle.segments.specs.Rows.{segments_in, blocks_in}
use Rattle.segments.specs.Counting.{Bounded}
use Rattle.segments.proofs.TilesMap.{map_charged}
use Rattle.heap.specs.Stored.{config_of, state_in}
use Rattle.heap.specs.Valid.{valid}
use Rattle.heap.specs.Steps.{Examination}
use Rattle.heap.specs.Promises.{TotalsDone, HoldingDone}
use Rattle.heap.proofs.Conditions.{Conditions, valid_conditions}
use Rattle.heap.proofs.Changing.{Bounds, bounds}
use Rattle.heap.proofs.ValidStored.{valid_map}
use Rattle.model.specs.declared.Totals.{Totals}
use Rattle.model.specs.declared.Holding.{Holding}
use Rattle.model.specs.declared.Refusal.{Refusal}
use Rattle.model.specs.declared.Refusal.TheVariants as refusal
use Rattle.segments.specs.declared.census.Census.{Census}
use Rattle.heap.specs.declared.record.Heap.{Heap}

-- An owner's number is at least 1, and less one it is an index of eight.
module _ (o : ℕ) (w : is_owner o ≡ true) where
  pub owner_least : 1 ≤ o
  owner_least = within_least 1 8 o w

  pub owner_most : o ≤ 8
  owner_most = within_most 1 8 o w

  pub owner_index : o - 1 < 8
  owner_index = omega (arith, owner_least, owner_most)

-- What is needed, taken from the most or added to what is held: the same test.
pub exceeds_moved : (most held need : ℕ) → need ≤ most → ltb (most - need) held ≡ ltb most (held + need)
exceeds_moved most held need h = split (ltb (most - need) held) (λ q. q ∙ sym (lt-ltb most (held + need) (omega tests))) (λ q. q ∙ sym (le-ltb most (held + need) (omega tests)))

-- No figure of a heap exceeds its granules, and those are at most 65,536: in bytes each fits a word.
pub record Small (r : Heap) (k : Census) : Type 0 where
  pub used : r.used ≤ r.peak
  pub peak : r.peak ≤ r.granules
  pub granules : r.granules ≤ 65536
  pub longest : k.longest ≤ r.granules
  pub held : (i : ℕ) → get_or k.held i 0 ≤ r.granules

-- The totals and an owner's enquiry get 1 if the heap is not valid.
module _ (r : Heap) (ws : List ℕ) (bad : valid r ws ≡ false) where
  pub totals_invalid : (out : Result Totals Refusal) → out ≡ Err refusal.InvalidHeap → TotalsDone r ws out
  unfolding totals_order
  totals_invalid out q = subst (TotalsDone r ws) (sym q) (record { answer = rw bad; numbered = rw bad })

  pub holding_invalid : (o : ℕ) (out : Result Holding Refusal) → out ≡ Err refusal.InvalidHeap → HoldingDone r ws o out
  unfolding holding_order
  holding_invalid o out q = subst (HoldingDone r ws o) (sym q) (record { answer = rw bad; numbered = rw bad })

module _ (r : Heap) (ws : List ℕ) (k : Census) (e : Examination r ws k) where
  conditions : Conditions r ws
  conditions = valid_conditions r ws e.valid

  pub small : Small r k
  small =
      let b : Bounded r.granules k = e.figures.bounded in
      let t : Bounds r ws e.valid = bounds r ws e.valid in
      record { used = t.used; peak = t.peak; granules = t.granules; longest = omega arith; held = λ i. omega (arith, b.held i) }

  -- The totals are the record's figures and the longest free run counted.
  pub totals_told : (used free peak longest : ℕ) → used ≡ 16 * r.used → free ≡ 16 * (r.granules - r.used) → peak ≡ 16 * r.peak → longest ≡ 16 * k.longest
      → TotalsDone r ws (Ok (record { used = used; free = free; peak = peak; longest = longest }))
  unfolding totals_order
  totals_told used free peak longest u f p l =
      record {
        answer = rw (u, f, p, l, e.valid, conditions.used, e.figures.longest);
        numbered = rw (u, f, p, l, e.valid, conditions.used, e.figures.longest);
      }

  -- A number that is no owner's gets 2.
  pub holding_refused : (o : ℕ) → is_owner o ≡ false → HoldingDone r ws o (Err refusal.BadOwner)
  unfolding holding_order
  holding_refused o w = record { answer = rw (e.valid, w); numbered = rw (e.valid, w) }

  module _ (o : ℕ) (w : is_owner o ≡ true) where
    blocks_counted : get_or k.blocks (o - 1) 0 ≡ length (owned_by o (blocks_in r.rows ws))
    blocks_counted = e.figures.blocks o (owner_least o w) (owner_most o w)

    -- An owner's figure is what its blocks hold.
    pub granules_counted : get_or k.held (o - 1) 0 ≡ granules_of (owned_by o (blocks_in r.rows ws))
    granules_counted = e.figures.held o (owner_least o w) (owner_most o w)

    -- What an owner holds is its figures.
    pub holding_told : (blocks bytes : ℕ) → blocks ≡ get_or k.blocks (o - 1) 0 → bytes ≡ 16 * get_or k.held (o - 1) 0 → HoldingDone r ws o (Ok (record { blocks = blocks; bytes = bytes }))
    unfolding holding_order
    holding_told blocks bytes b h =
        record { answer = rw (b, h, e.valid, w, blocks_counted, granules_counted); numbered = rw (b, h, e.valid, w, blocks_counted, granules_counted) }

    module _ (n : ℕ) where
      -- 5 and 6 of a request by an owner are told by its quotas and its figures.
      quotas_told : first_reason (quota_order (config_of r) (state_in r ws) o n)
          ≡ (if leb (get_or r.block_quotas (o - 1) 0) (get_or k.blocks (o - 1) 0) then Some refusal.BlockQuota
          else if ltb (get_or r.granule_quotas (o - 1) 0) (get_or k.held (o - 1) 0 + needed (config_of r) n) then Some refusal.GranuleQuota else None)
      quotas_told =
          rw (
            quota_at r.block_quotas o (owner_least o w),
            quota_at r.granule_quotas o (owner_least o w),
            blocks_counted,
            granules_counted,
            map_charged (config_of r) (segments_in r.rows ws) (valid_map r ws e.valid) o,
          )

      -- It already has as many blocks as its quota,
      pub blocks_reached : get_or r.block_quotas (o - 1) 0 ≤ get_or k.blocks (o - 1) 0
          → Err refusal.BlockQuota ≡ unless (quota_order (config_of r) (state_in r ws) o n) (Ok (tt {0})) Err
      blocks_reached h = sym (rw (quotas_told, le-leb _ _ h))

      module _ (few : get_or k.blocks (o - 1) 0 < get_or r.block_quotas (o - 1) 0) where
        -- or the granules are too many,
        pub granules_exceed : get_or r.granule_quotas (o - 1) 0 < get_or k.held (o - 1) 0 + needed (config_of r) n
            → Err refusal.GranuleQuota ≡ unless (quota_order (config_of r) (state_in r ws) o n) (Ok (tt {0})) Err
        granules_exceed h = sym (rw (quotas_told, lt-leb _ _ few, lt-ltb _ _ h))

        -- or it is within limits.
        pub within_limits : get_or k.held (o - 1) 0 + needed (config_of r) n ≤ get_or r.granule_quotas (o - 1) 0
            → Ok (tt {0}) ≡ unless (quota_order (config_of r) (state_in r ws) o n) (Ok (tt {0})) Err
        within_limits h = sym (rw (quotas_told, lt-leb _ _ few, le-ltb _ _ h))
