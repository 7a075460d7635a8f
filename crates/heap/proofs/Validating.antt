-- What the steps of the test for a valid heap say of it.
-- Assumes nothing.
use mathlib.Core.Path.{◌≡◌, sym, ap, ◌∙◌}
use mathlib.Core.Bool.{true, false}
use mathlib.Core.List.{List}
use Prim.Native.Nat.{ℕ, ◌+◌, ◌*◌, ◌-◌, ◌%◌, ◌≤◌, ◌<◌}
use native.Mathlib.Omega.{arith}
use lib.Dec.{leb, eqb}
use lib.ListN.{length, get_or}
use borrow.Author.Tests.{eqb-true, eq-eqb, le-leb, lt-leb, leb-true}
use Rattle.std.specs.Prelude.{◌&&◌}
use Rattle.std.specs.List.{list_all}
use Rattle.model.specs.Choose.{total}
use Rattle.model.specs.Quantities.{within, is_arena, is_table, owners, quota, are_quotas, in_range}
use Rattle.model.specs.Allocation.{charge, granules_of, owned_by}
use Rattle.model.proofs.Choosing.{split, tests, same_test, parts, clash, both_left, both_right, both_true}
use Rattle.model.proofs.Ranges.{within_least, within_most, bounds_within, each_owner, all_owners, quota_at, few_guards}
use Rattle.segments.specs.Rows.{segments_in, blocks_in}
use Rattle.segments.specs.Tiling.{is_map}
use Rattle.segments.specs.Counting.{Figures}
use Rattle.segments.specs.declared.census.Census.{Census}
use Rattle.segments.proofs.TilesMap.{map_charged, MapParts, map_parts, parts_map}
use Rattle.heap.specs.Stored.{config_of}
use Rattle.heap.specs.Valid.{keeps_quotas, valid}
use Rattle.heap.specs.Steps.{framed, keeps_all, agrees_with, Examination}
use Rattle.heap.proofs.Conditions.{Conditions, valid_conditions, conditions_valid, not_valid}
use Rattle.heap.specs.declared.record.Heap.{Heap}

pub keeps_all_lem : (figures quotas : List ℕ) → ((i : ℕ) → i < 8 → get_or figures i 0 ≤ get_or quotas i 0) → keeps_all figures quotas ≡ true
keeps_all_lem figures quotas h = all_owners (λ (o : ℕ). leb (get_or figures (o - 1) 0) (quota quotas o)) (λ o a b. le-leb (get_or figures (o - 1) 0) (quota quotas o) (rw (quota_at quotas o a) (h (o - 1) (omega arith))))

pub keeps_each : (figures quotas : List ℕ) → keeps_all figures quotas ≡ true → (o : ℕ) → 1 ≤ o → o ≤ 8 → get_or figures (o - 1) 0 ≤ quota quotas o
keeps_each figures quotas e o a b = leb-true _ _ (each_owner (λ (o : ℕ). leb (get_or figures (o - 1) 0) (quota quotas o)) e o a b)

pub keeps_not : (figures quotas : List ℕ) (i : ℕ) → i < 8 → get_or quotas i 0 < get_or figures i 0 → false ≡ keeps_all figures quotas
keeps_not figures quotas i h k =
    split (keeps_all figures quotas)
    (λ q. let z : i + 1 - 1 ≡ i = omega arith in
    let y : get_or figures (i + 1 - 1) 0 ≤ quota quotas (i + 1) = keeps_each figures quotas q (i + 1) (omega arith) (omega arith) in
    absurd (omega (arith, quota_at quotas (i + 1) (omega arith), ap (λ (j : ℕ). get_or figures j 0) z, ap (λ (j : ℕ). get_or quotas j 0) z)))
    (λ q. sym q)

-- Quotas in their range.
pub not_within : (most x : ℕ) → most < x → within 0 most x ≡ false
not_within most x h = rw (lt-leb x most h) (split (leb 0 x) (λ q. rw q) (λ q. rw q))

pub quotas_all : (most : ℕ) (qs : List ℕ) → length qs ≡ 8 → list_all (within 0 most) qs ≡ true → true ≡ are_quotas most qs
quotas_all most qs n e = sym (both_true _ _ (eq-eqb (length qs) 8 n) e)

pub quotas_not : (most : ℕ) (qs : List ℕ) → list_all (within 0 most) qs ≡ false → false ≡ are_quotas most qs
quotas_not most qs e = split (are_quotas most qs) (λ q. absurd (clash _ (both_right (eqb (length qs) 8) (list_all (within 0 most) qs) q) e)) (λ q. sym q)

-- The arena's range in granules, and the table's in rows.
in_units : (low high step least most n m : ℕ) → (low ≤ m → least ≤ n) → (least ≤ n → low ≤ m) → (m ≤ high → n ≤ most) → (n ≤ most → m ≤ high) → m % step ≡ 0
    → (within low high m && eqb (m % step) 0) ≡ within least most n
in_units low high step least most n m down up down' up' z =
    same_test (within low high m && eqb (m % step) 0) (within least most n)
    (λ q. let r : within low high m ≡ true = search parts in
    bounds_within least most n (down (within_least low high m r)) (down' (within_most low high m r)))
    (λ q. both_true _ _ (bounds_within low high m (up (within_least least most n q)) (up' (within_most least most n q))) (eq-eqb (m % step) 0 z))

pub arena_range : (g : ℕ) → is_arena (16 * g) ≡ within 1 65536 g
arena_range g =
    in_units 16 1048576 16 1 65536 g (16 * g) (λ h. omega arith) (λ h. omega arith) (λ h. omega arith) (λ h. omega arith) (omega arith)

pub table_range : (n : ℕ) → is_table (4 * n) ≡ within 1 512 n
table_range n = in_units 4 2048 4 1 512 n (4 * n) (λ h. omega arith) (λ h. omega arith) (λ h. omega arith) (λ h. omega arith) (omega arith)

-- Without a look at a row.
module _ (r : Heap) (ws : List ℕ) where
  pub not_framed : framed r ws ≡ false → valid r ws ≡ false
  not_framed q =
      sym (not_valid r ws (λ a. clash _ (both_true _ _ (both_true _ _ a.range (eq-eqb _ _ a.words)) (bounds_within 1 r.capacity r.rows a.rows_least a.rows_most)) q))

  -- What the pass over the rows asks for.
  pub framed_rows : framed r ws ≡ true → (4 * r.rows ≤ length ws) × (r.guards ≤ 1)
  framed_rows q =
      let words : eqb (length ws) (4 * r.capacity) ≡ true = search parts in
      let rows : within 1 r.capacity r.rows ≡ true = search parts in
      let range : in_range (config_of r) ≡ true = search parts in
      (omega (tests, within_most 1 r.capacity r.rows rows), few_guards (config_of r) range)

-- Rows that are no map are not those of a valid heap.
pub no_map : (r : Heap) (ws : List ℕ) → is_map (config_of r) (segments_in r.rows ws) ≡ false → valid r ws ≡ false
no_map r ws q =
    sym (not_valid r ws (λ a. clash _ (parts_map (config_of r) (segments_in r.rows ws) (record { tiled = a.tiled; formed = a.formed; apart = a.apart })) q))

-- With the figures counted in the rows in use, which are a map.
module _ (r : Heap) (ws : List ℕ) (k : Census) (map : is_map (config_of r) (segments_in r.rows ws) ≡ true) (figures : Figures (config_of r) (segments_in r.rows ws) k) where
  these : MapParts (config_of r) (segments_in r.rows ws)
  these = map_parts (config_of r) (segments_in r.rows ws) map

  charged : (o : ℕ) → total (charge (config_of r)) (owned_by o (blocks_in r.rows ws)) ≡ granules_of (owned_by o (blocks_in r.rows ws))
  charged = map_charged (config_of r) (segments_in r.rows ws) map

  quotas_kept : keeps_all k.blocks r.block_quotas ≡ true → keeps_all k.held r.granule_quotas ≡ true
      → list_all (keeps_quotas (config_of r) (blocks_in r.rows ws)) owners ≡ true
  quotas_kept p q =
      all_owners (keeps_quotas (config_of r) (blocks_in r.rows ws))
      (λ o a b. both_true _ _
      (le-leb (length (owned_by o (blocks_in r.rows ws))) (quota r.block_quotas o) (omega (arith, keeps_each k.blocks r.block_quotas p o a b, figures.blocks o a b)))
      (le-leb (total (charge (config_of r)) (owned_by o (blocks_in r.rows ws))) (quota r.granule_quotas o) (omega (arith, keeps_each k.held r.granule_quotas q o a b, figures.held o a b, charged o))))

  each : Conditions r ws → (o : ℕ) → 1 ≤ o → o ≤ 8
      → (length (owned_by o (blocks_in r.rows ws)) ≤ quota r.block_quotas o) × (total (charge (config_of r)) (owned_by o (blocks_in r.rows ws)) ≤ quota r.granule_quotas o)
  each c o a b =
      let e : keeps_quotas (config_of r) (blocks_in r.rows ws) o ≡ true = each_owner (keeps_quotas (config_of r) (blocks_in r.rows ws)) c.held o a b in (
        leb-true _ _ (both_left (leb (length (owned_by o (blocks_in r.rows ws))) (quota r.block_quotas o)) (leb (total (charge (config_of r)) (owned_by o (blocks_in r.rows ws))) (quota r.granule_quotas o)) e),
        leb-true _ _ (both_right (leb (length (owned_by o (blocks_in r.rows ws))) (quota r.block_quotas o)) (leb (total (charge (config_of r)) (owned_by o (blocks_in r.rows ws))) (quota r.granule_quotas o)) e),
      )

  blocks_kept : Conditions r ws → keeps_all k.blocks r.block_quotas ≡ true
  blocks_kept c =
      all_owners (λ (o : ℕ). leb (get_or k.blocks (o - 1) 0) (quota r.block_quotas o))
      (λ o a b. le-leb (get_or k.blocks (o - 1) 0) (quota r.block_quotas o) (omega (arith, figures.blocks o a b, (each c o a b).0)))

  granules_kept : Conditions r ws → keeps_all k.held r.granule_quotas ≡ true
  granules_kept c =
      all_owners (λ (o : ℕ). leb (get_or k.held (o - 1) 0) (quota r.granule_quotas o))
      (λ o a b. le-leb (get_or k.held (o - 1) 0) (quota r.granule_quotas o) (omega (arith, figures.held o a b, charged o, (each c o a b).1)))

  -- If they are one, and what needs no look at a row holds, the conditions left decide.
  pub agrees_valid : framed r ws ≡ true → agrees_with r ws k ≡ valid r ws
  agrees_valid f =
      same_test (agrees_with r ws k) (valid r ws)
      (λ q.
      let words : eqb (length ws) (4 * r.capacity) ≡ true = search parts in
      let rows : within 1 r.capacity r.rows ≡ true = search parts in
      let used : eqb r.used k.used ≡ true = search parts in
      let peak : within r.used r.granules r.peak ≡ true = search parts in
      conditions_valid r ws (record {
        range = search parts;
        words = eqb-true _ _ words;
        rows_least = within_least 1 r.capacity r.rows rows;
        rows_most = within_most 1 r.capacity r.rows rows;
        tiled = these.tiled;
        formed = these.formed;
        apart = these.apart;
        unused = search parts;
        used = eqb-true _ _ used ∙ figures.used;
        peak_least = within_least r.used r.granules r.peak peak;
        peak_most = within_most r.used r.granules r.peak peak;
        held = quotas_kept (search parts) (search parts);
      }))
      (λ v. let a : Conditions r ws = valid_conditions r ws v in
      both_true _ _ (both_true _ _ (both_true _ _ (both_true _ _ a.unused (eq-eqb r.used k.used (omega (arith, a.used, figures.used))))
      (bounds_within r.used r.granules r.peak a.peak_least a.peak_most))
      (blocks_kept a))
      (granules_kept a))

-- What a check tells of a valid heap.
pub examined : (r : Heap) (ws : List ℕ) (k : Census) → is_map (config_of r) (segments_in r.rows ws) ≡ true → Figures (config_of r) (segments_in r.rows ws) k → framed r ws ≡ true
    → agrees_with r ws k ≡ true → Examination r ws k
examined r ws k map figures f q = record { valid = sym (agrees_valid r ws k map figures f) ∙ q; figures = figures }
