-- What it says of a row that it may follow those counted.
-- Assumes nothing.
use Rattle.std.proofs.Common.{◌≡◌, ℕ, ◌+◌, ◌-◌, ◌*◌, ◌≤◌, true, false, not, eqb, leb, sym, ◌∙◌, arith, eq-eqb, ne_eqb, le-leb}
use borrow.Author.Tests.{not-true}
use Rattle.std.specs.Prelude.{◌&&◌}
use Rattle.model.specs.Quantities.{within, Config}
use Rattle.model.specs.Allocation.{granules_for, needed}
use Rattle.model.specs.SegmentMap.{is_free}
use Rattle.model.proofs.Choosing.{split, tests, same_test, parts, both_true}
use Rattle.segments.specs.Tiling.{requested_fits, well_formed}
use Rattle.segments.specs.Steps.{follows_of}
use Rattle.model.specs.declared.Segment.{Segment}
use Rattle.segments.specs.declared.census.Census.{Census}

-- For k granules, g of them a guard's, some bytes, 16 (k - g - 1) + 1 to 16 (k - g), are requested exactly if those bytes with the guard need k granules.
pub bytes_fit : (g k r : ℕ) → 1 ≤ r → within (16 * (k - g - 1) + 1) (16 * (k - g)) r ≡ eqb (granules_for r + g) k
bytes_fit g k r h =
    same_test (within (16 * (k - g - 1) + 1) (16 * (k - g)) r) (eqb (granules_for r + g) k)
    (λ w. let a : leb (16 * (k - g - 1) + 1) r ≡ true = search parts in
    let b : leb r (16 * (k - g)) ≡ true = search parts in eq-eqb (granules_for r + g) k (omega tests))
    (λ w. both_true _ _ (le-leb (16 * (k - g - 1) + 1) r (omega tests)) (le-leb r (16 * (k - g)) (omega tests)))

-- What is known of a row that follows.
pub record Follows (c : Config) (k : Census) (x : Segment) : Type 0 where
  pub start : x.start ≡ k.end
  pub some : 1 ≤ x.length
  pub most : x.length ≤ c.granules - k.end
  pub formed : well_formed c x ≡ true
  pub owner : x.owner ≤ 8
  pub apart : (k.after_free && is_free x) ≡ false
  pub touch : x.owner ≡ 0 → k.after_free ≡ false
  pub requested : (x.owner ≡ 0 → ⊥) → 1 ≤ x.requested

module _ (c : Config) (k : Census) (x : Segment) where
  -- What the test says where it holds.
  pub follows_true : follows_of c k x ≡ true → Follows c k x
  unfolding follows_of
  follows_true q =
      let a : eqb x.start k.end ≡ true = search parts in
      let b : leb 1 x.length ≡ true = search parts in
      let d : leb x.length (c.granules - k.end) ≡ true = search parts in
      let w : well_formed c x ≡ true = search parts in
      let o : leb x.owner 8 ≡ true = search parts in
      let n : not (k.after_free && is_free x) ≡ true = search parts in
      let m : (k.after_free && is_free x) ≡ false = not-true (k.after_free && is_free x) n in
      let r : requested_fits c x ≡ true = search parts in
      record {
        start = omega tests;
        some = omega tests;
        most = omega tests;
        formed = w;
        owner = omega tests;
        apart = m;
        touch = λ z. split k.after_free (λ y. y ∙ rw (y, eq-eqb x.owner 0 z) at m) (λ y. y);
        requested = λ z. let v : within (16 * (x.length - c.guards - 1) + 1) (16 * (x.length - c.guards)) x.requested ≡ true = rw (ne_eqb x.owner 0 z) at r in
            let l : leb (16 * (x.length - c.guards - 1) + 1) x.requested ≡ true = search parts in omega tests;
      }

  -- A row that cannot follow does not.
  pub refused : (Follows c k x → ⊥) → false ≡ follows_of c k x
  refused h = split (follows_of c k x) (λ q. absurd (h (follows_true q))) (λ q. sym q)

  module _ (a : x.start ≡ k.end) (b : 1 ≤ x.length) (d : x.length ≤ c.granules - k.end) where
    -- A row at its place, of a known owner and not the second free one of two that touch, follows if its bytes requested fit.
    follows_fits : x.owner ≤ 8 → (k.after_free && is_free x) ≡ false → requested_fits c x ≡ follows_of c k x
    unfolding follows_of
    follows_fits o n =
        rw (eq-eqb x.start k.end a, le-leb 1 x.length b, le-leb x.length (c.granules - k.end) d, le-leb 0 x.owner (omega arith), le-leb x.owner 8 o, n)
        (split (requested_fits c x) (λ q. rw q) (λ q. rw q))

    -- A free row at its place, after one that is not free, follows if it has requested 0.
    pub follows_free : x.owner ≡ 0 → k.after_free ≡ false → eqb x.requested 0 ≡ follows_of c k x
    follows_free o n = rw (eq-eqb x.owner 0 o) at (follows_fits (omega arith) (rw n))

    -- A live row at its place with some bytes requested follows if these need its length.
    pub follows_live : (n : ℕ) → (x.owner ≡ 0 → ⊥) → x.owner ≤ 8 → 1 ≤ x.requested → n ≡ needed c x.requested → eqb n x.length ≡ follows_of c k x
    follows_live n o m r e =
        rw (e, ← bytes_fit c.guards x.length x.requested r)
        (rw (ne_eqb x.owner 0 o) at (follows_fits m (rw (ne_eqb x.owner 0 o) (split k.after_free (λ q. rw q) (λ q. rw q)))))
