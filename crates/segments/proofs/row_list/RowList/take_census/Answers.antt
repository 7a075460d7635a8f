-- `segments::row_list::RowList::take_census` meets its contract.
-- Assumes nothing.
use Rattle.std.proofs.Common.{◌≡◌, ℕ, ◌+◌, ◌<◌, ◌≤◌, List, [], ◌∷◌, length, drop, true, false, sym, refl, subst, ◌∙◌, ap, arith, eq-eqb, ne_eqb}
use Rattle.model.specs.Quantities.{Config}
use Rattle.segments.specs.Rows.{nth_row}
use Rattle.std.specs.Prelude.{None}
use Rattle.segments.specs.Counting.{Bounded, Counted}
use Rattle.segments.specs.Steps.{follows_of, free_of, live_of}
use Rattle.segments.proofs.Reading.{rest_row, rest_none}
use Rattle.segments.proofs.Following.{Follows, follows_true}
use Rattle.segments.proofs.OneCounted.{of_granules, none_bounded, free_bounded, live_bounded, passed_bounded}
use Rattle.segments.proofs.AllCounted.{Ahead, begin, none_follows, ahead_free, ahead_live, whole, not_counted}
use Rattle.model.specs.declared.Segment.{Segment}
use Rattle.segments.specs.declared.census.Census.{Census}
use Rattle.segments.proofs.row_list.RowList.take_census.Goals as goal
use Rattle.segments.proofs.row_list.RowList.take_census.Goals.{then-s-eq0, else-s-eq0}

-- What holds of a table that is a map of any arena with these figures.
abbrev Of : ℕ → ℕ → (Config → Type 0) → Type 0
Of g f P = (c : Config) → c.granules ≡ g → c.guards ≡ f → P c

module _ (g f i : ℕ) (xs : List Segment) (k : Census) (x : Segment) (h : i < length xs) (e : x ≡ nth_row xs i)
    (a : Of g f (λ c. Ahead c k (drop i xs) xs)) where
  -- The row is the first of those left.
  next_row : Of g f (λ c. Ahead c k (x ∷ drop (i + 1) xs) xs)
  next_row c p q = subst (λ (ys : List Segment). Ahead c k ys xs) (rest_row xs i h ∙ ap (λ (y : Segment). y ∷ drop (i + 1) xs) (sym e)) (a c p q)

  -- One that does not follow is none of a map.
  refused_row : Of g f (λ c. false ≡ follows_of c k x) → Of g f (λ c. Counted c xs None)
  refused_row t c p q = not_counted c xs (none_follows c k x (drop (i + 1) xs) xs (next_row c p q) (sym (t c p q)))

  module _ (b : Bounded g k) (t : Of g f (λ c. true ≡ follows_of c k x)) where
    follows : Of g f (λ c. Follows c k x)
    follows c p q = follows_true c k x (sym (t c p q))

    -- So it is in an arena with these figures and no others.
    here : Follows (of_granules g f) k x
    here = follows (of_granules g f) refl refl

    -- A free row counted.
    free_row : x.owner ≡ 0 → Of g f (λ c. Ahead c (free_of k x.length) (drop (i + 1) xs) xs)
    free_row z c p q = ahead_free c k x (drop (i + 1) xs) xs (next_row c p q) (follows c p q) (eq-eqb x.owner 0 z)

    free_within : Bounded g (free_of k x.length)
    free_within = free_bounded (of_granules g f) k x b here

    -- A live row counted.
    live_row : (x.owner ≡ 0 → ⊥) → Of g f (λ c. Ahead c (live_of k x.owner x.length) (drop (i + 1) xs) xs)
    live_row z c p q = ahead_live c k x (drop (i + 1) xs) xs (next_row c p q) b.blocks_eight b.held_eight (follows c p q) (ne_eqb x.owner 0 z)

    live_within : (x.owner ≡ 0 → ⊥) → Bounded g (live_of k x.owner x.length)
    live_within z = live_bounded (of_granules g f) k x b here (ne_eqb x.owner 0 z)

pub loop-i-init : goal.loop-i-init
loop-i-init c = rw c.new-k.ensures (record { ahead = λ d p q. begin d _; bounded = none_bounded _ })

pub returns-then-not-is_followed_by : goal.returns-then-not-is_followed_by
returns-then-not-is_followed_by c =
    refused_row _ _ _ _ _ _ (omega (arith, c.loop-i-test.true, c.len-i-end.ensures.count)) c.get-s.ensures c.loop-i.invariant.ahead (λ d p q. sym c.if-not-is_followed_by.true ∙ c.is_followed_by.ensures d p q)

pub count_free-requires : goal.count_free-requires
count_free-requires c =
    let h : Follows (of_granules c.args.granules c.args.guards) c.loop-i.k c.get-s.result =
    here _ _ _ _ _ _ (omega (arith, c.loop-i-test.true, c.len-i-end.ensures.count)) c.get-s.ensures c.loop-i.invariant.ahead c.loop-i.invariant.bounded (λ d p q. sym c.if-not-is_followed_by.false ∙ c.is_followed_by.ensures d p q) in
    omega arith

pub count_block-requires : goal.count_block-requires
count_block-requires c =
    let b = c.loop-i.invariant.bounded in
    let h : Follows (of_granules c.args.granules c.args.guards) c.loop-i.k c.get-s.result =
    here _ _ _ _ _ _ (omega (arith, c.loop-i-test.true, c.len-i-end.ensures.count)) c.get-s.ensures c.loop-i.invariant.ahead b (λ d p q. sym c.if-not-is_followed_by.false ∙ c.is_followed_by.ensures d p q) in
    record { owner = omega arith; known = omega arith; some = omega arith; fits = omega arith; bounded = passed_bounded _ _ b }

pub loop-i-preserved : goal.loop-i-preserved
loop-i-preserved c =
    let v = c.loop-i.invariant in
    let t = λ (d : Config) (p : d.granules ≡ c.args.granules) (q : d.guards ≡ c.args.guards). sym c.if-not-is_followed_by.false ∙ c.is_followed_by.ensures d p q in
    elim c.if-s-eq0.branch [
      | then-s-eq0 w ↦ rw (w.k-is, w.count_free.ensures) (record {
        ahead = free_row _ _ _ _ _ _ (omega (arith, c.loop-i-test.true, c.len-i-end.ensures.count)) c.get-s.ensures v.ahead v.bounded t w.if-s-eq0.true;
        bounded = free_within _ _ _ _ _ _ (omega (arith, c.loop-i-test.true, c.len-i-end.ensures.count)) c.get-s.ensures v.ahead v.bounded t;
      })
      | else-s-eq0 w ↦ rw (w.k-is, w.count_block.ensures) (record {
        ahead = live_row _ _ _ _ _ _ (omega (arith, c.loop-i-test.true, c.len-i-end.ensures.count)) c.get-s.ensures v.ahead v.bounded t w.if-s-eq0.false;
        bounded = live_within _ _ _ _ _ _ (omega (arith, c.loop-i-test.true, c.len-i-end.ensures.count)) c.get-s.ensures v.ahead v.bounded t w.if-s-eq0.false;
      })
    ]

-- With no row left.
last : (g f i : ℕ) (xs : List Segment) (k : Census) → length xs ≤ i → Of g f (λ c. Ahead c k (drop i xs) xs) → Of g f (λ c. Ahead c k [] xs)
last g f i xs k h a c p q = subst (λ (ys : List Segment). Ahead c k ys xs) (rest_none xs i h) (a c p q)

pub returns : goal.returns
returns c d p q =
    whole d _ _ (last _ _ _ c.args.self.now _ (omega (arith, c.loop-i-test.false, c.len-i-end.ensures.count)) c.loop-i.invariant.ahead d p q) (rw p c.loop-i.invariant.bounded) (c.if-k-granules.false ∙ sym p)
