-- Which rows are those of an arena.
-- Assumes nothing.
use Rattle.std.specs.Prelude.{◌≡◌, ℕ, ◌+◌, ◌-◌, ◌*◌, ◌≤◌, Bool, true, not, if◌then◌else◌, ◌&&◌, List, [], ◌∷◌, ◌==◌, nat_le}
use Rattle.std.specs.List.{list_all}
use Rattle.model.specs.Quantities.{within, Config}
use Rattle.model.specs.SegmentMap.{is_free}
use Rattle.model.specs.declared.Segment.{Segment}

-- The rows begin at s, each begins where the one before ends, each is at least 1 long, and the last ends at e; no rows do so only if s is e.
abbrev pub tiles : ℕ → ℕ → List Segment → Bool
tiles s e [] = s == e
tiles s e (x ∷ xs) = x.start == s && nat_le 1 x.length && tiles (s + x.length) e xs

-- A free row has requested 0; a live row with k granules before its guard has requested from 16 (k - 1) + 1 to 16 k bytes, which is never 0 (and with none before it no number will do).
abbrev pub requested_fits : Config → Segment → Bool
requested_fits c x =
    if is_free x then x.requested == 0
    else within (16 * (x.length - c.guards - 1) + 1) (16 * (x.length - c.guards)) x.requested

-- A row is well formed if its owner is 0 to 8 and its bytes requested fit.
abbrev pub well_formed : Config → Segment → Bool
well_formed c x = within 0 8 x.owner && requested_fits c x

-- No two free rows touch.
abbrev pub no_two_free : List Segment → Bool
no_two_free [] = true
no_two_free (x ∷ []) = true
no_two_free (x ∷ y ∷ ys) = not (is_free x && is_free y) && no_two_free (y ∷ ys)

-- Rows are a map if they tile the arena, each is well formed, and no two free ones touch.
abbrev pub is_map : Config → List Segment → Bool
is_map c xs = tiles 0 c.granules xs && list_all (well_formed c) xs && no_two_free xs

-- Rows are a map of some arena of at most so many granules.
pub record IsMapWithin (most : ℕ) (xs : List Segment) : Type 0 where
  pub arena : Config
  pub small : arena.granules ≤ most
  pub map : is_map arena xs ≡ true
