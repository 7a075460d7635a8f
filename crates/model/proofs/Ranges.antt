-- What the ranges of the quantities say, as orders and equations.
-- Assumes nothing.
use mathlib.Core.Path.{◌≡◌, refl}
use mathlib.Core.Bool.{Bool, true}
use mathlib.Core.List.{List, [], ◌∷◌}
use Prim.Native.Nat.{ℕ, zero, suc, ◌+◌, ◌-◌, ◌*◌, ◌%◌, ◌≤◌, ◌<◌}
use native.Mathlib.Omega.{arith}
use lib.Dec.{leb, eqb}
use lib.ListN.{length, get_or}
use borrow.Author.Tests.{leb-true, le-leb, eqb-true}
use Rattle.std.specs.List.{list_all}
use Rattle.model.specs.Quantities.{within, is_arena, is_base, is_table, owners, Config, in_range, quota}
use Rattle.model.proofs.Choosing.{split, tests, both_left, both_right, both_true, parts, every_head, every_tail}

-- the bounds of a range
pub within_least : (least most x : ℕ) → within least most x ≡ true → least ≤ x
within_least least most x e = leb-true least x (both_left (leb least x) (leb x most) e)

pub within_most : (least most x : ℕ) → within least most x ≡ true → x ≤ most
within_most least most x e = leb-true x most (both_right (leb least x) (leb x most) e)

pub bounds_within : (least most x : ℕ) → least ≤ x → x ≤ most → within least most x ≡ true
bounds_within least most x h k = rw (le-leb least x h, le-leb x most k)

-- the n numbers from i on: `up_from 1 8` computes to the list of owners
abbrev up_from : ℕ → ℕ → List ℕ
up_from i zero = []
up_from i (suc n) = i ∷ up_from (suc i) n

at_from : (p : ℕ → Bool) (i n o : ℕ) → list_all p (up_from i n) ≡ true → i ≤ o → o < i + n → p o ≡ true
at_from p i zero o e h k = absurd (omega arith)
at_from p i (suc n) o e h k =
    split (eqb i o)
    (λ q. rw (← eqb-true i o q) (every_head p i (up_from (suc i) n) e))
    (λ q. at_from p (suc i) n o (every_tail p i (up_from (suc i) n) e) (omega tests) (omega arith))

from_all : (p : ℕ → Bool) (i n : ℕ) → ((o : ℕ) → i ≤ o → o < i + n → p o ≡ true) → list_all p (up_from i n) ≡ true
from_all p i zero h = refl
from_all p i (suc n) h = both_true _ _ (h i (omega arith) (omega arith)) (from_all p (suc i) n (λ o a b. h o (omega arith) (omega arith)))

-- what holds of all owners holds of each, and the other way round
pub each_owner : (p : ℕ → Bool) → list_all p owners ≡ true → (o : ℕ) → 1 ≤ o → o ≤ 8 → p o ≡ true
each_owner p e o h k = at_from p 1 8 o e h (omega arith)

pub all_owners : (p : ℕ → Bool) → ((o : ℕ) → 1 ≤ o → o ≤ 8 → p o ≡ true) → list_all p owners ≡ true
all_owners p h = from_all p 1 8 (λ o a b. h o a (omega arith))

-- an owner's quota is at its place
pub quota_at : (qs : List ℕ) (o : ℕ) → 1 ≤ o → quota qs o ≡ get_or qs (o - 1) 0
quota_at qs zero h = absurd (omega arith)
quota_at qs (suc i) h = let z : suc i - 1 ≡ i = omega arith in rw z

-- an arena is a whole number of granules, a table a whole number of rows
pub arena_whole : (n : ℕ) → is_arena n ≡ true → n % 16 ≡ 0
arena_whole n e = eqb-true (n % 16) 0 (search parts)

pub arena_most : (n : ℕ) → is_arena n ≡ true → n ≤ 1048576
arena_most n e = within_most 16 1048576 n (search parts)

-- base 0 is allowed for every arena
pub zero_base : (n : ℕ) → is_arena n ≡ true → is_base n 0 ≡ true
zero_base n e = le-leb (0 + n) 4294967296 (omega (arith, arena_most n e))

pub table_whole : (n : ℕ) → is_table n ≡ true → n % 4 ≡ 0
table_whole n e = eqb-true (n % 4) 0 (search parts)

-- what a heap is made with
module _ (c : Config) (e : in_range c ≡ true) where
  pub eight_granule_quotas : length c.granule_quotas ≡ 8
  eight_granule_quotas = eqb-true (length c.granule_quotas) 8 (search parts)

  pub eight_block_quotas : length c.block_quotas ≡ 8
  eight_block_quotas = eqb-true (length c.block_quotas) 8 (search parts)

  pub some_granules : 1 ≤ c.granules
  some_granules = let r : within 16 1048576 (16 * c.granules) ≡ true = search parts in omega (arith, within_least 16 1048576 (16 * c.granules) r)

  pub base_whole : c.base % 16 ≡ 0
  base_whole = eqb-true (c.base % 16) 0 (search parts)

  pub base_ends : c.base + 16 * c.granules ≤ 4294967296
  base_ends = leb-true (c.base + 16 * c.granules) 4294967296 (search parts)

  pub guards_range : within 0 1 c.guards ≡ true
  guards_range = search parts

  pub few_guards : c.guards ≤ 1
  few_guards = within_most 0 1 c.guards guards_range

  pub some_rows : 1 ≤ c.capacity
  some_rows = let r : within 4 2048 (4 * c.capacity) ≡ true = search parts in omega (arith, within_least 4 2048 (4 * c.capacity) r)

  pub few_granules : c.granules ≤ 65536
  few_granules = let r : within 16 1048576 (16 * c.granules) ≡ true = search parts in omega (arith, within_most 16 1048576 (16 * c.granules) r)

  pub few_rows : c.capacity ≤ 512
  few_rows = let r : within 4 2048 (4 * c.capacity) ≡ true = search parts in omega (arith, within_most 4 2048 (4 * c.capacity) r)
