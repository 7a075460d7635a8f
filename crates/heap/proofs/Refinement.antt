-- Document 02's first request, of the calls: it tells document 01's number 9 apart, and changes nothing else, for every record, table and arena.
-- Assumes nothing.
use mathlib.Core.Path.{◌≡◌}
use mathlib.Core.Bool.{false}
use mathlib.Core.List.{List, [], ◌∷◌}
use Prim.Native.Nat.{ℕ}
use lib.Dec.{eqb}
use Rattle.model.specs.Arena.{zeroed}
use Rattle.model.specs.Orders.{unless, free_order, block_size_order}
use Rattle.model.specs.Rules.{releasing, bytes_at, requested_at}
use Rattle.model.specs.Numbers.{number_of, Numbered, numbered_by}
use Rattle.model.proofs.Refinement as model
use Rattle.model.proofs.Refinement.{guarded_free_order01, block_size_order01, is_of_the_four, Refines}
use Rattle.heap.specs.Stored.{Stored}
use Rattle.heap.specs.Calls.{is_valid, config, state, afterwards, numbered_free, after_free, arena_after_free, numbered_block_size}
use Rattle.heap.proofs.ValidStored.{valid_kept}

module _ (s : Stored) (arena : List ℕ) (o x : ℕ) where
  -- By document 01's order, with 19 after its last, a free answers so, in numbers,
  abbrev pub numbered_free01 : Numbered
  numbered_free01 = numbered_by number_of (guarded_free_order01 (is_valid s) (config s) (state s) arena o x) (bytes_at (state s) x ∷ [])

  -- and leaves the record and the table so,
  abbrev pub after_free01 : Stored
  after_free01 = afterwards s (guarded_free_order01 (is_valid s) (config s) (state s) arena o x) (releasing (state s) x)

  -- and the arena so.
  abbrev pub arena_after_free01 : List ℕ
  arena_after_free01 = unless (guarded_free_order01 (is_valid s) (config s) (state s) arena o x) (zeroed x (bytes_at (state s) x) arena) (λ r. arena)

  -- By document 01 the enquiry for a block's size answered so.
  abbrev pub numbered_block_size01 : Numbered
  numbered_block_size01 =
      numbered_by number_of (block_size_order01 (is_valid s) (config s) (state s) o x) (requested_at (state s) x ∷ bytes_at (state s) x ∷ [])

  free_orders : Refines (guarded_free_order01 (is_valid s) (config s) (state s) arena o x) (free_order (is_valid s) (config s) (state s) arena o x)
  free_orders = model.free_refines (config s) (state s) o x (is_valid s) (valid_kept s.heap s.words) arena

  size_orders : Refines (block_size_order01 (is_valid s) (config s) (state s) o x) (block_size_order (is_valid s) (config s) (state s) o x)
  size_orders = model.size_refines (config s) (state s) o x (is_valid s) (valid_kept s.heap s.words)

  -- A free is refused by one of 15, 16, 17, 9 exactly if it was refused by 9;
  pub free_nine : is_of_the_four (numbered_free s arena o x).0 ≡ eqb numbered_free01.0 9
  free_nine = model.nine_numbered _ _ free_orders (bytes_at (state s) x ∷ [])

  -- every other answer is what it was, number and values,
  pub free_others : is_of_the_four (numbered_free s arena o x).0 ≡ false → numbered_free s arena o x ≡ numbered_free01
  free_others e = model.others_numbered _ _ free_orders (bytes_at (state s) x ∷ []) e

  -- and so is what it leaves.
  pub free_effects : (after_free s arena o x ≡ after_free01) × (arena_after_free s arena o x ≡ arena_after_free01)
  free_effects = (free_orders.effects _ _, free_orders.effects _ _)

  -- The same holds of the enquiry for a block's size, which changes nothing.
  pub size_nine : is_of_the_four (numbered_block_size s o x).0 ≡ eqb numbered_block_size01.0 9
  size_nine = model.nine_numbered _ _ size_orders (requested_at (state s) x ∷ bytes_at (state s) x ∷ [])

  pub size_others : is_of_the_four (numbered_block_size s o x).0 ≡ false → numbered_block_size s o x ≡ numbered_block_size01
  size_others e = model.others_numbered _ _ size_orders (requested_at (state s) x ∷ bytes_at (state s) x ∷ []) e
