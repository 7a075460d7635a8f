-- What holds of the live blocks after every list of calls, for a reader: no two tasks are lent the same bytes.
-- Assumes nothing.
use Rattle.std.specs.Prelude.{Ok, filter}
use mathlib.Core.Path.{◌≡◌}
use mathlib.Core.Bool.{true}
use mathlib.Core.List.{List, Memᴰ}
use Prim.Native.Nat.{ℕ, ◌≤◌}
use lib.ListN.{length}
use Rattle.model.specs.Rules.{init_config}
use Rattle.model.proofs.Ordered.{Ordered}
use Rattle.model.proofs.Disjoint as disjoint
use Rattle.model.proofs.Disjoint.{has_byte}
use Rattle.heap.specs.Calls.{init}
use Rattle.heap.proofs.Makes.{init_range, fresh_kept}
use Rattle.guarantee.specs.Lists.{Call}
use Rattle.guarantee.specs.Guarantee.{state_after}
use Rattle.guarantee.proofs.Guarantee.{kept_after}
use Rattle.model.specs.declared.Segment.{Segment}
use Rattle.model.specs.declared.Plan.{Plan}

-- Of the blocks that are live after any list of calls from a making that is not refused.
module _ (arena words : List ℕ) (p : Plan) (done : init arena words p ≡ Ok tt) (ks : List Call) where
  abbrev live : List Segment
  live = (state_after (init_config arena words p) ks).blocks

  ordered : Ordered (init_config arena words p) 0 live
  ordered = (kept_after (init_config arena words p) _ ks (fresh_kept (init_config arena words p) (init_range arena words p done))).ordered

  -- Each byte of the arena lies in at most one live block.
  pub in_one_block : (x : ℕ) → length (filter (has_byte x) live) ≤ 1
  in_one_block x = disjoint.in_one_block (init_config arena words p) x 0 live ordered

  -- Two live blocks that share a byte are one block, of one task.
  pub never_shared : (b d : Segment) → Memᴰ b live → Memᴰ d live → (x : ℕ) → has_byte x b ≡ true → has_byte x d ≡ true → b ≡ d
  never_shared b d m n x e f = disjoint.never_shared (init_config arena words p) live ordered b d m n x e f
