-- The bytes of a block, and that no two live blocks share one.
-- Assumes nothing.
use mathlib.Core.Path.{◌≡◌, ◌∙◌, sym}
use mathlib.Core.Bool.{Bool, true}
use mathlib.Core.List.Memᴰ
use mathlib.Core.List.{List, [], ◌∷◌, Memᴰ}
use Prim.Native.Nat.{ℕ, ◌+◌, ◌/◌, ◌≤◌}
use native.Mathlib.Omega.{arith}
use lib.Dec.{leb, ltb}
use lib.ListN.{length}
use borrow.Author.Tests.{leb-true}
use Rattle.std.specs.Prelude.{◌&&◌, filter}
use Rattle.model.specs.Quantities.{Config}
use Rattle.model.specs.Allocation.{offset, has_granule, bytes}
use Rattle.model.proofs.Offsets.{in_granule, granule_before, granule_after}
use Rattle.model.proofs.Choosing.{split, tests, parts, both_left}
use Rattle.model.proofs.Ordered.{Ordered, none_from}
use Rattle.model.specs.declared.Segment.{Segment}

-- Byte x of the arena lies in the block.
abbrev pub has_byte : ℕ → Segment → Bool
has_byte x b = leb (offset b) x && ltb x (offset b + bytes b)

-- A byte lies in a block exactly if the block has its granule.
pub byte_granule : (i : ℕ) (b : Segment) → has_byte i b ≡ has_granule (i / 16) b
byte_granule i b =
    split (leb (offset b) i)
    (λ p. split (ltb i (offset b + bytes b))
    (λ q. rw (p, q, in_granule (i / 16) b (omega tests) (omega tests)))
    (λ q. rw (p, q, granule_after (i / 16) b (omega tests))))
    (λ p. rw (p, granule_before (i / 16) b (omega tests)))

-- Each byte of the arena lies in at most one live block.
pub in_one_block : (c : Config) (x s : ℕ) (bs : List Segment) → Ordered c s bs → length (filter (has_byte x) bs) ≤ 1
in_one_block c x s [] o = omega arith
in_one_block c x s (b ∷ bs) o =
    split (has_byte x b)
    (λ q. let z : ltb x (offset b + bytes b) ≡ true = search parts in
    rw (q, none_from c (has_byte x) x (λ d e. leb-true (offset d) x (both_left (leb (offset d) x) (ltb x (offset d + bytes d)) e)) (b.start + b.length) bs (omega tests) o.2) (omega arith))
    (λ q. rw q (in_one_block c x (b.start + b.length) bs o.2))

member_only : {A : Type 0} (p : A → Bool) (a : A) (xs : List A) → p a ≡ true → Memᴰ a xs → Memᴰ a (filter p xs)
member_only p a xs e (Memᴰ.head {x = x} {xs = ys} q) = let z : p x ≡ true = rw q at e in rw z (Memᴰ.head q)
member_only p a xs e (Memᴰ.tail {x = x} {xs = ys} m) =
    split (p x) (λ q. rw q (Memᴰ.tail (member_only p a ys e m))) (λ q. rw q (member_only p a ys e m))

one_member : {A : Type 0} (a b : A) (xs : List A) → length xs ≤ 1 → Memᴰ a xs → Memᴰ b xs → a ≡ b
one_member a b [] h m n = absurd (Memᴰ.not-nil m)
one_member a b (x ∷ []) h m n = Memᴰ.eq_of_singleton m ∙ sym (Memᴰ.eq_of_singleton n)
one_member a b (x ∷ y ∷ ys) h m n = absurd (omega arith)

-- Two live blocks that share a byte are one.
pub never_shared : (c : Config) (bs : List Segment) → Ordered c 0 bs → (b d : Segment) → Memᴰ b bs → Memᴰ d bs
    → (x : ℕ) → has_byte x b ≡ true → has_byte x d ≡ true → b ≡ d
never_shared c bs o b d m n x p q =
    one_member b d (filter (has_byte x) bs) (in_one_block c x 0 bs o) (member_only (has_byte x) b bs p m) (member_only (has_byte x) d bs q n)
