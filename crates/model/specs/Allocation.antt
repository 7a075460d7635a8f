-- Document 01's "Rules of lending", with document 02's base address, guards and resize, but for the arena's bytes: what a size needs, the set of live blocks, first fit by address, which block is at a byte or has a granule, which block a resize leaves, used, free and peak; and what an owner has of them.
-- Assumes nothing.
use Rattle.std.specs.Prelude.{ℕ, ◌+◌, ◌-◌, ◌*◌, ◌/◌, ◌%◌, max, Bool, not, if◌then◌else◌, ◌&&◌, ◌||◌, List, [], ◌∷◌, filter, find, leb, ltb, eqb, Option, None, Some}
use Rattle.std.specs.List.{list_all}
use Rattle.std.specs.Option.{option_map_or}
use Rattle.model.specs.Choose.{total, least_from}
use Rattle.model.specs.Quantities.{Config}
use Rattle.model.specs.declared.Segment.{Segment}

-- A size of n bytes fills n / 16 granules, rounded up.
abbrev pub granules_for : ℕ → ℕ
granules_for n = (n + 15) / 16

-- A block of n bytes needs these and, in a heap with guards, one more: the g of the papers.
abbrev pub needed : Config → ℕ → ℕ
needed c n = granules_for n + c.guards

-- A heap's state is the set of its live blocks, kept in address order, and its peak in granules.
pub record State : Type 0 where
  pub blocks : List Segment
  pub peak : ℕ

-- At making no block is live, and none ever was.
abbrev pub fresh : State
fresh = record { blocks = []; peak = 0 }

-- None of the granules s to s + g - 1 is in the block: the run ends before the block, or begins after it.
abbrev pub clear_of : ℕ → ℕ → Segment → Bool
clear_of s g b = leb (s + g) b.start || leb (b.start + b.length) s

-- There is room for g granules at s: s + g is at most the arena's granules, and none of the granules s to s + g - 1 is in a live block.
abbrev pub room : Config → List Segment → ℕ → ℕ → Bool
room c bs g s = leb (s + g) c.granules && list_all (clear_of s g) bs

-- A start s serves g granules on a boundary of a bytes: its address, the base plus 16 s, is a multiple of a, and there is room.
abbrev pub serves : Config → List Segment → ℕ → ℕ → ℕ → Bool
serves c bs g a s = eqb ((c.base + 16 * s) % a) 0 && room c bs g s

-- The lowest start that serves, if one does.
abbrev pub lowest_start : Config → List Segment → ℕ → ℕ → Option ℕ
lowest_start c bs g a = least_from (serves c bs g a) 0 c.granules

-- The block of owner o for n bytes at s has a start granule, a length in granules, an owner and the bytes requested.
abbrev pub block : Config → ℕ → ℕ → ℕ → Segment
block c o n s = record { start = s; length = needed c n; owner = o; requested = n }

-- An allocation gets the block at the lowest start, if there is one.
abbrev pub fit : Config → List Segment → ℕ → ℕ → ℕ → Option Segment
fit c bs o n a = option_map_or (λ s. Some (block c o n s)) (lowest_start c bs (needed c n) a) None

-- A new block is inserted at its place in address order.
abbrev pub insert : Segment → List Segment → List Segment
insert b [] = b ∷ []
insert b (x ∷ xs) = if ltb b.start x.start then b ∷ x ∷ xs else x ∷ insert b xs

-- A block, if there is one, is inserted among the others.
abbrev pub put : Option Segment → List Segment → List Segment
put f bs = option_map_or (λ b. insert b bs) f bs

-- A block's first byte is at 16 times its start, counted from the arena's first byte.
abbrev pub offset : Segment → ℕ
offset b = 16 * b.start

-- The block at x is the live block whose first byte is x, if there is one.
abbrev pub block_at : ℕ → List Segment → Option Segment
block_at x bs = find (λ (b : Segment). eqb (offset b) x) bs

-- A segment has granule i: it begins no later, and ends after it.
abbrev pub has_granule : ℕ → Segment → Bool
has_granule i b = leb b.start i && ltb i (b.start + b.length)

-- The block over granule i is the live block that has it, if there is one.
abbrev pub block_over : ℕ → List Segment → Option Segment
block_over i bs = find (has_granule i) bs

-- A return takes the block at x out of the set.
abbrev pub without : ℕ → List Segment → List Segment
without x bs = filter (λ (b : Segment). not (eqb (offset b) x)) bs

-- A resized block stays if its start has room for its new length beside the other blocks (which lengths those are is in proofs/Staying).
abbrev pub stays : Config → List Segment → ℕ → ℕ → Bool
stays c bs x n = room c (without x bs) (needed c n) (x / 16)

-- The resized block is at its own start if it stays, else at the lowest start, aligned to 16, that is clear of all live blocks, itself included, if there is one.
abbrev pub refit : Config → List Segment → ℕ → ℕ → ℕ → Option Segment
refit c bs o x n = if stays c bs x n then Some (block c o n (x / 16)) else fit c bs o n 16

-- A resize of the block at x to n bytes leaves this block instead of it: none if n is 0, which makes it a return, or if there is no place.
abbrev pub resize : Config → List Segment → ℕ → ℕ → ℕ → Option Segment
resize c bs o x n = if eqb n 0 then None else refit c bs o x n

-- A block holds its granules times 16 bytes.
abbrev pub bytes : Segment → ℕ
bytes b = 16 * b.length

-- Blocks hold the sum of their lengths in granules; what all live blocks hold is used.
abbrev pub granules_of : List Segment → ℕ
granules_of bs = total (λ (b : Segment). b.length) bs

-- Free is the arena minus used.
abbrev pub free_granules : Config → List Segment → ℕ
free_granules c bs = c.granules - granules_of bs

-- In a state with these live blocks instead, the peak is raised to what they hold if that is more, and never lowered.
abbrev pub changed : State → List Segment → State
changed h bs = record { blocks = bs; peak = max h.peak (granules_of bs) }

-- An owner's blocks are those with its number.
abbrev pub owned_by : ℕ → List Segment → List Segment
owned_by o bs = filter (λ (b : Segment). eqb b.owner o) bs

-- A block counts the granules of its bytes requested, its guard with them, against its owner's granule quota; in a valid heap these are its length.
abbrev pub charge : Config → Segment → ℕ
charge c b = needed c b.requested
