-- `segments::bytes::move_bytes` meets its contract: the bytes are copied and their own place zeroed, or stay, without those past the room.
-- Assumes nothing.
use Rattle.std.proofs.Common.{◌≡◌, ℕ, ◌+◌, ◌-◌, ◌≤◌, true, eqb, leb, sym, ap, ◌∙◌, arith, ne_eqb, le-leb}
use Rattle.std.specs.List.{copy_within}
use Rattle.std.specs.Prelude.{◌&&◌, ◌||◌}
use Rattle.model.specs.Arena.{written, slice, zeroed, disjoint, moved}
use Rattle.model.proofs.Bytes.{length_slice}
use Rattle.model.proofs.Choosing.{split, parts, tests, one_holds}
use Rattle.model.proofs.Moving.{moved_shorter, moved_longer, moved_apart}
use Rattle.segments.proofs.bytes.move_bytes.Goals as goal

-- A block that moves at all goes to a place that is no shorter and, as far as it fills it, has no byte of the old.
elsewhere : (from held to room : ℕ) → (eqb from to || (leb held room && disjoint from held to room)) ≡ true → ¬ (from ≡ to)
    → (held ≤ room) × (disjoint from held to held ≡ true)
elsewhere from held to room e n =
    let b : (leb held room && disjoint from held to room) ≡ true = rw (ne_eqb from to n) at e in
    let l : leb held room ≡ true = search parts in
    let d : disjoint from held to room ≡ true = search parts in
    (omega tests, split (leb (from + held) to) (λ q. rw q) (λ q. rw (q, le-leb (to + held) from (omega (tests, one_holds)))))

pub returns-then-from-to : goal.returns-then-from-to
returns-then-from-to c =
    let a = c.args in
    let z : a.from + a.held - a.from ≡ a.held = omega arith in
    let copied : copy_within a.bytes.now a.from (a.from + a.held) a.to ≡ written a.to (slice a.from a.held a.bytes.now) a.bytes.now =
    rw (z, length_slice a.from a.held a.bytes.now c.requires.from) in
    let w = elsewhere a.from a.held a.to a.room c.requires.apart c.if-from-to.true in
    c.fill.ensures
    ∙ ap (zeroed a.from a.held) (c.copy_within.ensures.after ∙ copied)
    ∙ moved_apart a.from a.held a.to a.room a.bytes.now w.0 c.requires.from (omega arith) w.1

pub returns-then-room-held : goal.returns-then-room-held
returns-then-room-held c =
    let a = c.args in
    let z : a.from ≡ a.to = omega arith in
    c.fill-then-room-held.ensures
    ∙ sym (moved_shorter a.from a.held a.room a.bytes.now (omega arith) c.requires.from)
    ∙ ap (λ (to : ℕ). moved a.from a.held to a.room a.bytes.now) z

pub returns-else-room-held : goal.returns-else-room-held
returns-else-room-held c =
    let a = c.args in
    let z : a.from ≡ a.to = omega arith in
    sym (moved_longer a.from a.held a.room a.bytes.now (omega arith) c.requires.from)
    ∙ ap (λ (to : ℕ). moved a.from a.held to a.room a.bytes.now) z
