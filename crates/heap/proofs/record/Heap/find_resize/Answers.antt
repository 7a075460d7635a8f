-- `heap::Heap::find_resize` meets its contract: each part of the order in turn.
-- Assumes nothing.
use Rattle.std.proofs.Common.{rules}
use Rattle.heap.proofs.Frees.{free_of_valid}
use Rattle.heap.proofs.Refitting.{refit_invalid, refit_not, refit_asked, refit_decided}
use Rattle.heap.proofs.record.Heap.find_resize.Goals as goal

pub returns-in_err-k : goal.returns-in_err-k
returns-in_err-k c =
    let a = c.args in
    refit_invalid a.self a.table.now a.arena.now a.owner a.offset a.size c.requires c.in_err-k.ensures.0 _ (search rules)

pub returns-in_err-old : goal.returns-in_err-old
returns-in_err-old c =
    let a = c.args in
    let f = free_of_valid a.self a.table.now a.owner a.offset a.arena.now c.in_ok-k.ensures.valid _ c.find_block.ensures in
    refit_not a.self a.table.now a.arena.now a.owner a.offset a.size c.requires _ f _ c.in_err-old.was _ (search rules)

pub check_resize-requires : goal.check_resize-requires
check_resize-requires c =
    let a = c.args in
    let f = free_of_valid a.self a.table.now a.owner a.offset a.arena.now c.in_ok-k.ensures.valid _ c.find_block.ensures in
    let r = refit_asked a.self a.table.now a.arena.now a.owner a.offset a.size c.requires _ f _ c.in_ok-old.was in
    record { examined = c.in_ok-k.ensures; owner = r.1; size = c.requires; old = (a.offset, r.2); owned = r.3 }

pub returns : goal.returns
returns c =
    let a = c.args in
    let f = free_of_valid a.self a.table.now a.owner a.offset a.arena.now c.in_ok-k.ensures.valid _ c.find_block.ensures in
    let r = refit_asked a.self a.table.now a.arena.now a.owner a.offset a.size c.requires _ f _ c.in_ok-old.was in
    refit_decided a.self a.table.now a.arena.now a.owner a.offset a.size c.requires _ f _ c.in_ok-old.was _ (c.check_resize.ensures a.offset r.2)
