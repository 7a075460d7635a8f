-- `heap::Heap::find_place` meets its contract: each part of the order in turn.
-- Assumes nothing.
use Rattle.std.proofs.Common.{rules}
use Rattle.model.specs.Orders.{request_order}
use Rattle.model.proofs.Refusing.{refused_by, passed_by}
use Rattle.heap.proofs.Changing.{bounds}
use Rattle.heap.proofs.Placing.{lent, quotas, decided_not, decided_1, decided_11, decided_proper, decided_quotas, decided_place}
use Rattle.heap.proofs.record.Heap.find_place.Goals as goal

pub returns-in_err-k : goal.returns-in_err-k
returns-in_err-k c =
    let a = c.args in
    let e = c.in_err-k.ensures in
    decided_not a.self a.table.now a.arena.now a.owner a.size a.align _ _ (search rules) (decided_1 a.self a.table.now a.arena.now a.owner a.size a.align e.0)

pub returns-in_err-check_guarded_arena : goal.returns-in_err-check_guarded_arena
returns-in_err-check_guarded_arena c =
    let a = c.args in
    decided_not a.self a.table.now a.arena.now a.owner a.size a.align _ _ (search rules)
    (decided_11 a.self a.table.now a.arena.now a.owner a.size a.align c.in_ok-k.ensures.valid _ (refused_by (lent a.self a.table.now a.arena.now a.owner a.size a.align) _ c.in_err-check_guarded_arena.ensures))

pub returns-in_err-check_request : goal.returns-in_err-check_request
returns-in_err-check_request c =
    let a = c.args in
    decided_not a.self a.table.now a.arena.now a.owner a.size a.align _ _ (search rules)
    (decided_proper a.self a.table.now a.arena.now a.owner a.size a.align c.in_ok-k.ensures.valid (passed_by (lent a.self a.table.now a.arena.now a.owner a.size a.align) c.in_ok-check_guarded_arena.ensures) _ (refused_by (request_order a.owner a.size a.align) _ c.in_err-check_request.ensures))

pub check_quotas-requires-clause-guards : goal.check_quotas-requires-clause-guards
check_quotas-requires-clause-guards c = (bounds _ _ c.in_ok-k.ensures.valid).guards

pub returns-in_err-check_quotas : goal.returns-in_err-check_quotas
returns-in_err-check_quotas c =
    let a = c.args in
    let k = c.in_ok-k.ensures in
    decided_not a.self a.table.now a.arena.now a.owner a.size a.align _ _ (search rules)
    (decided_quotas a.self a.table.now a.arena.now a.owner a.size a.align k.valid (passed_by (lent a.self a.table.now a.arena.now a.owner a.size a.align) c.in_ok-check_guarded_arena.ensures) (passed_by (request_order a.owner a.size a.align) c.in_ok-check_request.ensures)
    _ (refused_by (quotas a.self a.table.now a.arena.now a.owner a.size a.align) _ (c.in_err-check_quotas.ensures a.table.now k)))

pub returns : goal.returns
returns c =
    let a = c.args in
    let k = c.in_ok-k.ensures in
    decided_place a.self a.table.now a.arena.now a.owner a.size a.align k.valid (passed_by (lent a.self a.table.now a.arena.now a.owner a.size a.align) c.in_ok-check_guarded_arena.ensures) (passed_by (request_order a.owner a.size a.align) c.in_ok-check_request.ensures)
    (passed_by (quotas a.self a.table.now a.arena.now a.owner a.size a.align) (c.in_ok-check_quotas.ensures a.table.now k)) c.seek.result c.seek.ensures
