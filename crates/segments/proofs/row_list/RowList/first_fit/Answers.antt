-- `segments::row_list::RowList::first_fit` meets its contract. The loop's invariant: no row before row `i` is a hit.
-- The measure is the rows left. Assumes nothing.
use Rattle.std.proofs.Common.{ℕ, ◌+◌, ◌%◌, ◌^◌, ap, ◌∙◌, arith, eq-eqb, le-leb}
use Rattle.segments.proofs.Padding.{padding_past}
use Rattle.segments.proofs.Scanned.{found_none, found_at}
use Rattle.segments.proofs.row_list.RowList.first_fit.Goals as goal

pub returns-then-len-i : goal.returns-then-len-i
returns-then-len-i c config at_base small ok =
    found_none config at_base c.requires.base ok c.requires.some c.requires.align c.loop-i.invariant.1 (omega arith)

pub returns-then-skipped-need : goal.returns-then-skipped-need
returns-then-skipped-need c config at_base small ok =
    let l = c.loop-i in
    let r = c.get-s in
    let p = c.padding_of-skipped in
    let e = p.ensures.answer ∙ padding_past _ _ _ in
    found_at config at_base c.requires.base ok c.requires.some c.requires.align l.invariant.1 small (omega arith) r.result r.ensures
    (rw (eq-eqb r.result.owner 0 c.if-s-eq0.true) (omega (arith, le-leb, e)))
    _ (ap (λ (k : ℕ). (r.result.start + k) % 2 ^ 32) e)
