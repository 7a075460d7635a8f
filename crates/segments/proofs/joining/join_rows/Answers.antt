-- `segments::joining::join_rows` meets its contract: three returns leave the rows as they are, the last has the first row set and the second removed.
-- Assumes nothing.
use Rattle.std.proofs.Common.{◌+◌, sym, ap, ◌∙◌, arith, eq-eqb, ne_eqb}
use Rattle.model.specs.SegmentMap.{free_run}
use Rattle.segments.proofs.Reading.{row_read}
use Rattle.segments.proofs.Rewriting.{joined_end, joined_live, joined_apart, joined_free, two_granules}
use Rattle.model.specs.declared.Segment.{Segment}
use Rattle.segments.proofs.joining.join_rows.Goals as goal

pub returns-then-rows-i-lt2 : goal.returns-then-rows-i-lt2
returns-then-rows-i-lt2 c =
    joined_end c.args.rows c.args.table.now c.requires.words c.args.i c.requires.in_use (omega arith)

pub returns-then-s-ne0 : goal.returns-then-s-ne0
returns-then-s-ne0 c =
    joined_live c.args.rows c.args.table.now c.requires.words c.args.i c.requires.in_use (ne_eqb _ 0 (λ z. c.if-s-ne0.true (ap (λ (x : Segment). x.owner) (row_read c.args.rows c.args.table.now c.requires.in_use c.row-s.ensures) ∙ z)))

pub returns-then-next-ne0 : goal.returns-then-next-ne0
returns-then-next-ne0 c =
    let a = c.args in
    let e = row_read c.args.rows c.args.table.now (omega (arith, c.if-rows-i-lt2.false)) c.row-next.ensures in
    joined_apart a.rows a.table.now c.requires.words a.i (omega (arith, c.if-rows-i-lt2.false)) (ne_eqb _ 0 (λ z. c.if-next-ne0.true (ap (λ (x : Segment). x.owner) e ∙ z)))

pub overflow_add-s : goal.overflow_add-s
overflow_add-s c =
    let a = c.args in
    let two = two_granules a.rows a.table.now c.requires.words a.i (omega (arith, c.if-rows-i-lt2.false)) in
    let s = ap (λ (x : Segment). x.length) (row_read c.args.rows c.args.table.now c.requires.in_use c.row-s.ensures) in
    let t = ap (λ (x : Segment). x.length) (row_read c.args.rows c.args.table.now (omega (arith, c.if-rows-i-lt2.false)) c.row-next.ensures) in
    omega (arith, c.requires.granules)

pub returns : goal.returns
returns c =
    let a = c.args in
    let s = row_read c.args.rows c.args.table.now c.requires.in_use c.row-s.ensures in
    let t = row_read c.args.rows c.args.table.now (omega (arith, c.if-rows-i-lt2.false)) c.row-next.ensures in
    let free = c.if-s-ne0.false in
    let next = c.if-next-ne0.false in
    let run = c.free_run.ensures in
    joined_free a.rows a.table.now c.requires.words a.i (omega (arith, c.if-rows-i-lt2.false)) _ _ _
    (eq-eqb _ 0 (sym (ap (λ (x : Segment). x.owner) s) ∙ free))
    (eq-eqb _ 0 (sym (ap (λ (x : Segment). x.owner) t) ∙ next))
    (run ∙ (λ j. free_run (s j).start ((s j).length + (t j).length)))
    c.put_row.ensures c.remove_row.ensures
