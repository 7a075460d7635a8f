-- The loop's invariant: the figures counted, with the rows that are left, are those of all rows.
use Rattle.std.proofs.Common.{◌≡◌, drop}
use Rattle.model.specs.Quantities.{Config}
use Rattle.segments.specs.Counting.{Bounded}
use Rattle.segments.proofs.AllCounted.{Ahead}
use Rattle.segments.proofs.row_list.RowList.take_census.Given as goal

abbrev pub invariant-loop-i : goal.invariant-loop-i
invariant-loop-i l = record {
  ahead : (c : Config) → c.granules ≡ l.granules → c.guards ≡ l.guards → Ahead c l.k (drop l.i l.self) l.self;
  bounded : Bounded l.granules l.k;
}
