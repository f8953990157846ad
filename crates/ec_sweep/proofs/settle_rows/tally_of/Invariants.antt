-- What turned is tallied, and the properties up to the index are in the tally.
use Rattle.std.proofs.Common.{◌≡◌, ◌||◌, take}
use Rattle.std.specs.Prelude.{is_some}
use Rattle.std.specs.List.{list_any}
use Rattle.ec_terms.specs.declared.ids.PropId.{PropId}
use Rattle.ec_numbered.specs.PropSet.{has_number}
use Rattle.ec_revise.specs.TurnCounts.{IsTallyAt, counts_at, row_at, tallied_at}
use Rattle.ec_sweep.proofs.settle_rows.tally_of.Given as goal

abbrev pub invariant-loop-p : goal.invariant-loop-p
invariant-loop-p l = record {
  tallied : (p : PropId) → IsTallyAt l.neighbours.rows l.turns p (tallied_at p l.tally);
  rows : (p : PropId) → is_some (row_at p.0 l.tally) ≡ (has_number p.0 (take l.p-index l.due) || list_any (counts_at l.neighbours.rows p) l.turns);
}
