-- The changes that are left lead to what all of them do.
use Rattle.ec_points.specs.Clashes.{IsKnown}
use Rattle.ec_points.proofs.NotedChanges.{IsNoted}
use Rattle.ec_points.proofs.noted.note_changes.Given as goal

abbrev pub invariant-loop-i : goal.invariant-loop-i
invariant-loop-i g l = record {
  noted : IsNoted g.T.Moment.rank l.change l.i l.initial.noted.items l.noted.items l.initial.noted.spare l.noted.spare;
  known : IsKnown g.T.Moment.rank l.known l.noted.items;
}
