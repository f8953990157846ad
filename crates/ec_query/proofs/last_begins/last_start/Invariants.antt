-- The last start among the marks that are left is that of all.
use Rattle.std.proofs.Common.{◌≡◌, ◌≤◌, true, List, None, filter, length, take}
use Rattle.std.specs.List.{last_or}
use Rattle.ec_terms.specs.declared.ground.Ground.{Ground}
use Rattle.ec_axioms.specs.Calculus.{PlainEvent, timeline_of}
use Rattle.ec_axioms.specs.Timeline.{instants_before, is_start}
use Rattle.ec_exclusive.specs.Forms.{breaks_by_initiation}
use Rattle.ec_parts.specs.StandFor.{view_of}
use Rattle.ec_query.specs.Standing.{AreOn}
use Rattle.ec_query.proofs.OnMarks.{starts_of}
use Rattle.ec_query.proofs.last_begins.last_start.Given as goal

abbrev pub invariant-loop-i : goal.invariant-loop-i
invariant-loop-i g l = record {
  within : l.i ≤ length (g.M.MarkRow.marks l.row);
  last : (events : List PlainEvent) (p : Ground) → AreOn g.T.Moment.rank l.parts.checked events (view_of l.parts) l.id.0 p → breaks_by_initiation l.parts.checked p ≡ true
      → last_or None (starts_of g.T.Moment.rank (timeline_of l.parts.checked events p) (take l.i (g.M.MarkRow.marks l.row)))
      ≡ last_or None (filter (is_start (timeline_of l.parts.checked events p)) (instants_before (timeline_of l.parts.checked events p) (g.T.Moment.rank l.fn.at)));
}

abbrev pub decreases-loop-i : goal.decreases-loop-i
decreases-loop-i g l = l.i
