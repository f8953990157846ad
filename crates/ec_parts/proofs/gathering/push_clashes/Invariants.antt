use Rattle.std.proofs.Common.{◌≡◌, ◌≢◌, ℕ, ◌∷◌, take, get_or}
use Rattle.ec_points.specs.Table.{marks_at, row_at}
use Rattle.ec_parts.proofs.GatheredRows.{AreOpen}
use Rattle.ec_parts.proofs.gathering.push_clashes.Given as goal

abbrev pub invariant-loop-mark : goal.invariant-loop-mark
invariant-loop-mark g l = record {
  so_far : AreOpen g.T.Moment.rank (l.fn.first ∷ take l.mark-index l.rest) (marks_at l.p.0 l.points) l.open;
  last : g.T.Moment.rank (get_or (l.fn.first ∷ l.rest) l.mark-index l.fn.first).at ≡ g.T.Moment.rank l.open.at;
  others : (n : ℕ) → n ≢ l.p.0 → row_at n l.points ≡ row_at n l.initial.points;
  initials : l.points.initials ≡ l.initial.points.initials;
}
