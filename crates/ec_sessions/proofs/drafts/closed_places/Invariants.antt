-- As many closed drafts as there were turns.
use Rattle.std.proofs.Common.{◌≡◌, map, replicate, None}
use Rattle.ec_sessions.specs.Drafts.{plain_draft}
use Rattle.ec_sessions.proofs.drafts.closed_places.Given as goal

abbrev pub invariant-loop : goal.invariant-loop
invariant-loop g l = map (plain_draft g.T.Moment.rank) l.places.items ≡ replicate l.counter None
