use Rattle.std.proofs.Common.{◌≡◌, take}
use Rattle.std.specs.List.{sum_by}
use Rattle.ec_parts.specs.Mentions.{links_to}
use Rattle.ec_parts.proofs.links.links_with.Given as goal

abbrev pub invariant-loop-q : goal.invariant-loop-q
invariant-loop-q g l = l.links ≡ sum_by (links_to l.fresh l.props l.points) (take l.q-index l.list)
