use Rattle.std.proofs.Common.{◌≡◌, take}
use Rattle.std.specs.Prelude.{flat_map}
use Rattle.ec_terms.specs.declared.ids.PropId.{PropId}
use Rattle.ec_points.specs.Table.{marks_at}
use Rattle.ec_parts.proofs.gathering.collect.Given as goal

abbrev pub invariant-loop-q : goal.invariant-loop-q
invariant-loop-q g l = l.collected.items ≡ flat_map (λ (q : PropId). marks_at q.0 l.points) (take l.q-index l.list)
