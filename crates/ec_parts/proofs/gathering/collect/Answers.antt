-- All rows were collected, where those of all properties so far were.
use Rattle.std.proofs.Common.{ap, ◌∙◌, arith}
use Rattle.std.proofs.lemmas.Grind.{common_steps}
use Rattle.std.specs.Prelude.{flat_map}
use Rattle.std.proofs.lemmas.List.{take_all}
use Rattle.ec_terms.specs.declared.ids.PropId.{PropId}
use Rattle.ec_points.specs.Table.{marks_at}
use Rattle.ec_parts.proofs.gathering.collect.Goals as goal

pub returns : goal.returns
returns g c = c.loop-q.invariant ∙ ap (flat_map (λ (q : PropId). marks_at q.0 c.args.points.now)) (take_all c.loop-q.q-index c.args.list.now c.loop-q-test.false)

pub loop-q-preserved : goal.loop-q-preserved
loop-q-preserved c = grind (arith, common_steps)
