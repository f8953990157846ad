-- An identity that is neither touched nor stored is absent.
use Rattle.std.proofs.Common.{sym, ◌∙◌}
use Rattle.ec_lists.proofs.Options.{None-from_is_some}
use Rattle.ec_batch.specs.Net.{net_in}
use Rattle.ec_batch.proofs.WalkSteps.{absent, refused_absent}
use Rattle.ec_batch.proofs.walk.retract_event.Goals as goal

pub returns-in-None-clause-goes : goal.returns-in-None-clause-goes
returns-in-None-clause-goes g c soon walked =
    (refused_absent soon c.copied.result c.args.id.now c.copied.ensures.same (absent walked c.args.id.now (sym c.contains_key.ensures ∙ c.if-contains_key.false) (sym c.in-None.ensures.slot)), walked)

pub retract_stored-requires-clause-untouched : goal.retract_stored-requires-clause-untouched
retract_stored-requires-clause-untouched g c = None-from_is_some (net_in c.args.id.now c.args.walk.now.nets) (sym c.contains_key.ensures ∙ c.if-contains_key.false)
