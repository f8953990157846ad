-- The parts of no event.
use Rattle.ec_parts.specs.StandFor.{view_of}
use Rattle.ec_engine.proofs.Standings.{IsEngine-new}
use Rattle.ec_engine.proofs.engine.Engine.new.Goals as goal

pub invariant_of-result : goal.invariant_of-result
invariant_of-result g c =
    IsEngine-new g.T.Moment.rank c.args.checked c.in_ok-parts.parts.value.checked (view_of c.in_ok-parts.parts.value) c.in_ok-parts.tally c.in_ok-parts.ensures.stand c.in_ok-parts.ensures.theory
