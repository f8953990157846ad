-- The first update decides.
use Rattle.std.proofs.Common.{Err, List, Some, sym, ap, ◌∙◌, subst}
use Rattle.std.specs.Prelude.{◌∷◌}
use Rattle.ec_axioms.specs.declared.event.Update.TheVariants.{Assert, Retract}
use Rattle.ec_axioms.specs.Changes.{retracting}
use Rattle.ec_axioms.specs.Events.{event_of}
use Rattle.ec_engine.specs.Revise.{IsRevised}
use Rattle.ec_past.proofs.Kept.{IsCommitted-first}
use Rattle.ec_past.proofs.refusing.refused_batch.Goals as goal

pub returns-in-Some-Assert : goal.returns-in-Some-Assert
returns-in-Some-Assert g c =
    let engine = c.args.engine.now in
    IsCommitted-first g.T.Moment.rank engine.theory engine.events c.args.batch.now (Assert c.in-Some-Assert.event) c.refused_arrival.result (ap Some (sym c.in-Some-Assert.field-0-is) ∙ c.in-Some-Assert.ensures.value)
    (λ rest. c.refused_arrival.ensures (event_of g.T.Moment.rank c.in-Some-Assert.event) rest (sym c.copied.ensures.same))

pub returns-in-Some-Retract : goal.returns-in-Some-Retract
returns-in-Some-Retract g c =
    let engine = c.args.engine.now in
    IsCommitted-first g.T.Moment.rank engine.theory engine.events c.args.batch.now (Retract c.in-Some-Retract.id) c.refused_departure.result (ap Some (sym c.in-Some-Retract.field-0-is) ∙ c.in-Some-Retract.ensures.value)
    (λ rest. subst (λ (i : List _). IsRevised engine.theory engine.events (retracting i ∷ rest) (Err c.refused_departure.result) engine.events) c.copied-in-Some-Retract.ensures.same (c.refused_departure.ensures rest))
