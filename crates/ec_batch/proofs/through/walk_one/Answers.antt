-- What the update does, the batch of it does.
use Rattle.std.proofs.Common.{subst}
use Rattle.std.specs.Prelude.{Err}
use Rattle.ec_axioms.specs.Events.{plain_update}
use Rattle.ec_parts.specs.StandFor.{view_of}
use Rattle.ec_batch.specs.declared.walk.Stop.{Stop}
use Rattle.ec_batch.specs.Walk.{GoesOn}
use Rattle.ec_batch.proofs.Attempts.{memory_alone, refused_alone, through_alone}
use Rattle.ec_batch.proofs.through.walk_one.Goals as goal

pub returns-in-Ok-clause-goes : goal.returns-in-Ok-clause-goes
returns-in-Ok-clause-goes g c soon start =
    through_alone (Unit {0}) g.T.Moment.rank c.args.parts.now.checked c.args.parts.now.store.events soon (plain_update g.T.Moment.rank c.args.one.now) (view_of c.update.new.parts) c.update.new.tally c.update.new.walk tt (c.in-Ok.ensures.goes soon start)

pub returns-in-Err-Refused-clause-goes : goal.returns-in-Err-Refused-clause-goes
returns-in-Err-Refused-clause-goes g c soon start =
    let rank = g.T.Moment.rank in
    let theory = c.args.parts.now.checked in
    let events = c.args.parts.now.store.events in
    let update = plain_update rank c.args.one.now in
    let last = view_of c.update.new.parts in
    refused_alone (Unit {0}) rank theory events soon update last c.update.new.tally c.update.new.walk c.in-Err-Refused.cut
    (subst (λ (stop : Stop). GoesOn {A = Unit {0}} rank theory events soon update last c.update.new.tally c.update.new.walk (Err stop)) c.in-Err-Refused.field-0-is (c.in-Err-Refused.ensures.goes soon start))

pub returns-in-Err-Memory-clause-goes : goal.returns-in-Err-Memory-clause-goes
returns-in-Err-Memory-clause-goes g c soon start =
    let rank = g.T.Moment.rank in
    let theory = c.args.parts.now.checked in
    let events = c.args.parts.now.store.events in
    let update = plain_update rank c.args.one.now in
    let last = view_of c.update.new.parts in
    memory_alone (Unit {0}) rank theory events soon update last c.update.new.tally c.update.new.walk c.in-Err-Memory.none
    (subst (λ (stop : Stop). GoesOn {A = Unit {0}} rank theory events soon update last c.update.new.tally c.update.new.walk (Err stop)) c.in-Err-Memory.field-0-is (c.in-Err-Memory.ensures.goes soon start))
