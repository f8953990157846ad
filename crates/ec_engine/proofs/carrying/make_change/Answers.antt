-- The plan is made.
use Rattle.std.proofs.Common.{length, ap, subst, ◌∙◌}
use Rattle.ec_axioms.specs.Changes.{change_counts}
use Rattle.ec_store.specs.Store.{history_of}
use Rattle.ec_parts.specs.StandFor.{StandForBoth, view_of}
use Rattle.ec_revise.specs.declared.change.Change.{Change}
use Rattle.ec_engine.proofs.Carried.{planned-ready, planned-stands}
use Rattle.ec_engine.proofs.WatchedTails.{tails-made}
use Rattle.ec_engine.proofs.StepSums.{sums-made, sums-planned}
use Rattle.ec_engine.proofs.WorkDone.{change-steps}
use Rattle.ec_engine.proofs.carrying.make_change.Goals as goal

pub apply-requires : goal.apply-requires
apply-requires g c =
    let rank = g.T.Moment.rank in
    let events = c.args.parts.now.store.events in
    let led = c.requires.leads in
    record {
      aimed = record {
        new = led.new;
        tally = led.tally;
        stands = planned-stands rank c.plan.new.parts.checked events c.plan.new.parts.store.events (view_of c.plan.new.parts) led.new led.tally c.plan.ensures.events
            (c.plan.ensures.stands (history_of rank events) led.new led.tally led.underway.both);
        ready = planned-ready rank c.args.parts.now.checked c.plan.new.parts.checked (view_of c.plan.new.parts) led.new c.in-Ok.delta c.plan.ensures.checked (c.in-Ok.ensures.ready led.new led.tally led.underway);
      };
    }

pub returns-in-Ok-kept-clause-made : goal.returns-in-Ok-kept-clause-made
returns-in-Ok-kept-clause-made g c new tally underway =
    let rank = g.T.Moment.rank in
    let events = c.args.parts.now.store.events in
    let stand = planned-stands rank c.plan.new.parts.checked events c.plan.new.parts.store.events (view_of c.plan.new.parts) new tally c.plan.ensures.events
    (c.plan.ensures.stands (history_of rank events) new tally underway.both) in
    let ready = planned-ready rank c.args.parts.now.checked c.plan.new.parts.checked (view_of c.plan.new.parts) new c.in-Ok.delta c.plan.ensures.checked (c.in-Ok.ensures.ready new tally underway) in (
      subst (λ t. StandForBoth rank t new new (view_of c.apply.new.parts) tally) c.plan.ensures.checked (c.apply.ensures.stands new tally stand ready),
      c.apply.ensures.counts new tally stand ready
          ∙ ap (λ t. change_counts t (history_of rank c.plan.new.parts.store.events) new) c.plan.ensures.checked
          ∙ ap (λ es. change_counts c.args.parts.now.checked (history_of rank es) new) c.plan.ensures.events,
    )

-- each property whose marks change is kept
pub keep-kept-requires-clause-kept : goal.keep-kept-requires-clause-kept
keep-kept-requires-clause-kept g c id change found =
    (c.in-Ok.ensures.ready c.requires.leads.new c.requires.leads.tally c.requires.leads.underway).windows.kept id change found

pub returns-in-Ok-kept-clause-tails : goal.returns-in-Ok-kept-clause-tails
returns-in-Ok-kept-clause-tails g c new tally underway =
    let rank = g.T.Moment.rank in
    let events = c.args.parts.now.store.events in
    let theory = c.args.parts.now.checked in
    let planned = c.plan.new.parts in
    let stand = planned-stands rank planned.checked events planned.store.events (view_of planned) new tally c.plan.ensures.events
    (c.plan.ensures.stands (history_of rank events) new tally underway.both) in
    let ready = c.in-Ok.ensures.ready new tally underway in
    let after = c.apply.ensures.stands new tally stand (planned-ready rank theory planned.checked (view_of planned) new c.in-Ok.delta c.plan.ensures.checked ready) in
    tails-made rank g.met.T.Moment.same_moment c.what_ends_before_a_change_stays_law.ensures theory planned.checked events new (view_of planned) (view_of c.apply.new.parts) tally c.in-Ok.delta
    c.plan.ensures.checked c.plan.ensures.events c.apply.ensures.props stand ready after c.args.watched.now c.keep-kept.new.self c.in-Ok-kept.ensures.kept
    (record { in_order = c.len.ensures.order; numbers = c.len.ensures.numbers })

pub returns-in-Ok-kept-clause-steps : goal.returns-in-Ok-kept-clause-steps
returns-in-Ok-kept-clause-steps g c new tally underway =
    sums-made _ _ _ _ _ (c.plan.ensures.steps new tally underway) c.apply.ensures.steps (ap (λ (change : Change _). length change.remove) c.in-Ok.ensures.change)
    (change-steps g.T.Moment.rank c.args.parts.now.checked c.args.parts.now.props c.args.parts.now.store.events new c.args.change underway.change_is)

pub returns-in-Err-clause-planned : goal.returns-in-Err-clause-planned
returns-in-Err-clause-planned g c new tally underway =
    sums-planned _ _ _ _ _ (c.plan.ensures.steps new tally underway)
    (change-steps g.T.Moment.rank c.args.parts.now.checked c.args.parts.now.props c.args.parts.now.store.events new c.args.change underway.change_is)

pub returns-in-Err-clause-stands : goal.returns-in-Err-clause-stands
returns-in-Err-clause-stands g c now soon tally stand =
    subst (λ t. StandForBoth g.T.Moment.rank t now soon (view_of c.plan.new.parts) tally) c.plan.ensures.checked (c.plan.ensures.stands now soon tally stand)

pub returns-in-Err-kept-clause-planned : goal.returns-in-Err-kept-clause-planned
returns-in-Err-kept-clause-planned g c new tally underway =
    sums-planned _ _ _ _ _ (c.plan.ensures.steps new tally underway)
    (change-steps g.T.Moment.rank c.args.parts.now.checked c.args.parts.now.props c.args.parts.now.store.events new c.args.change underway.change_is)

pub returns-in-Err-kept-clause-stands : goal.returns-in-Err-kept-clause-stands
returns-in-Err-kept-clause-stands g c now soon tally stand =
    subst (λ t. StandForBoth g.T.Moment.rank t now soon (view_of c.plan.new.parts) tally) c.plan.ensures.checked (c.plan.ensures.stands now soon tally stand)
