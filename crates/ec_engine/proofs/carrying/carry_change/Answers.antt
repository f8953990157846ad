-- The change is made, and what nothing mentions is forgotten; or the tables go back.
use Rattle.std.proofs.Common.{length, sym, ap, subst}
use Rattle.ec_store.specs.Store.{history_of}
use Rattle.ec_numbered.specs.PropSet.{has_number}
use Rattle.ec_parts.specs.StandFor.{StandFor, StandForBoth, view_of}
use Rattle.ec_revise.specs.declared.change.Change.{Change}
use Rattle.ec_batch.specs.Limits.{IsWithinLimits}
use Rattle.ec_batch.specs.Walk.{AreLiveOrListed}
use Rattle.ec_batch.proofs.Moved.{AreLiveOrListed-moved}
use Rattle.ec_engine.proofs.Carried.{IsChange-moved}
use Rattle.ec_engine.proofs.StepSums.{sums-undone}
use Rattle.ec_engine.proofs.carrying.carry_change.Goals as goal

pub make_change-requires : goal.make_change-requires
make_change-requires g c = record { leads = record { new = c.requires.leads.soon; tally = c.args.tally.now; underway = c.requires.leads.to.underway }; ascend = c.requires.ascend }

pub forget_listed-requires : goal.forget_listed-requires
forget_listed-requires g c =
    let rank = g.T.Moment.rank in
    let soon = c.requires.leads.soon in
    let made = c.in-Ok.ensures.made soon c.args.tally.now c.requires.leads.to.underway in
    record {
      stand = record {
        events = soon;
        tally = c.args.tally.now;
        both = subst (λ t. StandForBoth rank t soon soon (view_of c.make_change.new.parts) c.args.tally.now) (sym c.make_change.ensures.theory) made.0;
      };
    }

pub returns-in-Ok-clause-carried : goal.returns-in-Ok-clause-carried
returns-in-Ok-clause-carried g c soon leads =
    let rank = g.T.Moment.rank in
    let tally = c.args.tally.now in
    let made = c.in-Ok.ensures.made soon tally leads.underway in
    let listed = AreLiveOrListed-moved c.args.parts.now.checked c.make_change.new.parts.checked soon c.args.parts.now.props c.make_change.new.parts.props _ c.make_change.ensures.theory
    c.make_change.ensures.table leads.idle_listed in (
      subst (λ t. StandFor rank t soon (view_of c.forget_listed.new.parts) tally) c.make_change.ensures.theory
          (c.forget_listed.ensures.stands soon tally (subst (λ t. StandForBoth rank t soon soon (view_of c.make_change.new.parts) tally) (sym c.make_change.ensures.theory) made.0) listed),
      made.1,
    )

pub returns-in-Ok-clause-steps : goal.returns-in-Ok-clause-steps
returns-in-Ok-clause-steps g c soon leads = c.in-Ok.ensures.steps soon c.args.tally.now leads.underway

pub undo_change-requires-clause-led : goal.undo_change-requires-clause-led
undo_change-requires-clause-led g c =
    let rank = g.T.Moment.rank in
    let to = c.requires.leads.to in
    let soon = c.requires.leads.soon in
    let tally = c.args.tally.now in
    let later = c.make_change.new.parts in
    let hist = history_of rank c.args.parts.now.store.events in
    record {
      soon = soon;
      to = record {
        both = subst (λ es. StandForBoth rank later.checked (history_of rank es) soon (view_of later) tally) (sym c.in-Err.ensures.events)
            (subst (λ t. StandForBoth rank t hist soon (view_of later) tally) (sym c.make_change.ensures.theory) (c.in-Err.ensures.stands hist soon tally to.underway.both));
        change_is = IsChange-moved rank c.args.parts.now.checked later.checked c.args.parts.now.props later.props c.args.parts.now.store.events later.store.events soon c.args.change c.in-Err.change
            c.make_change.ensures.theory c.make_change.ensures.table c.in-Err.ensures.events c.in-Err.ensures.back to.underway.change_is;
      };
    }

pub undo_change-requires-clause-within : goal.undo_change-requires-clause-within
undo_change-requires-clause-within g c =
    subst (λ t. IsWithinLimits t (history_of g.T.Moment.rank c.make_change.new.parts.store.events)) (sym c.make_change.ensures.theory)
    (subst (λ es. IsWithinLimits c.args.parts.now.checked (history_of g.T.Moment.rank es)) (sym c.in-Err.ensures.events) c.requires.within)

pub undo_change-requires-clause-fresh : goal.undo_change-requires-clause-fresh
undo_change-requires-clause-fresh g c =
    let rank = g.T.Moment.rank in
    let later = c.make_change.new.parts in
    subst (λ es. AreLiveOrListed later.checked (history_of rank es) later.props (λ id. has_number id c.args.listed.now.fresh.now)) (sym c.in-Err.ensures.events)
    (AreLiveOrListed-moved c.args.parts.now.checked later.checked (history_of rank c.args.parts.now.store.events) c.args.parts.now.props later.props _ c.make_change.ensures.theory c.make_change.ensures.table
    c.requires.leads.to.fresh_listed)

pub returns-in-Err-clause-carried : goal.returns-in-Err-clause-carried
returns-in-Err-clause-carried g c soon leads =
    let rank = g.T.Moment.rank in
    let later = c.make_change.new.parts in
    subst (λ es. StandFor rank c.args.parts.now.checked (history_of rank es) (view_of c.undo_change.new.parts) c.undo_change.new.tally) c.in-Err.ensures.events
    (subst (λ t. StandFor rank t (history_of rank later.store.events) (view_of c.undo_change.new.parts) c.undo_change.new.tally) c.make_change.ensures.theory c.undo_change.ensures.stand)

pub returns-in-Err-clause-steps : goal.returns-in-Err-clause-steps
returns-in-Err-clause-steps g c soon leads =
    sums-undone _ _ _ _ (c.in-Err.ensures.planned soon c.args.tally.now leads.underway) (ap (λ (change : Change _). length change.remove) c.in-Err.ensures.back) c.undo_change.ensures.steps

pub returns-in-Ok-clause-tails : goal.returns-in-Ok-clause-tails
returns-in-Ok-clause-tails g c soon leads = c.in-Ok.ensures.tails soon c.args.tally.now leads.underway

pub returns-in-Err-clause-tails : goal.returns-in-Err-clause-tails
returns-in-Err-clause-tails g c soon leads = c.in-Err.ensures.no_tails
