-- The event comes into the tables, or a limit refuses it, or memory runs out; then its new properties are forgotten.
use Rattle.std.proofs.Common.{◌≡◌, ◌≤◌, Some, length, refl, sym, ap, subst, ◌∙◌}
use Rattle.std.specs.Prelude.{Ok, Err}
use Rattle.ec_terms.specs.Domain.{entries_of}
use Rattle.ec_axioms.specs.Changes.{with_event}
use Rattle.ec_axioms.specs.Events.{event_of}
use Rattle.ec_axioms.specs.Links.{mentions_of, most_mentions}
use Rattle.ec_store.specs.Store.{history_of}
use Rattle.ec_numbered.specs.PropSet.{has_number}
use Rattle.ec_parts.specs.declared.parts.Parts.{Parts}
use Rattle.ec_parts.specs.StandFor.{StandFor, StandForBoth, view_of}
use Rattle.ec_batch.specs.Limited.{ComesIn}
use Rattle.ec_batch.specs.Walk.{AreLiveOrListed}
use Rattle.ec_replies.specs.Updates.{with_few_mentions}
use Rattle.ec_batch.proofs.ComingIn.{listed_entered, listed_terms, may_want_alone, refused_alone}
use Rattle.ec_batch.proofs.Counts.{few-mentions}
use Rattle.ec_batch.proofs.Moved.{AreLiveOrListed-moved}
use Rattle.ec_batch.proofs.LetIn.{shown_after}
use Rattle.ec_batch.proofs.WalkSteps.{asked_limits, may_want-asserted}
use Rattle.ec_batch.proofs.coming_in.let_in.Goals as goal

pub forget_idle-requires : goal.forget_idle-requires
forget_idle-requires g c =
    let hist = history_of g.T.Moment.rank c.args.parts.now.store.events in
    let mentions = c.requires.within.few_mentions in
    let few = few-mentions mentions in
    record {
      events = hist;
      tally = c.args.tally.now;
      both = subst (λ t. StandForBoth g.T.Moment.rank t hist hist (view_of c.enter.new.parts) c.args.tally.now) (sym c.enter.ensures.theory)
          (c.enter.ensures.both hist hist c.args.tally.now few c.requires.stand.both);
    }

pub returns-in-Err-clause-let_in : goal.returns-in-Err-clause-let_in
returns-in-Err-clause-let_in g c =
    let rank = g.T.Moment.rank in
    let theory = c.args.parts.now.checked in
    let hist = history_of rank c.args.parts.now.store.events in
    let mid = c.enter.new.parts in
    let mentions = c.requires.within.few_mentions in
    let few = few-mentions mentions in
    let both = c.enter.ensures.both hist hist c.args.tally.now few c.requires.stand.both in
    let listed = listed_entered theory hist c.args.parts.now.props mid.props (λ id. has_number id c.enter.new.fresh.items) c.requires.stand.only_live c.enter.ensures.before c.enter.ensures.fresh in
    let listed_there : AreLiveOrListed mid.checked hist mid.props (λ id. has_number id c.as_slice.result.now) =
    subst (λ ids. AreLiveOrListed mid.checked hist mid.props (λ id. has_number id ids)) (sym c.as_slice.ensures.value)
    (AreLiveOrListed-moved theory mid.checked hist mid.props mid.props _ c.enter.ensures.theory refl listed) in (
      may_want_alone theory hist (event_of rank c.args.event.now) (may_want-asserted theory hist (event_of rank c.args.event.now) c.requires.absent c.requires.room),
      subst (λ t. StandFor rank t hist (view_of c.forget_idle.new.parts) c.args.tally.now) c.enter.ensures.theory
          (c.forget_idle.ensures.stands hist c.args.tally.now (subst (λ t. StandForBoth rank t hist hist (view_of mid) c.args.tally.now) (sym c.enter.ensures.theory) both) listed_there),
    )

pub take_in-requires : goal.take_in-requires
take_in-requires g c =
    let rank = g.T.Moment.rank in
    let theory = c.args.parts.now.checked in
    let hist = history_of rank c.args.parts.now.store.events in
    let mentions = c.requires.within.few_mentions in
    let few = few-mentions mentions in
    record {
      coming = record {
        now = hist;
        soon = hist;
        event = event_of rank c.args.event.now;
        comes = record {
          both = subst (λ t. StandForBoth rank t hist hist (view_of c.enter.new.parts) c.args.tally.now) (sym c.enter.ensures.theory)
              (c.enter.ensures.both hist hist c.args.tally.now few c.requires.stand.both);
          history = c.requires.stand.both.caches.history;
          few = subst (λ t. length (mentions_of t hist) ≤ most_mentions) (sym c.enter.ensures.theory) mentions;
          absent = c.requires.absent;
          shown = c.in-Ok.ensures.entries ∙ ap (λ t. Some (entries_of t c.args.event.now.term)) (sym c.enter.ensures.theory);
        };
      };
    }

pub forget_idle-requires-in-Err-take_in : goal.forget_idle-requires-in-Err-take_in
forget_idle-requires-in-Err-take_in g c =
    let rank = g.T.Moment.rank in
    let theory = c.args.parts.now.checked in
    let hist = history_of rank c.args.parts.now.store.events in
    let e = event_of rank c.args.event.now in
    let mid = c.enter.new.parts in
    let last = c.take_in.new.parts in
    let tally = c.take_in.new.tally in
    let mentions = c.requires.within.few_mentions in
    let few = few-mentions mentions in
    let comes : ComesIn rank mid.checked c.in-Ok.list (view_of mid) c.args.tally.now hist hist e = record {
      both = subst (λ t. StandForBoth rank t hist hist (view_of mid) c.args.tally.now) (sym c.enter.ensures.theory) (c.enter.ensures.both hist hist c.args.tally.now few c.requires.stand.both);
      history = c.requires.stand.both.caches.history;
      few = subst (λ t. length (mentions_of t hist) ≤ most_mentions) (sym c.enter.ensures.theory) mentions;
      absent = c.requires.absent;
      shown = c.in-Ok.ensures.entries ∙ ap (λ t. Some (entries_of t c.args.event.now.term)) (sym c.enter.ensures.theory);
    } in
    let listed = listed_terms theory hist mid.props last.props (λ id. has_number id c.enter.new.fresh.items) c.take_in.ensures.terms
    (listed_entered theory hist c.args.parts.now.props mid.props (λ id. has_number id c.enter.new.fresh.items) c.requires.stand.only_live c.enter.ensures.before c.enter.ensures.fresh) in
    let theories : last.checked ≡ mid.checked = ap (λ (p : Parts _ _ _ _). p.checked) c.take_in.ensures.rest in
    record {
      events = hist;
      tally = tally;
      both = subst (λ t. StandForBoth rank t hist hist (view_of last) tally) (sym theories) (c.in-Err-take_in.ensures.limits hist hist e comes).1;
    }

pub returns-in-Err-take_in-clause-let_in : goal.returns-in-Err-take_in-clause-let_in
returns-in-Err-take_in-clause-let_in g c =
    let rank = g.T.Moment.rank in
    let theory = c.args.parts.now.checked in
    let hist = history_of rank c.args.parts.now.store.events in
    let e = event_of rank c.args.event.now in
    let mid = c.enter.new.parts in
    let last = c.take_in.new.parts in
    let tally = c.take_in.new.tally in
    let mentions = c.requires.within.few_mentions in
    let few = few-mentions mentions in
    let comes : ComesIn rank mid.checked c.in-Ok.list (view_of mid) c.args.tally.now hist hist e = record {
      both = subst (λ t. StandForBoth rank t hist hist (view_of mid) c.args.tally.now) (sym c.enter.ensures.theory) (c.enter.ensures.both hist hist c.args.tally.now few c.requires.stand.both);
      history = c.requires.stand.both.caches.history;
      few = subst (λ t. length (mentions_of t hist) ≤ most_mentions) (sym c.enter.ensures.theory) mentions;
      absent = c.requires.absent;
      shown = c.in-Ok.ensures.entries ∙ ap (λ t. Some (entries_of t c.args.event.now.term)) (sym c.enter.ensures.theory);
    } in
    let listed = listed_terms theory hist mid.props last.props (λ id. has_number id c.enter.new.fresh.items) c.take_in.ensures.terms
    (listed_entered theory hist c.args.parts.now.props mid.props (λ id. has_number id c.enter.new.fresh.items) c.requires.stand.only_live c.enter.ensures.before c.enter.ensures.fresh) in
    let theories : last.checked ≡ mid.checked = ap (λ (p : Parts _ _ _ _). p.checked) c.take_in.ensures.rest in
    let refused = c.in-Err-take_in.ensures.limits hist hist e comes in
    let listed_there : AreLiveOrListed last.checked hist last.props (λ id. has_number id c.as_slice-in-Err-take_in.result.now) =
    subst (λ ids. AreLiveOrListed last.checked hist last.props (λ id. has_number id ids)) (sym c.as_slice-in-Err-take_in.ensures.value)
    (AreLiveOrListed-moved theory last.checked hist last.props last.props _ (theories ∙ c.enter.ensures.theory) refl listed) in (
      refused_alone theory hist c.in-Err-take_in.cut e
          (asked_limits theory hist e c.requires.absent c.requires.room ∙ subst (λ t. with_few_mentions t (with_event e hist) ≡ Err c.in-Err-take_in.cut) c.enter.ensures.theory refused.0),
      subst (λ t. StandFor rank t hist (view_of c.forget_idle-in-Err-take_in.new.parts) tally) (theories ∙ c.enter.ensures.theory)
          (c.forget_idle-in-Err-take_in.ensures.stands hist tally (subst (λ t. StandForBoth rank t hist hist (view_of last) tally) (sym theories) refused.1) listed_there),
    )

pub returns-clause-let_in : goal.returns-clause-let_in
returns-clause-let_in g c =
    let rank = g.T.Moment.rank in
    let theory = c.args.parts.now.checked in
    let hist = history_of rank c.args.parts.now.store.events in
    let e = event_of rank c.args.event.now in
    let mid = c.enter.new.parts in
    let last = c.take_in.new.parts in
    let tally = c.take_in.new.tally in
    let mentions = c.requires.within.few_mentions in
    let few = few-mentions mentions in
    let comes : ComesIn rank mid.checked c.in-Ok.list (view_of mid) c.args.tally.now hist hist e = record {
      both = subst (λ t. StandForBoth rank t hist hist (view_of mid) c.args.tally.now) (sym c.enter.ensures.theory) (c.enter.ensures.both hist hist c.args.tally.now few c.requires.stand.both);
      history = c.requires.stand.both.caches.history;
      few = subst (λ t. length (mentions_of t hist) ≤ most_mentions) (sym c.enter.ensures.theory) mentions;
      absent = c.requires.absent;
      shown = c.in-Ok.ensures.entries ∙ ap (λ t. Some (entries_of t c.args.event.now.term)) (sym c.enter.ensures.theory);
    } in
    let listed = listed_terms theory hist mid.props last.props (λ id. has_number id c.enter.new.fresh.items) c.take_in.ensures.terms
    (listed_entered theory hist c.args.parts.now.props mid.props (λ id. has_number id c.enter.new.fresh.items) c.requires.stand.only_live c.enter.ensures.before c.enter.ensures.fresh) in
    let taken = c.in_default.ensures.limits hist hist e comes in
    record {
      both = subst (λ t. StandForBoth rank t hist (with_event e hist) (view_of last) tally) c.enter.ensures.theory taken.1;
      few = subst (λ t. with_few_mentions t (with_event e hist) ≡ Ok (with_event e hist)) c.enter.ensures.theory taken.0;
      shown = shown_after comes last.props c.take_in.ensures.terms ∙ ap (λ t. Some (entries_of t c.args.event.now.term)) c.enter.ensures.theory;
      listed = listed;
    }

pub returns-in-Err-take_in-clause-theory : goal.returns-in-Err-take_in-clause-theory
returns-in-Err-take_in-clause-theory g c = c.forget_idle-in-Err-take_in.ensures.theory ∙ ap (λ (p : Parts _ _ _ _). p.checked) c.take_in.ensures.rest ∙ c.enter.ensures.theory

pub returns-clause-theory : goal.returns-clause-theory
returns-clause-theory g c = ap (λ (p : Parts _ _ _ _). p.checked) c.take_in.ensures.rest ∙ c.enter.ensures.theory

pub returns-clause-store : goal.returns-clause-store
returns-clause-store g c = ap (λ (p : Parts _ _ _ _). p.store) c.take_in.ensures.rest ∙ c.enter.ensures.events

pub returns-in-Err-clause-theory : goal.returns-in-Err-clause-theory
returns-in-Err-clause-theory g c = c.forget_idle.ensures.theory ∙ c.enter.ensures.theory
