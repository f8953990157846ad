-- The tables are those of the events with one more, or a limit refuses it.
use Rattle.std.proofs.Common.{◌≡◌, ◌≤◌, ℤ, List, [], length, refl, sym, ap, subst, ◌∙◌}
use Rattle.std.specs.Prelude.{Ok, Err, IsTrue, IsFalse}
use Rattle.ec_axioms.specs.Calculus.{PlainEvent}
use Rattle.ec_axioms.specs.Changes.{has_id, is_history, with_event}
use Rattle.ec_axioms.specs.Events.{event_of}
use Rattle.ec_axioms.specs.Links.{mentions_of, most_mentions}
use Rattle.ec_parts.specs.declared.parts.Parts.{Parts}
use Rattle.ec_parts.specs.declared.tally.Tally.{Tally}
use Rattle.ec_parts.specs.StandFor.{StandForBoth, view_of}
use Rattle.ec_replies.specs.Updates.{with_few_mentions}
use Rattle.ec_batch.specs.ComingIn.{HasComeAhead, IsAhead}
use Rattle.ec_batch.specs.declared.walk.Stop.{Stop}
use Rattle.ec_batch.proofs.WalkSteps.{few-let_in}
use Rattle.ec_cert.specs.EventFile.{within_limits}
use Rattle.ec_cert.specs.Reading.{AreLimitsOf, is_limit, keeps_all, theory_under}
use Rattle.ec_cert.proofs.FileLimits.{ahead_of_none, few_mentions-ok, refused-limit}
use Rattle.ec_cert.proofs.limits.Limits.with_event.Goals as goal

-- the tables, as they are lent, are ahead of the store
lent : {T M I X : Type 0} {rank : T → ℤ} {parts now : Parts T M I X} {tally : Tally} {event : PlainEvent} {events : List PlainEvent} → now ≡ parts
    → StandForBoth rank parts.checked [] events (view_of parts) tally × (length (mentions_of parts.checked events) ≤ most_mentions) → IsTrue (is_history events) → IsFalse (has_id event.id events)
    → IsAhead rank now.checked event (view_of now) tally [] events
lent {T} {M} {I} {X} {rank} {parts} {now} {tally} {event} {events} same of history absent =
    subst (λ (p : Parts T M I X). IsAhead rank p.checked event (view_of p) tally [] events) (sym same) (ahead_of_none of.0 of.1 history absent)

pub come_in-requires : goal.come_in-requires
come_in-requires g c =
    let may = c.requires.may in
    record {
      ahead = record {
        now = [];
        soon = may.events;
        ahead = lent c.deref_mut.ensures.value (subst (λ limits. AreLimitsOf g.T.Moment.rank may.events limits) c.in-All.is may.limits_of) may.history may.absent;
      };
    }

pub returns-in-Ok : goal.returns-in-Ok
returns-in-Ok g c = record {
  let_in = λ events history absent limits_of.
      let rank = g.T.Moment.rank in
      let parts = c.in-All.parts.value in
      let more = with_event (event_of rank c.args.event.now) events in
      let come = c.in-Ok.ensures.come [] events (lent {event = event_of rank c.args.event.now} c.deref_mut.ensures.value (subst (λ limits. AreLimitsOf rank events limits) c.in-All.is limits_of) history absent) in
      let same : c.deref_mut.result.now.checked ≡ parts.checked = ap (λ (p : Parts _ _ _ _). p.checked) c.deref_mut.ensures.value in
      let let_in : with_few_mentions parts.checked more ≡ Ok more = subst (λ t. with_few_mentions t more ≡ Ok more) same come.0 in (
        subst (λ limits. within_limits (theory_under limits) (keeps_all limits) more ≡ Ok more) (sym c.in-All.is) (few_mentions-ok parts.checked more more let_in),
        (
          subst (λ t. StandForBoth rank t [] more (view_of c.come_in.new.parts) c.come_in.new.tally) (sym c.come_in.ensures.theory) come.1,
          subst (λ t. length (mentions_of t more) ≤ most_mentions) (sym (c.come_in.ensures.theory ∙ same)) (few-let_in parts.checked more more let_in).0,
        ),
        c.come_in.ensures.theory ∙ same ∙ sym (ap theory_under c.in-All.is),
        sym (ap keeps_all c.in-All.is),
      );
}

pub limit_name-requires : goal.limit_name-requires
limit_name-requires g c =
    let rank = g.T.Moment.rank in
    let may = c.requires.may in
    let e = event_of rank c.args.event.now in
    let ahead = lent {event = e} c.deref_mut.ensures.value (subst (λ limits. AreLimitsOf rank may.events limits) c.in-All.is may.limits_of) may.history may.absent in
    let refused : with_few_mentions c.deref_mut.result.now.checked (with_event e may.events) ≡ Err c.in-Err-Refused.cut =
    subst (λ (stop : Stop). HasComeAhead {A = Unit {0}} rank c.deref_mut.result.now.checked [] may.events e (view_of c.come_in.new.parts) c.come_in.new.tally (Err stop)) c.in-Err-Refused.field-0-is
    (c.in-Err-Refused.ensures.come [] may.events ahead) in
    record { limit = ap is_limit c.in-Err-Refused.cut-is ∙ refused-limit c.deref_mut.result.now.checked (with_event e may.events) c.in-Err-Refused.cut refused }

pub returns-in-Err-Refused : goal.returns-in-Err-Refused
returns-in-Err-Refused g c = record {
  let_in = λ events history absent limits_of.
      let rank = g.T.Moment.rank in
      let parts = c.in-All.parts.value in
      let e = event_of rank c.args.event.now in
      let more = with_event e events in
      let ahead = lent {event = e} c.deref_mut.ensures.value (subst (λ limits. AreLimitsOf rank events limits) c.in-All.is limits_of) history absent in
      let refused : with_few_mentions c.deref_mut.result.now.checked more ≡ Err c.in-Err-Refused.cut =
      subst (λ (stop : Stop). HasComeAhead {A = Unit {0}} rank c.deref_mut.result.now.checked [] events e (view_of c.come_in.new.parts) c.come_in.new.tally (Err stop)) c.in-Err-Refused.field-0-is
      (c.in-Err-Refused.ensures.come [] events ahead) in
      let same : c.deref_mut.result.now.checked ≡ parts.checked = ap (λ (p : Parts _ _ _ _). p.checked) c.deref_mut.ensures.value in (
        refl,
        subst (λ limits. within_limits (theory_under limits) (keeps_all limits) more ≡ Err c.limit_name.result) (sym c.in-All.is)
            (c.limit_name.ensures.name parts.checked more (subst (λ t. with_few_mentions t more ≡ Err c.in-Err-Refused.cut) same refused ∙ ap Err (sym c.in-Err-Refused.cut-is))),
      );
}
