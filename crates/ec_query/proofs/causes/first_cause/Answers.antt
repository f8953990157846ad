-- The walk goes over the events at the time, and stops at the first that has a cause.
use Rattle.std.proofs.Common.{◌≡◌, ◌+◌, ℕ, true, false, List, Option, None, Some, drop, length, sym, ap, ◌∙◌, arith}
use Rattle.std.proofs.lemmas.Grind.{common_steps}
use Rattle.std.specs.List.{list_all}
use Rattle.std.specs.Ordering.{int_eq}
use Rattle.std.proofs.lemmas.Option.{same_Some}
use Rattle.ec_axioms.specs.declared.event.Event.{Event}
use Rattle.ec_axioms.specs.Calculus.{PlainCause}
use Rattle.ec_axioms.specs.Plain.{events_at}
use Rattle.ec_store.specs.Store.{history_of}
use Rattle.ec_query.specs.Sought.{is_sought}
use Rattle.ec_query.proofs.EventWalks.{is_from}
use Rattle.ec_query.proofs.FirstCauses.{first_among, first_among-at, first_among-here, first_among-none}
use Rattle.ec_query.proofs.KeptWalks.{IsNext, both_of_one, next-found, next-none, next_leaves, next_within, one_read, read_later, walk-behind, walk-end, walk-first, walk-from, walk-here, walk-on, walk-within}
use Rattle.ec_query.proofs.ShownEffects.{is_kept, time-of}
use Rattle.ec_query.proofs.causes.first_cause.Goals as goal

pub loop-found-init : goal.loop-found-init
loop-found-init g c =
    let parts = c.args.parts.now in
    let rank = g.T.Moment.rank in
    let t = rank c.args.at in
    let kept = parts.store.events in
    record {
      cause = λ events p on.
          ap (first_among parts.checked events (is_sought parts.checked p c.args.sought))
          (walk-first rank t kept c.len.ensures.history c.first_at-cursor.result c.first_at-cursor.ensures ∙ ap (events_at t) on.stand.both.caches.events_of)
          ∙ first_among-at parts.checked events (is_sought parts.checked p c.args.sought) t;
      left = ap (λ es. c.args.steps.now + length es) (walk-first rank t kept c.len.ensures.history c.first_at-cursor.result c.first_at-cursor.ensures);
      from = walk-from rank t kept c.len.ensures.history c.first_at-cursor.result c.first_at-cursor.ensures;
      started = omega arith;
      within = walk-within rank t kept c.len.ensures.history c.first_at-cursor.result c.first_at-cursor.ensures;
    }

pub returns-then-not-here-clause-cause : goal.returns-then-not-here-clause-cause
returns-then-not-here-clause-cause g c = λ events p on.
    let parts = c.args.parts.now in
    let rank = g.T.Moment.rank in
    let t = rank c.args.at in
    let theory = parts.checked in
    let kept = parts.store.events in
    let i = c.loop-found.cursor in
    let next : IsNext kept i c.in-Some.found.0 c.in-Some.found.1 = next-found kept i c.in-Some.found.0 c.in-Some.found.1 c.in-Some.ensures.next c.in-Some.ensures.event in
    let wanted = is_sought theory p c.args.sought in
    let other : int_eq (rank next.event.at) t ≡ false =
    sym (ap (λ a. int_eq (rank a) t) (time-of rank theory events parts.props parts.store parts.entries on.stand.both.caches.entries_of c.in-Some.found.0 next.event next.named c.at.result c.at.ensures))
    ∙ sym c.is_at-here.ensures ∙ c.if-not-here.true in
    sym (first_among-none theory events wanted)
    ∙ ap (first_among theory events wanted) (sym (walk-behind rank t kept i (c.in-Some.found.0, next.event) next.there c.len.ensures.history c.loop-found.invariant.from other))
    ∙ c.loop-found.invariant.cause events p on

pub returns-in-Some-first_rule_in-clause-cause : goal.returns-in-Some-first_rule_in-clause-cause
returns-in-Some-first_rule_in-clause-cause g c = λ events p on.
    let parts = c.args.parts.now in
    let rank = g.T.Moment.rank in
    let t = rank c.args.at in
    let theory = parts.checked in
    let kept = parts.store.events in
    let i = c.loop-found.cursor in
    let next : IsNext kept i c.in-Some.found.0 c.in-Some.found.1 = next-found kept i c.in-Some.found.0 c.in-Some.found.1 c.in-Some.ensures.next c.in-Some.ensures.event in
    let wanted = is_sought theory p c.args.sought in
    let at : int_eq (rank next.event.at) t ≡ true =
    sym (ap (λ a. int_eq (rank a) t) (time-of rank theory events parts.props parts.store parts.entries on.stand.both.caches.entries_of c.in-Some.found.0 next.event next.named c.at.result c.at.ensures))
    ∙ sym c.is_at-here.ensures ∙ c.if-not-here.false in
    let same = same_Some c.event-event.result.now next.event (sym c.event-event.ensures.event ∙ next.named) in
    let named : List ℕ → Option PlainCause = λ id. Some (record { id = id; rule = c.in-Some-first_rule_in.rule }) in
    ap named (c.copied.ensures.same ∙ ap (λ (e : Event _). e.id) same)
    ∙ first_among-here rank theory events wanted t kept i (c.in-Some.found.0, next.event) next.there at (named next.event.id) (c.in-Some-first_rule_in.ensures.rule events p next.event on next.named)
    ∙ c.loop-found.invariant.cause events p on

pub returns-in-Some-first_rule_in-clause-steps : goal.returns-in-Some-first_rule_in-clause-steps
returns-in-Some-first_rule_in-clause-steps g c =
    let parts = c.args.parts.now in
    let rank = g.T.Moment.rank in
    let t = rank c.args.at in
    let theory = parts.checked in
    let kept = parts.store.events in
    let i = c.loop-found.cursor in
    let next : IsNext kept i c.in-Some.found.0 c.in-Some.found.1 = next-found kept i c.in-Some.found.0 c.in-Some.found.1 c.in-Some.ensures.next c.in-Some.ensures.event in
    let at : int_eq (rank next.event.at) t ≡ true =
    sym (ap (λ a. int_eq (rank a) t) (time-of rank theory c.requires.events parts.props parts.store parts.entries c.requires.on.stand.both.caches.entries_of c.in-Some.found.0 next.event next.named c.at.result c.at.ensures))
    ∙ sym c.is_at-here.ensures ∙ c.if-not-here.false in
    let here = walk-here rank t kept i (c.in-Some.found.0, next.event) next.there at in
    let counted = ap length here in
    both_of_one c.args.steps.now c.loop-found.steps _ _ _ _ _ counted c.loop-found.invariant.left c.loop-found.invariant.started c.first_rule_in.ensures.steps c.event-event.ensures.steps

pub loop-found-smaller : goal.loop-found-smaller
loop-found-smaller g c =
    let kept = c.args.parts.now.store.events in
    let next : IsNext kept c.loop-found.cursor c.in-Some.found.0 c.in-Some.found.1 =
    next-found kept c.loop-found.cursor c.in-Some.found.0 c.in-Some.found.1 c.in-Some.ensures.next c.in-Some.ensures.event in
    next_leaves c.loop-found.cursor (length kept) c.in-Some.found.1 next.within next.behind

pub loop-found-preserved : goal.loop-found-preserved
loop-found-preserved g c =
    let parts = c.args.parts.now in
    let rank = g.T.Moment.rank in
    let t = rank c.args.at in
    let theory = parts.checked in
    let kept = parts.store.events in
    let i = c.loop-found.cursor in
    let next : IsNext kept i c.in-Some.found.0 c.in-Some.found.1 = next-found kept i c.in-Some.found.0 c.in-Some.found.1 c.in-Some.ensures.next c.in-Some.ensures.event in
    let at : int_eq (rank next.event.at) t ≡ true =
    sym (ap (λ a. int_eq (rank a) t) (time-of rank theory c.requires.events parts.props parts.store parts.entries c.requires.on.stand.both.caches.entries_of c.in-Some.found.0 next.event next.named c.at.result c.at.ensures))
    ∙ sym c.is_at-here.ensures ∙ c.if-not-here.false in
    let here = walk-here rank t kept i (c.in-Some.found.0, next.event) next.there at in
    let counted = ap length here in
    let moved = ap (λ n. length (events_at t (history_of rank (drop n kept)))) next.behind in
    record {
      cause = λ events p on.
          let wanted = is_sought theory p c.args.sought in
          ap (λ n. first_among theory events wanted (events_at t (history_of rank (drop n kept)))) next.behind
          ∙ first_among-here rank theory events wanted t kept i (c.in-Some.found.0, next.event) next.there at None (c.in_default-first_rule_in.ensures.rule events p next.event on next.named)
          ∙ c.loop-found.invariant.cause events p on;
      left = one_read _ c.loop-found.steps _ _ _ _ counted moved c.loop-found.invariant.left c.first_rule_in.ensures.steps;
      from = ap (λ n. list_all (is_from t) (history_of rank (drop n kept))) next.behind ∙ walk-on rank t kept i (c.in-Some.found.0, next.event) next.there c.loop-found.invariant.from;
      started = read_later c.args.steps.now c.loop-found.steps _ c.loop-found.invariant.started c.first_rule_in.ensures.steps;
      within = next_within i (length kept) c.in-Some.found.1 next.within next.behind;
    }

pub returns-clause-cause : goal.returns-clause-cause
returns-clause-cause g c = λ events p on.
    let parts = c.args.parts.now in
    let rank = g.T.Moment.rank in
    let theory = parts.checked in
    let wanted = is_sought theory p c.args.sought in
    let kept = parts.store.events in
    sym (first_among-none theory events wanted)
    ∙ ap (first_among theory events wanted)
    (sym (walk-end rank (rank c.args.at) kept c.loop-found.cursor (next-none kept c.loop-found.cursor c.next.result c.in_default.is c.next.ensures.next)))
    ∙ c.loop-found.invariant.cause events p on

pub at-requires : goal.at-requires
at-requires g c =
    let parts = c.args.parts.now in
    let kept = parts.store.events in
    let next : IsNext kept c.loop-found.cursor c.in-Some.found.0 c.in-Some.found.1 =
    next-found kept c.loop-found.cursor c.in-Some.found.0 c.in-Some.found.1 c.in-Some.ensures.next c.in-Some.ensures.event in
    is_kept g.T.Moment.rank parts.checked c.requires.events parts.props parts.store parts.entries c.requires.on.stand.both.caches.entries_of c.in-Some.found.0 next.event next.named

pub event-event-requires : goal.event-event-requires
event-event-requires g c = record { live = c.in-Some.ensures.live }

pub first_rule_in-requires-clause-live : goal.first_rule_in-requires-clause-live
first_rule_in-requires-clause-live g c = c.in-Some.ensures.live

pub first_rule_in-requires-clause-on : goal.first_rule_in-requires-clause-on
first_rule_in-requires-clause-on c = grind (arith, common_steps)

pub returns-then-not-here-clause-steps : goal.returns-then-not-here-clause-steps
returns-then-not-here-clause-steps c = grind (arith, common_steps)

pub returns-clause-steps : goal.returns-clause-steps
returns-clause-steps c = grind (arith, common_steps)
