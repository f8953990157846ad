-- The events begin with the first one, or there is none.
use Rattle.std.proofs.Common.{drop, sym, ap, ◌∙◌}
use Rattle.ec_axioms.specs.Events.{event_of}
use Rattle.ec_store.specs.Store.{history_of}
use Rattle.ec_pass.proofs.Walking.{IsComing-first, IsComing-none, IsNextEvent, next_event, walk_ended}
use Rattle.ec_pass.proofs.finding.first_time.Goals as goal

pub returns-in-Some-clause-first : goal.returns-in-Some-clause-first
returns-in-Some-clause-first g c =
    let rank = g.T.Moment.rank in
    let kept = c.args.store.now.events in
    let e = event_of rank c.event.result.now in
    let next : IsNextEvent rank kept c.first.result e c.in-Some.found.1 =
    next_event rank kept c.first.result c.in-Some.found.0 c.in-Some.found.1 c.event.result.now c.in-Some.ensures.next c.in-Some.ensures.event c.event.ensures.event in
    IsComing-first (history_of rank kept) (drop c.in-Some.found.1 (history_of rank kept)) e (rank c.args.at)
    (ap (λ n. drop n (history_of rank kept)) (sym c.first.ensures) ∙ next.left) c.len.ensures.history

pub returns-in-None-clause-first : goal.returns-in-None-clause-first
returns-in-None-clause-first g c =
    let rank = g.T.Moment.rank in
    let kept = c.args.store.now.events in
    IsComing-none (history_of rank kept) (rank c.args.at)
    (ap (λ n. drop n (history_of rank kept)) (sym c.first.ensures) ∙ (walk_ended rank kept c.first.result c.next.result c.in-None.is c.next.ensures.next).1)
