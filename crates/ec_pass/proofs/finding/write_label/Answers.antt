-- One event more is done, and its line is written.
use Rattle.std.proofs.Common.{◌≤◌, ◌∷◌, drop, length, take, sym, ap, subst, ◌∙◌, arith}
use Rattle.std.proofs.lemmas.Result.{IfOk-weaker}
use Rattle.ec_terms.specs.Term.{ground_of}
use Rattle.ec_axioms.specs.Events.{event_of}
use Rattle.ec_store.specs.Store.{history_of}
use Rattle.ec_cone.specs.Label.{label_text}
use Rattle.ec_pass.specs.Passing.{IsPassing}
use Rattle.ec_pass.specs.Written.{IsWritten}
use Rattle.ec_pass.proofs.Walking.{IsNextEvent, next_event, walk_ended}
use Rattle.ec_pass.proofs.WritingLemmas.{label-written}
use Rattle.ec_pass.proofs.finding.write_label.Goals as goal

pub loop-found-preserved : goal.loop-found-preserved
loop-found-preserved g c =
    let rank = g.T.Moment.rank in
    let kept = c.args.store.now.events in
    let events = history_of rank kept in
    let i = c.loop-found.cursor in
    let e = event_of rank c.event-event.result.now in
    let q = ground_of c.args.p.now in
    let next : IsNextEvent rank kept i e c.in-Some.found.1 =
    next_event rank kept i c.in-Some.found.0 c.in-Some.found.1 c.event-event.result.now c.in-Some.ensures.next c.in-Some.ensures.event c.event-event.ensures.event in
    let passing : IsPassing rank c.args.rules.now events (take i events) (e ∷ drop c.in-Some.found.1 events) q c.loop-found.pass =
    subst (λ left. IsPassing rank c.args.rules.now events (take i events) left q c.loop-found.pass) next.left c.loop-found.invariant.0 in
    let within : c.in-Some.found.1 ≤ length kept = omega (arith, next.within, next.behind) in (
      subst (λ done. IsPassing rank c.args.rules.now events done (drop c.in-Some.found.1 events) q c.take_next.new.pass) (sym next.done)
          (c.in_ok-take_next.ensures.passing events (take i events) (drop c.in-Some.found.1 events) q passing),
      subst (λ done. IsWritten c.args.rules.now events done g.T.Moment.canon q (rank c.take_next.new.pass.at) c.take_next.new.label) (sym next.done)
          (c.in_ok-take_next.ensures.written events (take i events) (drop c.in-Some.found.1 events) q passing c.requires.cone c.loop-found.invariant.1),
      within,
      c.in_ok-take_next.ensures.at ∙ c.loop-found.invariant.3,
    )

pub returns-clause-passing : goal.returns-clause-passing
returns-clause-passing g c =
    let rank = g.T.Moment.rank in
    let kept = c.args.store.now.events in
    let events = history_of rank kept in
    let q = ground_of c.args.p.now in
    let ended = walk_ended rank kept c.loop-found.cursor c.next.result c.in_default.is c.next.ensures.next in
    IfOk-weaker c.end.result _ _
    (λ text is. subst (λ left. IsPassing rank c.args.rules.now events events left q c.loop-found.pass) ended.1
    (subst (λ done. IsPassing rank c.args.rules.now events done (drop c.loop-found.cursor events) q c.loop-found.pass) ended.0 c.loop-found.invariant.0))
    c.end.ensures

pub returns-clause-text : goal.returns-clause-text
returns-clause-text g c =
    let rank = g.T.Moment.rank in
    let kept = c.args.store.now.events in
    let events = history_of rank kept in
    let q = ground_of c.args.p.now in
    let ended = walk_ended rank kept c.loop-found.cursor c.next.result c.in_default.is c.next.ensures.next in
    IfOk-weaker c.end.result _ _
    (λ text is. is
    ∙ label-written c.args.rules.now events g.T.Moment.canon q (rank c.loop-found.pass.at) c.loop-found.label
    (subst (λ done. IsWritten c.args.rules.now events done g.T.Moment.canon q (rank c.loop-found.pass.at) c.loop-found.label) ended.0 c.loop-found.invariant.1)
    ∙ ap (λ a. label_text c.args.rules.now events g.T.Moment.canon q (rank a)) c.loop-found.invariant.3)
    c.end.ensures
