-- Each event is let in, since all of them are within the limits.
use Rattle.std.proofs.Common.{◌≡◌, ◌+◌, [], ◌∷◌, ◌++◌, map, take, drop, refl, sym, ap, subst, ◌∙◌, le-add_right}
use Rattle.std.specs.Prelude.{MatchResult}
use Rattle.std.proofs.lemmas.List.{take_all}
use Rattle.ec_axioms.specs.Changes.{with_event}
use Rattle.ec_axioms.specs.Events.{event_of}
use Rattle.ec_parts.specs.StandFor.{view_of}
use Rattle.ec_parts.proofs.Mentioned.{map-cut, map-take_more}
use Rattle.ec_replies.specs.Updates.{asserted}
use Rattle.ec_batch.specs.Build.{history_from}
use Rattle.ec_batch.specs.Walk.{HasWalkedTo}
use Rattle.ec_batch.proofs.Batches.{not_both}
use Rattle.ec_batch.proofs.Built.{asserted-next, history_from-next}
use Rattle.ec_batch.proofs.Counts.{count-more, count-within}
use Rattle.ec_batch.proofs.Moved.{HasWalkedTo-moved}
use Rattle.ec_batch.proofs.through.walk_in.Goals as goal

pub loop-event-init : goal.loop-event-init
loop-event-init g c = record { so_far = c.requires.walked; walked = record { soon = []; to = c.requires.walked }; theory = refl; store = refl; len = le-add_right _ 0 }

pub unreachable-requires : goal.unreachable-requires
unreachable-requires g c =
    let inv = c.loop-event.invariant in
    let f = event_of g.T.Moment.rank in
    let i = c.loop-event.event-index in
    let built = history_from (map f (take i c.args.list.now)) in
    let to = HasWalkedTo-moved g.T.Moment.rank c.args.parts.now.checked c.loop-event.parts.checked c.args.parts.now.store.events c.loop-event.parts.store.events built (view_of c.loop-event.parts) c.loop-event.tally c.loop-event.walk
    inv.theory (ap (λ s. s.events) inv.store) inv.so_far in
    let gone = rw c.in-Err-Refused.field-0-is at (c.in-Err-Refused.ensures.goes built to) in
    let let_in = asserted-next c.args.parts.now.checked (map f (take i c.args.list.now)) (f c.event-item.result) (map f (drop (i + 1) c.args.list.now)) (map f c.args.list.now)
    (map-cut f c.args.list.now i c.event-item.result c.loop-event-test.true ∙ ap (λ x. map f (take i c.args.list.now) ++ f x ∷ map f (drop (i + 1) c.args.list.now)) (sym c.event-item.is)) c.requires.own c.requires.within in
    not_both (asserted c.args.parts.now.checked built (f c.event-item.result)) _ _ let_in (sym (ap (λ t. asserted t built (f c.event-item.result)) inv.theory) ∙ gone.0)

pub loop-event-preserved : goal.loop-event-preserved
loop-event-preserved g c =
    let inv = c.loop-event.invariant in
    let rank = g.T.Moment.rank in
    let theory = c.args.parts.now.checked in
    let events = c.args.parts.now.store.events in
    let f = event_of rank in
    let i = c.loop-event.event-index in
    let e = f c.event-item.result in
    let built = history_from (map f (take i c.args.list.now)) in
    let later = c.assert_event.new.parts in
    let to = HasWalkedTo-moved rank theory c.loop-event.parts.checked events c.loop-event.parts.store.events built (view_of c.loop-event.parts) c.loop-event.tally c.loop-event.walk
    inv.theory (ap (λ s. s.events) inv.store) inv.so_far in
    let let_in = asserted-next theory (map f (take i c.args.list.now)) e (map f (drop (i + 1) c.args.list.now)) (map f c.args.list.now)
    (map-cut f c.args.list.now i c.event-item.result c.loop-event-test.true ∙ ap (λ x. map f (take i c.args.list.now) ++ f x ∷ map f (drop (i + 1) c.args.list.now)) (sym c.event-item.is)) c.requires.own c.requires.within in
    let gone = subst (λ r. MatchResult r (λ after. HasWalkedTo rank c.loop-event.parts.checked c.loop-event.parts.store.events after (view_of later) c.assert_event.new.tally c.assert_event.new.walk) (λ cut. ⊥))
    (ap (λ t. asserted t built e) inv.theory ∙ let_in) (c.in-Ok.ensures.goes built to) in
    let next : history_from (map f (take (i + 1) c.args.list.now)) ≡ with_event e built =
    ap history_from (map-take_more f c.args.list.now i c.event-item.result c.loop-event-test.true ∙ ap (λ x. map f (take i c.args.list.now) ++ f x ∷ []) (sym c.event-item.is))
    ∙ history_from-next (map f (take i c.args.list.now)) e in
    record {
      so_far = subst (λ es. HasWalkedTo rank theory events es (view_of later) c.assert_event.new.tally c.assert_event.new.walk) (sym next)
          (HasWalkedTo-moved rank c.loop-event.parts.checked theory c.loop-event.parts.store.events events (with_event e built) (view_of later) c.assert_event.new.tally c.assert_event.new.walk
          (sym inv.theory) (sym (ap (λ s. s.events) inv.store)) gone);
      walked = record {
        soon = with_event e built;
        to = HasWalkedTo-moved rank c.loop-event.parts.checked later.checked c.loop-event.parts.store.events later.store.events (with_event e built) (view_of later) c.assert_event.new.tally c.assert_event.new.walk
            c.assert_event.ensures.theory (ap (λ s. s.events) c.assert_event.ensures.store) gone;
      };
      theory = c.assert_event.ensures.theory ∙ inv.theory;
      store = c.assert_event.ensures.store ∙ inv.store;
      len = count-more _ _ _ c.assert_event.ensures.len inv.len;
    }

pub returns-clause-goes : goal.returns-clause-goes
returns-clause-goes g c =
    subst (λ xs. HasWalkedTo g.T.Moment.rank c.args.parts.now.checked c.args.parts.now.store.events (history_from (map (event_of g.T.Moment.rank) xs)) (view_of c.loop-event.parts) c.loop-event.tally c.loop-event.walk)
    (take_all c.loop-event.event-index c.args.list.now c.loop-event-test.false) c.loop-event.invariant.so_far

pub returns-in-Err-Memory-clause-theory : goal.returns-in-Err-Memory-clause-theory
returns-in-Err-Memory-clause-theory g c = c.assert_event.ensures.theory ∙ c.loop-event.invariant.theory

pub returns-in-Err-Memory-clause-store : goal.returns-in-Err-Memory-clause-store
returns-in-Err-Memory-clause-store g c = c.assert_event.ensures.store ∙ c.loop-event.invariant.store

pub returns-in-Err-Memory-clause-len : goal.returns-in-Err-Memory-clause-len
returns-in-Err-Memory-clause-len g c = count-within _ _ _ _ c.assert_event.ensures.len c.loop-event.invariant.len c.loop-event-test.true
