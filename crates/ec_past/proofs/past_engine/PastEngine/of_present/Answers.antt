-- It is built of the events of the present list, which are a history within the limits.
use Rattle.std.specs.Global.{Box}
use Rattle.std.proofs.Common.{◌≡◌, List, length, map, IfOk, sym, ap, ap₂, subst, ◌∙◌, arith}
use Rattle.std.proofs.lemmas.List.{length-map}
use Rattle.ec_terms.specs.declared.theory.Theory.{Theory}
use Rattle.ec_axioms.specs.Calculus.{PlainEvent}
use Rattle.ec_axioms.specs.Changes.{entry_count}
use Rattle.ec_axioms.specs.Events.{event_of}
use Rattle.ec_engine.specs.Standing.{Standing}
use Rattle.ec_store.specs.Store.{plain_of}
use Rattle.ec_past.specs.Viewing.{PlainView}
use Rattle.ec_past.proofs.ViewLemmas.{IsBuiltOf-present}
use Rattle.ec_past.proofs.past_engine.PastEngine.of_present.Goals as goal

pub build-requires-clause-own : goal.build-requires-clause-own
build-requires-clause-own g c =
    let rank = g.T.Moment.rank in
    let engine = c.args.engine.now in
    let all = ap (map (event_of rank)) c.as_slice.ensures.value ∙ c.in_ok-events.ensures.events ∙ c.store_of.ensures.events in
    let same = c.in_ok-checked.ensures ∙ c.theory.ensures.theory ∙ c.parts.ensures.theory in
    let built = IsBuiltOf-present engine.theory c.in_ok-checked.checked engine.events (map (event_of rank) c.as_slice.result.now) same all c.store_of.ensures.within in
    built.own

pub build-requires-clause-within : goal.build-requires-clause-within
build-requires-clause-within g c =
    let rank = g.T.Moment.rank in
    let engine = c.args.engine.now in
    let all = ap (map (event_of rank)) c.as_slice.ensures.value ∙ c.in_ok-events.ensures.events ∙ c.store_of.ensures.events in
    let same = c.in_ok-checked.ensures ∙ c.theory.ensures.theory ∙ c.parts.ensures.theory in
    let built = IsBuiltOf-present engine.theory c.in_ok-checked.checked engine.events (map (event_of rank) c.as_slice.result.now) same all c.store_of.ensures.within in
    built.within

pub returns-in_err-engine-clause-steps : goal.returns-in_err-engine-clause-steps
returns-in_err-engine-clause-steps g c =
    let rank = g.T.Moment.rank in
    let engine = c.args.engine.now in
    let all = ap (map (event_of rank)) c.as_slice.ensures.value ∙ c.in_ok-events.ensures.events ∙ c.store_of.ensures.events in
    let same = c.in_ok-checked.ensures ∙ c.theory.ensures.theory ∙ c.parts.ensures.theory in
    let built = IsBuiltOf-present engine.theory c.in_ok-checked.checked engine.events (map (event_of rank) c.as_slice.result.now) same all c.store_of.ensures.within in
    let entries = ap₂ entry_count built.same built.is in
    let listed = sym (length-map c.as_slice.result.now (event_of rank)) ∙ ap (λ (es : List PlainEvent). length es) all in
    let stored = sym (length-map c.store_of.result.now.events (plain_of rank)) ∙ ap (λ (es : List PlainEvent). length es) c.store_of.ensures.events in
    omega (arith, entries, listed, stored, c.copied_events.ensures.steps, c.build.ensures.steps)

pub returns-clause-view : goal.returns-clause-view
returns-clause-view g c =
    let rank = g.T.Moment.rank in
    let engine = c.args.engine.now in
    let all = ap (map (event_of rank)) c.as_slice.ensures.value ∙ c.in_ok-events.ensures.events ∙ c.store_of.ensures.events in
    let same = c.in_ok-checked.ensures ∙ c.theory.ensures.theory ∙ c.parts.ensures.theory in
    let built = IsBuiltOf-present engine.theory c.in_ok-checked.checked engine.events (map (event_of rank) c.as_slice.result.now) same all c.store_of.ensures.within in
    subst (λ (s : Standing). IfOk c.boxed.result (λ (view : Box PlainView). view.value ≡ record { at = c.args.count; standing = s })) (c.in_ok-engine.ensures.built ∙ ap₂ standing built.same built.is) c.boxed.ensures
  where
    standing : Theory → List PlainEvent → Standing
    standing theory events = record { theory = theory; events = events }

pub returns-clause-steps : goal.returns-clause-steps
returns-clause-steps g c =
    let rank = g.T.Moment.rank in
    let engine = c.args.engine.now in
    let all = ap (map (event_of rank)) c.as_slice.ensures.value ∙ c.in_ok-events.ensures.events ∙ c.store_of.ensures.events in
    let same = c.in_ok-checked.ensures ∙ c.theory.ensures.theory ∙ c.parts.ensures.theory in
    let built = IsBuiltOf-present engine.theory c.in_ok-checked.checked engine.events (map (event_of rank) c.as_slice.result.now) same all c.store_of.ensures.within in
    let entries = ap₂ entry_count built.same built.is in
    let listed = sym (length-map c.as_slice.result.now (event_of rank)) ∙ ap (λ (es : List PlainEvent). length es) all in
    let stored = sym (length-map c.store_of.result.now.events (plain_of rank)) ∙ ap (λ (es : List PlainEvent). length es) c.store_of.ensures.events in
    omega (arith, entries, listed, stored, c.copied_events.ensures.steps, c.build.ensures.steps)
