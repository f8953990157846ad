-- Place by place, an added event goes.
use Rattle.std.proofs.Common.{◌≡◌, ◌≤◌, Some, length, take, refl, sym, ap, subst, ◌∙◌}
use Rattle.std.specs.Prelude.{slice_get}
use Rattle.std.proofs.lemmas.List.{take_all}
use Rattle.std.proofs.lemmas.Option.{slice_get-get_or}
use Rattle.ec_axioms.specs.declared.event.Event.{Event}
use Rattle.ec_context.proofs.Shown.{IsKeptEntry-shown}
use Rattle.ec_store.specs.Store.{history_of}
use Rattle.ec_parts.specs.declared.parts.Parts.{Parts}
use Rattle.ec_parts.specs.Mentions.{AreOfEventsWith, TakeEventOut}
use Rattle.ec_parts.specs.StandFor.{StandForBoth, view_of}
use Rattle.ec_batch.specs.Undo.{untouched}
use Rattle.ec_batch.specs.UndoChange.{events_by_id}
use Rattle.ec_batch.proofs.Undoing.{untouched-none}
use Rattle.ec_batch.proofs.UndoingChange.{due_at, length-entries, untouched-both}
use Rattle.ec_batch.proofs.change_back.release_added.Goals as goal

pub loop-list-init : goal.loop-list-init
loop-list-init g c = record {
  so_far = λ soon led.
      subst (λ es. StandForBoth g.T.Moment.rank c.args.parts.now.checked (history_of g.T.Moment.rank c.args.parts.now.store.events) es (view_of c.args.parts.now) c.args.tally.now)
      (sym (untouched-none (Event g.row.T.Denot) soon)) led.both;
  terms = λ id. refl;
  rest = refl;
}

pub release_all-requires-clause-kept : goal.release_all-requires-clause-kept
release_all-requires-clause-kept g c =
    let inv = c.loop-list.invariant in
    let i = c.loop-list.list-index in
    let list = c.list-item.result in
    let there : slice_get c.args.change.now.entries i ≡ Some list =
    subst (λ xs. slice_get xs i ≡ Some list) c.as_slice-list-items.ensures (slice_get-get_or c.as_slice-list-items.result.now i list c.loop-list-test.true ∙ ap Some (sym c.list-item.is)) in
    let due = due_at c.requires.to i list there (view_of c.loop-list.parts) inv.terms in IsKeptEntry-shown c.loop-list.parts.props list _ due.shown

pub release_all-requires-clause-tables : goal.release_all-requires-clause-tables
release_all-requires-clause-tables g c =
    let inv = c.loop-list.invariant in
    let rank = g.T.Moment.rank in
    let i = c.loop-list.list-index in
    let list = c.list-item.result in
    let soon = c.requires.soon in
    let there : slice_get c.args.change.now.entries i ≡ Some list =
    subst (λ xs. slice_get xs i ≡ Some list) c.as_slice-list-items.ensures (slice_get-get_or c.as_slice-list-items.result.now i list c.loop-list-test.true ∙ ap Some (sym c.list-item.is)) in
    let due = due_at c.requires.to i list there (view_of c.loop-list.parts) inv.terms in
    let before = untouched (take i (events_by_id c.args.change.now.add)) soon in
    let both = inv.so_far soon c.requires.to in
    subst (λ theory. AreOfEventsWith theory list c.loop-list.parts.props c.loop-list.parts.neighbours c.loop-list.parts.points c.loop-list.tally) (sym (ap (λ (p : Parts _ _ _ _). p.checked) inv.rest))
    (record { events = before; event = due.event; history = due.history; there = due.there; shown = due.shown; tables = both.tables })

pub loop-list-preserved : goal.loop-list-preserved
loop-list-preserved g c = record {
  so_far = λ soon led.
      let inv = c.loop-list.invariant in
      let rank = g.T.Moment.rank in
      let theory = c.args.parts.now.checked in
      let hist = history_of rank c.args.parts.now.store.events in
      let i = c.loop-list.list-index in
      let list = c.list-item.result in
      let there : slice_get c.args.change.now.entries i ≡ Some list =
      subst (λ xs. slice_get xs i ≡ Some list) c.as_slice-list-items.ensures (slice_get-get_or c.as_slice-list-items.result.now i list c.loop-list-test.true ∙ ap Some (sym c.list-item.is)) in
      let due = due_at led i list there (view_of c.loop-list.parts) inv.terms in
      let before = untouched (take i (events_by_id c.args.change.now.add)) soon in
      let out = subst (λ t. TakeEventOut rank t list (view_of c.loop-list.parts) c.loop-list.tally (view_of c.release_all.new.parts) c.release_all.new.tally) (ap (λ (p : Parts _ _ _ _). p.checked) inv.rest)
      c.release_all.ensures.both in
      subst (λ es. StandForBoth rank theory hist es (view_of c.release_all.new.parts) c.release_all.new.tally) due.next
      (out hist before due.event due.shown due.history due.there (inv.so_far soon led));
  terms = λ id. c.release_all.ensures.released.terms id ∙ c.loop-list.invariant.terms id;
  rest = c.release_all.ensures.rest ∙ ap (λ (p : Parts _ _ _ _). record p { props = c.release_all.new.parts.props }) c.loop-list.invariant.rest;
}

pub returns-clause-stay : goal.returns-clause-stay
returns-clause-stay g c =
    let inv = c.loop-list.invariant in
    let rank = g.T.Moment.rank in
    let theory = c.args.parts.now.checked in
    let hist = history_of rank c.args.parts.now.store.events in
    let added = events_by_id c.args.change.now.add in
    let soon = c.requires.soon in
    let all = ap length c.as_slice-list-items.ensures ∙ length-entries c.requires.to in
    let end : length added ≤ c.loop-list.list-index = subst (λ n. n ≤ c.loop-list.list-index) all c.loop-list-test.false in
    subst (λ es. StandForBoth rank theory hist es (view_of c.loop-list.parts) c.loop-list.tally)
    (ap (λ xs. untouched xs soon) (take_all c.loop-list.list-index added end) ∙ untouched-both c.requires.to c.len.ensures.slots) (inv.so_far soon c.requires.to)
