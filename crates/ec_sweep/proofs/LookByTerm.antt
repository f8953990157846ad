-- The look at an instant by terms: what it is to have looked, from what was done by slots and numbers.
use Rattle.std.proofs.Common.{◌≡◌, ℤ, ◌+◌, Bool, true, false, not, ◌&&◌, List, ◌++◌, filter, flat_map, length, map, drop, take, IsTrue, refl, sym, ap, subst, ◌∙◌}
use Rattle.std.specs.Prelude.{filter_map, int_le}
use Rattle.std.specs.Bool.{beq}
use Rattle.std.specs.Ordering.{int_eq}
use Rattle.std.proofs.lemmas.List.{length-append, length-map}
use Rattle.std.proofs.lemmas.List.Elements.{filter-append}
use Rattle.ec_lists.proofs.Filters.{filter-filter, filter-map}
use Rattle.ec_terms.specs.declared.ids.PropId.{PropId}
use Rattle.ec_terms.specs.declared.theory.Theory.{Theory}
use Rattle.ec_axioms.specs.declared.event.Event.{Event}
use Rattle.ec_axioms.specs.Calculus.{Effect, PlainEvent, effects_of}
use Rattle.ec_axioms.specs.Changes.{events_only_in}
use Rattle.ec_axioms.specs.Events.{event_of}
use Rattle.ec_axioms.specs.Plain.{events_at}
use Rattle.ec_numbered.specs.Due.{Due}
use Rattle.ec_changes.specs.Differences.{entries_at}
use Rattle.ec_context.specs.declared.entry.Entry.{Entry}
use Rattle.ec_context.specs.Entries.{shown_entries}
use Rattle.ec_store.specs.Store.{history_of}
use Rattle.ec_parts.specs.declared.tally.Tally.{Tally}
use Rattle.ec_parts.specs.StandFor.{View}
use Rattle.ec_parts.proofs.LinksByNumber.{IsOneToOne}
use Rattle.ec_revise.specs.declared.change.Change.{Change}
use Rattle.ec_revise.specs.declared.change.Removal.{Removal}
use Rattle.ec_revise.specs.declared.turn.Turn.{Turn}
use Rattle.ec_revise.specs.Change.{entries_to_show}
use Rattle.ec_revise.specs.ShownTurns.{AreShown}
use Rattle.ec_revise.specs.Visit.{PlainTurn, bare_entry, turn_to}
use Rattle.ec_rows.specs.Ordered.{is_ascending}
use Rattle.ec_delta.specs.declared.delta.Looked.{Looked}
use Rattle.ec_delta.specs.declared.delta.Planned.{Planned}
use Rattle.ec_sweep.specs.declared.progress.Progress.{Progress}
use Rattle.ec_sweep.specs.Acting.{added_turns, removed_turns, turn_at}
use Rattle.ec_sweep.specs.LookedBy.{HasLookedBy}
use Rattle.ec_sweep.specs.Runs.{not_after}
use Rattle.ec_sweep.specs.State.{DirtyRows, is_current_over}
use Rattle.ec_sweep.specs.Visiting.{AreSameTurns, CanLook, HasLooked}
use Rattle.ec_sweep.proofs.AddedActivity.{acts-added, added-then, adds-there, bits-then, whole-then}
use Rattle.ec_sweep.proofs.HitEffects.{AreEffectsOf, effects_of_hits, hit-effect}
use Rattle.ec_sweep.proofs.HitTurns.{AreShown-append, hit_turns-shown}
use Rattle.ec_sweep.proofs.LookedActivity.{active_then, hits-read, looks-then}
use Rattle.ec_sweep.proofs.PlainTurns.{added_turns-shown}
use Rattle.ec_sweep.proofs.ReadingEntries.{AreAtSlots}
use Rattle.ec_sweep.proofs.RemovedTurns.{removed-count, removed-shown, removed_events}
use Rattle.ec_sweep.proofs.ShownActivity.{apart-then, flipped-then, stayed-then, stored-then, stored_whole-then}

-- ---- turns in another order

-- some turns down count the same where of their entries as many pass each test
pub AreSameTurns-middle : (first last : List PlainTurn) (active : Effect → Bool) (xs ys : List Effect)
    → ((test : Effect → Bool) → length (filter test xs) ≡ length (filter test ys))
    → AreSameTurns (first ++ map (turn_to (λ _. false)) (filter active xs) ++ last) (first ++ map (turn_to (λ _. false)) (filter active ys) ++ last)
AreSameTurns-middle first last active xs ys same = record {
  ups_same = λ wanted. each (λ (turn : PlainTurn). turn.up && wanted (bare_entry turn.kind turn.head));
  downs_same = λ wanted. each (λ (turn : PlainTurn). not turn.up && wanted (bare_entry turn.kind turn.head));
}
  where
    one : (test : PlainTurn → Bool) (zs : List Effect)
        → length (filter test (map (turn_to (λ _. false)) (filter active zs))) ≡ length (filter (λ effect. active effect && test (turn_to (λ _. false) effect)) zs)
    one test zs =
        ap length (filter-map test (turn_to (λ _. false)) (filter active zs))
        ∙ length-map _ _
        ∙ ap length (filter-filter (λ effect. test (turn_to (λ _. false) effect)) active (λ effect. active effect && test (turn_to (λ _. false) effect)) zs (λ effect. refl))

    split : (test : PlainTurn → Bool) (middle : List PlainTurn) → length (filter test (first ++ middle ++ last)) ≡ length (filter test first) + length (filter test middle) + length (filter test last)
    split test middle =
        ap length (filter-append test (first ++ middle) last)
        ∙ length-append (filter test (first ++ middle)) (filter test last)
        ∙ ap (λ n. n + length (filter test last)) (ap length (filter-append test first middle) ∙ length-append (filter test first) (filter test middle))

    each : (test : PlainTurn → Bool)
        → length (filter test (first ++ map (turn_to (λ _. false)) (filter active xs) ++ last)) ≡ length (filter test (first ++ map (turn_to (λ _. false)) (filter active ys) ++ last))
    each test =
        split test (map (turn_to (λ _. false)) (filter active xs))
        ∙ ap (λ n. length (filter test first) + n + length (filter test last))
        (one test xs ∙ same (λ effect. active effect && test (turn_to (λ _. false) effect)) ∙ sym (one test ys))
        ∙ sym (split test (map (turn_to (λ _. false)) (filter active ys)))

-- ---- the look

module _ {T : Type 0} (rank : T → ℤ) (theory : Theory) (new : List PlainEvent) (view : View T) (tally : Tally) (change : Change T) (r t : ℤ) (dirty : DirtyRows)
    (agenda : List (Due T)) (due : List PropId) (looked : Looked) (planned : Planned T) (active : Effect → Bool) (progress : Progress)
    (can : CanLook rank theory new view tally change r t dirty agenda due looked planned active progress) (one : IsOneToOne view.table) (slots : AreAtSlots view.store.events)
    (ordered : IsTrue (is_ascending (not_after rank (λ (event : Event T). event.at)) change.add))
    (removals : List (Removal T)) (removals_are : removals ≡ filter (λ (removal : Removal T). int_eq (rank removal.at) t) change.remove) (adds : List (Event T)) (lists : List (List Entry))
    (adds_are : adds ≡ drop (length (filter (λ (event : Event T). int_le (rank event.at) r) change.add)) (take (length (filter (λ (event : Event T). int_le (rank event.at) t) change.add)) change.add))
    (lists_are : map (shown_entries view.table) lists ≡ map (entries_to_show theory) adds)
    (after : Looked) (turns : List Turn)
    (by : HasLookedBy rank (is_current_over rank view.points dirty) view.entries.slots t dirty due removals lists looked after turns) where
  -- the list of the store
  abbrev old : List PlainEvent
  old = history_of rank view.store.events

  -- the entries that see a change, by the hits
  seen_of : (seen : List Effect) × AreEffectsOf rank theory view.store.events by.hits seen
  seen_of =
      effects_of_hits rank theory view.store.events by.hits
      (λ hit member.
      let effect = hit-effect rank theory new view tally change r t dirty agenda due looked planned active progress can one slots removals removals_are by.hits by.are_hits hit member in
      (effect.0, effect.1.of_hit))

  module _ (seen : List Effect) (of_hits : AreEffectsOf rank theory view.store.events by.hits seen) where
    -- what is active then
    abbrev active_after : Effect → Bool
    active_after = active_then rank theory new view tally change r t dirty agenda due looked planned active progress can one slots removals removals_are by.hits by.are_hits seen of_hits

    -- the turns of the hits, and those of the added events
    abbrev hit_plains : List PlainTurn
    hit_plains = map (turn_to active_after) (filter (λ effect. not (beq (active effect) (active_after effect))) seen)

    abbrev added_plains : List PlainTurn
    added_plains = map (turn_to (λ _. true)) (filter active_after (entries_at theory (events_only_in new old) t))

    -- the added events at the instant are those of the list
    added-there : map (event_of rank) adds ≡ events_at t (events_only_in new old)
    added-there =
        ap (map (event_of rank))
        (adds-there rank theory new view tally change r t dirty agenda due looked planned active progress can one slots removals removals_are by.hits by.are_hits seen of_hits after ordered adds lists adds_are lists_are by.bits)
        ∙ sym (filter-map (λ (e : PlainEvent). int_eq e.rank t) (event_of rank) change.add)
        ∙ ap (filter (λ (e : PlainEvent). int_eq e.rank t)) can.underway.change_is.added

    added-shown : AreShown view.table view.neighbours.rows (added_turns (is_current_over rank view.points dirty) t lists) added_plains
    added-shown =
        subst (λ es. AreShown view.table view.neighbours.rows (added_turns (is_current_over rank view.points dirty) t lists) (map (turn_to (λ _. true)) (filter active_after (flat_map (effects_of theory) es))))
        added-there
        (added_turns-shown theory view.table view.neighbours can.underway.both.tables.added rank (is_current_over rank view.points dirty) t active_after adds lists lists_are
        (acts-added rank theory new view tally change r t dirty agenda due looked planned active progress can one slots removals removals_are by.hits by.are_hits seen of_hits after ordered adds lists adds_are lists_are by.bits))

    looked-then : HasLooked rank theory new view change t dirty agenda planned looked after active turns
    looked-then = record {
      seen = seen;
      now_active = active_after;
      looks = looks-then rank theory new view tally change r t dirty agenda due looked planned active progress can one slots removals removals_are by.hits by.are_hits seen of_hits after by.seen by.on by.off;
      shows = record {
        stored = stored-then rank theory new view tally change r t dirty agenda due looked planned active progress can one slots removals removals_are by.hits by.are_hits seen of_hits after by.flips;
        added = added-then rank theory new view tally change r t dirty agenda due looked planned active progress can one slots removals removals_are by.hits by.are_hits seen of_hits after ordered adds lists adds_are lists_are by.bits;
        whole = whole-then rank theory new view tally change r t dirty agenda due looked planned active progress can one slots removals removals_are by.hits by.are_hits seen of_hits after ordered adds lists adds_are lists_are by.bits;
        stored_whole = stored_whole-then rank theory new view tally change r t dirty agenda due looked planned active progress can one slots removals removals_are by.hits by.are_hits seen of_hits after by.flips;
        flipped = flipped-then rank theory new view tally change r t dirty agenda due looked planned active progress can one slots removals removals_are by.hits by.are_hits seen of_hits after by.flips;
        stayed = stayed-then rank theory new view tally change r t dirty agenda due looked planned active progress can one slots removals removals_are by.hits by.are_hits seen of_hits after by.flips;
        apart = apart-then rank theory new view tally change r t dirty agenda due looked planned active progress can one slots removals removals_are by.hits by.are_hits seen of_hits after by.flips;
        bits = bits-then rank theory new view tally change r t dirty agenda due looked planned active progress can one slots removals removals_are by.hits by.are_hits seen of_hits after ordered adds lists adds_are lists_are by.bits;
      };
      plains = hit_plains ++ map (turn_to (λ _. false)) (filter active (flat_map (effects_of theory) (removed_events rank view.store.events removals))) ++ added_plains;
      turned =
          subst (λ ts. AreShown view.table view.neighbours.rows ts (hit_plains ++ map (turn_to (λ _. false)) (filter active (flat_map (effects_of theory) (removed_events rank view.store.events removals))) ++ added_plains))
          (sym by.turned)
          (AreShown-append view.table view.neighbours.rows (filter_map (turn_at (is_current_over rank view.points dirty) t view.entries.slots) by.hits ++ removed_turns view.entries.slots removals)
          (added_turns (is_current_over rank view.points dirty) t lists)
          (hit_plains ++ map (turn_to (λ _. false)) (filter active (flat_map (effects_of theory) (removed_events rank view.store.events removals)))) added_plains
          (AreShown-append view.table view.neighbours.rows (filter_map (turn_at (is_current_over rank view.points dirty) t view.entries.slots) by.hits) (removed_turns view.entries.slots removals)
          hit_plains (map (turn_to (λ _. false)) (filter active (flat_map (effects_of theory) (removed_events rank view.store.events removals))))
          (hit_turns-shown view.table view.neighbours.rows (is_current_over rank view.points dirty) t view.entries.slots active active_after by.hits seen
          (hits-read rank theory new view tally change r t dirty agenda due looked planned active progress can one slots removals removals_are by.hits by.are_hits seen of_hits))
          (removed-shown rank theory new view tally change r t dirty agenda due looked planned active progress can one slots removals removals_are))
          added-shown);
      in_any_order =
          AreSameTurns-middle hit_plains added_plains active (flat_map (effects_of theory) (removed_events rank view.store.events removals)) (entries_at theory (events_only_in old new) t)
          (removed-count rank theory new view tally change r t dirty agenda due looked planned active progress can one slots removals removals_are);
    }

  -- So what was done by slots and numbers is the look at the instant.
  pub HasLooked-by_number : HasLooked rank theory new view change t dirty agenda planned looked after active turns
  HasLooked-by_number = let seen = seen_of in looked-then seen.0 seen.1
