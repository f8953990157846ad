-- What is found of entries once an instant was looked at, by terms.
use Rattle.std.proofs.Common.{◌≡◌, ◌≢◌, ℤ, ◌+◌, Bool, not, ◌||◌, List, [], ◌∷◌, ◌++◌, filter, length, IsTrue, IsFalse, refl, sym, ap, ap₂, subst, ◌∙◌, inl, inr}
use Rattle.std.specs.Prelude.{◌==◌, count_by, filter_map, option_and_then, slice_get}
use Rattle.std.specs.Ordering.{int_eq}
use Rattle.std.specs.List.{list_any}
use Rattle.std.proofs.lemmas.Bool.{and_parts, false_from_ne_true}
use Rattle.std.proofs.lemmas.List.Folds.{list_any-append}
use Rattle.ec_terms.specs.declared.theory.Theory.{Theory}
use Rattle.ec_axioms.specs.Calculus.{Currency, Effect, PlainEvent, effects_of, is_active}
use Rattle.ec_axioms.specs.Changes.{event_eq, has_event, events_only_in, kept_events}
use Rattle.ec_axioms.specs.Events.{event_of}
use Rattle.ec_axioms.specs.Plain.{events_at}
use Rattle.ec_axioms.proofs.Members.{Contains-from_member, IsMember, IsMember-append_right, IsMember-from_contains, IsMember-from_filter, list_any-member, member-list_any, IsMember-slice_get, IsMember-append_left}
use Rattle.ec_numbered.specs.Due.{Due}
use Rattle.ec_changes.specs.Differences.{entries_at}
use Rattle.ec_changes.specs.Turns.{ListsSeen, same_entry}
use Rattle.ec_changes.proofs.Activity.{event-effects_of, rank-entries_at}
use Rattle.ec_changes.proofs.JoinedMembers.{IsMember-from_flat_map}
use Rattle.ec_changes.proofs.KeptEvents.{event_eq-is, has_event-member}
use Rattle.ec_entries.specs.declared.event_entries.EventEntries.{EventEntries}
use Rattle.ec_store.specs.Store.{history_of}
use Rattle.ec_parts.specs.declared.tally.Tally.{Tally}
use Rattle.ec_parts.specs.StandFor.{View}
use Rattle.ec_parts.proofs.LinksByNumber.{IsOneToOne}
use Rattle.ec_revise.specs.declared.change.Change.{Change}
use Rattle.ec_revise.specs.declared.change.Removal.{Removal}
use Rattle.ec_revise.specs.declared.turn.Turn.{Turn}
use Rattle.ec_revise.specs.Sweep.{Found}
use Rattle.ec_revise.specs.Visit.{LooksAt, currency_found}
use Rattle.ec_revise.proofs.Looking.{same_entry-itself}
use Rattle.ec_terms.specs.declared.ids.PropId.{PropId}
use Rattle.ec_delta.specs.declared.delta.Looked.{Looked}
use Rattle.ec_delta.specs.declared.delta.Planned.{Planned}
use Rattle.ec_sweep.specs.declared.hits.Hit.{Hit}
use Rattle.ec_sweep.specs.declared.progress.Progress.{Progress}
use Rattle.ec_sweep.specs.Acting.{turn_at}
use Rattle.ec_sweep.specs.Hits.{AreHits}
use Rattle.ec_sweep.specs.State.{DirtyRows, found_by, is_current_over}
use Rattle.ec_sweep.specs.Visiting.{CanLook}
use Rattle.ec_sweep.proofs.HitActivity.{acts-found, was-found}
use Rattle.ec_sweep.proofs.HitEffects.{AreEffectsOf, IsEffectOf, hits-seen, length-effects}
use Rattle.ec_sweep.proofs.HitTurns.{AreReadAs, IsReadAs, hits-off, hits-on}
use Rattle.ec_sweep.proofs.NowActive.{active_now, active_now-looked, active_now-other, none_of_added, none_of_instant}
use Rattle.ec_sweep.proofs.PlainTurns.{is_added-kept}
use Rattle.ec_context.proofs.Shown.{IsShownAs-entry}
use Rattle.ec_sweep.proofs.ReadingEntries.{AreAtSlots, entered-event, placed-effect}

-- what is the same entry is of the same event
pub same_entry-event : (effect other : Effect) → IsTrue (same_entry effect other) → effect.event ≡ other.event
unfolding same_entry
same_entry-event effect other same = event_eq-is effect.event other.event (and_parts (event_eq effect.event other.event) (effect.entry.rule == other.entry.rule) same).0

-- an entry of a kept event is of an event of both lists
pub kept-has_event : (theory : Theory) (old new : List PlainEvent) (t : ℤ) (effect : Effect) → IsMember (entries_at theory (kept_events old new) t) effect
    → IsTrue (has_event old effect.event) × IsTrue (has_event new effect.event)
unfolding kept_events
kept-has_event theory old new t effect member =
    let at = IsMember-from_flat_map (effects_of theory) (events_at t (filter (has_event new) old)) effect member in
    let present = IsMember-from_filter (λ (e : PlainEvent). int_eq e.rank t) (filter (has_event new) old) at.0 at.1 in
    let kept = IsMember-from_filter (has_event new) old at.0 present.0 in
    let is = event-effects_of theory at.0 effect at.2 in
    (has_event-member old effect.event (subst (IsMember old) (sym is) kept.0), ap (has_event new) is ∙ kept.1)

module _ {T : Type 0} (rank : T → ℤ) (theory : Theory) (new : List PlainEvent) (view : View T) (tally : Tally) (change : Change T) (r t : ℤ) (dirty : DirtyRows)
    (agenda : List (Due T)) (due : List PropId) (looked : Looked) (planned : Planned T) (active : Effect → Bool) (progress : Progress)
    (can : CanLook rank theory new view tally change r t dirty agenda due looked planned active progress) (one : IsOneToOne view.table) (slots : AreAtSlots view.store.events)
    (removals : List (Removal T)) (removals_are : removals ≡ filter (λ (removal : Removal T). int_eq (rank removal.at) t) change.remove) (hits : List Hit)
    (are : AreHits rank view.entries.slots t dirty due removals hits) (seen : List Effect) (of_hits : AreEffectsOf rank theory view.store.events hits seen) where
  -- the list of the store
  abbrev old : List PlainEvent
  old = history_of rank view.store.events

  -- what is found before the visit
  abbrev found : Found
  found = found_by rank view.table dirty agenda looked planned active

  -- the currency by which entries are evaluated
  abbrev currency : Currency
  currency = currency_found theory old found

  -- what is looked at: what sees a change, and the entries of added events
  abbrev looked_at : List Effect
  looked_at = seen ++ entries_at theory (events_only_in new old) t

  -- what is active then
  abbrev pub active_then : Effect → Bool
  active_then = active_now (currency_found theory (history_of rank view.store.events) (found_by rank view.table dirty agenda looked planned active))
      (seen ++ entries_at theory (events_only_in new (history_of rank view.store.events)) t) active

  pub seen-listed : ListsSeen theory old new t seen
  seen-listed = hits-seen rank theory new view tally change r t dirty agenda due looked planned active progress can one slots removals removals_are hits are seen of_hits

  pub seen-kept : (effect : Effect) → IsMember seen effect → IsMember (entries_at theory (kept_events old new) t) effect
  seen-kept effect member =
      IsMember-from_contains (entries_at theory (kept_events old new) t) effect (seen-listed.kept effect (Contains-from_member seen effect member)).0

  pub seen-rank : (effect : Effect) → IsMember seen effect → effect.event.rank ≡ t
  seen-rank effect member = rank-entries_at theory (kept_events old new) t effect (seen-kept effect member)

  -- the event of a hit is at the instant
  pub hit-rank : (hit : Hit) (effect : Effect) (of_hit : IsEffectOf rank theory view.store.events hit effect) → IsMember seen effect → rank of_hit.event.at ≡ t
  hit-rank hit effect of_hit member =
      ap (λ (e : PlainEvent). e.rank)
      (sym (event-effects_of theory (event_of rank of_hit.event) effect (IsMember-slice_get (effects_of theory (event_of rank of_hit.event)) hit.place effect of_hit.at_place)))
      ∙ seen-rank effect member

  -- ---- what is active then

  pub then-seen : (effect : Effect) → IsMember seen effect → active_then effect ≡ is_active currency effect
  then-seen effect member =
      active_now-looked currency looked_at active effect
      (member-list_any (same_entry effect) looked_at effect (IsMember-append_left seen (entries_at theory (events_only_in new old) t) effect member) (same_entry-itself effect))

  pub then-added : (effect : Effect) → IsMember (entries_at theory (events_only_in new old) t) effect → active_then effect ≡ is_active currency effect
  then-added effect member =
      active_now-looked currency looked_at active effect
      (member-list_any (same_entry effect) looked_at effect (IsMember-append_right seen (entries_at theory (events_only_in new old) t) effect member) (same_entry-itself effect))

  pub then-other : (effect : Effect) → IsFalse (list_any (same_entry effect) seen) → IsFalse (list_any (same_entry effect) (entries_at theory (events_only_in new old) t))
      → active_then effect ≡ active effect
  then-other effect unseen not_added =
      active_now-other currency looked_at active effect
      (list_any-append (same_entry effect) seen (entries_at theory (events_only_in new old) t) ∙ ap₂ (λ a b. a || b) unseen not_added)

  pub then-elsewhere : (effect : Effect) → effect.event.rank ≢ t → active_then effect ≡ active effect
  then-elsewhere effect apart =
      then-other effect
      (false_from_ne_true (list_any (same_entry effect) seen)
      (λ some.
      let other = list_any-member (same_entry effect) seen some in
      apart (ap (λ (e : PlainEvent). e.rank) (same_entry-event effect other.0 other.2) ∙ seen-rank other.0 other.1)))
      (none_of_instant theory (events_only_in new old) t effect apart)

  -- ---- the hits

  -- each is read as its effect is
  hit-read : (hit : Hit) (effect : Effect) → IsEffectOf rank theory view.store.events hit effect → IsMember seen effect
      → IsReadAs view.table view.neighbours.rows (is_current_over rank view.points dirty) t view.entries.slots active active_then hit effect
  hit-read hit effect of_hit member =
      let kept = entered-event rank theory old view.table view.store view.entries can.underway.both.caches.entries_of hit.slot of_hit.event of_hit.there in
      let placed = placed-effect rank theory old view.table view.store view.entries can.underway.both.caches.entries_of of_hit.event kept.0 kept.2 hit.place effect of_hit.at_place in
      let shown = IsShownAs-entry view.table placed.0 effect.entry placed.1.shown in
      record {
        entry = placed.0;
        there = ap (option_and_then (λ (k : EventEntries T). slice_get k.list hit.place)) kept.1 ∙ placed.1.entry_there;
        kind = shown.kind;
        head = shown.head;
        added = is_added-kept theory view.table view.neighbours can.underway.both.tables.added placed.0.head effect.entry.head shown.head;
        before = was-found rank theory new view tally change r t dirty agenda due looked planned active progress can one hit effect of_hit (hit-rank hit effect of_hit member);
        after = acts-found rank theory new view tally change r t dirty agenda due looked planned active progress can one hit effect of_hit (seen-rank effect member) ∙ sym (then-seen effect member);
      }

  pub hits-read : AreReadAs view.table view.neighbours.rows (is_current_over rank view.points dirty) t view.entries.slots active active_then hits seen
  hits-read = each hits seen of_hits (λ effect member. member)
    where
      each : (hs : List Hit) (es : List Effect) → AreEffectsOf rank theory view.store.events hs es → ((effect : Effect) → IsMember es effect → IsMember seen effect)
          → AreReadAs view.table view.neighbours.rows (is_current_over rank view.points dirty) t view.entries.slots active active_then hs es
      each [] [] of member = tt
      each [] (e ∷ es) of member = absurd of
      each (h ∷ hs) [] of member = absurd of
      each (h ∷ hs) (e ∷ es) of member = (hit-read h e of.0 (member e (inl refl)), each hs es of.1 (λ f later. member f (inr later)))

  -- ---- what is found then

  pub looks-then : (after : Looked)
      → after.seen ≡ looked.seen + length hits
      → after.on ≡ looked.on + count_by (λ (turn : Turn). turn.up) (filter_map (turn_at (is_current_over rank view.points dirty) t view.entries.slots) hits)
      → after.off ≡ looked.off + count_by (λ (turn : Turn). not turn.up) (filter_map (turn_at (is_current_over rank view.points dirty) t view.entries.slots) hits)
      → LooksAt theory old new t seen found (found_by rank view.table dirty agenda after planned active_then)
  looks-then after more_seen more_on more_off = record {
    listed = seen-listed;
    evaluated = λ effect contained some.
        active_now-looked currency looked_at active effect
        (list_any-append (same_entry effect) seen (entries_at theory (events_only_in new old) t) ∙ ap (λ b. b || list_any (same_entry effect) (entries_at theory (events_only_in new old) t)) some);
    unseen = λ effect contained none.
        then-other effect none
        (none_of_added theory old new t effect
        (kept-has_event theory old new t effect (IsMember-from_contains (entries_at theory (kept_events old new) t) effect contained)).0);
    added = λ effect contained. then-added effect (IsMember-from_contains (entries_at theory (events_only_in new old) t) effect contained);
    elsewhere = then-elsewhere;
    seen_more = more_seen ∙ ap (λ n. looked.seen + n) (length-effects rank theory view.store.events hits seen of_hits);
    on_more = more_on
        ∙ ap (λ n. looked.on + n) (hits-on view.table view.neighbours.rows (is_current_over rank view.points dirty) t view.entries.slots active active_then hits seen hits-read);
    off_more = more_off
        ∙ ap (λ n. looked.off + n) (hits-off view.table view.neighbours.rows (is_current_over rank view.points dirty) t view.entries.slots active active_then hits seen hits-read);
  }
