-- A sweep that is through has found all: what it planned makes the caches those of the new list.
use Rattle.std.proofs.lemmas.Int.{by_lt_z, ints}
use Rattle.std.proofs.Common.{◌≡◌, ◌≤ℤ◌, ◌+ℤ◌, pos, ℕ, ℤ, Bool, true, false, not, List, [], Option, Some, None, IsTrue, IsFalse, option_map, length, filter, refl, sym, ap, subst, ◌∙◌, ⊎_elim, arith}
use Rattle.std.specs.Prelude.{if◌then◌else◌, Contains, IsSome, int_le, drop, slice_get, unwrap_or, is_some, option_and_then}
use Rattle.std.specs.List.{All, list_all}
use Rattle.std.specs.Option.{option_map_or}
use Rattle.std.specs.Ordering.{int_eq}
use Rattle.std.proofs.lemmas.Bool.{false_from_ne_true}
use Rattle.std.proofs.lemmas.List.Elements.{All-weaker}
use Rattle.ec_exclusive.specs.Forms.{breaks_by_initiation}
use Rattle.ec_lists.proofs.Integers.{int_eq-is, int_eq-same, int_le-from}
use Rattle.ec_terms.specs.declared.ids.Slot.{Slot}
use Rattle.ec_terms.specs.declared.ground.Ground.{Ground}
use Rattle.ec_terms.specs.declared.theory.Theory.{Theory}
use Rattle.ec_axioms.specs.declared.event.Event.{Event}
use Rattle.ec_axioms.specs.Calculus.{PlainEvent, Effect, effects_of, intervals_of, is_active, is_current}
use Rattle.ec_axioms.specs.Changes.{events_only_in, has_event}
use Rattle.ec_axioms.specs.Events.{event_of}
use Rattle.ec_axioms.specs.Marks.{PlainMark, mark_at}
use Rattle.ec_axioms.specs.Plain.{events_at}
use Rattle.ec_axioms.proofs.Members.{Contains-from_member, IsMember, IsMember-append_cases, IsMember-filter, IsMember-from_filter, IsMember-map, filter_all, filter_none, IsMember-slice_get}
use Rattle.ec_numbered.specs.Due.{has_due}
use Rattle.ec_changes.specs.Differences.{entries_at}
use Rattle.ec_changes.specs.QuietLaws.{single_events}
use Rattle.ec_changes.proofs.JoinedMembers.{IsMember-flat_map}
use Rattle.ec_changes.proofs.KeptEvents.{IsMember-from_has_event}
use Rattle.ec_store.specs.Store.{Kept, event_at, history_of}
use Rattle.ec_numbered.specs.ByNumber.{kept_at}
use Rattle.ec_parts.specs.declared.tally.Tally.{Tally}
use Rattle.ec_parts.specs.Activity.{AreActiveBits, is_active_at, is_bit_set}
use Rattle.ec_parts.specs.StandFor.{View}
use Rattle.ec_points.specs.Changes.{Change as MarkChange, change_at}
use Rattle.ec_store.specs.Table.{is_in_order, prop_of, term_at}
use Rattle.ec_rows.specs.PlainMarks.{plain_mark}
use Rattle.ec_revise.specs.declared.change.Change.{Change}
use Rattle.ec_revise.specs.declared.change.Removal.{Removal}
use Rattle.ec_revise.specs.Sweep.{Found}
use Rattle.ec_revise.specs.SweepLaws.{FoundAll, HasNoVisit}
use Rattle.ec_revise.proofs.Ending.{SweepEnds-law}
use Rattle.ec_delta.specs.declared.flips.Flip.{Flip}
use Rattle.ec_delta.specs.Looked.{active_found}
use Rattle.ec_delta.specs.Ready.{initiation_at, mark_made}
use Rattle.ec_delta.specs.Touched.{matters_at}
use Rattle.ec_sweep.specs.declared.sweep.Sweep.{Sweep}
use Rattle.ec_sweep.specs.Planned.{IsPlanned}
use Rattle.ec_sweep.specs.State.{IsUnderway, found_by, keeps}
use Rattle.ec_sweep.specs.Sweeping.{IsSweeping, NothingLeft}
use Rattle.ec_sweep.proofs.ChangeTimes.{addition_of, additions_ascend, removal_of, removals_ascend}
use Rattle.ec_sweep.proofs.Gaps.{ascends_by, key-apart}
use Rattle.ec_sweep.proofs.KeptTerms.{prop_of-term_at}
use Rattle.ec_sweep.proofs.NextInstant.{compared}
use Rattle.ec_sweep.proofs.OwnChanges.{change_at-none}

-- where nothing of an ordered list is left behind those up to r, all are up to r
all_within : {X : Type 0} (key : X → ℤ) (r : ℤ) (xs : List X) (n : ℕ) → ascends_by key xs ≡ true → n ≡ length (filter (λ x. int_le (key x) r) xs) → drop n xs ≡ []
    → (x : X) → IsMember xs x → key x ≤ℤ r
all_within key r xs n ascending is none x member =
    ⊎_elim
    (λ within. within)
    (λ beyond. absurd (omega (arith, ints, beyond)))
    (key-apart key r (key x +ℤ pos 1) xs n ascending is (subst (λ ys. list_all (λ y. int_le (key x +ℤ pos 1) (key y)) ys ≡ true) (sym none) refl) x member)

-- a mark that is made at a place, as it is found
mark_made-found : {T : Type 0} (rank : T → ℤ) (o : Option (MarkChange T)) (old : PlainMark) → mark_made rank o old ≡ unwrap_or (option_map (λ (c : MarkChange T). plain_mark rank c.1) o) old
mark_made-found rank None old = refl
mark_made-found rank (Some c) old = refl

entry_at_time : (theory : Theory) (events : List PlainEvent) (e : PlainEvent) (effect : Effect) → IsMember events e → IsMember (effects_of theory e) effect
    → Contains (entries_at theory events e.rank) effect
entry_at_time theory events e effect member entry =
    Contains-from_member (entries_at theory events e.rank) effect
    (IsMember-flat_map (effects_of theory) (events_at e.rank events) e effect
    (IsMember-filter (λ f. int_eq f.rank e.rank) events e member (int_eq-same e.rank)) entry)

-- bits are those of a list, where each says so and none is set beyond the entries
AreActiveBits-from : (theory : Theory) (events : List PlainEvent) (e : PlainEvent) (word : ℕ)
    → ((k : ℕ) (effect : Effect) → slice_get (effects_of theory e) k ≡ Some effect → is_bit_set word k ≡ is_active (is_current theory events) effect)
    → ((k : ℕ) → slice_get (effects_of theory e) k ≡ None → is_bit_set word k ≡ false) → AreActiveBits theory (is_current theory events) e word
AreActiveBits-from theory events e word each none k = of (slice_get (effects_of theory e) k) refl
  where
    of : (o : Option Effect) → slice_get (effects_of theory e) k ≡ o → is_bit_set word k ≡ is_active_at theory (is_current theory events) e k
    of None is = none k is ∙ sym (ap (λ o. option_map_or (is_active (is_current theory events)) o false) is)
    of (Some effect) is = each k effect is ∙ sym (ap (λ o. option_map_or (is_active (is_current theory events)) o false) is)

module _ {T : Type 0} (rank : T → ℤ) (theory : Theory) (new : List PlainEvent) (view : View T) (tally : Tally) (change : Change T) (sweep : Sweep T)
    (order : is_in_order view.table ≡ true) (slots : All (λ (kept : Kept T). event_at kept.0 view.store.events ≡ Some kept.1) view.store.events)
    (underway : IsUnderway rank theory new view tally change) (sweeping : IsSweeping rank theory new view change sweep)
    (left : NothingLeft change sweep.progress sweep.agenda) where
  abbrev old : List PlainEvent
  old = history_of rank view.store.events

  abbrev r : ℤ
  r = sweeping.r

  abbrev active : Effect → Bool
  active = sweeping.found.active

  abbrev found : Found
  found = found_by rank view.table sweep.dirty sweep.agenda sweep.looked sweep.planned active

  removed_within : (removal : Removal T) → IsMember change.remove removal → rank removal.at ≤ℤ r
  removed_within =
      all_within (λ (removal : Removal T). rank removal.at) r change.remove sweep.progress.removed
      (removals_ascend rank theory view.table view.store.events new change underway.change_is) sweeping.found.progress_is.removed_by left.removed

  added_within : (event : Event T) → IsMember change.add event → rank event.at ≤ℤ r
  added_within =
      all_within (λ (event : Event T). rank event.at) r change.add sweep.progress.added
      (additions_ascend rank theory view.table view.store.events new change underway.change_is) sweeping.found.progress_is.added_by left.added

  -- an event of one list alone is not behind r
  single_within : (e : PlainEvent) → IsMember (single_events old new) e → e.rank ≤ℤ r
  single_within e member =
      ⊎_elim
      (λ removed.
      let removal = removal_of rank theory view.table view.store.events new change underway.change_is slots e removed in
      subst (λ t. t ≤ℤ r) removal.2 (removed_within removal.0 removal.1))
      (λ added.
      let event = addition_of rank theory view.table view.store.events new change underway.change_is e added in
      subst (λ t. t ≤ℤ r) event.2 (added_within event.0 event.1))
      (IsMember-append_cases (events_only_in old new) (events_only_in new old) e member)

  ended : (s : ℤ) → HasNoVisit old new found r s
  ended s = record {
    same_events = λ t after within.
        filter_none (λ (e : PlainEvent). int_eq e.rank t) (single_events old new)
        (λ e member.
        let early = single_within e member in
        false_from_ne_true (int_eq e.rank t) (λ same. let here = int_eq-is e.rank t same in absurd (omega (arith, ints, early, here, after))));
    not_due = λ p t after within. none_due t (prop_of p view.table);
  }
    where
      none_due : (t : ℤ) (o : Option ℕ) → option_map_or (λ id. has_due rank t id sweep.agenda) o false ≡ false
      none_due t None = refl
      none_due t (Some id) = ap (has_due rank t id) left.due

  -- all is found
  pub all : FoundAll theory old new (keeps view.table) found
  all = SweepEnds-law theory old new (keeps view.table) r found (compared rank theory new view tally change underway) sweeping.found.swept ended

  -- ---- by number

  module _ (id : ℕ) (p : Ground) (kept : term_at id view.table ≡ Some p) where
    number : prop_of p view.table ≡ Some id
    number = prop_of-term_at view.table id p order kept

    keeps_it : IsTrue (keeps view.table p)
    keeps_it = ap is_some number

    planned_is : (t : ℤ) → found.planned p t ≡ option_map (λ (c : MarkChange T). plain_mark rank c.1) (change_at rank id t sweep.planned.marks)
    planned_is t = ap (option_and_then (λ n. option_map (λ (c : MarkChange T). plain_mark rank c.1) (change_at rank n t sweep.planned.marks))) number

    marks : (t : ℤ) → mark_made rank (change_at rank id t sweep.planned.marks) (mark_at theory old p t) ≡ mark_at theory new p t
    marks t =
        mark_made-found rank (change_at rank id t sweep.planned.marks) (mark_at theory old p t)
        ∙ ap (λ o. unwrap_or o (mark_at theory old p t)) (sym (planned_is t)) ∙ all.marks p t keeps_it

    initiations : (t : ℤ) → mark_made rank (change_at rank id t sweep.planned.initiations) (initiation_at theory old p t) ≡ initiation_at theory new p t
    initiations t =
        by_lt_z r t
        (λ behind.
        ap (λ o. mark_made rank o (initiation_at theory old p t)) (change_at-none rank id t sweep.planned.initiations (sweeping.found.planned_up_to.not_yet id t behind))
        ∙ ap (λ (mark : PlainMark). record { instant = t; inits = if breaks_by_initiation theory p then mark.inits else 0; terms = 0; clashes = 0 })
        (sym (ap (λ o. unwrap_or o (mark_at theory old p t)) (sweeping.found.swept.none_planned p t behind)) ∙ all.marks p t keeps_it))
        (λ within. sweeping.found.planned_up_to.initiations id p t kept within)

    unmoved : IsFalse (matters_at id sweep.planned.touched) → intervals_of theory old p ≡ intervals_of theory new p
    unmoved not_moved = (all.intervals p keeps_it (ap (λ o. option_map_or (λ n. matters_at n sweep.planned.touched) o false) number ∙ not_moved)).intervals

  -- ---- entries

  added_new : (event : Event T) → IsMember change.add event → IsMember new (event_of rank event)
  unfolding events_only_in
  added_new event member =
      (IsMember-from_filter (λ e. not (has_event old e)) new (event_of rank event)
      (subst (λ es. IsMember es (event_of rank event)) underway.change_is.added (IsMember-map (event_of rank) change.add event member))).0

  active_new : (e : PlainEvent) (k : ℕ) (effect : Effect) → IsMember new e → slice_get (effects_of theory e) k ≡ Some effect → active effect ≡ is_active (is_current theory new) effect
  active_new e k effect member is = all.active effect e.rank (entry_at_time theory new e effect member (IsMember-slice_get (effects_of theory e) k effect is))

  each_added : length sweep.looked.bits ≡ length change.add
  each_added =
      sweeping.found.shows.bits
      ∙ ap length (filter_all (λ (event : Event T). int_le (rank event.at) r) change.add (λ event member. int_le-from (rank event.at) r (added_within event member)))

  added_bits : (i word : ℕ) (event : Event T) → slice_get change.add i ≡ Some event → slice_get sweep.looked.bits i ≡ Some word
      → AreActiveBits theory (is_current theory new) (event_of rank event) word
  added_bits i word event is bits =
      AreActiveBits-from theory new (event_of rank event) word
      (λ k effect there.
      sym (sweeping.found.shows.added i word k event effect is bits there)
      ∙ active_new (event_of rank event) k effect (added_new event (IsMember-slice_get change.add i event is)) there)
      (λ k none. sweeping.found.shows.whole i word k event is bits none)

  stayed_bits : (slot : Slot) (event : Event T) → event_at slot view.store.events ≡ Some event → IsTrue (has_event new (event_of rank event))
      → AreActiveBits theory (is_current theory new) (event_of rank event) (active_found slot sweep.looked.flips (kept_at slot.0 view.entries.slots))
  stayed_bits slot event there stays =
      AreActiveBits-from theory new (event_of rank event) (active_found slot sweep.looked.flips (kept_at slot.0 view.entries.slots))
      (λ k effect is.
      sym (sweeping.found.shows.stored slot event k effect there is)
      ∙ active_new (event_of rank event) k effect (IsMember-from_has_event new (event_of rank event) stays) is)
      (λ k none. sweeping.found.shows.stored_whole slot event k there none)

  -- what is planned makes the caches those of the new list
  pub IsPlanned-through : IsPlanned rank theory new view change sweep.looked sweep.planned
  IsPlanned-through = record {
    change_is = underway.change_is;
    bits = record {
      added = record { each = each_added; active = added_bits };
      stayed = stayed_bits;
      of_events = All-weaker (λ (flip : Flip). (event : Event T) × (event_at flip.slot view.store.events ≡ Some event) × (rank event.at ≤ℤ r)) (λ (flip : Flip). IsSome (event_at flip.slot view.store.events))
          (λ flip is. ap is_some is.1) sweep.looked.flips sweeping.found.shows.flipped;
      not_removed = sweeping.found.shows.stayed;
      apart = sweeping.found.shows.apart;
    };
    marks = record {
      marks = λ id p t kept. marks id p kept t;
      initiations = λ id p t kept. initiations id p kept t;
      of_kept = sweeping.found.planned_up_to.of_kept;
      starts_of_kept = sweeping.found.planned_up_to.starts_of_kept;
    };
    windows = sweeping.found.planned_up_to.windows;
    unmoved = λ id p kept not_moved. unmoved id p kept not_moved;
    seen = all.seen;
    on = all.on;
    off = all.off;
  }
