-- Between the last visit and the next one nothing happens: a sweep has come up to just before the next visit with what it has found.
use Rattle.std.proofs.Common.{◌≡◌, ◌⊎◌, ◌≤ℤ◌, ◌<ℤ◌, ◌+ℤ◌, pos, ℕ, ℤ, true, false, List, Option, Some, None, IsTrue, refl, sym, ap, subst, ◌∙◌, ⊎_elim, arith}
use Rattle.std.specs.Prelude.{if◌then◌else◌, int_le, option_map, unwrap_or, is_some, IsSome, drop}
use Rattle.std.specs.List.{All, list_all, list_any}
use Rattle.std.specs.Option.{option_map_or}
use Rattle.std.specs.Ordering.{int_eq}
use Rattle.std.proofs.lemmas.Bool.{and_from, and_parts, eq-eqb, false_from_ne_true, or_cases}
use Rattle.std.proofs.lemmas.Int.{by_lt_z, ints}
use Rattle.std.proofs.lemmas.List.Elements.{All-contains, All-weaker}
use Rattle.ec_exclusive.specs.Forms.{breaks_by_initiation}
use Rattle.ec_lists.proofs.Finds.{find-none}
use Rattle.ec_lists.proofs.Integers.{int_eq-is, int_eq-same, int_le-is}
use Rattle.ec_lists.proofs.Options.{Some-from_is_some}
use Rattle.ec_lists.proofs.Booleans.{cases_or_three}
use Rattle.ec_terms.specs.declared.ground.Ground.{Ground}
use Rattle.ec_terms.specs.declared.theory.Theory.{Theory}
use Rattle.ec_axioms.specs.declared.event.Event.{Event}
use Rattle.ec_axioms.specs.Calculus.{PlainEvent}
use Rattle.ec_axioms.specs.Changes.{events_only_in}
use Rattle.ec_axioms.specs.Links.{is_live}
use Rattle.ec_axioms.specs.Marks.{mark_at}
use Rattle.ec_axioms.proofs.Members.{Contains-from_member, IsMember, IsMember-append_cases, filter_none, list_all-member, list_any-member, member-list_any}
use Rattle.ec_changes.specs.QuietLaws.{single_events}
use Rattle.ec_numbered.specs.Due.{Due, has_due, is_due}
use Rattle.ec_store.specs.Store.{Kept, event_at, history_of}
use Rattle.ec_points.specs.Changes.{change_at}
use Rattle.ec_parts.specs.declared.tally.Tally.{Tally}
use Rattle.ec_parts.specs.StandFor.{View}
use Rattle.ec_store.specs.Table.{KeptProp, is_in_order, prop_at, prop_of, term_at}
use Rattle.ec_delta.specs.declared.flips.Flip.{Flip}
use Rattle.ec_delta.specs.Ready.{initiation_at, mark_made}
use Rattle.ec_revise.specs.declared.change.Change.{Change}
use Rattle.ec_revise.specs.declared.change.Removal.{Removal}
use Rattle.ec_revise.specs.Sweep.{AreCompared, Found, Swept}
use Rattle.ec_revise.specs.SweepLaws.{HasNoVisit}
use Rattle.ec_revise.proofs.Passing.{SweepPasses-law}
use Rattle.ec_sweep.specs.declared.sweep.Sweep.{Sweep}
use Rattle.ec_sweep.specs.State.{IsPlannedUpTo, IsProgress, IsUnderway, ShowsActivity, found_by, keeps}
use Rattle.ec_sweep.specs.Sweeping.{IsSweptUpTo, NothingLeftBefore, has_visit_at}
use Rattle.ec_sweep.proofs.ChangeTimes.{addition_of, additions_ascend, removal_of, removals_ascend}
use Rattle.ec_sweep.proofs.Gaps.{counted-between, key-apart, key-behind}
use Rattle.ec_sweep.proofs.KeptTerms.{prop_of-term_at}

-- what is due is due no earlier than all that is due
pub due-later : {T : Type 0} (rank : T → ℤ) (agenda : List (Due T)) (t : ℤ) → list_all (λ (due : Due T). int_le t (rank due.0)) agenda ≡ true
    → (n : ℕ) (u : ℤ) → IsTrue (has_due rank u n agenda) → t ≤ℤ u
due-later {T} rank agenda t first n u due =
    let found = list_any-member (is_due rank u n) agenda due in
    let here : rank found.0.0 ≡ u = int_eq-is (rank found.0.0) u (and_parts _ _ found.2).0 in
    subst (λ v. t ≤ℤ v) here (int_le-is t (rank found.0.0) (list_all-member (λ (d : Due T). int_le t (rank d.0)) agenda found.0 first found.1))

-- the two lists are histories, and what is live in one is kept
pub compared : {T : Type 0} (rank : T → ℤ) (theory : Theory) (new : List PlainEvent) (view : View T) (tally : Tally) (change : Change T)
    → IsUnderway rank theory new view tally change → AreCompared theory (history_of rank view.store.events) new (keeps view.table)
compared rank theory new view tally change underway = record {
  old_history = underway.both.caches.history;
  new_history = underway.change_is.history;
  live = λ p live.
      ⊎_elim (λ in_old. underway.both.live p in_old) (λ in_new. underway.both.tables.kept.live p in_new)
      (or_cases (is_live theory (history_of rank view.store.events) p) (is_live theory new p) live);
}

module _ {T : Type 0} (rank : T → ℤ) (theory : Theory) (new : List PlainEvent) (view : View T) (tally : Tally) (change : Change T) (sweep : Sweep T) (r s t : ℤ)
    (order : is_in_order view.table ≡ true) (slots : All (λ (kept : Kept T). event_at kept.0 view.store.events ≡ Some kept.1) view.store.events)
    (underway : IsUnderway rank theory new view tally change) (found : IsSweptUpTo rank theory new view change sweep r)
    (first : NothingLeftBefore rank change sweep.progress sweep.agenda t) (there : has_visit_at rank change sweep.progress sweep.agenda t ≡ true) (next : t ≡ s +ℤ pos 1) where
  abbrev old : List PlainEvent
  old = history_of rank view.store.events

  abbrev before : Found
  before = found_by rank view.table sweep.dirty sweep.agenda sweep.looked sweep.planned found.active

  abbrev removed_at : Removal T → ℤ
  removed_at removal = rank removal.at

  abbrev added_at : Event T → ℤ
  added_at event = rank event.at

  -- what is due is due behind the last visit
  due_behind : (due : Due T) → IsMember sweep.agenda due → rank due.0 ≡ t → r <ℤ t
  due_behind due member here =
      let kept = Some-from_is_some (prop_at due.1.0 view.table)
      (All-contains (λ (d : Due T). IsSome (prop_at d.1.0 view.table) × IsTrue (list_any (λ e. int_eq e.rank (rank d.0)) old)) sweep.agenda due found.due_of
      (Contains-from_member sweep.agenda due member)).0 in
      let number : prop_of kept.0.term view.table ≡ Some due.1.0 = prop_of-term_at view.table due.1.0 kept.0.term order (ap (option_map (λ (k : KeptProp). k.term)) kept.1) in
      let is : has_due rank t due.1.0 sweep.agenda ≡ true =
      member-list_any (is_due rank t due.1.0) sweep.agenda due member
      (and_from _ _ (subst (λ u. int_eq (rank due.0) u ≡ true) here (int_eq-same (rank due.0))) (eq-eqb due.1.0 due.1.0 refl)) in
      found.swept.ahead kept.0.term t (ap (λ o. option_map_or (λ id. has_due rank t id sweep.agenda) o false) number ∙ is)

  removals : (removal : Removal T) → IsMember (drop sweep.progress.removed change.remove) removal → r <ℤ rank removal.at
  removals = key-behind removed_at r change.remove sweep.progress.removed (removals_ascend rank theory view.table view.store.events new change underway.change_is) found.progress_is.removed_by

  additions : (event : Event T) → IsMember (drop sweep.progress.added change.add) event → r <ℤ rank event.at
  additions = key-behind added_at r change.add sweep.progress.added (additions_ascend rank theory view.table view.store.events new change underway.change_is) found.progress_is.added_by

  -- so the next visit is behind it
  pub behind : r <ℤ t
  behind =
      ⊎_elim
      (λ some.
      let due = list_any-member (λ (d : Due T). int_eq (rank d.0) t) sweep.agenda some in due_behind due.0 due.1 (int_eq-is (rank due.0.0) t due.2))
      (λ single.
      ⊎_elim
      (λ some.
      let removal = list_any-member (λ (x : Removal T). int_eq (rank x.at) t) (drop sweep.progress.removed change.remove) some in
      subst (λ u. r <ℤ u) (int_eq-is (rank removal.0.at) t removal.2) (removals removal.0 removal.1))
      (λ some.
      let event = list_any-member (λ (x : Event T). int_eq (rank x.at) t) (drop sweep.progress.added change.add) some in
      subst (λ u. r <ℤ u) (int_eq-is (rank event.0.at) t event.2) (additions event.0 event.1))
      single)
      (cases_or_three _ _ _ there)

  up_to : r ≤ℤ s
  up_to = omega (arith, ints, behind, next)

  short_of : s <ℤ t
  short_of = omega (arith, ints, next)

  -- no removed event is between, and no added one
  removal_apart : (removal : Removal T) → IsMember change.remove removal → (rank removal.at ≤ℤ r) ⊎ (t ≤ℤ rank removal.at)
  removal_apart =
      key-apart removed_at r t change.remove sweep.progress.removed (removals_ascend rank theory view.table view.store.events new change underway.change_is) found.progress_is.removed_by first.removed

  addition_apart : (event : Event T) → IsMember change.add event → (rank event.at ≤ℤ r) ⊎ (t ≤ℤ rank event.at)
  addition_apart =
      key-apart added_at r t change.add sweep.progress.added (additions_ascend rank theory view.table view.store.events new change underway.change_is) found.progress_is.added_by first.added

  -- so no event of one list alone is
  single_apart : (e : PlainEvent) → IsMember (single_events old new) e → (e.rank ≤ℤ r) ⊎ (t ≤ℤ e.rank)
  single_apart e member =
      ⊎_elim
      (λ removed.
      let removal = removal_of rank theory view.table view.store.events new change underway.change_is slots e removed in
      subst (λ u. (u ≤ℤ r) ⊎ (t ≤ℤ u)) removal.2 (removal_apart removal.0 removal.1))
      (λ added.
      let event = addition_of rank theory view.table view.store.events new change underway.change_is e added in
      subst (λ u. (u ≤ℤ r) ⊎ (t ≤ℤ u)) event.2 (addition_apart event.0 event.1))
      (IsMember-append_cases (events_only_in old new) (events_only_in new old) e member)

  elsewhere : (e : PlainEvent) (u : ℤ) → r <ℤ u → u ≤ℤ s → IsMember (single_events old new) e → int_eq e.rank u ≡ false
  elsewhere e u after within member =
      false_from_ne_true (int_eq e.rank u)
      (λ same.
      let here : e.rank ≡ u = int_eq-is e.rank u same in
      ⊎_elim (λ early. absurd (omega (arith, ints, here, early, after))) (λ late. absurd (omega (arith, ints, here, late, within, next))) (single_apart e member))

  -- nothing is due between
  none_due : (o : Option ℕ) (u : ℤ) → u ≤ℤ s → option_map_or (λ id. has_due rank u id sweep.agenda) o false ≡ false
  none_due None u within = refl
  none_due (Some id) u within =
      false_from_ne_true (has_due rank u id sweep.agenda)
      (λ due. let later : t ≤ℤ u = due-later rank sweep.agenda t first.due id u due in absurd (omega (arith, ints, later, within, next)))

  free : HasNoVisit old new before r s
  free = record {
    same_events = λ u after within. filter_none (λ e. int_eq e.rank u) (single_events old new) (λ e member. elsewhere e u after within member);
    not_due = λ p u after within. none_due (prop_of p view.table) u within;
  }

  swept : Swept theory old new (keeps view.table) s before
  swept = SweepPasses-law theory old new (keeps view.table) r s before (compared rank theory new view tally change underway) found.swept up_to free

  -- what is shown of entries, and planned
  shows : ShowsActivity rank theory view change sweep.looked s found.active
  shows = record {
    stored = found.shows.stored;
    added = found.shows.added;
    whole = found.shows.whole;
    stored_whole = found.shows.stored_whole;
    flipped = All-weaker (λ (flip : Flip). (event : Event T) × (event_at flip.slot view.store.events ≡ Some event) × (rank event.at ≤ℤ r))
        (λ (flip : Flip). (event : Event T) × (event_at flip.slot view.store.events ≡ Some event) × (rank event.at ≤ℤ s))
        (λ flip is. (is.0, is.1, later (rank is.0.at) is.2)) sweep.looked.flips found.shows.flipped;
    stayed = found.shows.stayed;
    apart = found.shows.apart;
    bits = found.shows.bits ∙ counted-between added_at r s t change.add up_to short_of addition_apart;
  }
    where
      later : (u : ℤ) → u ≤ℤ r → u ≤ℤ s
      later u early = omega (arith, ints, early, up_to)

  progress : IsProgress rank change s sweep.progress
  progress = record {
    removed_by = found.progress_is.removed_by ∙ counted-between removed_at r s t change.remove up_to short_of removal_apart;
    added_by = found.progress_is.added_by ∙ counted-between added_at r s t change.add up_to short_of addition_apart;
  }

  -- the marks between are the same in both lists
  same_mark : (p : Ground) (u : ℤ) → IsTrue (keeps view.table p) → r <ℤ u → u ≤ℤ s → mark_at theory old p u ≡ mark_at theory new p u
  same_mark p u kept after within = sym (ap (λ o. unwrap_or o (mark_at theory old p u)) (found.swept.none_planned p u after)) ∙ swept.marks p u kept within

  initiations : (id : ℕ) (p : Ground) (u : ℤ) → term_at id view.table ≡ Some p → u ≤ℤ s
      → mark_made rank (change_at rank id u sweep.planned.initiations) (initiation_at theory old p u) ≡ initiation_at theory new p u
  initiations id p u kept within =
      by_lt_z r u
      (λ after.
      let none : change_at rank id u sweep.planned.initiations ≡ None = find-none _ sweep.planned.initiations (found.planned_up_to.not_yet id u after) in
      ap (λ o. mark_made rank o (initiation_at theory old p u)) none
      ∙ ap (λ mark. record { instant = u; inits = if breaks_by_initiation theory p then mark.inits else 0; terms = 0; clashes = 0 })
      (same_mark p u (ap is_some (prop_of-term_at view.table id p order kept)) after within))
      (λ early. found.planned_up_to.initiations id p u kept early)

  planned_up_to : IsPlannedUpTo rank theory old new view sweep.planned s
  planned_up_to = record {
    initiations = initiations;
    not_yet = λ id u after. found.planned_up_to.not_yet id u (omega (arith, ints, after, up_to));
    none_yet = λ id u after. found.planned_up_to.none_yet id u (omega (arith, ints, after, up_to));
    of_kept = found.planned_up_to.of_kept;
    starts_of_kept = found.planned_up_to.starts_of_kept;
    windows = found.planned_up_to.windows;
    so_far = λ id touched at. let early = found.planned_up_to.so_far id touched at in omega (arith, ints, early, up_to);
  }

  -- it has come up to just before the next visit
  pub IsSweptUpTo-next : IsSweptUpTo rank theory new view change sweep s
  IsSweptUpTo-next = record {
    active = found.active;
    swept = swept;
    shows = shows;
    progress_is = progress;
    planned_up_to = planned_up_to;
    due_of = found.due_of;
  }
