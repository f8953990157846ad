-- What it takes to plan a change and to make it is within the work between the two lists.
use Rattle.std.proofs.Common.{◌≡◌, ◌≤◌, ◌+◌, ◌*◌, ℕ, ℤ, Bool, true, not, ◌||◌, ◌&&◌, List, [], ◌∷◌, length, map, filter, Some, IsTrue, IsFalse, refl, sym, ap, ap₂, subst, ◌∙◌, arith, length-append}
use Rattle.std.specs.Prelude.{flat_map, int_lt, nat_eq, nat_lt, option_map}
use Rattle.std.specs.List.{IsDistinct, list_any}
use Rattle.std.specs.Ordering.{int_eq}
use Rattle.std.proofs.lemmas.Bool.{eqb-true, false_from_ne_true}
use Rattle.std.proofs.lemmas.Cmp.{nat_eq_equiv}
use Rattle.std.proofs.lemmas.Grind.{flat_map-append}
use Rattle.std.proofs.lemmas.Int.{ints}
use Rattle.std.proofs.lemmas.List.{length-map}
use Rattle.std.proofs.lemmas.List.Elements.{All-contains}
use Rattle.std.proofs.lemmas.Map.Made.{length-le_from_is_member}
use Rattle.ec_lists.proofs.Filters.{filter-each, filter-map}
use Rattle.ec_rows.proofs.OrderedPairs.{IsPairwise-ascending}
use Rattle.ec_terms.specs.declared.theory.Theory.{Theory}
use Rattle.ec_terms.specs.Domain.{entries_of}
use Rattle.ec_axioms.specs.declared.event.Event.{Event}
use Rattle.ec_axioms.specs.Calculus.{PlainEvent, effects_of}
use Rattle.ec_axioms.specs.Changes.{change_counts, entry_count, events_only_in, has_event, kept_effects, kept_events, work_between}
use Rattle.ec_axioms.specs.Events.{event_of}
use Rattle.ec_axioms.proofs.Members.{Contains-from_member, IsMember, IsMember-filter, IsMember-from_contains, IsMember-from_map, IsMember-map, IsPairwise-map, IsPairwise-weaker, list_any-member, member-list_any}
use Rattle.ec_changes.proofs.DistinctLists.{IsDistinct-from_pairwise}
use Rattle.ec_context.specs.declared.entry.Entry.{Entry}
use Rattle.ec_context.specs.Entries.{shown_entries}
use Rattle.ec_context.proofs.Shown.{length-shown}
use Rattle.ec_store.specs.Store.{Kept, event_at, history_of, plain_of}
use Rattle.ec_store.specs.Table.{KeptProp}
use Rattle.ec_revise.specs.declared.change.Change.{Change}
use Rattle.ec_revise.specs.declared.change.Removal.{Removal}
use Rattle.ec_revise.specs.Change.{IsChange, entries_to_show, removal_before}
use Rattle.ec_engine.specs.Revise.{steps_between}
use Rattle.ec_sweep.proofs.Singles.{IsRemoved-of}

-- as many entries as the events have, once they are shown
length-entries : {T : Type 0} (rank : T → ℤ) (theory : Theory) (table : List KeptProp) (lists : List (List Entry)) (add : List (Event T)) → map (shown_entries table) lists ≡ map (entries_to_show theory) add
    → length (flat_map (λ entries. entries) lists) ≡ length (flat_map (effects_of theory) (map (event_of rank) add))
unfolding effects_of
length-entries rank theory table [] [] is = refl
length-entries rank theory table [] (e ∷ add) is = cc
length-entries rank theory table (list ∷ lists) [] is = cc
length-entries rank theory table (list ∷ lists) (e ∷ add) is =
    let first : shown_entries table list ≡ Some (entries_of theory e.term) = cc in
    let later : map (shown_entries table) lists ≡ map (entries_to_show theory) add = cc in
    length-append list (flat_map (λ entries. entries) lists)
    ∙ ap₂ (λ a b. a + b) (length-shown table list (entries_of theory e.term) first ∙ sym (length-map (entries_of theory e.term) (λ entry. record { event = event_of rank e; entry = entry })))
    (length-entries rank theory table lists add later)
    ∙ sym (length-append (effects_of theory (event_of rank e)) (flat_map (effects_of theory) (map (event_of rank) add)))

module _ {T : Type 0} (rank : T → ℤ) (theory : Theory) (table : List KeptProp) (events : List (Kept T)) (new : List PlainEvent) (change : Change T)
    (is : IsChange rank theory table events new change) where
  -- the entries are those of the events that come
  entries-counted : length (flat_map (λ entries. entries) change.entries) ≡ entry_count theory (events_only_in new (history_of rank events))
  unfolding entry_count
  entries-counted = length-entries rank theory table change.entries change.add is.entries ∙ ap (λ es. length (flat_map (effects_of theory) es)) is.added

  -- no slot is taken out twice
  slots-distinct : IsDistinct nat_eq (map (λ (removal : Removal T). removal.slot.0) change.remove)
  slots-distinct =
      IsDistinct-from_pairwise nat_eq _
      (IsPairwise-map (λ m n. IsFalse (nat_eq m n)) (λ (removal : Removal T). removal.slot.0) change.remove
      (IsPairwise-weaker (λ r s. IsTrue (removal_before rank r s)) (λ r s. IsFalse (nat_eq r.slot.0 s.slot.0)) change.remove
      (IsPairwise-ascending (removal_before rank) change.remove is.order) apart))
    where
      time_of : (removal : Removal T) → IsMember change.remove removal → option_map (λ (event : Event T). event.at) (event_at removal.slot events) ≡ Some removal.at
      time_of removal member =
          All-contains (λ (r : Removal T). option_map (λ (event : Event T). event.at) (event_at r.slot events) ≡ Some r.at) change.remove removal is.times (Contains-from_member change.remove removal member)

      one_time : (m n : ℕ) (a b : T) → m ≡ n → option_map (λ (event : Event T). event.at) (event_at (record { 0 = m }) events) ≡ Some a
          → option_map (λ (event : Event T). event.at) (event_at (record { 0 = n }) events) ≡ Some b → a ≡ b
      one_time m n a b same left right = cc

      none_before : (s : ℤ) (n : ℕ) → (int_lt s s || (int_eq s s && nat_lt n n)) ≡ true → ⊥
      none_before s n before = grind (arith, ints)

      apart : (r s : Removal T) → IsMember change.remove r → IsMember change.remove s → IsTrue (removal_before rank r s) → IsFalse (nat_eq r.slot.0 s.slot.0)
      apart r s left right before = false_from_ne_true (nat_eq r.slot.0 s.slot.0) (λ equal.
          let slot : r.slot.0 ≡ s.slot.0 = eqb-true r.slot.0 s.slot.0 equal in
          let at : r.at ≡ s.at = one_time r.slot.0 s.slot.0 r.at s.at slot (time_of r left) (time_of s right) in
          none_before (rank s.at) s.slot.0
          (subst (λ t. (int_lt (rank t) (rank s.at) || (int_eq (rank t) (rank s.at) && nat_lt s.slot.0 s.slot.0)) ≡ true) at
          (subst (λ n. (int_lt (rank r.at) (rank s.at) || (int_eq (rank r.at) (rank s.at) && nat_lt n s.slot.0)) ≡ true) slot before)))

  -- what is taken out are events of the old list alone
  removed-counted : length change.remove ≤ length (events_only_in (history_of rank events) new)
  unfolding events_only_in
  removed-counted =
      let gone : Kept T → Bool = λ kept. not (has_event new (plain_of rank kept)) in
      let number : Kept T → ℕ = λ kept. kept.0.0 in
      let xs = map (λ (removal : Removal T). removal.slot.0) change.remove in
      let ys = map number (filter gone events) in
      let least : length xs ≤ length ys = length-le_from_is_member nat_eq_equiv xs ys slots-distinct member in
      let all : length xs ≡ length change.remove = length-map change.remove (λ (removal : Removal T). removal.slot.0) in
      let some : length ys ≡ length (filter gone events) = length-map (filter gone events) number in
      let plain : length (filter (λ e. not (has_event new e)) (history_of rank events)) ≡ length (filter gone events) =
      ap length (filter-map (λ e. not (has_event new e)) (plain_of rank) events) ∙ length-map (filter gone events) (plain_of rank) in
      omega arith
    where
      member : (q : ℕ) → list_any (nat_eq q) (map (λ (removal : Removal T). removal.slot.0) change.remove) ≡ true
          → list_any (nat_eq q) (map (λ (kept : Kept T). kept.0.0) (filter (λ (kept : Kept T). not (has_event new (plain_of rank kept))) events)) ≡ true
      member q there =
          let found = list_any-member (nat_eq q) (map (λ (removal : Removal T). removal.slot.0) change.remove) there in
          let removal = IsMember-from_map (λ (removal : Removal T). removal.slot.0) change.remove found.0 found.1 in
          let removed = IsRemoved-of rank theory table events new change is removal.0 (Contains-from_member change.remove removal.0 removal.1) in
          let stays = IsMember-filter (λ (kept : Kept T). not (has_event new (plain_of rank kept))) events removed.kept (IsMember-from_contains events removed.kept removed.member) (ap not removed.gone) in
          member-list_any (nat_eq q) (map (λ (kept : Kept T). kept.0.0) (filter (λ (kept : Kept T). not (has_event new (plain_of rank kept))) events)) removed.kept.0.0
          (IsMember-map (λ (kept : Kept T). kept.0.0) (filter (λ (kept : Kept T). not (has_event new (plain_of rank kept))) events) removed.kept stays)
          (subst (λ n. nat_eq q n ≡ true) (sym (removed.slot ∙ removal.2)) found.2)

  -- what the change counts is within the steps between the two lists
  pub change-steps : 2 * (change_counts theory (history_of rank events) new).seen + length (flat_map (λ entries. entries) change.entries) + 2 * length change.remove
      ≤ steps_between theory (history_of rank events) new
  unfolding steps_between
  change-steps = let entries = entries-counted in let removed = removed-counted in omega arith

-- the steps between two lists are within three times the work
pub steps_between-work : (theory : Theory) (old new : List PlainEvent) → steps_between theory old new ≤ 3 * work_between theory old new
unfolding steps_between work_between entry_count
steps_between-work theory old new =
    let counted = ap length (flat_map-append (effects_of theory) (events_only_in old new) (events_only_in new old)) ∙ length-append (flat_map (effects_of theory) (events_only_in old new)) (flat_map (effects_of theory) (events_only_in new old)) in
    let single = length-append (events_only_in old new) (events_only_in new old) in
    omega arith

-- from no event on, they are the entries of the new list
pub steps_between-none : (theory : Theory) (new : List PlainEvent) → steps_between theory [] new ≤ entry_count theory new
unfolding steps_between change_counts kept_effects kept_events events_only_in has_event
steps_between-none theory new =
    let all : events_only_in new [] ≡ new = filter-each new in
    let same = ap (entry_count theory) all in
    omega arith
