-- Each visit leaves fewer events behind it.
use Rattle.std.proofs.lemmas.Int.{ints}
use Rattle.std.proofs.Common.{zero, suc, ◌≡◌, ◌<◌, ◌≤◌, ◌<ℤ◌, ℕ, ℤ, true, false, List, [], ◌∷◌, Option, Some, None, IsTrue, length, filter, refl, sym, ap, subst, ◌∙◌, inr, ⊎_elim, arith}
use Rattle.std.specs.Prelude.{IsSome, int_lt, drop}
use Rattle.std.specs.List.{list_any}
use Rattle.std.specs.Ordering.{int_eq}
use Rattle.std.proofs.lemmas.List.Elements.{All-contains}
use Rattle.ec_lists.proofs.Filters.{length-filter_wider}
use Rattle.ec_lists.proofs.Integers.{int_eq-is, int_lt-from, int_lt-is, int_lt-same}
use Rattle.ec_lists.proofs.Booleans.{cases_or_three}
use Rattle.ec_terms.specs.declared.theory.Theory.{Theory}
use Rattle.ec_axioms.specs.declared.event.Event.{Event}
use Rattle.ec_axioms.specs.Calculus.{PlainEvent}
use Rattle.ec_axioms.proofs.Members.{Contains-from_member, IsMember, IsMember-from_contains, IsMember-from_map, list_any-member, length-filter_fewer}
use Rattle.ec_numbered.specs.Due.{Due}
use Rattle.ec_store.specs.Store.{Kept, history_of, plain_of}
use Rattle.ec_points.specs.Clashes.{is_behind}
use Rattle.ec_parts.specs.declared.tally.Tally.{Tally}
use Rattle.ec_parts.specs.StandFor.{View}
use Rattle.ec_store.specs.Table.{prop_at}
use Rattle.ec_revise.specs.declared.change.Change.{Change}
use Rattle.ec_revise.specs.declared.change.Removal.{Removal}
use Rattle.ec_sweep.specs.declared.sweep.Sweep.{Sweep}
use Rattle.ec_sweep.specs.State.{IsUnderway}
use Rattle.ec_sweep.specs.Sweeping.{IsLast, IsSweptUpTo, has_visit_at, left_behind}
use Rattle.ec_sweep.proofs.Singles.{IsRemoved-of}

-- what is left of a list behind a place is of the list
IsMember-drop : {X : Type 0} (n : ℕ) (xs : List X) (x : X) → IsMember (drop n xs) x → IsMember xs x
IsMember-drop zero xs x member = member
IsMember-drop (suc n) [] x member = member
IsMember-drop (suc n) (y ∷ xs) x member = inr (IsMember-drop n xs x member)

module _ {T : Type 0} (rank : T → ℤ) (theory : Theory) (new : List PlainEvent) (view : View T) (tally : Tally) (change : Change T) (sweep : Sweep T) (r : ℤ) (at : T)
    (underway : IsUnderway rank theory new view tally change) (last : IsLast rank sweep.last r) (found : IsSweptUpTo rank theory new view change sweep r)
    (there : has_visit_at rank change sweep.progress sweep.agenda (rank at) ≡ true) (behind : r <ℤ rank at) where
  -- behind the visit is behind the last one
  wider : (o : Option T) → IsLast rank o r → (u : ℤ) → int_lt (rank at) u ≡ true → is_behind rank o u ≡ true
  wider None is u later = refl
  wider (Some a) is u later = let far = int_lt-is (rank at) u later in int_lt-from (rank a) u (omega (arith, ints, is, behind, far))

  -- and so is the visit
  here : (o : Option T) → IsLast rank o r → is_behind rank o (rank at) ≡ true
  here None is = refl
  here (Some a) is = int_lt-from (rank a) (rank at) (omega (arith, ints, is, behind))

  abbrev stored : Option T → List (Kept T)
  stored o = filter (λ (kept : Kept T). is_behind rank o (rank kept.1.at)) view.store.events

  abbrev added : Option T → List (Event T)
  added o = filter (λ (event : Event T). is_behind rank o (rank event.at)) change.add

  stored_no_more : length (stored (Some at)) ≤ length (stored sweep.last)
  stored_no_more =
      length-filter_wider (λ (kept : Kept T). is_behind rank (Some at) (rank kept.1.at)) (λ (kept : Kept T). is_behind rank sweep.last (rank kept.1.at))
      (λ kept. wider sweep.last last (rank kept.1.at)) view.store.events

  added_no_more : length (added (Some at)) ≤ length (added sweep.last)
  added_no_more =
      length-filter_wider (λ (event : Event T). is_behind rank (Some at) (rank event.at)) (λ (event : Event T). is_behind rank sweep.last (rank event.at))
      (λ event. wider sweep.last last (rank event.at)) change.add

  -- an event of the store at the visit
  stored_fewer : (kept : Kept T) → IsMember view.store.events kept → rank kept.1.at ≡ rank at → length (stored (Some at)) < length (stored sweep.last)
  stored_fewer kept member same =
      length-filter_fewer (λ (k : Kept T). is_behind rank sweep.last (rank k.1.at)) (λ (k : Kept T). is_behind rank (Some at) (rank k.1.at)) view.store.events kept
      (λ k. wider sweep.last last (rank k.1.at)) member (subst (λ u. is_behind rank sweep.last u ≡ true) (sym same) (here sweep.last last))
      (subst (λ u. int_lt (rank at) u ≡ false) (sym same) (int_lt-same (rank at)))

  -- an added event at the visit
  added_fewer : (event : Event T) → IsMember change.add event → rank event.at ≡ rank at → length (added (Some at)) < length (added sweep.last)
  added_fewer event member same =
      length-filter_fewer (λ (e : Event T). is_behind rank sweep.last (rank e.at)) (λ (e : Event T). is_behind rank (Some at) (rank e.at)) change.add event
      (λ e. wider sweep.last last (rank e.at)) member (subst (λ u. is_behind rank sweep.last u ≡ true) (sym same) (here sweep.last last))
      (subst (λ u. int_lt (rank at) u ≡ false) (sym same) (int_lt-same (rank at)))

  by_stored : length (stored (Some at)) < length (stored sweep.last) → left_behind rank view.store.events change.add (Some at) < left_behind rank view.store.events change.add sweep.last
  by_stored fewer = let no_more = added_no_more in omega (arith, fewer, no_more)

  by_added : length (added (Some at)) < length (added sweep.last) → left_behind rank view.store.events change.add (Some at) < left_behind rank view.store.events change.add sweep.last
  by_added fewer = let no_more = stored_no_more in omega (arith, fewer, no_more)

  pub left_behind-less : left_behind rank view.store.events change.add (Some at) < left_behind rank view.store.events change.add sweep.last
  left_behind-less =
      ⊎_elim
      (λ some.
      let due = list_any-member (λ (d : Due T). int_eq (rank d.0) (rank at)) sweep.agenda some in
      let event = list_any-member (λ (e : PlainEvent). int_eq e.rank (rank due.0.0)) (history_of rank view.store.events)
      (All-contains (λ (d : Due T). IsSome (prop_at d.1.0 view.table) × IsTrue (list_any (λ (e : PlainEvent). int_eq e.rank (rank d.0)) (history_of rank view.store.events))) sweep.agenda due.0 found.due_of
      (Contains-from_member sweep.agenda due.0 due.1)).1 in
      let kept = IsMember-from_map (plain_of rank) view.store.events event.0 event.1 in
      by_stored
      (stored_fewer kept.0 kept.1
      (ap (λ (e : PlainEvent). e.rank) kept.2 ∙ int_eq-is event.0.rank (rank due.0.0) event.2 ∙ int_eq-is (rank due.0.0) (rank at) due.2)))
      (λ single.
      ⊎_elim
      (λ some.
      let removal = list_any-member (λ (x : Removal T). int_eq (rank x.at) (rank at)) (drop sweep.progress.removed change.remove) some in
      let is = IsRemoved-of rank theory view.table view.store.events new change underway.change_is removal.0
      (Contains-from_member change.remove removal.0 (IsMember-drop sweep.progress.removed change.remove removal.0 removal.1)) in
      by_stored
      (stored_fewer is.kept (IsMember-from_contains view.store.events is.kept is.member) (ap rank is.time ∙ int_eq-is (rank removal.0.at) (rank at) removal.2)))
      (λ some.
      let event = list_any-member (λ (x : Event T). int_eq (rank x.at) (rank at)) (drop sweep.progress.added change.add) some in
      by_added (added_fewer event.0 (IsMember-drop sweep.progress.added change.add event.0 event.1) (int_eq-is (rank event.0.at) (rank at) event.2)))
      single)
      (cases_or_three _ _ _ there)
