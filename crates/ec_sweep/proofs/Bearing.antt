-- What bears on a property at an instant: by its term in the old list, and by its number in the caches.
use Rattle.std.proofs.Common.{◌≡◌, ℕ, ℤ, List, Some, IsTrue, sym, ap, subst, ◌∙◌, inl, inr, ⊎_elim}
use Rattle.std.specs.List.{list_any}
use Rattle.std.specs.Ordering.{int_eq}
use Rattle.std.proofs.lemmas.Bool.{or_cases}
use Rattle.ec_lists.proofs.Integers.{int_eq-is, int_eq-same}
use Rattle.ec_terms.specs.declared.ground.Ground.{Ground}
use Rattle.ec_terms.specs.declared.theory.Theory.{Theory}
use Rattle.ec_axioms.specs.Plain.{events_at}
use Rattle.ec_axioms.specs.Calculus.{PlainEvent, effects_of, instants_of}
use Rattle.ec_axioms.specs.Events.{event_of}
use Rattle.ec_axioms.specs.Marks.{is_marked, mark_at, marks_of}
use Rattle.ec_axioms.proofs.Effects.{list_any-instants}
use Rattle.ec_axioms.proofs.HistoryMarks.{AreAllMarked-mark_at}
use Rattle.ec_axioms.proofs.Members.{IsMember-from_filter, list_any-member, member-list_any}
use Rattle.ec_changes.specs.Differences.{entries_at, reads}
use Rattle.ec_changes.proofs.JoinedMembers.{IsMember-from_flat_map}
use Rattle.ec_store.specs.Table.{KeptProp, term_at}
use Rattle.ec_store.specs.Store.{Store, history_of}
use Rattle.ec_entries.specs.declared.event_entries.Dependent.{Dependent}
use Rattle.ec_entries.specs.Dependents.{Entered, dependent_if}
use Rattle.ec_points.specs.Table.{PointTable, marks_at}
use Rattle.ec_rows.specs.PlainMarks.{plain_marks}
use Rattle.ec_parts.specs.Caches.{AreEntriesOf}
use Rattle.ec_revise.specs.ShownTurns.{FindsItsTerms}
use Rattle.ec_revise.specs.Sweep.{bears_on}
use Rattle.ec_sweep.specs.Settling.{BearsAt, IsReadAt}
use Rattle.ec_sweep.proofs.OldMarks.{has_mark-is}
use Rattle.ec_sweep.proofs.ReadingEntries.{AreAtSlots, StandsAt-member, dependent-reads, event-member, reads-dependent}

module _ {T : Type 0} (rank : T → ℤ) (theory : Theory) (table : List KeptProp) (store : Store T) (entered : Entered T) (points : PointTable T)
    (entries : AreEntriesOf rank theory (history_of rank store.events) table store entered) (finds : FindsItsTerms table) (slots : AreAtSlots store.events)
    (n : ℕ) (p : Ground) (kept : term_at n table ≡ Some p) (marks : plain_marks rank (marks_at n points) ≡ marks_of theory (history_of rank store.events) p) where
  -- what bears on a term bears on its number
  pub bears_on-number : (u : ℤ) → IsTrue (bears_on theory (history_of rank store.events) p u) → BearsAt rank points entered.slots n u
  bears_on-number u bears =
      ⊎_elim
      (λ marked. inl (has_mark-is theory (history_of rank store.events) p rank (marks_at n points) marks u ∙ marked))
      (λ read. inr (read_at read))
      (or_cases (is_marked (mark_at theory (history_of rank store.events) p u)) (list_any (reads p) (entries_at theory (history_of rank store.events) u)) bears)
    where
      read_at : IsTrue (list_any (reads p) (entries_at theory (history_of rank store.events) u)) → IsReadAt rank entered.slots n u
      read_at read =
          let found = list_any-member (reads p) (entries_at theory (history_of rank store.events) u) read in
          let at = IsMember-from_flat_map (effects_of theory) (events_at u (history_of rank store.events)) found.0 found.1 in
          let present = IsMember-from_filter (λ (e : PlainEvent). int_eq e.rank u) (history_of rank store.events) at.0 at.1 in
          let stands = StandsAt-member rank theory store.events slots at.0 found.0 present.0 at.2 in
          record {
            slot = stands.0.slot.0;
            place = stands.0.place;
            dependent = record { at = stands.0.event.at; slot = record { 0 = stands.0.slot.0 }; place = stands.0.place };
            there = dependent-reads rank theory (history_of rank store.events) table store entered entries finds n p kept stands.0.slot stands.0.event stands.0.place found.0 stands.0.there stands.0.at_place
                ∙ ap (λ on. dependent_if on stands.0.event.at stands.0.slot.0 stands.0.place) found.2;
            time = ap (λ (e : PlainEvent). e.rank) stands.1 ∙ int_eq-is at.0.rank u present.1;
          }

  -- where anything bears on a number, an event stands
  pub BearsAt-event : (u : ℤ) → BearsAt rank points entered.slots n u → IsTrue (list_any (λ (e : PlainEvent). int_eq e.rank u) (history_of rank store.events))
  BearsAt-event u (inl has) =
      let marked : IsTrue (is_marked (mark_at theory (history_of rank store.events) p u)) = sym (has_mark-is theory (history_of rank store.events) p rank (marks_at n points) marks u) ∙ has in
      sym (list_any-instants (λ s. int_eq s u) (history_of rank store.events))
      ∙ member-list_any (λ s. int_eq s u) (instants_of (history_of rank store.events)) u
      (AreAllMarked-mark_at theory (history_of rank store.events) p u marked) (int_eq-same u)
  BearsAt-event u (inr read) =
      let found = reads-dependent rank theory (history_of rank store.events) table store entered entries finds n p kept read.slot read.place read.dependent read.there in
      let time : rank found.event.at ≡ u = ap (λ (d : Dependent T). rank d.at) (sym found.dependent_is) ∙ read.time in
      member-list_any (λ (e : PlainEvent). int_eq e.rank u) (history_of rank store.events) (event_of rank found.event)
      (event-member rank store.events (record { 0 = read.slot }) found.event found.there) (subst (λ s. IsTrue (int_eq (rank found.event.at) s)) time (int_eq-same (rank found.event.at)))
