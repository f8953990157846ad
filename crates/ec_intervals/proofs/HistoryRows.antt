-- The intervals of a property of a history are a row: each begins before it ends, and ends by the begin of the next one.
use Rattle.std.proofs.Common.{◌≡◌, ℤ, Bool, true, ◌&&◌, List, [], ◌∷◌, map, filter, refl, ap₂, subst, ◌∙◌}
use Rattle.std.specs.Prelude.{int_lt, IsTrue}
use Rattle.std.specs.List.{list_all}
use Rattle.ec_lists.proofs.Booleans.{and-left, and-right}
use Rattle.ec_lists.proofs.Filters.{list_all-kept}
use Rattle.ec_terms.specs.declared.ground.Ground.{Ground}
use Rattle.ec_terms.specs.declared.theory.Theory.{Theory}
use Rattle.ec_terms.specs.Domain.{is_strong, is_initial}
use Rattle.ec_axioms.specs.Calculus.{PlainEvent, instants_of, intervals_of}
use Rattle.ec_axioms.specs.Changes.{is_history}
use Rattle.ec_axioms.specs.Marks.{PlainMark, is_marked, mark_at, marks_of}
use Rattle.ec_axioms.proofs.HistoryLaws.{SpansAreTheIntervals-law}
use Rattle.ec_axioms.proofs.Instants.{is_ascending as is_ascending_instants, is_ascending-instants_of}
use Rattle.ec_rows.specs.Ordered.{is_ascending}
use Rattle.ec_rows.proofs.OrderedLemmas.{is_ascending-filter}
use Rattle.ec_intervals.specs.Steps.{IsIntervalRow}
use Rattle.ec_intervals.proofs.Pass.{IsPlainRow, plain_before, pass-spans_of}
use Rattle.ec_intervals.proofs.PassOrder.{IsIntervalRow-pass}

-- marks at ascending instants ascend
ascending-marks : (f : ℤ → PlainMark) → ((t : ℤ) → (f t).instant ≡ t) → (ts : List ℤ) → is_ascending_instants ts ≡ true → is_ascending plain_before (map f ts) ≡ true
unfolding is_ascending
ascending-marks f at [] ascending = refl
ascending-marks f at (t ∷ ts) ascending =
    ap₂ (λ a b. a && b) (later ts (and-left (list_all (int_lt t) ts) (is_ascending_instants ts) ascending))
    (ascending-marks f at ts (and-right (list_all (int_lt t) ts) (is_ascending_instants ts) ascending))
  where
    later : (us : List ℤ) → list_all (int_lt t) us ≡ true → list_all (plain_before (f t)) (map f us) ≡ true
    later [] all = refl
    later (u ∷ us) all =
        ap₂ (λ a b. a && b) (ap₂ int_lt (at t) (at u) ∙ and-left (int_lt t u) (list_all (int_lt t) us) all) (later us (and-right (int_lt t u) (list_all (int_lt t) us) all))

-- the marks of a history are a row
IsPlainRow-marks_of : (theory : Theory) (events : List PlainEvent) (p : Ground) → IsTrue (is_history events) → IsPlainRow (marks_of theory events p)
unfolding marks_of mark_at
IsPlainRow-marks_of theory events p history = record {
  ascending = is_ascending-filter plain_before is_marked (map (mark_at theory events p) (instants_of events))
      (ascending-marks (mark_at theory events p) (λ t. refl) (instants_of events) (is_ascending-instants_of events history));
  counted = list_all-kept is_marked (map (mark_at theory events p) (instants_of events));
}

pub IsIntervalRow-intervals_of : (theory : Theory) (events : List PlainEvent) (p : Ground) → IsTrue (is_history events) → IsIntervalRow (intervals_of theory events p)
IsIntervalRow-intervals_of theory events p history =
    let marks = marks_of theory events p in
    let row = IsPlainRow-marks_of theory events p history in
    subst IsIntervalRow (pass-spans_of marks (is_strong theory p) (is_initial theory p) row ∙ (SpansAreTheIntervals-law theory events p history).0)
    (IsIntervalRow-pass (is_strong theory p) (is_initial theory p) marks row)
