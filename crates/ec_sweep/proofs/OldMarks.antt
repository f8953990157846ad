-- The mark of a property at a time, by its row and by the history that the row is of.
use Rattle.std.proofs.Common.{◌≡◌, ℤ, Bool, true, false, ◌&&◌, List, map, filter, find, Option, Some, None, refl, sym, ap, subst, ◌∙◌, ⊎_elim, arith}
use Rattle.std.specs.Prelude.{is_some, if◌then◌else◌, option_map}
use Rattle.std.specs.Ordering.{int_eq}
use Rattle.std.proofs.lemmas.Bool.{cases_Bool, cond-false, cond-true, false≢true, and_parts, and_from}
use Rattle.std.proofs.lemmas.Bool.Decides.{nat_tests}
use Rattle.std.proofs.Math.Bool.{and-true}
use Rattle.ec_lists.proofs.Finds.{find-filter, find-map, is_some-find}
use Rattle.ec_lists.proofs.Integers.{int_eq-is, int_eq-same}
use Rattle.ec_lists.proofs.Options.{is_some-option_map}
use Rattle.ec_terms.specs.declared.ground.Ground.{Ground}
use Rattle.ec_terms.specs.declared.theory.Theory.{Theory}
use Rattle.ec_axioms.specs.Calculus.{PlainEvent, instants_of}
use Rattle.ec_axioms.specs.Marks.{PlainMark, is_marked, mark_initiates, mark_at, marks_of}
use Rattle.ec_axioms.proofs.HistoryMarks.{instant-mark_at, AreAllMarked-mark_at}
use Rattle.ec_axioms.proofs.Members.{find-None, find-Some}
use Rattle.ec_changes.proofs.LiveMarks.{mark_same}
use Rattle.ec_rows.specs.declared.mark.Mark.{Mark}
use Rattle.ec_rows.specs.Marks.{has_mark, mark_at as row_mark_at}
use Rattle.ec_rows.specs.PlainMarks.{plain_mark, plain_marks}
use Rattle.ec_parts.specs.Caches.{initiations_of, initiations_of_mark}
use Rattle.ec_sweep.specs.Settling.{mark_or_zeros}

-- there is a value where one is chosen, and else none
is_some-if : {X : Type 0} (b : Bool) (x : X) → is_some (if b then Some x else None) ≡ b
is_some-if true x = refl
is_some-if false x = refl

module _ (theory : Theory) (events : List PlainEvent) (p : Ground) where
  -- the mark that a test finds at an instant among those of a property: the one there, if it has a count and passes
  pub find-marks_of : (test : PlainMark → Bool) (t : ℤ)
      → find (λ (m : PlainMark). test m && int_eq m.instant t) (marks_of theory events p)
      ≡ (if is_marked (mark_at theory events p t) && test (mark_at theory events p t) then Some (mark_at theory events p t) else None)
  unfolding marks_of
  find-marks_of test t =
      let mark : ℤ → PlainMark = mark_at theory events p in
      let ts : List ℤ = instants_of events in
      let here : ℤ → Bool = λ u. is_marked (mark u) && (test (mark u) && int_eq (mark u).instant t) in
      find-filter (λ (m : PlainMark). test m && int_eq m.instant t) is_marked (map mark ts)
      ∙ find-map (λ (m : PlainMark). is_marked m && (test m && int_eq m.instant t)) mark ts
      ∙ (elim (find here ts) as (λ o. find here ts ≡ o → option_map mark o ≡ (if is_marked (mark t) && test (mark t) then Some (mark t) else None)) [
        | None ↦ λ nowhere.
            ⊎_elim
            (λ passes.
            let both = and_parts (is_marked (mark t)) (test (mark t)) passes in
            let at_t : int_eq (mark t).instant t ≡ true = subst (λ u. int_eq u t ≡ true) (sym (instant-mark_at theory events p t)) (int_eq-same t) in
            absurd (false≢true (sym (find-None here ts t nowhere (AreAllMarked-mark_at theory events p t both.0))
            ∙ and_from (is_marked (mark t)) (test (mark t) && int_eq (mark t).instant t) both.0 (and_from (test (mark t)) (int_eq (mark t).instant t) both.1 at_t))))
            (λ fails. sym (cond-false (is_marked (mark t) && test (mark t)) (Some (mark t)) None fails))
            (cases_Bool (is_marked (mark t) && test (mark t)))
        | Some u ↦ λ found.
            let passes = and_parts (is_marked (mark u)) (test (mark u) && int_eq (mark u).instant t) (find-Some here ts u found).1 in
            let rest = and_parts (test (mark u)) (int_eq (mark u).instant t) passes.1 in
            let same : mark u ≡ mark t = ap mark (sym (instant-mark_at theory events p u) ∙ int_eq-is (mark u).instant t rest.1) in
            let passes_t : (is_marked (mark t) && test (mark t)) ≡ true = subst (λ m. (is_marked m && test m) ≡ true) same (and_from (is_marked (mark u)) (test (mark u)) passes.0 rest.0) in
            ap Some same ∙ sym (cond-true (is_marked (mark t) && test (mark t)) (Some (mark t)) None passes_t)
      ])
      refl

  module _ {T : Type 0} (rank : T → ℤ) (marks : List (Mark T)) (are : plain_marks rank marks ≡ marks_of theory events p) where
    -- the mark of the row at an instant is the one of the history, if that has a count
    pub row_mark-is : (t : ℤ) → option_map (plain_mark rank) (row_mark_at rank t marks) ≡ (if is_marked (mark_at theory events p t) then Some (mark_at theory events p t) else None)
    row_mark-is t =
        sym (find-map (λ (m : PlainMark). int_eq m.instant t) (plain_mark rank) marks)
        ∙ ap (find (λ (m : PlainMark). int_eq m.instant t)) are
        ∙ find-marks_of (λ m. true) t
        ∙ ap (λ b. if b then Some (mark_at theory events p t) else None) (and-true (is_marked (mark_at theory events p t)))

    -- so the row has one there where it has a count
    pub has_mark-is : (t : ℤ) → has_mark rank t marks ≡ is_marked (mark_at theory events p t)
    has_mark-is t =
        sym (is_some-find (λ (m : Mark T). int_eq (rank m.at) t) marks)
        ∙ sym (is_some-option_map (plain_mark rank) (row_mark_at rank t marks))
        ∙ ap is_some (row_mark-is t)
        ∙ is_some-if (is_marked (mark_at theory events p t)) (mark_at theory events p t)

    -- and with zeros where the row has none, it is the mark of the history
    pub mark_or_zeros-is : (at : T) → plain_mark rank (mark_or_zeros at (row_mark_at rank (rank at) marks)) ≡ mark_at theory events p (rank at)
    mark_or_zeros-is at = by (row_mark_at rank (rank at) marks) (is_marked (mark_at theory events p (rank at))) refl (row_mark-is (rank at))
      where
        zeros : (m : PlainMark) → is_marked m ≡ false → (0 ≡ m.inits) × (0 ≡ m.terms) × (0 ≡ m.clashes)
        zeros m none = (grind (arith, nat_tests), grind (arith, nat_tests), grind (arith, nat_tests))

        by : (o : Option (Mark T)) (b : Bool) → is_marked (mark_at theory events p (rank at)) ≡ b
            → option_map (plain_mark rank) o ≡ (if b then Some (mark_at theory events p (rank at)) else None)
            → plain_mark rank (mark_or_zeros at o) ≡ mark_at theory events p (rank at)
        by None true marked is = cc
        by (Some m) false marked is = cc
        by None false marked is =
            let none = zeros (mark_at theory events p (rank at)) marked in
            mark_same _ _ (sym (instant-mark_at theory events p (rank at))) none.0 none.1 none.2
        by (Some m) true marked is =
            let same : plain_mark rank m ≡ mark_at theory events p (rank at) = cc in
            mark_same _ _ (sym (instant-mark_at theory events p (rank at))) (ap (λ (x : PlainMark). x.inits) same) (ap (λ (x : PlainMark). x.terms) same) (ap (λ (x : PlainMark). x.clashes) same)

  module _ {T : Type 0} (rank : T → ℤ) (marks : List (Mark T)) (are : plain_marks rank marks ≡ initiations_of theory events p) where
    -- a row of initiations has one where the mark there initiates
    pub has_initiation-is : (t : ℤ) → has_mark rank t marks ≡ (is_marked (mark_at theory events p t) && mark_initiates (mark_at theory events p t))
    has_initiation-is t =
        sym (is_some-find (λ (m : Mark T). int_eq (rank m.at) t) marks)
        ∙ sym (is_some-option_map (plain_mark rank) (row_mark_at rank t marks))
        ∙ ap is_some
        (sym (find-map (λ (m : PlainMark). int_eq m.instant t) (plain_mark rank) marks)
        ∙ ap (find (λ (m : PlainMark). int_eq m.instant t)) are
        ∙ find-map (λ (m : PlainMark). int_eq m.instant t) initiations_of_mark (filter mark_initiates (marks_of theory events p)))
        ∙ is_some-option_map initiations_of_mark (find (λ (m : PlainMark). int_eq m.instant t) (filter mark_initiates (marks_of theory events p)))
        ∙ ap is_some (find-filter (λ (m : PlainMark). int_eq m.instant t) mark_initiates (marks_of theory events p) ∙ find-marks_of mark_initiates t)
        ∙ is_some-if (is_marked (mark_at theory events p t) && mark_initiates (mark_at theory events p t)) (mark_at theory events p t)
