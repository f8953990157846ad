-- Marks that do not initiate, where no begin is open in front of them.
use Rattle.std.proofs.Common.{◌≡◌, ℤ, Bool, true, false, cond, not, ◌&&◌, ◌||◌, List, [], ◌∷◌, ◌++◌, Some, None, option_map, refl, ap, ap₂, sym, ◌∙◌, arith}
use Rattle.std.specs.Prelude.{int_lt, int_le}
use Rattle.std.specs.List.{list_all}
use Rattle.std.specs.Option.{option_to_list}
use Rattle.std.proofs.lemmas.Bool.{false≢true}
use Rattle.std.proofs.lemmas.Int.{ints}
use Rattle.std.proofs.lemmas.List.Folds.{list_all-append}
use Rattle.ec_axioms.specs.Timeline.{begin_at}
use Rattle.ec_axioms.specs.Marks.{PlainMark, mark_initiates, mark_terminates, mark_breaks, spans_of}
use Rattle.ec_axioms.proofs.Members.{list_all-member, list_all-from_members}
use Rattle.ec_rows.specs.declared.mark.Mark.{Mark}
use Rattle.ec_rows.specs.Marks.{IsMarkRow, marks_before, marks_after}
use Rattle.ec_rows.specs.PlainMarks.{plain_mark, plain_marks}
use Rattle.ec_lists.proofs.Booleans.{and-left, and-right}
use Rattle.ec_intervals.specs.ChangedRows.{initiates_within}
use Rattle.ec_intervals.specs.Steps.{first_open, open_behind, ended_by, interval_up_to, open_through, ended_through}
use Rattle.ec_intervals.proofs.Pass.{pass, interval_by, pass-spans_of}
use Rattle.ec_intervals.proofs.Cut.{pass-append}
use Rattle.ec_intervals.proofs.Written.{IsPlainRow-from_row}
use Rattle.ec_intervals.proofs.Spliced.{earlier, rest, within, behind, earlier-rest, rest-from, rest-split, within-up_to}
use Rattle.ec_lists.proofs.Tests.{list_all-filter, list_all-none, list_any-map}

module _ (strong : Bool) where
  -- behind a mark that does not initiate none is open, where none was in front of it
  open_behind-inert : (m : PlainMark) → not (mark_initiates m) ≡ true → open_behind strong None m ≡ None
  open_behind-inert m quiet = by_cases (mark_initiates m) (mark_breaks strong m) quiet
    where
      by_cases : (initiates breaks : Bool) → not initiates ≡ true → cond (initiates && (breaks || true)) (Some (begin_at m.instant)) (cond breaks None None) ≡ None
      by_cases true breaks quiet = absurd (false≢true quiet)
      by_cases false true quiet = refl
      by_cases false false quiet = refl

  ended_by-none : (m : PlainMark) → ended_by None m ≡ None
  ended_by-none m = by_cases (mark_terminates m)
    where
      by_cases : (terminates : Bool) → cond terminates (option_map (interval_up_to m.instant) None) None ≡ None
      by_cases true = refl
      by_cases false = refl

  -- so such marks open nothing and end nothing
  through-inert : (ms : List PlainMark) → list_all (λ m. not (mark_initiates m)) ms ≡ true → (open_through strong None ms ≡ None) × (ended_through strong None ms ≡ [])
  unfolding open_through ended_through
  through-inert [] quiet = (refl, refl)
  through-inert (m ∷ ms) quiet =
      let here : open_behind strong None m ≡ None = open_behind-inert m (and-left (not (mark_initiates m)) _ quiet) in
      let later = through-inert ms (and-right (not (mark_initiates m)) _ quiet) in (
        ap (λ o. open_through strong o ms) here ∙ later.0,
        ap₂ (λ o p. option_to_list o ++ ended_through strong p ms) (ended_by-none m) here ∙ later.1,
      )

  -- and the pass goes over them
  pass-inert : (ms ys : List PlainMark) → list_all (λ m. not (mark_initiates m)) ms ≡ true → pass interval_by strong None (ms ++ ys) ≡ pass interval_by strong None ys
  pass-inert ms ys quiet =
      let through = through-inert ms quiet in
      pass-append strong None ms ys ∙ ap₂ (λ xs o. xs ++ pass interval_by strong o ys) through.1 through.0

module _ {T : Type 0} (rank : T → ℤ) (strong initial : Bool) (a b : ℤ) (ordered : int_le a b ≡ true) (marks : List (Mark T)) (row : IsMarkRow rank marks) where
  -- a mark from a to b initiates
  initiates : PlainMark → Bool
  initiates m = int_le a m.instant && int_le m.instant b && mark_initiates m

  inert-each : (x : ℤ) (opens : Bool) → not (int_le a x && int_le x b && opens) ≡ true → not (int_lt x a) ≡ true → not (int_lt b x) ≡ true → not opens ≡ true
  inert-each x opens none from up_to = grind (arith, ints)

  inert-within : initiates_within rank a b marks ≡ false → list_all (λ m. not (mark_initiates m)) (within rank a marks row b ordered) ≡ true
  unfolding initiates
  inert-within none =
      list_all-from_members (λ m. not (mark_initiates m)) (within rank a marks row b ordered)
      (λ m member. inert-each m.instant (mark_initiates m)
      (list_all-member (λ n. not (initiates n)) (within rank a marks row b ordered) m (list_all-filter (λ n. not (initiates n)) _ (rest rank a marks row) all-rest) member)
      (list_all-member (λ (n : PlainMark). not (int_lt n.instant a)) (within rank a marks row b ordered) m (list_all-filter (λ (n : PlainMark). not (int_lt n.instant a)) _ (rest rank a marks row) (rest-from rank a marks row)) member)
      (list_all-member (λ (n : PlainMark). not (int_lt b n.instant)) (within rank a marks row b ordered) m (within-up_to rank a marks row b ordered) member))
    where
      all-rest : list_all (λ n. not (initiates n)) (rest rank a marks row) ≡ true
      all-rest =
          and-right (list_all (λ n. not (initiates n)) (earlier rank a marks row)) _
          (sym (list_all-append (λ n. not (initiates n)) (earlier rank a marks row) (rest rank a marks row))
          ∙ ap (list_all (λ n. not (initiates n))) (sym (earlier-rest rank a marks row))
          ∙ list_all-none initiates (plain_marks rank marks) (list_any-map initiates (plain_mark rank) marks ∙ none))

  -- what the row spells: what is ended before the window, and what is spelt behind it where no begin is open
  pub spans_of-inert : open_through strong (first_open initial) (plain_marks rank (marks_before rank a marks)) ≡ None → initiates_within rank a b marks ≡ false →
      spans_of (plain_marks rank marks) strong initial
      ≡ ended_through strong (first_open initial) (plain_marks rank (marks_before rank a marks)) ++ pass interval_by strong None (plain_marks rank (marks_after rank b marks))
  spans_of-inert closed none =
      sym (pass-spans_of (plain_marks rank marks) strong initial (IsPlainRow-from_row rank marks row))
      ∙ ap (pass interval_by strong (first_open initial)) (earlier-rest rank a marks row)
      ∙ pass-append strong (first_open initial) (earlier rank a marks row) (rest rank a marks row)
      ∙ ap (λ zs. ended_through strong (first_open initial) (earlier rank a marks row) ++ zs)
      (ap₂ (λ o ms. pass interval_by strong o ms) closed (rest-split rank a marks row b ordered)
      ∙ pass-inert strong (within rank a marks row b ordered) (behind rank a marks row b ordered) (inert-within none))
