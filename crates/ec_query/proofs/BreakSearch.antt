-- The first mark of a row that breaks, run by run.
use Rattle.std.proofs.Common.{◌≡◌, ℕ, ◌+◌, ◌<◌, ◌≤◌, ℤ, Bool, true, false, List, [], ◌++◌, length, get_or, map, filter, find, take, drop, Option, Some, None, option_map, is_some, refl, sym, ap, ap₂, ◌∙◌, arith}
use Rattle.std.specs.Prelude.{int_lt}
use Rattle.std.specs.List.{list_any, drop-map}
use Rattle.std.specs.Option.{option_or}
use Rattle.std.proofs.lemmas.Bool.{false≢true, or_from}
use Rattle.std.proofs.lemmas.List.{drop-drop, drop_all, length-map, map-append, take-append-drop, take_all}
use Rattle.std.proofs.lemmas.List.Folds.{find-append, list_any_more}
use Rattle.ec_lists.proofs.Finds.{find-map, find-none, find_here}
use Rattle.ec_lists.proofs.Filters.{filter-each, filter-map}
use Rattle.ec_axioms.specs.Marks.{PlainMark}
use Rattle.ec_axioms.specs.Timeline.{is_after}
use Rattle.ec_intervals.specs.declared.interval.Begin.{Begin}
use Rattle.ec_intervals.specs.declared.interval.Begin.TheVariants.{Initial, At}
use Rattle.ec_intervals.specs.Table.{plain_begin}
use Rattle.ec_rows.specs.declared.mark.Mark.{Mark}
use Rattle.ec_rows.specs.Marks.{marks_after}
use Rattle.ec_rows.specs.PlainMarks.{plain_mark, plain_marks}

module _ {T : Type 0} (rank : T → ℤ) (test : PlainMark → Bool) where
  -- a mark passes by what it counts
  abbrev pub passes : Mark T → Bool
  passes mark = test (plain_mark rank mark)

  -- ---- in a run

  module _ (run : List (Mark T)) (i : ℕ) (none : list_any passes (take i run) ≡ false) where
    pub run-found : (m : Mark T) → i < length run → m ≡ get_or run i m → passes m ≡ true → Some (plain_mark rank m) ≡ find test (plain_marks rank run)
    run-found m within is pass =
        ap (λ n. Some (plain_mark rank n)) is
        ∙ sym (find-map test (plain_mark rank) run ∙ ap (option_map (plain_mark rank)) (find_here passes run i m within none (ap passes (sym is) ∙ pass)))

    pub run-not_yet : (m : Mark T) → i < length run → m ≡ get_or run i m → passes m ≡ false → list_any passes (take (i + 1) run) ≡ false
    run-not_yet m within is fail = list_any_more passes run i m within ∙ or_from _ _ none (ap passes (sym is) ∙ fail)

    pub run-none : length run ≤ i → None ≡ find test (plain_marks rank run)
    run-none end =
        sym (find-map test (plain_mark rank) run ∙ ap (option_map (plain_mark rank)) (find-none passes run (ap (list_any passes) (sym (take_all i run end)) ∙ none)))

  -- ---- from run to run

  -- what is left of a row is a run, and what stands behind it
  find-run : (marks run : List (Mark T)) (i : ℕ) → run ≡ take (length run) (drop i marks)
      → find test (drop i (plain_marks rank marks)) ≡ option_or (find test (plain_marks rank run)) (find test (drop (i + length run) (plain_marks rank marks)))
  find-run marks run i is =
      ap (find test)
      (drop-map (plain_mark rank) i marks ∙ ap (map (plain_mark rank)) (sym (take-append-drop (length run) (drop i marks)) ∙ ap₂ (λ xs ys. xs ++ ys) (sym is) (drop-drop (length run) i marks))
      ∙ map-append (plain_mark rank) run (drop (i + length run) marks)
      ∙ ap (λ ms. plain_marks rank run ++ ms) (sym (drop-map (plain_mark rank) (i + length run) marks)))
      ∙ find-append test (plain_marks rank run) (drop (i + length run) (plain_marks rank marks))

  module _ (marks run : List (Mark T)) (i : ℕ) (is : run ≡ take (length run) (drop i marks)) (found : Option (Mark T)) (found_is : option_map (plain_mark rank) found ≡ find test (plain_marks rank run)) where
    of_run : find test (drop i (plain_marks rank marks)) ≡ option_or (option_map (plain_mark rank) found) (find test (drop (i + length run) (plain_marks rank marks)))
    of_run = find-run marks run i is ∙ ap (λ o. option_or o (find test (drop (i + length run) (plain_marks rank marks)))) (sym found_is)

    pub row-found : is_some found ≡ true → option_map (plain_mark rank) found ≡ find test (drop i (plain_marks rank marks))
    row-found some = sym (of_run ∙ here found some)
      where
        here : (o : Option (Mark T)) → is_some o ≡ true → option_or (option_map (plain_mark rank) o) (find test (drop (i + length run) (plain_marks rank marks))) ≡ option_map (plain_mark rank) o
        here None some = absurd (false≢true some)
        here (Some m) some = refl

    pub row-later : is_some found ≡ false → find test (drop (i + length run) (plain_marks rank marks)) ≡ find test (drop i (plain_marks rank marks))
    row-later missed = sym (of_run ∙ behind found missed)
      where
        behind : (o : Option (Mark T)) → is_some o ≡ false → option_or (option_map (plain_mark rank) o) (find test (drop (i + length run) (plain_marks rank marks))) ≡ find test (drop (i + length run) (plain_marks rank marks))
        behind None missed = refl
        behind (Some m) missed = absurd (false≢true (sym missed))

  -- nothing is left
  pub row-end : (marks : List (Mark T)) (i : ℕ) → length marks ≤ i → None ≡ find test (drop i (plain_marks rank marks))
  row-end marks i end = sym (ap (find test) (drop_all i (plain_marks rank marks) (omega (arith, length-map marks (plain_mark rank)))))

-- ---- behind a begin

module _ {T : Type 0} (rank : T → ℤ) (test : PlainMark → Bool) (marks : List (Mark T)) (begin : Begin T) where
  -- the first that passes behind the begin
  abbrev pub first_behind : Option PlainMark
  first_behind = find test (filter (λ (mark : PlainMark). is_after (plain_begin rank begin) mark.instant) (plain_marks rank marks))

  -- behind that before all events are all
  pub behind-initial : begin ≡ Initial → find test (drop 0 (plain_marks rank marks)) ≡ first_behind
  behind-initial is = sym (ap (λ b. find test (filter (λ (mark : PlainMark). is_after (plain_begin rank b) mark.instant) (plain_marks rank marks))) is ∙ ap (find test) (filter-each (plain_marks rank marks)))

  module _ (at : T) (is : begin ≡ At at) where
    behind-at : plain_marks rank (marks_after rank (rank at) marks) ≡ filter (λ (mark : PlainMark). is_after (plain_begin rank begin) mark.instant) (plain_marks rank marks)
    behind-at =
        sym (ap (λ b. filter (λ (mark : PlainMark). is_after (plain_begin rank b) mark.instant) (plain_marks rank marks)) is
        ∙ filter-map (λ (mark : PlainMark). int_lt (rank at) mark.instant) (plain_mark rank) marks)

    -- behind one at a time are those from a place on
    pub behind-place : (i : ℕ) → marks_after rank (rank at) marks ≡ drop i marks → find test (drop i (plain_marks rank marks)) ≡ first_behind
    behind-place i from = ap (find test) (drop-map (plain_mark rank) i marks ∙ ap (plain_marks rank) (sym from) ∙ behind-at)

    -- or none
    pub behind-none : marks_after rank (rank at) marks ≡ [] → None ≡ first_behind
    behind-none none = sym (ap (find test) (sym behind-at ∙ ap (plain_marks rank) none))
