-- The next break of a property behind a begin, among its marks.
use Rattle.std.proofs.Common.{◌≡◌, ℤ, Bool, ◌&&◌, List, map, filter, find, option_map, sym, ap, ◌∙◌, arith}
use Rattle.std.proofs.lemmas.Bool.Decides.{nat_tests}
use Rattle.ec_lists.proofs.Finds.{find_agree, find-filter, find-map}
use Rattle.ec_terms.specs.declared.ground.Ground.{Ground}
use Rattle.ec_terms.specs.declared.theory.Theory.{Theory}
use Rattle.ec_terms.specs.Domain.{is_strong}
use Rattle.ec_axioms.specs.Calculus.{PlainEvent, instants_of, timeline_of}
use Rattle.ec_axioms.specs.Marks.{PlainMark, is_marked, mark_at, mark_breaks, marks_of}
use Rattle.ec_axioms.specs.Timeline.{Begin, Timeline, is_after, next_break}
use Rattle.ec_axioms.proofs.HistoryMarks.{instant-mark_at, timeline_of-marks}

-- a mark that breaks has a count
breaks_marked : (strong after : Bool) (mark : PlainMark) → (is_marked mark && (after && mark_breaks strong mark)) ≡ (after && mark_breaks strong mark)
breaks_marked strong after mark = grind (arith, nat_tests)

-- the first mark behind a begin that breaks is the mark at the next break
pub marks_of-next_break : (theory : Theory) (events : List PlainEvent) (p : Ground) (begin : Begin)
    → find (mark_breaks (is_strong theory p)) (filter (λ (mark : PlainMark). is_after begin mark.instant) (marks_of theory events p))
    ≡ option_map (mark_at theory events p) (next_break (timeline_of theory events p) begin)
unfolding marks_of
marks_of-next_break theory events p begin =
    let strong : Bool = is_strong theory p in
    let mark : ℤ → PlainMark = mark_at theory events p in
    let after : PlainMark → Bool = λ m. is_after begin m.instant in
    let ts : List ℤ = instants_of events in
    let test : ℤ → Bool = λ t. is_after begin t && mark_breaks strong (mark t) in
    find-filter (mark_breaks strong) after (filter is_marked (map mark ts))
    ∙ find-filter (λ m. after m && mark_breaks strong m) is_marked (map mark ts)
    ∙ find-map (λ m. is_marked m && (after m && mark_breaks strong m)) mark ts
    ∙ ap (option_map mark)
    (find_agree (λ t. is_marked (mark t) && (after (mark t) && mark_breaks strong (mark t))) test
    (λ t. breaks_marked strong (after (mark t)) (mark t) ∙ ap (λ s. is_after begin s && mark_breaks strong (mark t)) (instant-mark_at theory events p t)) ts
    ∙ sym (ap (λ (line : Timeline). next_break line begin) (timeline_of-marks theory events p) ∙ find-filter (λ t. mark_breaks strong (mark t)) (is_after begin) ts))
