-- The marks of a property, which count what happens to it at each instant, and the intervals that a row of marks spells.
use Rattle.std.specs.Prelude.{ℕ, ◌+◌, Bool, true, false, not, ◌&&◌, ◌||◌, nat_lt, List, [], ◌∷◌, ◌++◌, length, map, filter, find, ℤ, Option, Some, None, int_lt}
use Rattle.std.specs.List.{last_or}
use Rattle.std.specs.Option.{option_map_or}
use Rattle.std.specs.Ordering.{int_eq}
use Rattle.ec_terms.specs.declared.ground.Ground.{Ground}
use Rattle.ec_terms.specs.declared.theory.Theory.{Theory}
use Rattle.ec_axioms.specs.Timeline.{Timeline, Begin, begin_at, Interval, initial_begins, intervals_from, broken_begins_from}
use Rattle.ec_axioms.specs.Calculus.{PlainEvent, effects_at, is_initiating, is_terminating, is_clashing, instants_of, is_current}

-- how many active entries at an instant initiate a property, terminate it, and initiate one that is exclusive to it
pub record PlainMark : Type 0 where
  pub instant : ℤ
  pub inits : ℕ
  pub terms : ℕ
  pub clashes : ℕ

-- the three counts of a property at an instant
unfoldable pub mark_at : Theory → List PlainEvent → Ground → ℤ → PlainMark
mark_at theory events p t = record {
  instant = t;
  inits = length (effects_at theory events (is_current theory events) (is_initiating p) t);
  terms = length (effects_at theory events (is_current theory events) (is_terminating p) t);
  clashes = length (effects_at theory events (is_current theory events) (is_clashing theory p) t);
}

-- some count is not zero
abbrev pub is_marked : PlainMark → Bool
is_marked mark = nat_lt 0 (mark.inits + mark.terms + mark.clashes)

-- the marks of a property, ascending: the instants at which some count is not zero
unfoldable pub marks_of : Theory → List PlainEvent → Ground → List PlainMark
marks_of theory events p = filter is_marked (map (mark_at theory events p) (instants_of events))

-- ---- what a row of marks spells, by the marks alone

-- the last mark before an instant
abbrev pub last_mark_before : List PlainMark → ℤ → Option PlainMark
last_mark_before marks t = last_or None (filter (λ mark. int_lt mark.instant t) marks)

-- a mark initiates
abbrev pub mark_initiates : PlainMark → Bool
mark_initiates mark = nat_lt 0 mark.inits

-- a mark terminates
abbrev pub mark_terminates : PlainMark → Bool
mark_terminates mark = nat_lt 0 mark.terms

-- a mark breaks: it terminates or clashes, or it initiates a strong property
abbrev pub mark_breaks : Bool → PlainMark → Bool
mark_breaks strong mark = nat_lt 0 mark.terms || nat_lt 0 mark.clashes || (strong && nat_lt 0 mark.inits)

-- the property is current just after the mark before, or, where there is none, it is initial
abbrev pub current_after : Bool → Option PlainMark → Bool
current_after initial None = initial
current_after initial (Some mark) = mark_initiates mark

-- a mark starts an interval: it initiates, and it breaks or the property is not current before it
abbrev pub mark_starts : Bool → Bool → Option PlainMark → PlainMark → Bool
mark_starts strong initial before mark = mark_initiates mark && (mark_breaks strong mark || not (current_after initial before))

-- the starts among the marks that follow the mark `before`
abbrev pub row_starts : Bool → Bool → Option PlainMark → List PlainMark → List ℤ
row_starts strong initial before [] = []
row_starts strong initial before (mark ∷ marks) = start_if (mark_starts strong initial before mark) mark.instant (row_starts strong initial (Some mark) marks)
  where
    start_if : Bool → ℤ → List ℤ → List ℤ
    start_if true t starts = t ∷ starts
    start_if false t starts = starts

-- the begins that a row spells
abbrev pub row_begins : List PlainMark → Bool → Bool → List Begin
row_begins marks strong initial = initial_begins initial ++ map begin_at (row_starts strong initial None marks)

-- the mark of a row at an instant
abbrev pub row_mark : List PlainMark → ℤ → Option PlainMark
row_mark marks t = find (λ mark. int_eq mark.instant t) marks

-- the row as a timeline: its instants are those of its marks
unfoldable pub row_timeline : List PlainMark → Bool → Bool → Timeline
row_timeline marks strong initial = record {
  instants = map (λ (mark : PlainMark). mark.instant) marks;
  initiated = λ t. option_map_or mark_initiates (row_mark marks t) false;
  terminated = λ t. option_map_or mark_terminates (row_mark marks t) false;
  breaks = λ t. option_map_or (mark_breaks strong) (row_mark marks t) false;
  initial = initial;
}

-- the intervals that a row of marks spells
abbrev pub spans_of : List PlainMark → Bool → Bool → List Interval
spans_of marks strong initial = intervals_from (row_timeline marks strong initial) (row_begins marks strong initial)

-- the broken begins that a row of marks spells
abbrev pub broken_spans_of : List PlainMark → Bool → Bool → List (Begin × ℤ)
broken_spans_of marks strong initial = broken_begins_from (row_timeline marks strong initial) (row_begins marks strong initial)
