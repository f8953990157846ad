-- What it is for parts to stand for a list of events, and for a number in them to be that of a property.
use Rattle.std.specs.Prelude.{◌≡◌, ℕ, ℤ, List, Some, IsTrue}
use Rattle.ec_terms.specs.declared.ground.Ground.{Ground}
use Rattle.ec_terms.specs.declared.theory.Theory.{Theory}
use Rattle.ec_axioms.specs.Calculus.{PlainEvent, is_current, is_initiated, timeline_of}
use Rattle.ec_axioms.specs.Marks.{mark_at}
use Rattle.ec_axioms.specs.Timeline.{Begin, before_all, begin_at, last_begin, next_break}
use Rattle.ec_store.specs.Table.{term_at}
use Rattle.ec_rows.specs.PlainMarks.{plain_mark}
use Rattle.ec_rows.specs.declared.mark.Mark.{Mark}
use Rattle.ec_parts.specs.declared.tally.Tally.{Tally}
use Rattle.ec_parts.specs.StandFor.{StandForBoth, View}

-- the parts stand for a list of events, with some tally; they may keep more than is live in it
pub record StandForList {T : Type 0} (rank : T → ℤ) (theory : Theory) (events : List PlainEvent) (view : View T) : Type 0 where
  pub tally : Tally
  pub both : StandForBoth rank theory events events view tally

-- they do, and the number is that of the property
pub record AreOn {T : Type 0} (rank : T → ℤ) (theory : Theory) (events : List PlainEvent) (view : View T) (id : ℕ) (p : Ground) : Type 0 where
  pub stand : StandForList rank theory events view
  pub kept : term_at id view.table ≡ Some p

-- some list and some property are such
pub record AreOnSome {T : Type 0} (rank : T → ℤ) (theory : Theory) (view : View T) (id : ℕ) : Type 0 where
  pub events : List PlainEvent
  pub p : Ground
  pub on : AreOn rank theory events view id p

-- a begin of a property is before all events, or the property is initiated there
abbrev pub IsBegun : Theory → List PlainEvent → Ground → Begin → Type 0
IsBegun theory events p before_all = Unit {0}
IsBegun theory events p (begin_at s) = IsTrue (is_initiated theory events (is_current theory events) p s)

-- a begin is the last of a property before a time, and the mark is that of the first break behind it
pub record IsBrokenAt {T : Type 0} (rank : T → ℤ) (theory : Theory) (events : List PlainEvent) (p : Ground) (at : T) (begin : Begin) (mark : Mark T) : Type 0 where
  pub last : last_begin (timeline_of theory events p) (rank at) ≡ Some begin
  pub break : next_break (timeline_of theory events p) begin ≡ Some (rank mark.at)
  pub counted : plain_mark rank mark ≡ mark_at theory events p (rank mark.at)
