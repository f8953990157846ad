-- Properties that the table keeps newly: the parts without them, and what it is that they become part of the parts.
use Rattle.std.specs.Prelude.{◌≡◌, ◌≢◌, ◌<◌, ◌^◌, ℕ, ℤ, false, List, [], ◌++◌, length, filter, IsSome, IsTrue}
use Rattle.std.specs.List.{All}
use Rattle.ec_terms.specs.declared.ids.PropId.{PropId}
use Rattle.ec_terms.specs.declared.theory.Theory.{Theory}
use Rattle.ec_axioms.specs.Calculus.{PlainEvent}
use Rattle.ec_axioms.specs.Links.{mentions_of}
use Rattle.ec_context.specs.Widened.{HasKept, without_props}
use Rattle.ec_exclusive.specs.Added.{added_props, is_added}
use Rattle.ec_exclusive.specs.Neighbours.{AreNeighbours, exclusive_at}
use Rattle.ec_numbered.specs.PropSet.{are_ascending, with_number}
use Rattle.ec_points.specs.Table.{marks_at, row_at}
use Rattle.ec_store.specs.Table.{KeptProp, prop_at}
use Rattle.ec_parts.specs.Gathered.{AreGathered, initiations_at, marks_under}
use Rattle.ec_parts.specs.declared.tally.Tally.{Tally}
use Rattle.ec_parts.specs.StandFor.{View, StandForBoth}

-- few enough mentions that 32 bits count them
abbrev pub HasFewMentions : Theory → List PlainEvent → Type 0
HasFewMentions theory events = length (mentions_of theory events) < 2 ^ 32

-- parts without the properties of some numbers, which the table alone keeps
abbrev pub without_waiting : {T : Type 0} → List PropId → View T → View T
without_waiting waiting view = record view { table = without_props waiting view.table }

-- parts stand for some two lists, the present one of which has few mentions
pub record StandForSomeBoth {T : Type 0} (rank : T → ℤ) (theory : Theory) (view : View T) : Type 0 where
  pub now : List PlainEvent
  pub soon : List PlainEvent
  pub tally : Tally
  pub few : HasFewMentions theory now
  pub stand : StandForBoth rank theory now soon view tally

-- parts that stand for any two lists, the present one of which has few mentions, stand for them still
abbrev pub KeepStanding : {T : Type 0} → (T → ℤ) → Theory → View T → View T → Type 0
KeepStanding rank theory before after =
    (now soon : List PlainEvent) (tally : Tally) → HasFewMentions theory now → StandForBoth rank theory now soon before tally
    → StandForBoth rank theory now soon after tally

-- the table keeps what it kept, and what it keeps besides is mentioned 0 times and stands behind the numbers of before
pub record HasEntered (before : List KeptProp) (old : List PropId) (after : List KeptProp) (new : List PropId) : Type 0 where
  pub fresh : List PropId
  pub behind : new ≡ old ++ fresh
  pub kept : HasKept before [] after fresh

-- ---- one property

-- the neighbours that a property has once it is added
abbrev pub neighbours_with : {T : Type 0} → Theory → PropId → View T → List PropId
neighbours_with theory p view = filter (exclusive_at theory view.table p) (with_number p (added_props view.neighbours.rows))

-- a property that the table keeps may join the other parts: it stands in none, and its neighbours count few initiations
pub record MayJoin {T : Type 0} (rank : T → ℤ) (theory : Theory) (p : PropId) (view : View T) : Type 0 where
  pub kept : IsSome (prop_at p.0 view.table)
  pub absent : is_added p view.neighbours.rows ≡ false
  pub neighbours : AreNeighbours theory view.table view.neighbours
  pub none : marks_at p.0 view.points ≡ []
  pub counted : All (λ mark. 0 < mark.inits) (marks_under view.initiations (neighbours_with theory p view))
  pub few : (t : ℤ) → initiations_at rank t (marks_under view.initiations (neighbours_with theory p view)) < 2 ^ 32

-- it is added, and its marks are gathered from those of its neighbours
pub record HasJoined {T : Type 0} (rank : T → ℤ) (theory : Theory) (p : PropId) (before after : View T) : Type 0 where
  pub rows : added_props after.neighbours.rows ≡ with_number p (added_props before.neighbours.rows)
  pub ascend : IsTrue (are_ascending (added_props after.neighbours.rows))
  pub neighbours : AreNeighbours theory before.table after.neighbours
  pub initials : after.points.initials ≡ before.points.initials
  pub others : (n : ℕ) → n ≢ p.0 → row_at n after.points ≡ row_at n before.points
  pub gathered : AreGathered rank (marks_under before.initiations (neighbours_with theory p before)) (marks_at p.0 after.points)

-- the same properties are added, with the same marks
pub record HasStayed {T : Type 0} (theory : Theory) (before after : View T) : Type 0 where
  pub added : (q : PropId) → is_added q after.neighbours.rows ≡ is_added q before.neighbours.rows
  pub neighbours : AreNeighbours theory before.table after.neighbours
  pub initials : after.points.initials ≡ before.points.initials
  pub marks : (n : ℕ) → marks_at n after.points ≡ marks_at n before.points
