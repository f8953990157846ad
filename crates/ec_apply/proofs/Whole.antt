-- A ready delta, made part by part: what stands after each part.
use Rattle.std.proofs.Common.{◌≡◌, ℕ, ℤ, Bool, List, length, filter, Some, IsTrue, IsFalse}
use Rattle.ec_terms.specs.declared.ground.Ground.{Ground}
use Rattle.ec_terms.specs.declared.theory.Theory.{Theory}
use Rattle.ec_axioms.specs.Calculus.{PlainEvent, intervals_of}
use Rattle.ec_axioms.specs.Changes.{change_counts}
use Rattle.ec_changes.specs.LiveLaws.{ListsInitials}
use Rattle.ec_store.specs.Store.{Store, history_of}
use Rattle.ec_entries.specs.Dependents.{Entered}
use Rattle.ec_points.specs.Changes.{ChangesAreMade, are_all_apart, changed, count_of}
use Rattle.ec_points.specs.Clashes.{new_clashes}
use Rattle.ec_points.specs.Table.{PointTable, has_row, marks_at, row_at}
use Rattle.ec_intervals.specs.ChangedRows.{GrowthIsBounded}
use Rattle.ec_intervals.specs.Table.{IntervalTable, row_at as span_row_at}
use Rattle.ec_store.specs.Table.{term_at}
use Rattle.ec_parts.specs.declared.tally.Tally.{Tally}
use Rattle.ec_parts.specs.Caches.{AreEntriesOf, AreInitiationsOf, AreIntervalsOf, AreMarksOf}
use Rattle.ec_parts.specs.StandFor.{StandForBoth, View}
use Rattle.ec_parts.proofs.LinksByNumber.{IsOneToOne}
use Rattle.ec_delta.specs.declared.delta.Delta.{Delta}
use Rattle.ec_delta.specs.Ready.{IsReady}
use Rattle.ec_delta.specs.Touched.{are_once}
use Rattle.ec_apply.specs.Mended.{AreMendable, IsMended, is_moved, matters_in, spelt_by}
use Rattle.ec_apply.proofs.Mendable.{AreMendable-changed, spelt-new}
use Rattle.ec_apply.proofs.NewMarks.{AreInitiationsOf-changed, AreMarksOf-changed, few_marks, no_new_clashes}
use Rattle.ec_apply.proofs.Standing.{AreIntervalsOf-new, props-new, stands-new}

module _ {T : Type 0} (rank : T → ℤ) (law : ChangesAreMade rank) (theory : Theory) (new : List PlainEvent) (view : View T) (tally : Tally) (delta : Delta T)
    (stands : StandForBoth rank theory (history_of rank view.store.events) new view tally) (ready : IsReady rank theory new view delta) where
  -- the new initiations need no room for clashes
  pub no_clashes : IsTrue (are_all_apart rank delta.planned.initiations) → (clash : ℕ → ℤ → Bool) → new_clashes rank clash delta.planned.initiations ≡ 0
  no_clashes = no_new_clashes rank law theory (history_of rank view.store.events) new stands.caches.history ready.change.history view.table delta.planned ready.marks

  -- the initiations after their change
  pub starts-new : (initiations : PointTable T) → IsTrue (are_all_apart rank delta.planned.initiations)
      → ((n : ℕ) → marks_at n initiations ≡ changed rank n delta.planned.initiations (marks_at n view.initiations))
      → ((n : ℕ) → count_of n delta.planned.initiations ≡ 0 → row_at n initiations ≡ row_at n view.initiations) → AreInitiationsOf rank theory new view.table initiations
  starts-new initiations apart made others =
      AreInitiationsOf-changed rank law theory (history_of rank view.store.events) new stands.caches.history ready.change.history view.table delta.planned ready.marks
      view.initiations initiations apart stands.caches.initiations_of made others

  module _ (growth : GrowthIsBounded rank) (apart : IsTrue (are_all_apart rank delta.planned.marks)) (once : IsTrue (are_once delta.planned.touched)) (points : PointTable T)
      (initials : points.initials ≡ view.points.initials) (rows : (n : ℕ) → has_row n points ≡ has_row n view.points)
      (made : (n : ℕ) → marks_at n points ≡ changed rank n delta.planned.marks (marks_at n view.points))
      (others : (n : ℕ) → count_of n delta.planned.marks ≡ 0 → row_at n points ≡ row_at n view.points) where
    -- the marks after their change
    pub marks-new : AreMarksOf rank theory new view.table points
    marks-new =
        AreMarksOf-changed rank law theory (history_of rank view.store.events) new stands.caches.history ready.change.history view.table delta.planned ready.marks
        view.points points apart stands.caches.marks_of made others initials

    -- the intervals can be mended then
    pub mendable-new : AreMendable rank view.neighbours points delta.planned.touched view.intervals
    mendable-new =
        AreMendable-changed rank theory (history_of rank view.store.events) new stands.caches.history ready.change.history view points delta.planned law growth apart initials rows made
        stands.caches.marks_of marks-new stands.caches.intervals_of stands.tables.added ready.windows ready.intervals_room once
        (few_marks rank law theory (history_of rank view.store.events) new stands.caches.history ready.change.history view.table delta.planned ready.marks view.points points apart
        stands.caches.marks_of marks-new made)

    -- what the new marks spell
    spelt : (n : ℕ) (p : Ground) → term_at n view.table ≡ Some p → spelt_by rank theory p n points ≡ intervals_of theory new p
    spelt =
        spelt-new rank theory (history_of rank view.store.events) new stands.caches.history ready.change.history view points delta.planned law growth apart initials rows made
        stands.caches.marks_of marks-new stands.caches.intervals_of stands.tables.added ready.windows ready.intervals_room once

    module _ (intervals : IntervalTable T) (mended : (n : ℕ) → IsTrue (matters_in n delta.planned.touched) → IsMended rank view.neighbours points n intervals)
        (kept : (n : ℕ) → IsFalse (matters_in n delta.planned.touched) → span_row_at n intervals ≡ span_row_at n view.intervals) where
      -- the intervals after they are mended
      pub spans-new : AreIntervalsOf rank theory new view.table intervals
      spans-new =
          AreIntervalsOf-new rank theory (history_of rank view.store.events) new view delta.planned points intervals stands.tables.added ready.windows ready.unmoved once stands.caches.intervals_of spelt mended kept

      -- and how many properties have others
      pub props-are : IsOneToOne view.table → ListsInitials theory
          → length (filter (is_moved rank view.intervals intervals) delta.planned.touched) ≡ (change_counts theory (history_of rank view.store.events) new).props
      props-are one names =
          props-new rank theory (history_of rank view.store.events) new view delta.planned points intervals stands.tables.added ready.windows ready.unmoved once stands.caches.intervals_of spelt mended kept
          one names stands.live stands.tables.kept.live

      -- all together
      pub all-new : (store : Store T) (entries : Entered T) (initiations : PointTable T) → history_of rank store.events ≡ new → AreEntriesOf rank theory new view.table store entries
          → AreInitiationsOf rank theory new view.table initiations
          → StandForBoth rank theory new new (record { store = store; table = view.table; neighbours = view.neighbours; entries = entries; points = points; initiations = initiations; intervals = intervals }) tally
      all-new store entries initiations events entered starts =
          stands-new rank theory (history_of rank view.store.events) new view tally store entries points initiations intervals stands ready.change.history events entered marks-new starts spans-new
