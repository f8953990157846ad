-- Once all caches are changed, the parts stand for the new list, and what changed is counted.
use Rattle.std.proofs.Common.{◌≡◌, ℕ, ℤ, true, false, not, ◌&&◌, List, [], length, filter, Option, Some, None, is_some, IsTrue, IsFalse, IsSome, refl, sym, ap, ap₂, ◌∙◌, ⊎_elim}
use Rattle.std.specs.Cmp.Lexicographic.{pointwise}
use Rattle.std.specs.Option.{option_map_or}
use Rattle.std.proofs.lemmas.Bool.{cases_Bool, false≢true, false_from_ne_true}
use Rattle.ec_lists.proofs.Options.{Some-from_is_some}
use Rattle.ec_terms.specs.declared.ground.Ground.{Ground}
use Rattle.ec_terms.specs.declared.theory.Theory.{Theory}
use Rattle.ec_axioms.specs.declared.event.Seen.{Seen}
use Rattle.ec_axioms.specs.Calculus.{PlainEvent, intervals_of}
use Rattle.ec_axioms.specs.Changes.{change_counts, has_other_intervals, interval_eq, is_history}
use Rattle.ec_axioms.specs.Links.{is_live}
use Rattle.ec_axioms.proofs.Members.{IsMember, slice_get-member}
use Rattle.ec_changes.specs.LiveLaws.{ListsInitials}
use Rattle.ec_changes.proofs.LiveMarks.{not_live-unknown}
use Rattle.ec_changes.proofs.OtherIntervals.{OtherIntervalsDiffer-law}
use Rattle.ec_store.specs.Store.{Store, history_of}
use Rattle.ec_entries.specs.Dependents.{Entered}
use Rattle.ec_points.specs.Table.{PointTable}
use Rattle.ec_intervals.specs.Table.{IntervalTable, members_in, plain_intervals, row_at}
use Rattle.ec_store.specs.Table.{prop_at, prop_of, term_at}
use Rattle.ec_parts.specs.declared.tally.Tally.{Tally}
use Rattle.ec_parts.specs.Caches.{AreEntriesOf, AreInitiationsOf, AreIntervalsOf, AreMarksOf}
use Rattle.ec_parts.specs.StandFor.{StandForBoth, View}
use Rattle.ec_parts.specs.Tables.{AreAllAdded}
use Rattle.ec_parts.proofs.LinksByNumber.{IsOneToOne, term_at-prop_of}
use Rattle.ec_parts.proofs.Mentioned.{kept_term}
use Rattle.ec_delta.specs.declared.delta.Planned.{Planned}
use Rattle.ec_delta.specs.declared.touches.Touched.{Touched}
use Rattle.ec_delta.specs.Ready.{AreWindows, KeepsWhatIsUnmoved}
use Rattle.ec_delta.specs.Touched.{Row, are_once, matters_at, touched_at}
use Rattle.ec_apply.specs.Mended.{IsMended, intervals_at, is_moved, matters_in, spelt_by}
use Rattle.ec_apply.proofs.Counted.{props-counted}
use Rattle.ec_apply.proofs.Listed.{matters_in-at, touched_at-listed}

-- four counts that are those of some counts are those counts
pub seen-same : (counts : Seen) (seen on off props : ℕ) → seen ≡ counts.seen → on ≡ counts.on → off ≡ counts.off → props ≡ counts.props
    → ◌≡◌ {A = Seen} (record { seen = seen; on = on; off = off; props = props }) counts
seen-same counts seen on off props is_seen is_on is_off is_props =
    let made : ℕ → ℕ → ℕ → ℕ → Seen = λ a b c d. record { seen = a; on = b; off = c; props = d } in
    ap (λ a. made a on off props) is_seen ∙ ap (λ b. made counts.seen b off props) is_on ∙ ap (λ c. made counts.seen counts.on c props) is_off ∙ ap (made counts.seen counts.on counts.off) is_props

module _ {T : Type 0} (rank : T → ℤ) (theory : Theory) (old new : List PlainEvent) (view : View T) (planned : Planned T) (points : PointTable T) (intervals : IntervalTable T)
    (added : AreAllAdded theory view.table view.neighbours) (windows : AreWindows rank view planned) (unmoved : KeepsWhatIsUnmoved theory old new view.table planned)
    (once : IsTrue (are_once planned.touched)) (intervals_old : AreIntervalsOf rank theory old view.table view.intervals)
    (spelt : (n : ℕ) (p : Ground) → term_at n view.table ≡ Some p → spelt_by rank theory p n points ≡ intervals_of theory new p)
    (mended : (n : ℕ) → IsTrue (matters_in n planned.touched) → IsMended rank view.neighbours points n intervals)
    (others : (n : ℕ) → IsFalse (matters_in n planned.touched) → row_at n intervals ≡ row_at n view.intervals) where
  -- the intervals of a kept property are those of the new list
  members-new : (n : ℕ) (p : Ground) → term_at n view.table ≡ Some p → intervals_at rank n intervals ≡ intervals_of theory new p
  members-new n p kept =
      ⊎_elim
      (λ matters. mended n matters theory view.table p added.neighbours kept ∙ spelt n p kept)
      (λ idles. ap (λ r. plain_intervals rank (members_in r)) (others n idles) ∙ intervals_old.members n p kept ∙ unmoved n p kept (sym (matters_in-at n planned.touched once) ∙ idles))
      (cases_Bool (matters_in n planned.touched))

  -- no other number matters
  idle-absent : (n : ℕ) → prop_at n view.table ≡ None → matters_at n planned.touched ≡ false
  idle-absent n absent = by_touched (touched_at n planned.touched) refl
    where
      by_touched : (o : Option (Touched T)) → touched_at n planned.touched ≡ o → option_map_or (λ (t : Touched T). t.matters) (touched_at n planned.touched) false ≡ false
      by_touched None is = ap (λ o. option_map_or (λ (t : Touched T). t.matters) o false) is
      by_touched (Some touched) is = absurd (false≢true (sym (ap is_some absent) ∙ windows.kept n touched is))

  pub AreIntervalsOf-new : AreIntervalsOf rank theory new view.table intervals
  AreIntervalsOf-new = record {
    members = members-new;
    none = λ n absent. ap members_in (others n (matters_in-at n planned.touched once ∙ idle-absent n absent)) ∙ intervals_old.none n absent;
  }

  -- the properties with other intervals are counted
  pub props-new : IsOneToOne view.table → ListsInitials theory → ((p : Ground) → IsTrue (is_live theory old p) → IsSome (prop_of p view.table))
      → ((p : Ground) → IsTrue (is_live theory new p) → IsSome (prop_of p view.table))
      → length (filter (is_moved rank view.intervals intervals) planned.touched) ≡ (change_counts theory old new).props
  unfolding has_other_intervals
  props-new one names live_old live_new =
      props-counted theory old new view.table one (is_moved rank view.intervals intervals) planned.touched names once kept unmoved idle told
    where
      dead : (events : List PlainEvent) → ((p : Ground) → IsTrue (is_live theory events p) → IsSome (prop_of p view.table)) → (p : Ground) → is_some (prop_of p view.table) ≡ false
          → intervals_of theory events p ≡ []
      dead events live p absent =
          (not_live-unknown theory events p (false_from_ne_true (is_live theory events p) (λ lives. false≢true (sym absent ∙ live p lives)))).no_interval

      kept : (p : Ground) → IsTrue (has_other_intervals theory old new p) → (n : ℕ) × (term_at n view.table ≡ Some p)
      kept p other =
          ⊎_elim
          (λ there. let number = Some-from_is_some (prop_of p view.table) there in (number.0, term_at-prop_of view.table p number.0 one number.1))
          (λ absent. absurd (false≢true (sym ((OtherIntervalsDiffer-law theory old new p).1 (dead old live_old p absent ∙ sym (dead new live_new p absent))) ∙ other)))
          (cases_Bool (is_some (prop_of p view.table)))

      idle : (row : Row T) → IsMember planned.touched row → row.1.matters ≡ false → is_moved rank view.intervals intervals row ≡ false
      idle row member idles = ap (λ b. b && not (pointwise interval_eq (intervals_at rank row.0 view.intervals) (intervals_at rank row.0 intervals))) idles

      told : (row : Row T) → IsMember planned.touched row → row.1.matters ≡ true
          → (p : Ground) × (term_at row.0 view.table ≡ Some p) × (is_moved rank view.intervals intervals row ≡ has_other_intervals theory old new p)
      told row member matters =
          let place = slice_get-member planned.touched row member in
          let found = touched_at-listed planned.touched place.0 row once place.1 in
          let term = kept_term view.table (record { 0 = row.0 }) (windows.kept row.0 row.1 found) in (
            term.0,
            term.1,
            ap (λ b. b && not (pointwise interval_eq (intervals_at rank row.0 view.intervals) (intervals_at rank row.0 intervals))) matters
                ∙ ap₂ (λ xs ys. not (pointwise interval_eq xs ys)) (intervals_old.members row.0 term.0 term.1) (members-new row.0 term.0 term.1),
          )

-- the parts stand for the new list
pub stands-new : {T : Type 0} (rank : T → ℤ) (theory : Theory) (old new : List PlainEvent) (view : View T) (tally : Tally) (store : Store T) (entries : Entered T) (points initiations : PointTable T) (intervals : IntervalTable T)
    → StandForBoth rank theory old new view tally → IsTrue (is_history new) → history_of rank store.events ≡ new → AreEntriesOf rank theory new view.table store entries
    → AreMarksOf rank theory new view.table points → AreInitiationsOf rank theory new view.table initiations → AreIntervalsOf rank theory new view.table intervals
    → StandForBoth rank theory new new (record { store = store; table = view.table; neighbours = view.neighbours; entries = entries; points = points; initiations = initiations; intervals = intervals }) tally
stands-new rank theory old new view tally store entries points initiations intervals stands history events entered marks starts spans = record {
  tables = record { kept = stands.tables.kept; added = stands.tables.added; initials = marks.initials; tally_of = stands.tables.tally_of };
  caches = record { history = history; events_of = events; entries_of = entered; marks_of = marks; initiations_of = starts; intervals_of = spans };
  live = stands.tables.kept.live;
}
