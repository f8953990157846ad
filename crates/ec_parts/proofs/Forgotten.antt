-- A property that nothing mentions is forgotten: the parts stand for the same lists.
use Rattle.std.proofs.Common.{◌≡◌, ℕ, ℤ, ◌+◌, ◌<◌, ◌≢◌, true, false, Bool, not, cond, ◌&&◌, ◌||◌, List, [], ◌++◌, map, length, get_or, Some, None, is_some, IsTrue, IsSome, refl, sym, ap, ap₂, subst, ◌∙◌, ⊎_elim, arith}
use Rattle.std.specs.Prelude.{◌==◌, nat_lt, option_map}
use Rattle.std.specs.List.{list_any}
use Rattle.std.proofs.lemmas.Bool.{cases_Bool, false≢true, eqb-true, eq-eqb, or_parts}
use Rattle.std.proofs.lemmas.Option.{same_Some}
use Rattle.ec_terms.specs.declared.ids.PropId.{PropId}
use Rattle.ec_terms.specs.declared.ground.Ground.{Ground}
use Rattle.ec_terms.specs.declared.theory.Theory.{Theory}
use Rattle.ec_terms.specs.Term.{term_eq}
use Rattle.ec_terms.specs.Domain.{is_initial}
use Rattle.ec_lists.proofs.Options.{Some-from_is_some, is_some-option_map}
use Rattle.ec_lists.proofs.Tests.{list_any-map, list_any-none_at, nat_lt-filter}
use Rattle.ec_axioms.specs.Calculus.{PlainEvent}
use Rattle.ec_axioms.specs.Links.{is_live, mentions_of}
use Rattle.ec_store.specs.Table.{KeptProp, prop_at, prop_of, term_at, mentions_at, without_prop}
use Rattle.ec_store.proofs.PropLemmas.{prop_at-without_other, prop_at-without_itself}
use Rattle.ec_numbered.specs.PropSet.{has_number}
use Rattle.ec_numbered.proofs.Numbers.{has_number-filter}
use Rattle.ec_exclusive.specs.Added.{Added, added_props, is_added, without_added}
use Rattle.ec_exclusive.specs.Neighbours.{AreNeighbours}
use Rattle.ec_exclusive.proofs.SameTerms.{read_terms_alone, absent-left}
use Rattle.ec_exclusive.proofs.Leaving.{added_props-less}
use Rattle.ec_points.specs.Table.{PointTable, marks_at, is_initial_at, row_at as points_row, marks_in}
use Rattle.ec_rows.specs.PlainMarks.{plain_marks}
use Rattle.ec_intervals.specs.Table.{IntervalTable, members_at, members_in, front_at, spans_at, front_members, plain_intervals, span_interval, row_at as intervals_row}
use Rattle.ec_parts.specs.Tables.{mention_count, held_mention, AreKept, AreAllAdded}
use Rattle.ec_parts.specs.Caches.{AreEventsOf, AreEntriesOf, AreInitialsOf}
use Rattle.ec_parts.specs.StandFor.{View}
use Rattle.ec_parts.specs.Mentions.{IsNotLive, ForgetsOne}
use Rattle.ec_parts.proofs.LinksByNumber.{IsOneToOne}
use Rattle.ec_parts.proofs.CachesKept.{AreEntriesOf-moved, prop_of-moved}

-- the rows of a number are empty and the others stay
pub record AreCleared {T : Type 0} (p : PropId) (before after : PointTable T) : Type 0 where
  pub marks : marks_at p.0 after ≡ []
  pub others : (n : ℕ) → n ≢ p.0 → points_row n after ≡ points_row n before
  pub initials : after.initials ≡ before.initials

pub record AreNoIntervals {T : Type 0} (p : PropId) (before after : IntervalTable T) : Type 0 where
  pub front : front_at p.0 after ≡ None
  pub spans : spans_at p.0 after ≡ []
  pub others : (n : ℕ) → n ≢ p.0 → intervals_row n after ≡ intervals_row n before

-- a property is taken out of all parts
pub record IsTakenOut {T : Type 0} (theory : Theory) (p : PropId) (before after : View T) : Type 0 where
  pub store : after.store ≡ before.store
  pub entries : after.entries ≡ before.entries
  pub table : after.table ≡ without_prop p.0 before.table
  pub rows : after.neighbours.rows ≡ without_added p before.neighbours.rows
  pub neighbours : (table : List KeptProp) → AreNeighbours theory table before.neighbours → AreNeighbours theory table after.neighbours
  pub points : AreCleared p before.points after.points
  pub initiations : AreCleared p before.initiations after.initiations
  pub intervals : AreNoIntervals p before.intervals after.intervals

-- what nothing mentions is not live
pub unmentioned-not_live : (theory : Theory) (events : List PlainEvent) (t : Ground) → Some 0 ≡ Some (mention_count theory events t + held_mention theory t) → is_live theory events t ≡ false
unfolding is_live
unmentioned-not_live theory events t none =
    ap (λ b. is_initial theory t || b) (sym (nat_lt-filter (term_eq t) (mentions_of theory events)))
    ∙ neither (mention_count theory events t) (is_initial theory t) (same_Some {A = ℕ} 0 _ none)
  where
    neither : (n : ℕ) (b : Bool) → 0 ≡ n + cond b 1 0 → (b || nat_lt 0 n) ≡ false
    neither n true none = absurd (omega arith)
    neither n false none = grind arith

module _ {T : Type 0} (rank : T → ℤ) (theory : Theory) (p : PropId) (before after : View T) (one : IsOneToOne before.table) (out : IsTakenOut theory p before after)
    (unmentioned : mentions_at p.0 before.table ≡ Some 0) where
  -- another number keeps what it kept
  prop_at-other : (n : ℕ) → (n ≡ p.0 → ⊥) → prop_at n after.table ≡ prop_at n before.table
  prop_at-other n other = ap (prop_at n) out.table ∙ prop_at-without_other p.0 n before.table other

  term_at-other : (n : ℕ) → (n ≡ p.0 → ⊥) → term_at n after.table ≡ term_at n before.table
  term_at-other n other = ap (option_map (λ (k : KeptProp). k.term)) (prop_at-other n other)

  prop_at-itself : prop_at p.0 after.table ≡ None
  prop_at-itself = ap (prop_at p.0) out.table ∙ prop_at-without_itself p.0 before.table

  -- what is kept now is kept under another number
  apart : (n : ℕ) (t : Ground) → term_at n after.table ≡ Some t → n ≡ p.0 → ⊥
  apart n t is same = false≢true (ap is_some (sym (ap (λ m. option_map (λ (k : KeptProp). k.term) (prop_at m after.table)) same ∙ ap (option_map (λ (k : KeptProp). k.term)) prop_at-itself) ∙ is))

  -- a property that is live in a list in which this one is not stays under its number
  moves : (events : List PlainEvent) → IsNotLive theory events p.0 before.table → (n : ℕ) (t : Ground) → term_at n before.table ≡ Some t → is_live theory events t ≡ true → term_at n after.table ≡ Some t
  moves events not_live n t is live = term_at-other n (λ same. false≢true (sym (not_live t (ap (λ m. term_at m before.table) (sym same) ∙ is)) ∙ live)) ∙ is

  not_live-soon : (soon : List PlainEvent) → AreKept theory soon before.table → IsNotLive theory soon p.0 before.table
  not_live-soon soon kept t is = unmentioned-not_live theory soon t (sym unmentioned ∙ kept.mentions p.0 t is)

  live-kept : (events : List PlainEvent) → IsNotLive theory events p.0 before.table → ((t : Ground) → IsTrue (is_live theory events t) → IsSome (prop_of t before.table))
      → (t : Ground) → IsTrue (is_live theory events t) → IsSome (prop_of t after.table)
  live-kept events not_live kept t live = prop_of-moved before.table after.table t one (λ n is. moves events not_live n t is live) (kept t live)

  AreKept-out : (soon : List PlainEvent) → AreKept theory soon before.table → AreKept theory soon after.table
  AreKept-out soon kept = record {
    live = live-kept soon (not_live-soon soon kept) kept.live;
    mentions = λ n t is. ap (option_map (λ (k : KeptProp). k.mentions)) (prop_at-other n (apart n t is)) ∙ kept.mentions n t (sym (term_at-other n (apart n t is)) ∙ is);
  }

  AreAllAdded-out : AreAllAdded theory before.table before.neighbours → AreAllAdded theory after.table after.neighbours
  AreAllAdded-out added = record {
    neighbours = read_terms_alone theory before.table after.table after.neighbours (λ k d below. term_at-other (get_or after.neighbours.rows k d).prop.0 (other_row k d below)) (out.neighbours before.table added.neighbours);
    added = λ q. is_left q;
  }
    where
      absent : list_any (λ (row : Added). row.prop.0 == p.0) after.neighbours.rows ≡ false
      absent = sym (list_any-map (λ (q : PropId). q.0 == p.0) (λ (row : Added). row.prop) after.neighbours.rows) ∙ ap (is_added p) out.rows ∙ absent-left p before.neighbours.rows

      other_row : (k : ℕ) (d : Added) → k < length after.neighbours.rows → (get_or after.neighbours.rows k d).prop.0 ≡ p.0 → ⊥
      other_row k d below same = false≢true (sym (list_any-none_at (λ (row : Added). row.prop.0 == p.0) after.neighbours.rows k d absent below) ∙ eq-eqb _ p.0 same)

      is_left : (q : PropId) → is_added q after.neighbours.rows ≡ is_some (prop_at q.0 after.table)
      is_left q =
          ap (is_added q) out.rows
          ∙ ap (has_number q.0) (added_props-less p before.neighbours.rows)
          ∙ has_number-filter q (λ (r : PropId). not (r.0 == p.0)) (added_props before.neighbours.rows)
          ∙ ap (λ b. not (q.0 == p.0) && b) (added.added q)
          ∙ of (q.0 == p.0) refl
        where
          of : (same : Bool) → (q.0 == p.0) ≡ same → (not same && is_some (prop_at q.0 before.table)) ≡ is_some (prop_at q.0 after.table)
          of true is = sym (ap is_some (ap (λ n. prop_at n after.table) (eqb-true q.0 p.0 is) ∙ prop_at-itself))
          of false is = sym (ap is_some (prop_at-other q.0 (λ same. false≢true (sym is ∙ eq-eqb q.0 p.0 same))))

  -- a number that keeps nothing now
  none-cases : {P : ℕ → Type 0} → P p.0 → ((n : ℕ) → (n ≡ p.0 → ⊥) → prop_at n before.table ≡ None → P n) → (n : ℕ) → prop_at n after.table ≡ None → P n
  none-cases {P} own other n none =
      ⊎_elim (λ same. subst P (sym (eqb-true n p.0 same)) own)
      (λ differs. let apart_from : n ≡ p.0 → ⊥ = λ same. false≢true (sym differs ∙ eq-eqb n p.0 same) in other n apart_from (sym (prop_at-other n apart_from) ∙ none)) (cases_Bool (n == p.0))

  initial-same : (n : ℕ) → is_initial_at n after.points ≡ is_initial_at n before.points
  initial-same n = ap (has_number n) out.points.initials

  AreInitialsOf-out : (now : List PlainEvent) → IsNotLive theory now p.0 before.table → AreInitialsOf theory before.table before.points → AreInitialsOf theory after.table after.points
  unfolding is_live
  AreInitialsOf-out now not_live initials = record {
    initial = λ n t is. initial-same n ∙ initials.initial n t (sym (term_at-other n (apart n t is)) ∙ is);
    none = none-cases {P = λ n. is_initial_at n after.points ≡ false} (initial-same p.0 ∙ own_not_initial) (λ n other none. initial-same n ∙ initials.none n none);
  }
    where
      kept_own : (t : Ground) × (term_at p.0 before.table ≡ Some t)
      kept_own = Some-from_is_some (term_at p.0 before.table) (is_some-option_map (λ (k : KeptProp). k.term) (prop_at p.0 before.table) ∙ sym (is_some-option_map (λ (k : KeptProp). k.mentions) (prop_at p.0 before.table)) ∙ ap is_some unmentioned)

      own_not_initial : is_initial_at p.0 before.points ≡ false
      own_not_initial = initials.initial p.0 kept_own.0 kept_own.1 ∙ (or_parts (is_initial theory kept_own.0) _ (not_live kept_own.0 kept_own.1)).0

  -- the parts stand for the same lists
  pub ForgetsOne-out : ForgetsOne rank theory p before after
  ForgetsOne-out now soon tally not_live stand = record {
    tables = record {
      kept = AreKept-out soon stand.tables.kept;
      added = AreAllAdded-out stand.tables.added;
      initials = AreInitialsOf-out now not_live stand.tables.initials;
      tally_of = stand.tables.tally_of;
    };
    caches = record {
      history = stand.caches.history;
      events_of = subst (AreEventsOf rank now) (sym out.store) stand.caches.events_of;
      entries_of = subst (λ store. AreEntriesOf rank theory now after.table store after.entries) (sym out.store)
          (subst (λ entries. AreEntriesOf rank theory now after.table before.store entries) (sym out.entries)
          (AreEntriesOf-moved rank theory now before.table after.table (moves now not_live) before.store before.entries stand.caches.events_of stand.caches.entries_of));
      marks_of = record {
        marks = λ n t is. ap (λ row. plain_marks rank (marks_in row)) (out.points.others n (apart n t is)) ∙ stand.caches.marks_of.marks n t (sym (term_at-other n (apart n t is)) ∙ is);
        none = none-cases {P = λ n. marks_at n after.points ≡ []} out.points.marks (λ n other none. ap marks_in (out.points.others n other) ∙ stand.caches.marks_of.none n none);
        initials = AreInitialsOf-out now not_live stand.caches.marks_of.initials;
      };
      initiations_of = record {
        marks = λ n t is. ap (λ row. plain_marks rank (marks_in row)) (out.initiations.others n (apart n t is)) ∙ stand.caches.initiations_of.marks n t (sym (term_at-other n (apart n t is)) ∙ is);
        none = none-cases {P = λ n. marks_at n after.initiations ≡ []} out.initiations.marks (λ n other none. ap marks_in (out.initiations.others n other) ∙ stand.caches.initiations_of.none n none);
      };
      intervals_of = record {
        members = λ n t is. ap (λ row. plain_intervals rank (members_in row)) (out.intervals.others n (apart n t is)) ∙ stand.caches.intervals_of.members n t (sym (term_at-other n (apart n t is)) ∙ is);
        none = none-cases {P = λ n. members_at n after.intervals ≡ []} (ap₂ (λ front spans. front_members front ++ map span_interval spans) out.intervals.front out.intervals.spans)
            (λ n other none. ap members_in (out.intervals.others n other) ∙ stand.caches.intervals_of.none n none);
      };
    };
    live = live-kept now not_live stand.live;
  }
