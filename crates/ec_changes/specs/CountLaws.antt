-- The laws of what a change counts, as statements.
use Rattle.std.specs.Prelude.{◌↔◌, IsFalse, ◌≡◌, ℕ, ◌+◌, Bool, List, ℤ, pos, ◌+ℤ◌, int_le, int_lt, length, filter, sum_by, IsTrue}
use Rattle.std.specs.List.{list_any, list_all, IsDistinct}
use Rattle.std.specs.Ordering.{int_eq}
use Rattle.ec_terms.specs.declared.ground.Ground.{Ground}
use Rattle.ec_terms.specs.declared.theory.Theory.{Theory}
use Rattle.ec_terms.specs.Term.{term_eq}
use Rattle.ec_axioms.specs.Calculus.{PlainEvent, Effect, intervals_of}
use Rattle.ec_axioms.specs.Changes.{kept_events, kept_effects, change_counts, work_between, has_other_intervals}
use Rattle.ec_changes.specs.LiveLaws.{ListsInitials}
use Rattle.ec_changes.specs.Differences.{entries_at, IsQuietStretch}
use Rattle.ec_changes.specs.Turns.{turns_on, turns_off, sees, kept_count}

-- The count of kept entries before the next whole number is that before this one, and those at this one.
abbrev pub KeptCountsGoOn : Type 0
KeptCountsGoOn =
    (theory : Theory) (old new : List PlainEvent) (test : Effect → Bool) (t : ℤ)
    → kept_count theory old new test (t +ℤ pos 1)
    ≡ kept_count theory old new test t + length (filter test (entries_at theory (kept_events old new) t))

-- It is nothing before all kept events, and behind them it counts all.
abbrev pub KeptCountsAreWhole : Type 0
KeptCountsAreWhole =
    (theory : Theory) (old new : List PlainEvent) (test : Effect → Bool) (t : ℤ)
    → (IsTrue (list_all (λ e. int_le t e.rank) (kept_events old new)) → kept_count theory old new test t ≡ 0)
    × (IsTrue (list_all (λ e. int_lt e.rank t) (kept_events old new)) → kept_count theory old new test t ≡ length (filter test (kept_effects theory old new)))

-- the three counts of kept entries are the same before t as before r
pub record CountsNothingBetween (theory : Theory) (old new : List PlainEvent) (r t : ℤ) : Type 0 where
  pub seen : kept_count theory old new (sees theory old new) t ≡ kept_count theory old new (sees theory old new) r
  pub on : kept_count theory old new (turns_on theory old new) t ≡ kept_count theory old new (turns_on theory old new) r
  pub off : kept_count theory old new (turns_off theory old new) t ≡ kept_count theory old new (turns_off theory old new) r

-- Over a quiet stretch no entry sees a change or turns.
abbrev pub QuietCountsNothing : Type 0
QuietCountsNothing =
    (theory : Theory) (old new : List PlainEvent) (r : ℤ) (n : ℕ) → IsQuietStretch theory old new r n
    → CountsNothingBetween theory old new r (r +ℤ pos n)

-- three counts of a change as sums over a list of instants
pub record SumsOver (theory : Theory) (old new : List PlainEvent) (instants : List ℤ) : Type 0 where
  pub seen : (change_counts theory old new).seen ≡ sum_by (λ t. length (filter (sees theory old new) (entries_at theory (kept_events old new) t))) instants
  pub on : (change_counts theory old new).on ≡ sum_by (λ t. length (filter (turns_on theory old new) (entries_at theory (kept_events old new) t))) instants
  pub off : (change_counts theory old new).off ≡ sum_by (λ t. length (filter (turns_off theory old new) (entries_at theory (kept_events old new) t))) instants

-- What a change counts is the sum of what turned at each instant, over any list that has each instant of a kept event once.
abbrev pub CountsAreSums : Type 0
CountsAreSums =
    (theory : Theory) (old new : List PlainEvent) (instants : List ℤ) → IsDistinct int_eq instants
    → IsTrue (list_all (λ e. list_any (int_eq e.rank) instants) (kept_events old new)) → SumsOver theory old new instants

-- A property has other intervals in the new list exactly when its intervals are not the same.
abbrev pub OtherIntervalsDiffer : Type 0
OtherIntervalsDiffer =
    (theory : Theory) (old new : List PlainEvent) (p : Ground)
    → IsFalse (has_other_intervals theory old new p) ↔ (intervals_of theory old p ≡ intervals_of theory new p)

-- The properties whose intervals differ may be counted in any list that has each of them and has none twice.
abbrev pub PropertiesInAnyList : Type 0
PropertiesInAnyList =
    (theory : Theory) (old new : List PlainEvent) (properties : List Ground) → ListsInitials theory → IsDistinct term_eq properties
    → ((p : Ground) → IsTrue (has_other_intervals theory old new p) → IsTrue (list_any (term_eq p) properties))
    → (change_counts theory old new).props ≡ length (filter (has_other_intervals theory old new) properties)

-- nothing changed between two lists
pub record NothingChanged (theory : Theory) (old new : List PlainEvent) : Type 0 where
  pub seen : (change_counts theory old new).seen ≡ 0
  pub on : (change_counts theory old new).on ≡ 0
  pub off : (change_counts theory old new).off ≡ 0
  pub props : (change_counts theory old new).props ≡ 0
  pub work : work_between theory old new ≡ 0

-- Between a list and itself nothing changed.
abbrev pub SameListChangesNothing : Type 0
SameListChangesNothing = (theory : Theory) (events : List PlainEvent) → NothingChanged theory events events
