-- The laws of marks by the properties that are live, as statements.
use Rattle.std.specs.Prelude.{Bool, true, false, ◌≡◌, ℕ, ◌≤◌, ◌||◌, List, [], ℤ, length, filter, sum_by, IsTrue, IsFalse}
use Rattle.std.specs.List.{list_any, list_all, IsDistinct}
use Rattle.ec_terms.specs.declared.ground.Ground.{Ground}
use Rattle.ec_terms.specs.declared.pattern.PatArg.{PatArg}
use Rattle.ec_terms.specs.declared.pattern.PatArg.TheVariants.{Var, Any, Fixed}
use Rattle.ec_terms.specs.declared.theory.Initial.{Initial}
use Rattle.ec_terms.specs.declared.theory.Theory.{Theory}
use Rattle.ec_terms.specs.Term.{term_eq}
use Rattle.ec_terms.specs.Domain.{are_exclusive, is_initial}
use Rattle.ec_axioms.specs.Calculus.{PlainEvent, is_current, intervals_of, broken_of}
use Rattle.ec_axioms.specs.Links.{mentions_of, is_live, initial_properties, live_properties}
use Rattle.ec_axioms.specs.Marks.{PlainMark, mark_at}
use Rattle.ec_changes.specs.Differences.{differs}

-- a list of properties has each live one, and has none twice
pub record HasLive (theory : Theory) (events : List PlainEvent) (properties : List Ground) : Type 0 where
  pub once : IsDistinct term_eq properties
  pub live : (p : Ground) → IsTrue (is_live theory events p) → IsTrue (list_any (term_eq p) properties)

-- how often the properties of a list that are exclusive to p are initiated at an instant, together
unfoldable pub neighbour_inits : Theory → List PlainEvent → List Ground → Ground → ℤ → ℕ
neighbour_inits theory events properties p t = sum_by (λ q. (mark_at theory events q t).inits) (filter (are_exclusive theory p) properties)

-- The clashes of a property at an instant are the initiations there of those that are exclusive to it.
abbrev pub ClashesAreInitiations : Type 0
ClashesAreInitiations =
    (theory : Theory) (events : List PlainEvent) (properties : List Ground) (p : Ground) (t : ℤ) → HasLive theory events properties
    → (mark_at theory events p t).clashes ≡ neighbour_inits theory events properties p t

-- a property of which nothing is known: it is never current and has no interval, and only others that are initiated mark it
pub record IsUnknown (theory : Theory) (events : List PlainEvent) (p : Ground) : Type 0 where
  pub never_current : (t : ℤ) → IsFalse (is_current theory events p t)
  pub no_inits : (t : ℤ) → (mark_at theory events p t).inits ≡ 0
  pub no_terms : (t : ℤ) → (mark_at theory events p t).terms ≡ 0
  pub no_interval : intervals_of theory events p ≡ []
  pub none_broken : broken_of theory events p ≡ []

-- Of a property that is not live nothing is known.
abbrev pub NotLiveIsUnknown : Type 0
NotLiveIsUnknown = (theory : Theory) (events : List PlainEvent) (p : Ground) → IsFalse (is_live theory events p) → IsUnknown theory events p

-- So its marks are made of its neighbours' initiations alone.
abbrev pub NotLiveIsGathered : Type 0
NotLiveIsGathered =
    (theory : Theory) (events : List PlainEvent) (properties : List Ground) (p : Ground) (t : ℤ) → HasLive theory events properties
    → IsFalse (is_live theory events p)
    → mark_at theory events p t ≡ record { instant = t; inits = 0; terms = 0; clashes = neighbour_inits theory events properties p t }

-- And a property that differs between two lists is live in one of them.
abbrev pub WhatDiffersIsLive : Type 0
WhatDiffersIsLive =
    (theory : Theory) (old new : List PlainEvent) (p : Ground) (t : ℤ) → IsTrue (differs theory old new p t)
    → IsTrue (is_live theory old p || is_live theory new p)

-- each count of a mark is at most n
pub record CountsAtMost (n : ℕ) (mark : PlainMark) : Type 0 where
  pub inits : mark.inits ≤ n
  pub terms : mark.terms ≤ n
  pub clashes : mark.clashes ≤ n

-- Each count of a mark is at most the number of mentions.
abbrev pub MarksAreSmall : Type 0
MarksAreSmall =
    (theory : Theory) (events : List PlainEvent) (p : Ground) (t : ℤ) → CountsAtMost (length (mentions_of theory events)) (mark_at theory events p t)

-- ---- initial properties

-- a place of a pattern is a fixed argument
abbrev pub is_fixed : PatArg → Bool
is_fixed (Fixed a) = true
is_fixed (Var v) = false
is_fixed Any = false

-- the properties that are initial are those that the theory lists
abbrev pub ListsInitials : Theory → Type 0
ListsInitials theory = (p : Ground) → is_initial theory p ≡ list_any (term_eq p) (initial_properties theory)

-- A theory that declares initial properties without variables lists them.
abbrev pub FixedInitialsAreListed : Type 0
FixedInitialsAreListed =
    (theory : Theory) → IsTrue (list_all (λ (initial : Initial). list_all is_fixed initial.prop.args) theory.initials) → ListsInitials theory

-- There a property is live exactly when it stands among the live properties, which have none twice.
abbrev pub LiveIsListed : Type 0
LiveIsListed =
    (theory : Theory) (events : List PlainEvent) → ListsInitials theory
    → HasLive theory events (live_properties theory events)
    × ((p : Ground) → is_live theory events p ≡ list_any (term_eq p) (live_properties theory events))
