-- The laws of the cone, as statements.
use Rattle.std.specs.Prelude.{◌≡◌, Bool, List, Contains, IsTrue}
use Rattle.ec_terms.specs.declared.ground.Ground.{Ground}
use Rattle.ec_terms.specs.declared.theory.Literal.{Literal}
use Rattle.ec_terms.specs.declared.theory.Rule.{Rule}
use Rattle.ec_terms.specs.declared.theory.Exclusive.{Exclusive}
use Rattle.ec_terms.specs.declared.theory.Theory.{Theory}
use Rattle.ec_terms.specs.Domain.{GroundEntry, entries_of}
use Rattle.ec_terms.specs.Matchable.{IsMatchable}
use Rattle.ec_axioms.specs.Calculus.{PlainEvent}
use Rattle.ec_axioms.specs.Changes.{is_history}
use Rattle.ec_cone.specs.Closed.{IsClosed, SaysTheSame}
use Rattle.ec_cone.specs.Forms.{Form, pattern_form}
use Rattle.ec_cone.specs.Cone.{cone_has, in_cone, is_cone_entry, cone_events, cone_rules, has_number}

-- A set of forms has a form and all that it rests on: with the head of a rule each of its literals, and with one side of an
-- exclusive declaration the other.
pub record HasAllBelow (theory : Theory) (start : Form) (inside : Form → Bool) : Type 0 where
  pub itself : IsTrue (inside start)
  pub literals : (rule : Rule) (literal : Literal) → Contains theory.rules rule → Contains rule.literals literal
      → IsTrue (inside (pattern_form rule.head)) → IsTrue (inside (pattern_form literal.prop))
  pub rights : (declaration : Exclusive) → Contains theory.exclusives declaration
      → IsTrue (inside (pattern_form declaration.left)) → IsTrue (inside (pattern_form declaration.right))
  pub lefts : (declaration : Exclusive) → Contains theory.exclusives declaration
      → IsTrue (inside (pattern_form declaration.right)) → IsTrue (inside (pattern_form declaration.left))

-- The cone is such a set,
abbrev pub ConeHasAllBelow : Type 0
ConeHasAllBelow = (theory : Theory) (start : Form) → HasAllBelow theory start (cone_has theory start)

-- and the least one.
abbrev pub ConeIsLeast : Type 0
ConeIsLeast =
    (theory : Theory) (start : Form) (inside : Form → Bool) → HasAllBelow theory start inside
    → (form : Form) → IsTrue (cone_has theory start form) → IsTrue (inside form)

-- The properties whose forms are in the cone are a closed set.
abbrev pub ConeIsClosed : Type 0
ConeIsClosed = (theory : Theory) (p : Ground) → IsMatchable theory → IsClosed theory (in_cone theory p)

-- The events with a cone entry say of the property what the whole history says.
abbrev pub ConeSuffices : Type 0
ConeSuffices =
    (theory : Theory) (events : List PlainEvent) (p : Ground) → IsMatchable theory → IsTrue (is_history events)
    → SaysTheSame theory events (cone_events theory p events) p

-- An entry is a cone entry exactly when the head of its rule is in the cone.
abbrev pub ConeGoesByRules : Type 0
ConeGoesByRules =
    (theory : Theory) (p event : Ground) (entry : GroundEntry) → IsMatchable theory → Contains (entries_of theory event) entry
    → has_number (cone_rules theory p) entry.rule ≡ is_cone_entry theory p entry
