-- What a theory says of one event and of properties: the entries of an event, and which properties are exclusive, strong and initial; and of which kind its times are.
use Rattle.std.specs.Prelude.{ℕ, ◌+◌, Bool, ◌&&◌, ◌||◌, not, if◌then◌else◌, List, [], ◌∷◌, ◌++◌, length, map, Option, Some, None, pos, bytes_eq}
use Rattle.std.specs.List.{list_all, list_any, cons_option}
use Rattle.std.specs.Ordering.{int_eq}
use Rattle.ec_terms.specs.declared.ground.Ground.{Ground}
use Rattle.ec_terms.specs.declared.pattern.Pattern.{Pattern}
use Rattle.ec_terms.specs.declared.theory.Kind.{Kind}
use Rattle.ec_terms.specs.declared.theory.Literal.{Literal}
use Rattle.ec_terms.specs.declared.theory.Rule.{Rule}
use Rattle.ec_terms.specs.declared.theory.Exclusive.{Exclusive}
use Rattle.ec_terms.specs.declared.theory.TimeKind.{TimeKind}
use Rattle.ec_terms.specs.declared.theory.TimeKind.TheVariants.{Tick}
use Rattle.ec_terms.specs.declared.theory.TimeDecl.{TimeDecl}
use Rattle.ec_terms.specs.declared.theory.Theory.{Theory}
use Rattle.ec_terms.specs.Term.{term_eq}
use Rattle.ec_terms.specs.Matching.{Values, binding_of, first_value, fits, fits_some, filled, test_holds}

-- a literal with its variables filled in: that a property is current, or, where not positive, that it is not
pub record GroundLiteral : Type 0 where
  pub positive : Bool
  pub prop : Ground

-- a rule that an event meets, with its variables filled in
pub record GroundEntry : Type 0 where
  pub rule : ℕ
  pub kind : Kind
  pub head : Ground
  pub literals : List GroundLiteral

-- a literal filled in
abbrev pub ground_literal_of : Values → Literal → GroundLiteral
ground_literal_of values literal = record { positive = literal.positive; prop = filled values literal.prop }

-- an event meets a rule: the event pattern fits it under one binding, and every test holds
unfoldable pub meets : Rule → Ground → Bool
meets rule event = fits_some rule.event event && list_all (test_holds (binding_of rule.event event)) rule.tests

-- the entry of an event under the rule of this number, where the event meets it
unfoldable pub entry_of : ℕ → Rule → Ground → Option GroundEntry
entry_of number rule event =
    let values = binding_of rule.event event in
    if meets rule event then
    Some (record { rule = number; kind = rule.kind; head = filled values rule.head; literals = map (ground_literal_of values) rule.literals })
    else None

-- the entries of an event under rules that are numbered from `number` on
unfoldable pub entries_from : ℕ → List Rule → Ground → List GroundEntry
entries_from number [] event = []
entries_from number (rule ∷ rules) event = cons_option (entry_of number rule event) (entries_from (number + 1) rules event)

-- the entries of an event, by rule number; rules are numbered from 1
abbrev pub entries_of : Theory → Ground → List GroundEntry
entries_of theory event = entries_from 1 theory.rules event

-- two patterns fit two properties under one binding
unfoldable pub both_fit : Pattern → Pattern → Ground → Ground → Bool
both_fit left right p q =
    let values = first_value (left.args ++ right.args) (p.args ++ q.args) in fits values left p && fits values right q

-- a declaration speaks of the two properties, in this order or the other
unfoldable pub excludes : Ground → Ground → Exclusive → Bool
excludes p q declaration =
    both_fit declaration.left declaration.right p q || both_fit declaration.left declaration.right q p

-- two different properties of which some declaration speaks
unfoldable pub are_exclusive : Theory → Ground → Ground → Bool
are_exclusive theory p q = not (term_eq p q) && list_any (excludes p q) theory.exclusives

-- a property whose name and number of arguments are declared strong
unfoldable pub is_strong : Theory → Ground → Bool
is_strong theory p = list_any (λ s. bytes_eq s.name p.name && int_eq s.arity (pos (length p.args))) theory.strongs

-- a property that is declared initial
unfoldable pub is_initial : Theory → Ground → Bool
is_initial theory p = list_any (λ i. fits_some i.prop p) theory.initials

-- the kind of the first of some declarations; without one, ticks
abbrev pub first_kind : List TimeDecl → TimeKind
first_kind [] = Tick
first_kind (declaration ∷ later) = declaration.kind

-- the kind of time of a theory
unfoldable pub time_of : Theory → TimeKind
time_of theory = first_kind theory.times
