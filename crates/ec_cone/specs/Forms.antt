-- Forms of properties, and which forms a theory reads for which: by its rules and its exclusive declarations.
use Rattle.std.specs.Prelude.{ℕ, Bool, ◌&&◌, ◌==◌, List, [], ◌∷◌, ◌++◌, length, map, flat_map, bytes_eq}
use Rattle.ec_terms.specs.declared.ground.Ground.{Ground}
use Rattle.ec_terms.specs.declared.pattern.Pattern.{Pattern}
use Rattle.ec_terms.specs.declared.theory.Literal.{Literal}
use Rattle.ec_terms.specs.declared.theory.Rule.{Rule}
use Rattle.ec_terms.specs.declared.theory.Exclusive.{Exclusive}
use Rattle.ec_terms.specs.declared.theory.Theory.{Theory}

-- a name and a number of arguments
pub record Form : Type 0 where
  pub name : List ℕ
  pub arity : ℕ

-- the form of a property
abbrev pub form_of : Ground → Form
form_of p = record { name = p.name; arity = length p.args }

-- the form of a pattern: that of each property that it fits
abbrev pub pattern_form : Pattern → Form
pattern_form pattern = record { name = pattern.name; arity = length pattern.args }

-- two forms are the same
unfoldable pub form_eq : Form → Form → Bool
form_eq f g = bytes_eq f.name g.name && f.arity == g.arity

-- a reading: what happens to properties of the one form may rest on properties of the other
pub record Reading : Type 0 where
  pub from : Form
  pub to : Form

-- the readings of a rule: from its head to each of its literals
abbrev pub rule_readings : Rule → List Reading
rule_readings rule = map (λ (literal : Literal). record { from = pattern_form rule.head; to = pattern_form literal.prop }) rule.literals

-- the readings of an exclusive declaration: from each side to the other
abbrev pub exclusive_readings : Exclusive → List Reading
exclusive_readings declaration =
    record { from = pattern_form declaration.left; to = pattern_form declaration.right }
    ∷ record { from = pattern_form declaration.right; to = pattern_form declaration.left }
    ∷ []

-- the readings of a theory
unfoldable pub readings_of : Theory → List Reading
readings_of theory = flat_map rule_readings theory.rules ++ flat_map exclusive_readings theory.exclusives
