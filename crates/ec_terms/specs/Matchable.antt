-- Theories whose patterns can be matched with terms and filled with what an event gives: every well-formed theory is one.
use Rattle.std.specs.Prelude.{Bool, true, false, ◌&&◌, IsTrue}
use Rattle.std.specs.List.{All, list_all}
use Rattle.ec_terms.specs.declared.pattern.PatArg.{PatArg}
use Rattle.ec_terms.specs.declared.pattern.PatArg.TheVariants.{Var, Any, Fixed}
use Rattle.ec_terms.specs.declared.pattern.Pattern.{Pattern}
use Rattle.ec_terms.specs.declared.theory.Test.{Test}
use Rattle.ec_terms.specs.declared.theory.Literal.{Literal}
use Rattle.ec_terms.specs.declared.theory.Rule.{Rule}
use Rattle.ec_terms.specs.declared.theory.Exclusive.{Exclusive}
use Rattle.ec_terms.specs.declared.theory.Initial.{Initial}
use Rattle.ec_terms.specs.declared.theory.Theory.{Theory}
use Rattle.ec_terms.specs.Binding.{stands_in, IsSmall}

-- a place that an event pattern gives a value: a fixed argument, or a variable that stands in the event pattern
abbrev pub is_given_place : Pattern → PatArg → Bool
is_given_place event (Var v) = stands_in v event
is_given_place event Any = false
is_given_place event (Fixed a) = true

-- both sides of a test are given
abbrev pub is_given_test : Pattern → Test → Bool
is_given_test event test = is_given_place event test.left && is_given_place event test.right

-- a small pattern, each place of which is given
pub record IsGiven (event pattern : Pattern) : Type 0 where
  pub small : IsSmall pattern
  pub places : IsTrue (list_all (is_given_place event) pattern.args)

-- a rule whose event pattern is small and gives its head, its tests and its literals
pub record IsMatchableRule (rule : Rule) : Type 0 where
  pub event : IsSmall rule.event
  pub head : IsGiven rule.event rule.head
  pub tests : IsTrue (list_all (is_given_test rule.event) rule.tests)
  pub literals : All (λ (literal : Literal). IsGiven rule.event literal.prop) rule.literals

-- a declaration whose two patterns are small
pub record IsMatchableExclusive (declaration : Exclusive) : Type 0 where
  pub left : IsSmall declaration.left
  pub right : IsSmall declaration.right

-- a theory of such rules and declarations, whose initial properties are small patterns
pub record IsMatchable (theory : Theory) : Type 0 where
  pub rules : All IsMatchableRule theory.rules
  pub exclusives : All IsMatchableExclusive theory.exclusives
  pub initials : All (λ (initial : Initial). IsSmall initial.prop) theory.initials
