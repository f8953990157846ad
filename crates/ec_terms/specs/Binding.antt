-- Bindings as functions from variables to values, and the patterns whose variables they have places for.
use Rattle.std.specs.Prelude.{◌≡◌, ℕ, ◌≤◌, Bool, true, false, not, ◌&&◌, ◌==◌, nat_lt, if◌then◌else◌, List, length, Option, Some, None, IsTrue, is_some, option_map}
use Rattle.std.specs.List.{slice_get, list_all, list_any}
use Rattle.std.specs.Option.{option_flatten}
use Rattle.ec_terms.specs.declared.limits.TheConstants.{MOST_ARGS, MOST_VARIABLES}
use Rattle.ec_terms.specs.declared.ground.Arg.{Arg}
use Rattle.ec_terms.specs.declared.pattern.PatArg.{PatArg}
use Rattle.ec_terms.specs.declared.pattern.PatArg.TheVariants.{Var, Any, Fixed}
use Rattle.ec_terms.specs.declared.pattern.Pattern.{Pattern}
use Rattle.ec_terms.specs.declared.theory.Test.{Test}
use Rattle.ec_terms.specs.declared.ground.ArgRef.{ArgRef}
use Rattle.ec_terms.specs.Term.{arg_of, is_argument}
use Rattle.ec_terms.specs.Matching.{Values}

-- there is no value, or it is a number or a name
abbrev pub is_named_value : Option Arg → Bool
is_named_value None = true
is_named_value (Some a) = is_argument a

-- the value that a place shows, where it has one
abbrev pub shown : Option ArgRef → Option Arg
shown place = option_map arg_of place

-- the value of each variable by its place; variables past the last place have none
abbrev pub values_of : List (Option Arg) → Values
values_of places v = option_flatten (slice_get places v)

-- no variable has a value
abbrev pub no_values : Values
no_values v = None

-- the binding with a value for one variable
abbrev pub with_value : Values → ℕ → Arg → Values
with_value values v a w = if v == w then Some a else values w

-- a place for each variable that a clause can have, each without a value or with one that is a number or a name
pub record IsBinding (places : List (Option Arg)) : Type 0 where
  pub count : length places ≡ MOST_VARIABLES
  pub named : IsTrue (list_all is_named_value places)

-- the second binding has each value that the first has
abbrev pub Extends : Values → Values → Type 0
Extends first second = (v : ℕ) (a : Arg) → first v ≡ Some a → second v ≡ Some a

-- the variable stands at the place
abbrev pub stands_at : ℕ → PatArg → Bool
stands_at v (Var w) = w == v
stands_at v Any = false
stands_at v (Fixed a) = false

-- the variable stands in the pattern
abbrev pub stands_in : ℕ → Pattern → Bool
stands_in v pattern = list_any (stands_at v) pattern.args

-- a variable at the place is one that a binding has a place for
abbrev pub is_small_place : PatArg → Bool
is_small_place (Var v) = nat_lt v MOST_VARIABLES
is_small_place Any = true
is_small_place (Fixed a) = true

-- as few arguments as a term has, and variables that a binding has places for
pub record IsSmall (pattern : Pattern) : Type 0 where
  pub few : length pattern.args ≤ MOST_ARGS
  pub variables : IsTrue (list_all is_small_place pattern.args)

-- what a binding becomes where a place of a pattern meets an argument: a variable without a value takes it
abbrev pub after_place : Values → PatArg → Arg → Values
after_place values (Var v) a = if is_some (values v) then values else with_value values v a
after_place values Any a = values
after_place values (Fixed b) a = values

-- the place is `_`, or a variable without a value
abbrev pub is_open_place : Values → PatArg → Bool
is_open_place values (Var v) = not (is_some (values v))
is_open_place values Any = true
is_open_place values (Fixed a) = false

-- a pattern that a binding fills: no `_`, and every variable has a value
abbrev pub fills : Values → Pattern → Bool
fills values pattern = not (list_any (is_open_place values) pattern.args)

-- a fixed argument, or a variable that a binding has a place for and that has a value
abbrev pub is_ready_place : Values → PatArg → Bool
is_ready_place values p = is_small_place p && not (is_open_place values p)

-- both sides of a comparison are ready
abbrev pub is_ready_test : Values → Test → Bool
is_ready_test values test = is_ready_place values test.left && is_ready_place values test.right
