-- When a pattern fits a ground term, and what a pattern becomes under a binding of its variables.
use Rattle.std.specs.Prelude.{ℕ, Bool, true, false, ◌&&◌, ◌==◌, not, if◌then◌else◌, List, [], ◌∷◌, length, Option, Some, None, filter_map, bytes_eq}
use Rattle.std.specs.Ordering.{is_lt, is_le}
use Rattle.ec_terms.specs.declared.ground.Arg.{Arg}
use Rattle.ec_terms.specs.declared.ground.Ground.{Ground}
use Rattle.ec_terms.specs.declared.pattern.PatArg.{PatArg}
use Rattle.ec_terms.specs.declared.pattern.PatArg.TheVariants.{Var, Any, Fixed}
use Rattle.ec_terms.specs.declared.pattern.Pattern.{Pattern}
use Rattle.ec_terms.specs.declared.theory.Test.{Test}
use Rattle.ec_terms.specs.declared.theory.TestOp.{TestOp}
use Rattle.ec_terms.specs.declared.theory.TestOp.TheVariants.{Same, Differ, Less as Below, AtMost}
use Rattle.ec_terms.specs.Term.{arg_eq, arg_cmp}

-- a binding: the value of each variable that has one
abbrev pub Values : Type 0
Values = ℕ → Option Arg

-- the value of the argument of a pattern under a binding; `_` has none
unfoldable pub value_of : Values → PatArg → Option Arg
value_of values (Var v) = values v
value_of values Any = None
value_of values (Fixed a) = Some a

-- the value is there and is this argument
unfoldable pub is_value : Option Arg → Arg → Bool
is_value None a = false
is_value (Some b) a = arg_eq b a

-- the pattern has the name of the term, and as many places as it has arguments
abbrev pub has_shape : Pattern → Ground → Bool
has_shape pattern term = bytes_eq pattern.name term.name && length pattern.args == length term.args

-- one place fits: `_` fits anything, a fixed argument and a bound variable their own value
unfoldable pub place_fits : Values → PatArg → Arg → Bool
place_fits values (Var v) a = is_value (values v) a
place_fits values Any a = true
place_fits values (Fixed b) a = arg_eq b a

-- there are as many places as arguments, and each place fits
unfoldable pub places_fit : Values → List PatArg → List Arg → Bool
places_fit values [] [] = true
places_fit values [] (a ∷ args) = false
places_fit values (p ∷ ps) [] = false
places_fit values (p ∷ ps) (a ∷ args) = place_fits values p a && places_fit values ps args

-- a pattern fits a term under a binding
unfoldable pub fits : Values → Pattern → Ground → Bool
fits values pattern term = bytes_eq pattern.name term.name && places_fit values pattern.args term.args

-- the argument at the first place of a variable
unfoldable pub first_value : List PatArg → List Arg → Values
first_value [] args v = None
first_value (p ∷ ps) [] v = None
first_value (Var w ∷ ps) (a ∷ args) v = if w == v then Some a else first_value ps args v
first_value (Any ∷ ps) (a ∷ args) v = first_value ps args v
first_value (Fixed b ∷ ps) (a ∷ args) v = first_value ps args v

-- the one binding of a pattern's variables under which it can fit a term
abbrev pub binding_of : Pattern → Ground → Values
binding_of pattern term = first_value pattern.args term.args

-- a pattern fits a term under some binding
unfoldable pub fits_some : Pattern → Ground → Bool
fits_some pattern term = fits (binding_of pattern term) pattern term

-- a pattern with its variables replaced by their values
unfoldable pub filled : Values → Pattern → Ground
filled values pattern = record { name = pattern.name; args = filter_map (value_of values) pattern.args }

-- what a comparison says of two arguments, in the order of arguments
unfoldable pub compares : TestOp → Arg → Arg → Bool
compares Same a b = arg_eq a b
compares Differ a b = not (arg_eq a b)
compares Below a b = is_lt (arg_cmp a b)
compares AtMost a b = is_le (arg_cmp a b)

-- both sides of a comparison have a value, and it holds of them
unfoldable pub values_compare : TestOp → Option Arg → Option Arg → Bool
values_compare op None right = false
values_compare op (Some a) None = false
values_compare op (Some a) (Some b) = compares op a b

-- a test holds under a binding
unfoldable pub test_holds : Values → Test → Bool
test_holds values test = values_compare test.op (value_of values test.left) (value_of values test.right)
