-- What the laws of matching say: a binding that fits is the only one, and the one of the first places is it.
use Rattle.std.specs.Prelude.{◌≡◌, ◌↔◌, ℕ, IsTrue}
use Rattle.ec_terms.specs.declared.ground.Ground.{Ground}
use Rattle.ec_terms.specs.declared.pattern.Pattern.{Pattern}
use Rattle.ec_terms.specs.Matching.{Values, binding_of, fits, fits_some}
use Rattle.ec_terms.specs.Binding.{stands_in}

-- bindings under which a pattern fits a term give its variables the same values: the arguments at their first places
abbrev pub HasOneBinding : Pattern → Ground → Type 0
HasOneBinding pattern term =
    (values : Values) (v : ℕ) → IsTrue (fits values pattern term) → IsTrue (stands_in v pattern) → values v ≡ binding_of pattern term v

-- a pattern fits a term under the arguments at its variables' first places exactly where it fits it under some binding
abbrev pub FitsByFirstPlaces : Pattern → Ground → Type 0
FitsByFirstPlaces pattern term = IsTrue (fits_some pattern term) ↔ ((values : Values) × IsTrue (fits values pattern term))
