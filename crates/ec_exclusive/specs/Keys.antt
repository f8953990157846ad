-- The keys of the groups in which properties are found: a declaration, one of its sides, and the values of the variables that
-- both sides share.
use Rattle.std.specs.Prelude.{ℕ, ◌+◌, ◌%◌, Bool, List, [], ◌∷◌, ◌++◌, filter_map, Option, None, if◌then◌else◌, bytes_eq}
use Rattle.std.specs.List.{list_any}
use Rattle.ec_terms.specs.declared.ground.Arg.{Arg}
use Rattle.ec_terms.specs.declared.ground.Ground.{Ground}
use Rattle.ec_terms.specs.declared.pattern.PatArg.{PatArg}
use Rattle.ec_terms.specs.declared.pattern.PatArg.TheVariants.{Var, Any, Fixed}
use Rattle.ec_terms.specs.declared.pattern.Pattern.{Pattern}
use Rattle.ec_terms.specs.declared.theory.Exclusive.{Exclusive}
use Rattle.ec_terms.specs.Binding.{stands_in}
use Rattle.ec_terms.specs.Matching.{Values, binding_of, fits_some}
use Rattle.ec_terms.specs.Term.{term_text}

-- the value of a place that is a variable of the other side too
abbrev pub shared_value : Values → Pattern → PatArg → Option Arg
shared_value values other (Var v) = if stands_in v other then values v else None
shared_value values other Any = None
shared_value values other (Fixed a) = None

-- the term of the values that both sides share, in the order of the left side
abbrev pub shared_term : Exclusive → Values → Ground
shared_term d values = record { name = d.left.name; args = filter_map (shared_value values d.right) d.left.args }

-- the key of a side of the declaration of this number: its shared values, the side and the number
abbrev pub side_key : ℕ → ℕ → Exclusive → Values → List ℕ
side_key i side d values = term_text (shared_term d values) ++ side ∷ (i % 256) ∷ []

-- the key of a side, if its pattern fits the term
abbrev pub key_if_fits : ℕ → ℕ → Exclusive → Pattern → Ground → List (List ℕ)
key_if_fits i side d pattern term = if fits_some pattern term then side_key i side d (binding_of pattern term) ∷ [] else []

-- the keys of a term under a declaration, by what the side is called that fits it
abbrev pub declared_keys : ℕ → ℕ → ℕ → Exclusive → Ground → List (List ℕ)
declared_keys left right i d term = key_if_fits i left d d.left term ++ key_if_fits i right d d.right term

-- the keys of a term under declarations that are numbered from i on
unfoldable pub keys_from : ℕ → ℕ → ℕ → List Exclusive → Ground → List (List ℕ)
keys_from left right i [] term = []
keys_from left right i (d ∷ ds) term = declared_keys left right i d term ++ keys_from left right (i + 1) ds term

-- the keys of the groups in which a term stands: the left side is called 0 and the right side 1
abbrev pub own_keys : List Exclusive → Ground → List (List ℕ)
own_keys ds term = keys_from 0 1 0 ds term

-- the keys of the groups in which its neighbours stand: those of the other sides
abbrev pub other_keys : List Exclusive → Ground → List (List ℕ)
other_keys ds term = keys_from 1 0 0 ds term

-- a text is one of these
abbrev pub is_key : List (List ℕ) → List ℕ → Bool
is_key keys key = list_any (λ k. bytes_eq k key) keys
