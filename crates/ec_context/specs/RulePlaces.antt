-- The rules of a theory by the name and the number of arguments of their events.
use Rattle.std.specs.Prelude.{◌≡◌, ℕ, ◌+◌, Bool, ◌&&◌, ◌==◌, if◌then◌else◌, List, [], ◌∷◌, length, Option, Some, None, Vec, bytes_eq}
use Rattle.indexmap.specs.IndexMap.{IndexMap}
use Rattle.ec_terms.specs.declared.ground.Ground.{Ground}
use Rattle.ec_terms.specs.declared.theory.Rule.{Rule}
use Rattle.ec_store.specs.ByText.{found_at}

-- the rule is for events of this name with so many arguments
abbrev pub is_for : List ℕ → ℕ → Rule → Bool
is_for name arity rule = bytes_eq rule.event.name name && (length rule.event.args == arity)

-- the places of the rules that are for such events, where the first rule stands at a place
unfoldable pub places_from : ℕ → List ℕ → ℕ → List Rule → List ℕ
places_from place name arity [] = []
places_from place name arity (rule ∷ rules) =
    if is_for name arity rule then place ∷ places_from (place + 1) name arity rules else places_from (place + 1) name arity rules

-- the same from place 0 on
abbrev pub places_for : List ℕ → ℕ → List Rule → List ℕ
places_for name arity rules = places_from 0 name arity rules

-- the places are those of the rules for events with the name and the number of arguments of this one
abbrev pub ArePlacesFor : Ground → List Rule → List ℕ → Type 0
ArePlacesFor event rules places = places ≡ places_for event.name (length event.args) rules

-- what is found, or nothing
abbrev pub listed : {Z : Type 0} → Option (Vec ℕ Z) → List ℕ
listed None = []
listed (Some places) = places.items

-- under each number of arguments and name stand the places of the rules for such events
abbrev pub IsIndex : {Y Z S : Type 0} → List Rule → IndexMap (Vec ℕ Y) (Vec ℕ Z) S → Type 0
IsIndex rules index = (name : List ℕ) (arity : ℕ) → listed (found_at index (arity ∷ name)) ≡ places_for name arity rules
