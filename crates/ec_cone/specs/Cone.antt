-- The cone of a property: the forms that what happens to it may rest on; and the entries and events of the cone.
use Rattle.std.specs.Prelude.{ℕ, zero, suc, Bool, false, ◌&&◌, ◌||◌, List, length, map, filter, slice_index_or}
use Rattle.std.specs.List.{list_any}
use Rattle.ec_terms.specs.declared.ground.Ground.{Ground}
use Rattle.ec_terms.specs.declared.theory.Rule.{Rule}
use Rattle.ec_terms.specs.declared.theory.Theory.{Theory}
use Rattle.ec_terms.specs.Domain.{GroundEntry}
use Rattle.ec_axioms.specs.Calculus.{PlainEvent, Effect, effects_of}
use Rattle.ec_cone.specs.Forms.{Form, form_of, pattern_form, form_eq, Reading, readings_of}
use Rattle.ec_cone.specs.Closed.{events_inside}

-- a way of at most n readings leads from the start to the form
unfoldable pub reaches : List Reading → Form → ℕ → Form → Bool
reaches readings start zero form = form_eq start form
reaches readings start (suc n) form =
    reaches readings start n form || list_any (λ r. reaches readings start n r.from && form_eq r.to form) readings

-- The cone of a form has a form: some way leads there. No way needs more readings than there are, as it needs none twice.
unfoldable pub cone_has : Theory → Form → Form → Bool
cone_has theory start form = reaches (readings_of theory) start (length (readings_of theory)) form

-- the form of q is in the cone of p
abbrev pub in_cone : Theory → Ground → Ground → Bool
in_cone theory p q = cone_has theory (form_of p) (form_of q)

-- the head of an entry is in the cone
abbrev pub is_cone_entry : Theory → Ground → GroundEntry → Bool
is_cone_entry theory p entry = in_cone theory p entry.head

-- the cone entries of an event, by rule number, each with the event
unfoldable pub cone_effects : Theory → Ground → PlainEvent → List Effect
cone_effects theory p e = filter (λ (effect : Effect). is_cone_entry theory p effect.entry) (effects_of theory e)

-- the events with a cone entry
abbrev pub cone_events : Theory → Ground → List PlainEvent → List PlainEvent
cone_events theory p events = events_inside theory (in_cone theory p) events

-- for each rule, by number, whether the form of its head is in the cone
abbrev pub cone_rules : Theory → Ground → List Bool
cone_rules theory p = map (λ (rule : Rule). cone_has theory (form_of p) (pattern_form rule.head)) theory.rules

-- the rule with a number, from 1, is in a cone that says so of each rule in order; there is no rule 0, and none past the last
abbrev pub has_number : List Bool → ℕ → Bool
has_number rules zero = false
has_number rules (suc place) = slice_index_or rules place false
