-- What a list of events mentions: mentions, live properties and links, and the limits on them.
use Rattle.std.specs.Prelude.{ℕ, Bool, ◌||◌, if◌then◌else◌, List, [], ◌∷◌, ◌++◌, length, map, filter, flat_map, None, sum_by}
use Rattle.std.specs.List.{list_any}
use Rattle.std.specs.Ordering.{is_lt}
use Rattle.ec_terms.specs.declared.ground.Ground.{Ground}
use Rattle.ec_terms.specs.declared.theory.Initial.{Initial}
use Rattle.ec_terms.specs.declared.theory.Theory.{Theory}
use Rattle.ec_terms.specs.Term.{term_eq, term_cmp}
use Rattle.ec_terms.specs.Matching.{filled}
use Rattle.ec_terms.specs.Domain.{GroundLiteral, GroundEntry, entries_of, are_exclusive, is_initial}
use Rattle.ec_axioms.specs.declared.limits.TheConstants.{MOST_EVENTS, MOST_MENTIONS, MOST_LINKS}
use Rattle.ec_axioms.specs.Calculus.{PlainEvent}

-- the most events that are present at once
abbrev pub most_events : ℕ
most_events = MOST_EVENTS

-- the most mentions
abbrev pub most_mentions : ℕ
most_mentions = MOST_MENTIONS

-- the most links
abbrev pub most_links : ℕ
most_links = MOST_LINKS

-- the head and the literals of an entry
abbrev pub entry_mentions : GroundEntry → List Ground
entry_mentions entry = entry.head ∷ map (λ (literal : GroundLiteral). literal.prop) entry.literals

-- the mentions of one event: each head and each literal of its entries
abbrev pub event_mentions : Theory → PlainEvent → List Ground
event_mentions theory e = flat_map entry_mentions (entries_of theory e.term)

-- the mentions of a list of events
unfoldable pub mentions_of : Theory → List PlainEvent → List Ground
mentions_of theory events = flat_map (event_mentions theory) events

-- the properties that are declared initial
abbrev pub initial_properties : Theory → List Ground
initial_properties theory = map (λ (initial : Initial). filled (λ _. None) initial.prop) theory.initials

-- a property is live: it has a mention or is initial
unfoldable pub is_live : Theory → List PlainEvent → Ground → Bool
is_live theory events p = is_initial theory p || list_any (term_eq p) (mentions_of theory events)

-- the property in its place in term order, unless it stands there already
abbrev pub with_property : Ground → List Ground → List Ground
with_property p [] = p ∷ []
with_property p (q ∷ properties) =
    if term_eq p q then q ∷ properties else (if is_lt (term_cmp p q) then p ∷ q ∷ properties else q ∷ with_property p properties)

-- the properties of a list, each once, in term order
abbrev pub in_term_order : List Ground → List Ground
in_term_order [] = []
in_term_order (p ∷ properties) = with_property p (in_term_order properties)

-- the live properties, in term order
unfoldable pub live_properties : Theory → List PlainEvent → List Ground
live_properties theory events = in_term_order (initial_properties theory ++ mentions_of theory events)

-- the sum, over all mentions, of the number of live properties that are exclusive to the mentioned one
unfoldable pub link_count : Theory → List PlainEvent → ℕ
link_count theory events =
    sum_by (λ p. length (filter (are_exclusive theory p) (live_properties theory events))) (mentions_of theory events)
