-- The laws of links by one mention more, as statements.
use Rattle.std.specs.Prelude.{◌≡◌, ℕ, ◌+◌, if◌then◌else◌, List, ◌∷◌, ◌++◌, length, filter, sum_by, IsTrue}
use Rattle.std.specs.List.{list_any}
use Rattle.std.specs.List.Sorted.{IsPermutation}
use Rattle.ec_terms.specs.declared.ground.Ground.{Ground}
use Rattle.ec_terms.specs.declared.theory.Theory.{Theory}
use Rattle.ec_terms.specs.Term.{term_eq}
use Rattle.ec_terms.specs.Domain.{are_exclusive}
use Rattle.ec_axioms.specs.Calculus.{PlainEvent}
use Rattle.ec_axioms.specs.Links.{initial_properties, in_term_order, event_mentions, mentions_of, link_count}
use Rattle.ec_axioms.specs.Changes.{is_history, has_event, with_event, without_event}

-- the properties that are live where these are the mentions
abbrev pub live_by : Theory → List Ground → List Ground
live_by theory mentions = in_term_order (initial_properties theory ++ mentions)

-- how many properties of a list are exclusive to p
abbrev pub exclusive_count : Theory → Ground → List Ground → ℕ
exclusive_count theory p properties = length (filter (are_exclusive theory p) properties)

-- the links of some mentions: for each mention, the live properties that are exclusive to it
unfoldable pub links_of : Theory → List Ground → ℕ
links_of theory mentions = sum_by (λ p. exclusive_count theory p (live_by theory mentions)) mentions

-- The links of a list of events are those of its mentions.
abbrev pub LinksAreOfMentions : Type 0
LinksAreOfMentions = (theory : Theory) (events : List PlainEvent) → link_count theory events ≡ links_of theory (mentions_of theory events)

-- The order of the mentions is no matter.
abbrev pub LinksInAnyOrder : Type 0
LinksInAnyOrder =
    (theory : Theory) (mentions others : List Ground) → IsPermutation mentions others
    → (live_by theory others ≡ live_by theory mentions) × (links_of theory others ≡ links_of theory mentions)

-- One mention more adds the live properties that are exclusive to it and, where it was not live, each mention of one that
-- is exclusive to it.
abbrev pub OneMentionMore : Type 0
OneMentionMore =
    (theory : Theory) (p : Ground) (mentions : List Ground)
    → links_of theory (p ∷ mentions)
    ≡ links_of theory mentions + exclusive_count theory p (live_by theory mentions)
    + (if list_any (term_eq p) (live_by theory mentions) then 0 else exclusive_count theory p mentions)

-- The mentions with an event in its place are its own and those of the others.
abbrev pub MentionsWithEvent : Type 0
MentionsWithEvent =
    (theory : Theory) (e : PlainEvent) (events : List PlainEvent)
    → IsPermutation (event_mentions theory e ++ mentions_of theory events) (mentions_of theory (with_event e events))

-- And so are those that an event of the list takes out of it.
abbrev pub MentionsWithoutEvent : Type 0
MentionsWithoutEvent =
    (theory : Theory) (e : PlainEvent) (events : List PlainEvent) → IsTrue (is_history events) → IsTrue (has_event events e)
    → IsPermutation (event_mentions theory e ++ mentions_of theory (without_event e.id events)) (mentions_of theory events)
