-- The history that events in any order make.
use Rattle.std.specs.Prelude.{List, [], map, bytes_eq}
use Rattle.std.specs.List.{IsDistinct, fold}
use Rattle.ec_axioms.specs.Calculus.{PlainEvent}
use Rattle.ec_axioms.specs.Changes.{with_event}

-- no two events have the same identity
abbrev pub HaveOwnIds : List PlainEvent → Type 0
HaveOwnIds events = IsDistinct bytes_eq (map (λ e. e.id) events)

-- the history of some events: each is put into its place
abbrev pub history_from : List PlainEvent → List PlainEvent
history_from events = fold (λ built e. with_event e built) [] events
