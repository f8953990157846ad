-- The reply that lists the events, by the events of a store.
use Rattle.std.proofs.Common.{◌≡◌, ℤ, List, map, ap}
use Rattle.ec_axioms.specs.Calculus.{PlainEvent}
use Rattle.ec_commands.specs.QueryTexts.{Canon, counted_text, event_text, events_reply}
use Rattle.ec_store.specs.Store.{Kept, history_of}

pub events_reply-of : {T : Type 0} (rank : T → ℤ) (canon : Canon) (kept : List (Kept T)) (events : List PlainEvent) → history_of rank kept ≡ events
    → counted_text (map (event_text canon) (history_of rank kept)) ≡ events_reply events canon
unfolding events_reply
events_reply-of rank canon kept events same = ap (λ es. counted_text (map (event_text canon) es)) same
