-- What it is for one event to arrive at the list of a store: it comes into the tables and makes a change, or it is refused.
use Rattle.std.specs.Prelude.{◌≡◌, ℤ, List, [], ◌∷◌, Result, Ok, Err}
use Rattle.ec_terms.specs.declared.theory.Theory.{Theory}
use Rattle.ec_axioms.specs.Calculus.{PlainEvent}
use Rattle.ec_axioms.specs.Changes.{asserting, with_event}
use Rattle.ec_store.specs.Store.{Kept, history_of}
use Rattle.ec_parts.specs.declared.tally.Tally.{Tally}
use Rattle.ec_parts.specs.StandFor.{View}
use Rattle.ec_replies.specs.Updates.{updated_by}
use Rattle.ec_batch.specs.declared.refusal.Refusal.{Refusal}
use Rattle.ec_batch.specs.ComingIn.{IsTurnedAway}
use Rattle.ec_engine.specs.declared.arriving.Arrival.{Arrival}
use Rattle.ec_engine.specs.CarriedOut.{LeadsTo}

-- what comes of an event: the change to the list with it, or no change
abbrev pub IsArrived : {T : Type 0} → (T → ℤ) → Theory → List (Kept T) → PlainEvent → View T → Tally → Result (Arrival T) Refusal → Type 0
IsArrived rank theory events event view tally (Ok arrival) =
    (updated_by theory (history_of rank events) (asserting event ∷ []) ≡ Ok (with_event event (history_of rank events)))
    × LeadsTo rank theory view tally arrival.change arrival.fresh.items [] (with_event event (history_of rank events))
IsArrived rank theory events event view tally (Err refusal) = IsTurnedAway rank theory events event view tally refusal
