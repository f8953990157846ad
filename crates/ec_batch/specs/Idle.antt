-- What it is to forget properties that nothing mentions.
use Rattle.std.specs.Prelude.{ℕ, ℤ, Bool, ◌||◌, List}
use Rattle.ec_terms.specs.declared.theory.Theory.{Theory}
use Rattle.ec_axioms.specs.Calculus.{PlainEvent}
use Rattle.ec_parts.specs.declared.tally.Tally.{Tally}
use Rattle.ec_parts.specs.StandFor.{StandFor, StandForBoth, View}
use Rattle.ec_batch.specs.Walk.{AreLiveOrListed}

-- the parts stand for some list of events; they may keep more than is live in it
pub record StandForSome {T : Type 0} (rank : T → ℤ) (theory : Theory) (view : View T) : Type 0 where
  pub events : List PlainEvent
  pub tally : Tally
  pub both : StandForBoth rank theory events events view tally

-- where each kept property was live or listed, the parts keep only what is live, and stand for the same list
abbrev pub ForgetsListed : {T : Type 0} → (T → ℤ) → Theory → (ℕ → Bool) → View T → View T → Type 0
ForgetsListed rank theory listed before after =
    (events : List PlainEvent) (tally : Tally) → StandForBoth rank theory events events before tally → AreLiveOrListed theory events before.table listed
    → StandFor rank theory events after tally

-- The parts stand for the same list. Where each kept property was live, or listed, or passed a test, each that is left is live or passes it.
abbrev pub LeavesUnlisted : {T : Type 0} → (T → ℤ) → Theory → (ℕ → Bool) → View T → View T → Type 0
LeavesUnlisted rank theory listed before after =
    (events : List PlainEvent) (tally : Tally) → StandForBoth rank theory events events before tally
    → StandForBoth rank theory events events after tally
    × ((others : ℕ → Bool) → AreLiveOrListed theory events before.table (λ id. listed id || others id) → AreLiveOrListed theory events after.table others)
