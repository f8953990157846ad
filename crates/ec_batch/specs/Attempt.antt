-- What it is to try a batch of updates: a walk to the list that it leaves, or nothing at all.
use Rattle.std.specs.Prelude.{◌≡◌, ℤ, List, Result, Ok, Err, MatchResult, IsTrue}
use Rattle.ec_terms.specs.declared.theory.Theory.{Theory}
use Rattle.ec_axioms.specs.Changes.{PlainUpdate}
use Rattle.ec_store.specs.Store.{Kept, history_of}
use Rattle.ec_parts.specs.declared.tally.Tally.{Tally}
use Rattle.ec_parts.specs.StandFor.{StandFor, View}
use Rattle.ec_batch.specs.declared.refusal.Refusal.{Refusal}
use Rattle.ec_batch.specs.declared.refusal.Refusal.TheVariants.{Update, Memory}
use Rattle.ec_batch.specs.declared.walk.Walk.{Walk}
use Rattle.ec_replies.specs.Runs.{batch_may_want_memory}
use Rattle.ec_replies.specs.Updates.{updated_by}
use Rattle.ec_batch.specs.Walk.{HasWalkedTo}

-- What trying a batch comes to: a walk to the list after all updates; or the first refusal with its place, or memory ran out,
-- as it may for this batch, and then the parts stand for the list of the store as before.
abbrev pub IsAttempted : {T : Type 0} → (T → ℤ) → Theory → List (Kept T) → List PlainUpdate → View T → Tally → Result (Walk T) Refusal → Type 0
IsAttempted rank theory events updates view tally (Ok walk) =
    MatchResult (updated_by theory (history_of rank events) updates) (λ after. HasWalkedTo rank theory events after view tally walk) (λ cut. ⊥)
IsAttempted rank theory events updates view tally (Err (Update place cut)) =
    (updated_by theory (history_of rank events) updates ≡ Err (place, cut)) × StandFor rank theory (history_of rank events) view tally
IsAttempted rank theory events updates view tally (Err (Memory none)) =
    IsTrue (batch_may_want_memory theory (history_of rank events) updates) × StandFor rank theory (history_of rank events) view tally
