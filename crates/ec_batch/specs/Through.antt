-- What a walk through a whole batch comes to.
use Rattle.std.specs.Prelude.{◌≡◌, ℤ, List, Result, Ok, Err, MatchResult, IsTrue}
use Rattle.ec_terms.specs.declared.theory.Theory.{Theory}
use Rattle.ec_axioms.specs.Calculus.{PlainEvent}
use Rattle.ec_axioms.specs.Changes.{PlainUpdate}
use Rattle.ec_store.specs.Store.{Kept}
use Rattle.ec_parts.specs.declared.tally.Tally.{Tally}
use Rattle.ec_parts.specs.StandFor.{View}
use Rattle.ec_batch.specs.declared.refusal.Refusal.{Refusal}
use Rattle.ec_batch.specs.declared.refusal.Refusal.TheVariants.{Update, Memory}
use Rattle.ec_batch.specs.declared.walk.Walk.{Walk}
use Rattle.ec_replies.specs.Runs.{batch_may_want_memory}
use Rattle.ec_replies.specs.Updates.{updated_by}
use Rattle.ec_batch.specs.Walk.{HasWalkedTo}

-- there is a list to which a walk has come from these events
pub record HasWalkedFrom {T : Type 0} (rank : T → ℤ) (theory : Theory) (events : List (Kept T)) (view : View T) (tally : Tally) (walk : Walk T) : Type 0 where
  pub soon : List PlainEvent
  pub to : HasWalkedTo rank theory events soon view tally walk

-- What a walk through a batch comes to: the list after all updates; or the first refusal with its place, and some list on the
-- way, as where memory runs out, as it may for this batch.
abbrev pub GoesThrough : {T A : Type 0} → (T → ℤ) → Theory → List (Kept T) → List PlainEvent → List PlainUpdate → View T → Tally → Walk T → Result A Refusal → Type 0
GoesThrough rank theory events soon updates view tally walk (Ok done) = MatchResult (updated_by theory soon updates) (λ after. HasWalkedTo rank theory events after view tally walk) (λ cut. ⊥)
GoesThrough rank theory events soon updates view tally walk (Err (Update place cut)) = (updated_by theory soon updates ≡ Err (place, cut)) × HasWalkedFrom rank theory events view tally walk
GoesThrough rank theory events soon updates view tally walk (Err (Memory none)) = IsTrue (batch_may_want_memory theory soon updates) × HasWalkedFrom rank theory events view tally walk
