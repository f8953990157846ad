-- A batch that is tried: where the walk begins, and what a refusal leaves.
use Rattle.std.proofs.Common.{◌≡◌, ℤ, List, [], ◌∷◌, length, None, is_some, refl, sym, ap, ◌∙◌, arith}
use Rattle.std.specs.Prelude.{Result, Ok, Err, MatchResult}
use Rattle.std.proofs.lemmas.Bool.{false≢true, or_left}
use Rattle.ec_terms.specs.declared.theory.Theory.{Theory}
use Rattle.ec_lists.specs.declared.no_memory.NoMemory.{NoMemory}
use Rattle.ec_axioms.specs.declared.event.Cut.{Cut}
use Rattle.ec_axioms.specs.Calculus.{PlainEvent}
use Rattle.ec_axioms.specs.Changes.{PlainUpdate, after_update}
use Rattle.ec_store.specs.Store.{Kept, history_of}
use Rattle.ec_parts.specs.declared.tally.Tally.{Tally}
use Rattle.ec_parts.specs.StandFor.{StandFor, View}
use Rattle.ec_batch.specs.declared.refusal.Refusal.{Refusal}
use Rattle.ec_batch.specs.declared.refusal.Refusal.TheVariants.{Update, Memory}
use Rattle.ec_batch.specs.declared.walk.Stop.TheVariants as stop
use Rattle.ec_batch.specs.declared.walk.Walk.{Walk}
use Rattle.ec_replies.specs.Runs.{batch_may_want_memory}
use Rattle.ec_replies.specs.Updates.{updated, updated_from}
use Rattle.ec_batch.specs.Attempt.{IsAttempted}
use Rattle.ec_batch.specs.Limits.{IsWithinLimits}
use Rattle.ec_batch.specs.Net.{net_in}
use Rattle.ec_batch.specs.Through.{GoesThrough, HasWalkedFrom}
use Rattle.ec_batch.specs.Walk.{GoesOn, HasWalkedTo}

-- a walk that touched nothing and has counted the events is at the list of the store
pub HasWalkedTo-start : {T : Type 0} (rank : T → ℤ) (theory : Theory) (view : View T) (tally : Tally) (walk : Walk T) → StandFor rank theory (history_of rank view.store.events) view tally
    → IsWithinLimits theory (history_of rank view.store.events) → ((id : List _) → net_in id walk.nets ≡ None) → walk.events ≡ length (history_of rank view.store.events)
    → HasWalkedTo rank theory view.store.events (history_of rank view.store.events) view tally walk
HasWalkedTo-start rank theory view tally walk stand within none count = record {
  stored = refl;
  both = stand.both;
  history = stand.both.caches.history;
  within = within;
  few_now = (let few = within.few_mentions in omega arith);
  nets = record { untouched = λ id is. refl; touched = λ id n is. absurd (false≢true (ap is_some (sym (none id) ∙ is))) };
  count = count;
  fresh = λ id p is. or_left _ _ (stand.only_live id p is);
  idle = λ id p is. or_left _ _ (stand.only_live id p is);
}

module _ {T : Type 0} (A : Type 0) (rank : T → ℤ) (theory : Theory) (events : List (Kept T)) (updates : List PlainUpdate) (view : View T) (tally : Tally) (walk : Walk T) where
  -- a refusal leaves the walk at some list
  pub walked_until : (refusal : Refusal) → GoesThrough {A = A} rank theory events (history_of rank events) updates view tally walk (Err refusal) → HasWalkedFrom rank theory events view tally walk
  walked_until (Update place cut) goes = goes.1
  walked_until (Memory none) goes = goes.1

  -- and once the walk is undone, the parts stand for the list of the store
  pub refused_after : (refusal : Refusal) (after : View T) (counted : Tally) → GoesThrough {A = A} rank theory events (history_of rank events) updates view tally walk (Err refusal)
      → StandFor rank theory (history_of rank events) after counted → IsAttempted rank theory events updates after counted (Err refusal)
  refused_after (Update place cut) after counted goes stand = (goes.0, stand)
  refused_after (Memory none) after counted goes stand = (goes.0, stand)

-- A batch of one update does what the update does: it leaves the list that the update leaves,
module _ {T : Type 0} (A : Type 0) (rank : T → ℤ) (theory : Theory) (events : List (Kept T)) (soon : List PlainEvent) (update : PlainUpdate) (view : View T) (tally : Tally) (walk : Walk T) where
  pub through_alone : (done : A) → GoesOn {A = A} rank theory events soon update view tally walk (Ok done) → GoesThrough {A = A} rank theory events soon (update ∷ []) view tally walk (Ok done)
  unfolding updated_from
  through_alone done goes = by_result (updated theory soon update) goes
    where
      by_result : (r : Result (List PlainEvent) Cut) → MatchResult r (λ after. HasWalkedTo rank theory events after view tally walk) (λ cut. ⊥)
          → MatchResult (after_update 1 r (λ after. updated_from theory 2 after [])) (λ after. HasWalkedTo rank theory events after view tally walk) (λ cut. ⊥)
      by_result (Ok after) so = so
      by_result (Err cut) so = so

  -- is refused at its first place,
  pub refused_alone : (cut : Cut) → GoesOn {A = A} rank theory events soon update view tally walk (Err (stop.Refused cut)) → GoesThrough {A = A} rank theory events soon (update ∷ []) view tally walk (Err (Update 1 cut))
  unfolding updated_from
  refused_alone cut goes = (ap (λ r. after_update 1 r (λ after. updated_from theory 2 after [])) goes.0, record { soon = soon; to = goes.1 })

  -- and wants memory where the update may
  pub memory_alone : (none : NoMemory) → GoesOn {A = A} rank theory events soon update view tally walk (Err (stop.Memory none)) → GoesThrough {A = A} rank theory events soon (update ∷ []) view tally walk (Err (Memory none))
  unfolding batch_may_want_memory
  memory_alone none goes = (goes.0, record { soon = soon; to = goes.1 })
