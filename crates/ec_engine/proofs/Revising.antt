-- What comes of a batch: the list as it was where it is refused, and the steps that it may take.
use Rattle.std.proofs.Common.{◌≡◌, ◌≤◌, ◌<◌, ◌*◌, ◌+◌, ℕ, ℤ, Bool, true, false, List, [], ◌∷◌, length, map, refl, sym, ap, ◌∙◌, arith}
use Rattle.std.specs.Prelude.{◌==◌, Result, Ok, Err}
use Rattle.std.proofs.lemmas.Bool.{eqb-true, false≢true}
use Rattle.ec_lists.specs.declared.no_memory.NoMemory.{NoMemory}
use Rattle.ec_terms.specs.declared.theory.Theory.{Theory}
use Rattle.ec_axioms.specs.declared.event.Seen.{Seen}
use Rattle.ec_axioms.specs.Calculus.{PlainEvent}
use Rattle.ec_axioms.specs.Changes.{PlainUpdate, PlacedCut, change_counts, work_between}
use Rattle.ec_changes.proofs.SameList.{SameListChangesNothing-law}
use Rattle.ec_store.specs.Store.{Kept, history_of}
use Rattle.ec_parts.specs.declared.tally.Tally.{Tally}
use Rattle.ec_parts.specs.StandFor.{StandFor, View}
use Rattle.ec_replies.specs.State.{no_change}
use Rattle.ec_replies.specs.Updates.{updated_by, updated_from}
use Rattle.ec_batch.specs.declared.refusal.Refusal.{Refusal}
use Rattle.ec_batch.specs.declared.refusal.Refusal.TheVariants.{Update, Memory}
use Rattle.ec_batch.specs.Attempt.{IsAttempted}
use Rattle.ec_batch.proofs.Batches.{batch_may_want-accepted}
use Rattle.ec_engine.specs.CarriedOut.{IsCarriedOut}
use Rattle.ec_engine.specs.Revise.{IsRevised, most_steps, steps_between, steps_by}
use Rattle.ec_engine.proofs.WorkDone.{steps_between-work}

module _ {T : Type 0} (rank : T → ℤ) (theory : Theory) (events : List (Kept T)) (updates : List PlainUpdate) (view : View T) (tally : Tally) where
  -- a batch that is refused leaves the parts at the list of the store
  pub stands_refused : (refusal : Refusal) → IsAttempted rank theory events updates view tally (Err refusal) → StandFor rank theory (history_of rank events) view tally
  stands_refused (Update place cut) tried = tried.1
  stands_refused (Memory none) tried = tried.1

  -- and the list as it was
  pub IsRevised-refused : (refusal : Refusal) → IsAttempted rank theory events updates view tally (Err refusal)
      → IsRevised theory (history_of rank events) updates (Err refusal) (history_of rank view.store.events)
  IsRevised-refused (Update place cut) tried = (tried.0, tried.1.both.caches.events_of)
  IsRevised-refused (Memory none) tried = (tried.0, tried.1.both.caches.events_of)

-- an empty batch leaves the list as it was
pub IsRevised-empty : (theory : Theory) (events : List PlainEvent) → IsRevised theory events [] (Ok no_change) events
unfolding updated_from
IsRevised-empty theory events =
    let same = SameListChangesNothing-law theory events in (refl, sym (all_none same.seen same.on same.off same.props))
  where
    all_none : {seen on off props : ℕ} → seen ≡ 0 → on ≡ 0 → off ≡ 0 → props ≡ 0 → record { seen = seen; on = on; off = off; props = props } ≡ no_change
    all_none none_seen none_on none_off none_props = cc

-- as one is that has no update in the code
pub IsRevised-none : {A : Type 0} (theory : Theory) (events : List PlainEvent) (f : A → PlainUpdate) (batch : List A) (empty : Bool) → empty ≡ (length batch == 0) → empty ≡ true
    → IsRevised theory events (map f batch) (Ok no_change) events
IsRevised-none theory events f [] empty is none = IsRevised-empty theory events
IsRevised-none theory events f (update ∷ updates) empty is none =
    let zero = eqb-true (length (update ∷ updates)) 0 (sym is ∙ none) in let apart : ⊥ = omega arith in absurd apart

-- and one that has some is not empty
pub updates-some : {A : Type 0} (f : A → PlainUpdate) (batch : List A) (empty : Bool) → empty ≡ (length batch == 0) → empty ≡ false → 0 < length (map f batch)
updates-some f [] empty is some = absurd (false≢true (sym some ∙ is))
updates-some f (update ∷ updates) empty is some = omega arith

-- each batch may take twice as many steps as it has updates
pub most_steps-least : (theory : Theory) (before : List PlainEvent) (updates : List PlainUpdate) → 2 * length updates ≤ most_steps theory before updates
unfolding most_steps
most_steps-least theory before updates = by_result (updated_by theory before updates)
  where
    by_result : (r : Result (List PlainEvent) PlacedCut) → 2 * length updates ≤ steps_by theory before updates r
    by_result (Ok after) = omega arith
    by_result (Err placed) = omega arith

-- a batch that is accepted may take three times the work besides
pub most_steps-accepted : (theory : Theory) (before after : List PlainEvent) (updates : List PlainUpdate) → updated_by theory before updates ≡ Ok after
    → most_steps theory before updates ≡ 3 * work_between theory before after + 2 * length updates
unfolding most_steps
most_steps-accepted theory before after updates is = ap (steps_by theory before updates) is

module _ {T : Type 0} (rank : T → ℤ) (theory : Theory) (before soon : List PlainEvent) (updates : List PlainUpdate) (view : View T) (tally : Tally) (is : updated_by theory before updates ≡ Ok soon) where
  -- a batch that is carried out is applied
  pub IsRevised-carried : (seen : Seen) → IsCarriedOut rank theory before soon view tally (Ok seen) → IsRevised theory before updates (Ok seen) (history_of rank view.store.events)
  IsRevised-carried seen carried =
      let events = carried.0.both.caches.events_of in
      (is ∙ ap (λ es. Ok es) (sym events), carried.1 ∙ ap (λ es. change_counts theory before es) (sym events))

  -- one for which memory ran out is not, and it was not empty
  pub IsRevised-no_memory : 0 < length updates → (none : NoMemory) → IsCarriedOut rank theory before soon view tally (Err none)
      → IsRevised theory before updates (Err (Memory none)) (history_of rank view.store.events)
  IsRevised-no_memory some none carried = (batch_may_want-accepted theory before soon updates some is, carried.both.caches.events_of)

  -- how many steps it may take
  pub most_steps-carried : steps_between theory before soon + 2 * length updates ≤ most_steps theory before updates
  most_steps-carried =
      let most = most_steps-accepted theory before soon updates is in
      let work = steps_between-work theory before soon in
      omega arith
