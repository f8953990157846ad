-- A walk that is carried out: what it asks of the plan of its change, and what is left where memory runs out.
use Rattle.std.proofs.Common.{◌≡◌, ℤ, List, sym, subst}
use Rattle.std.specs.Prelude.{Result}
use Rattle.ec_terms.specs.declared.ids.PropId.{PropId}
use Rattle.ec_lists.specs.declared.no_memory.NoMemory.{NoMemory}
use Rattle.ec_terms.specs.declared.theory.Theory.{Theory}
use Rattle.ec_axioms.specs.declared.event.Seen.{Seen}
use Rattle.ec_axioms.specs.Calculus.{PlainEvent}
use Rattle.ec_store.specs.Store.{Kept, history_of}
use Rattle.ec_parts.specs.declared.tally.Tally.{Tally}
use Rattle.ec_parts.specs.StandFor.{StandForBoth, View}
use Rattle.ec_store.specs.Table.{KeptProp}
use Rattle.ec_revise.specs.declared.change.Change.{Change}
use Rattle.ec_revise.specs.Change.{IsChange}
use Rattle.ec_sweep.specs.State.{IsUnderway}
use Rattle.ec_delta.specs.Ready.{IsReady}
use Rattle.ec_delta.specs.declared.delta.Delta.{Delta}
use Rattle.ec_batch.specs.declared.walk.Walk.{Walk}
use Rattle.ec_batch.specs.Limits.{IsWithinLimits}
use Rattle.ec_batch.specs.Walk.{HasWalkedTo}
use Rattle.ec_engine.specs.CarriedOut.{IsCarriedOut, LeadsTo}

-- a change leads from the list of the store to the one that the walk came to
pub IsUnderway-walked : {T : Type 0} (rank : T → ℤ) (theory : Theory) (view : View T) (tally : Tally) (walk : Walk T) (soon : List PlainEvent) (change : Change T)
    → HasWalkedTo rank theory view.store.events soon view tally walk → IsWithinLimits theory (history_of rank view.store.events)
    → IsChange rank theory view.table view.store.events soon change → IsUnderway rank theory soon view tally change
IsUnderway-walked rank theory view tally walk soon change walked within is =
    record { both = walked.both; change_is = is; few_old = within.few_mentions; few_new = walked.within.few_mentions }

-- and so it does with the properties that the walk lists
pub LeadsTo-walked : {T : Type 0} (rank : T → ℤ) (theory : Theory) (view : View T) (tally : Tally) (walk : Walk T) (soon : List PlainEvent) (change : Change T) (fresh dying : List PropId)
    → HasWalkedTo rank theory view.store.events soon view tally walk → IsWithinLimits theory (history_of rank view.store.events)
    → IsChange rank theory view.table view.store.events soon change → fresh ≡ walk.fresh.items → dying ≡ walk.dying.items → LeadsTo rank theory view tally change fresh dying soon
LeadsTo-walked rank theory view tally walk soon change fresh dying walked within is freshs dyings =
    subst (λ ids. LeadsTo rank theory view tally change ids dying soon) (sym freshs)
    (subst (λ ids. LeadsTo rank theory view tally change walk.fresh.items ids soon) (sym dyings)
    (record {
      underway = IsUnderway-walked rank theory view tally walk soon change walked within is;
      within = walked.within;
      fresh_listed = walked.fresh;
      idle_listed = walked.idle;
    }))

-- what was planned stands in parts that show the same events
pub planned-stands : {T : Type 0} (rank : T → ℤ) (later : Theory) (events stored : List (Kept T)) (view : View T) (new : List PlainEvent) (tally : Tally)
    → stored ≡ events → StandForBoth rank later (history_of rank events) new view tally → StandForBoth rank later (history_of rank stored) new view tally
planned-stands rank later events stored view new tally stores stand = subst (λ es. StandForBoth rank later (history_of rank es) new view tally) (sym stores) stand

pub planned-ready : {T : Type 0} (rank : T → ℤ) (theory later : Theory) (view : View T) (new : List PlainEvent) (delta : Delta T)
    → later ≡ theory → IsReady rank theory new view delta → IsReady rank later new view delta
planned-ready rank theory later view new delta theories ready = subst (λ t. IsReady rank t new view delta) (sym theories) ready

-- a change is the same in parts that show the same
pub IsChange-moved : {T : Type 0} (rank : T → ℤ) (theory later : Theory) (table kept : List KeptProp) (events stored : List (Kept T)) (new : List PlainEvent) (change back : Change T)
    → later ≡ theory → kept ≡ table → stored ≡ events → back ≡ change → IsChange rank theory table events new change → IsChange rank later kept stored new back
IsChange-moved rank theory later table kept events stored new change back theories tables stores changes is =
    subst (λ t. IsChange rank t kept stored new back) (sym theories)
    (subst (λ ps. IsChange rank theory ps stored new back) (sym tables)
    (subst (λ es. IsChange rank theory table es new back) (sym stores)
    (subst (λ c. IsChange rank theory table events new c) (sym changes) is)))

-- what comes of a change is the same by parts that show the same
pub IsCarriedOut-moved : {T : Type 0} (rank : T → ℤ) (theory later : Theory) (events stored : List (Kept T)) (soon : List PlainEvent) (view : View T) (tally : Tally) (result : Result Seen NoMemory)
    → later ≡ theory → stored ≡ events → IsCarriedOut rank later (history_of rank stored) soon view tally result → IsCarriedOut rank theory (history_of rank events) soon view tally result
IsCarriedOut-moved rank theory later events stored soon view tally result theories stores carried =
    subst (λ es. IsCarriedOut rank theory (history_of rank es) soon view tally result) stores (subst (λ t. IsCarriedOut rank t (history_of rank stored) soon view tally result) theories carried)
