-- What is said of a walk, in parts that show the same.
use Rattle.std.proofs.Common.{◌≡◌, ℕ, ℤ, Bool, List, sym, subst}
use Rattle.ec_terms.specs.declared.theory.Theory.{Theory}
use Rattle.ec_axioms.specs.Calculus.{PlainEvent}
use Rattle.ec_store.specs.Store.{Kept}
use Rattle.ec_store.specs.Table.{KeptProp}
use Rattle.ec_parts.specs.declared.tally.Tally.{Tally}
use Rattle.ec_parts.specs.StandFor.{View}
use Rattle.ec_batch.specs.declared.walk.Walk.{Walk}
use Rattle.ec_batch.specs.Walk.{AreLiveOrListed, HasWalkedTo}

-- what is live or listed is so by lists that are the same, and in a table that is the same
pub AreLiveOrListed-moved : (theory later : Theory) (events : List PlainEvent) (table kept : List KeptProp) (listed : ℕ → Bool)
    → later ≡ theory → kept ≡ table → AreLiveOrListed theory events table listed → AreLiveOrListed later events kept listed
AreLiveOrListed-moved theory later events table kept listed theories tables are =
    subst (λ t. AreLiveOrListed t events kept listed) (sym theories) (subst (λ ps. AreLiveOrListed theory events ps listed) (sym tables) are)

-- so is a walk
pub HasWalkedTo-moved : {T : Type 0} (rank : T → ℤ) (theory later : Theory) (events stored : List (Kept T)) (soon : List PlainEvent) (view : View T) (tally : Tally) (walk : Walk T)
    → later ≡ theory → stored ≡ events → HasWalkedTo rank theory events soon view tally walk → HasWalkedTo rank later stored soon view tally walk
HasWalkedTo-moved rank theory later events stored soon view tally walk theories stores walked =
    subst (λ t. HasWalkedTo rank t stored soon view tally walk) (sym theories) (subst (λ es. HasWalkedTo rank theory es soon view tally walk) (sym stores) walked)
