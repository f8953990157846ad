-- The event that stands there goes and what is put in comes, unless that is the same record.
use Rattle.std.proofs.Common.{◌≡◌, ◌++◌, ℤ, Bool, true, false, List, Option, Some, None, append-nil, sym, ap, ◌∙◌}
use Rattle.std.specs.Prelude.{option_map}
use Rattle.std.specs.Option.{option_to_list}
use Rattle.std.proofs.lemmas.Bool.{cond-true, cond-false}
use Rattle.ec_terms.specs.declared.ids.Slot.{Slot}
use Rattle.ec_axioms.specs.declared.event.Event.{Event}
use Rattle.ec_store.specs.Store.{Kept, event_at}
use Rattle.ec_batch.specs.declared.net.Net.{Net}
use Rattle.ec_batch.specs.NetChange.{coming, going, is_back, kept_in, removal_of, stands_there}
use Rattle.ec_batch.proofs.net_changes.gather_one.Goals as goal

-- an event is found in the slot of what stands under an identity
module _ {T : Type 0} (rank : T → ℤ) (events : List (Kept T)) (net : Net T) (slot : Slot) (event : Event T) (is : net.old ≡ Some slot) (found : event_at slot events ≡ Some event) where
  stood : kept_in events net.old ≡ Some (slot, event)
  stood = ap (kept_in events) is ∙ ap (option_map (λ e. (slot, e))) found

  compared : (b : Bool) → is_back rank event net.new ≡ b → stands_there rank (kept_in events net.old) net.new ≡ b
  compared b back = ap (λ o. stands_there rank o net.new) stood ∙ back

  -- which goes, and what is put in comes, where it is another record
  other-going : is_back rank event net.new ≡ false → going rank events net ≡ Some (removal_of (slot, event))
  other-going other = cond-false (stands_there rank (kept_in events net.old) net.new) None _ (compared false other) ∙ ap (option_map removal_of) stood

  other-coming : is_back rank event net.new ≡ false → coming rank events net ≡ net.new
  other-coming other = cond-false (stands_there rank (kept_in events net.old) net.new) None net.new (compared false other)

  -- where it is the same record, nothing does
  same-going : is_back rank event net.new ≡ true → going rank events net ≡ None
  same-going same = cond-true (stands_there rank (kept_in events net.old) net.new) None _ (compared true same)

  same-coming : is_back rank event net.new ≡ true → coming rank events net ≡ None
  same-coming same = cond-true (stands_there rank (kept_in events net.old) net.new) None net.new (compared true same)

-- where nothing is added, a list stays
stays : {X : Type 0} (xs : List X) (o : Option X) → o ≡ None → xs ≡ xs ++ option_to_list o
stays xs o none = sym (append-nil xs) ∙ ap (λ p. xs ++ option_to_list p) (sym none)

pub returns-clause-going : goal.returns-clause-going
returns-clause-going g c =
    c.push_reserved.ensures.items
    ∙ ap (λ o. c.args.gathered.now.going.items ++ option_to_list o)
    (sym (other-going g.T.Moment.rank c.args.store.now.events c.args.net c.in-Some.slot c.event-event.result.now c.in-Some.is c.event-event.ensures.event (sym c.is_back.ensures ∙ c.if-is_back.false)))

pub returns-clause-coming : goal.returns-clause-coming
returns-clause-coming g c =
    c.add_coming-2.ensures.coming
    ∙ ap (λ o. c.args.gathered.now.coming.items ++ option_to_list o)
    (sym (other-coming g.T.Moment.rank c.args.store.now.events c.args.net c.in-Some.slot c.event-event.result.now c.in-Some.is c.event-event.ensures.event (sym c.is_back.ensures ∙ c.if-is_back.false)))

pub returns-then-is_back-clause-going : goal.returns-then-is_back-clause-going
returns-then-is_back-clause-going g c =
    stays c.args.gathered.now.going.items _
    (same-going g.T.Moment.rank c.args.store.now.events c.args.net c.in-Some.slot c.event-event.result.now c.in-Some.is c.event-event.ensures.event (sym c.is_back.ensures ∙ c.if-is_back.true))

pub returns-then-is_back-clause-coming : goal.returns-then-is_back-clause-coming
returns-then-is_back-clause-coming g c =
    stays c.args.gathered.now.coming.items _
    (same-coming g.T.Moment.rank c.args.store.now.events c.args.net c.in-Some.slot c.event-event.result.now c.in-Some.is c.event-event.ensures.event (sym c.is_back.ensures ∙ c.if-is_back.true))
