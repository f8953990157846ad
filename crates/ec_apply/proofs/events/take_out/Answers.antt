use Rattle.std.proofs.Common.{◌≡◌, [], ◌∷◌, cond, None, IsSome, IsTrue, length, length-append, sym, subst, ap, ◌∙◌, arith}
use Rattle.std.specs.List.{All}
use Rattle.ec_store.specs.Store.{event_at}
use Rattle.ec_numbered.specs.ByNumber.{kept_at}
use Rattle.ec_revise.specs.Change.{has_slot}
use Rattle.ec_apply.specs.Events.{are_slots_apart, without_slots}
use Rattle.ec_apply.proofs.LastMembers.{ascending-last}
use Rattle.ec_apply.proofs.TakenOut.{aligned-left, events-left, live-left, slots-left, without_slots-none}
use Rattle.ec_apply.proofs.events.take_out.Goals as goal

pub loop-removal-preserved : goal.loop-removal-preserved
loop-removal-preserved g c =
    let rest = c.pop.new.self in
    let r = c.in-Some.removal in
    let last = c.in-Some.ensures.last in
    let before = c.loop-removal in
    let events' = c.take_one.new.store.events in
    let slots' = c.take_one.new.entries.slots in
    let one = c.take_one.ensures in
    let invariant = c.loop-removal.invariant in
    record {
      aligned = aligned-left rest r before.store.events events' before.entries.slots slots' one.events one.absent one.others invariant.aligned;
      live = live-left rest r before.store.events events' before.entries.slots slots' one.events one.absent one.others
          (subst (λ rs. IsTrue (are_slots_apart rs)) last invariant.apart)
          (subst (All (λ s. IsSome (event_at s.slot before.store.events))) last invariant.live);
      apart = (ascending-last _ rest r (subst (λ rs. IsTrue (are_slots_apart rs)) last invariant.apart)).0;
      events = events-left rest r before.store.events events' before.entries.slots slots' one.events one.absent one.others
          ∙ subst (λ rs. without_slots rs before.store.events ≡ without_slots c.args.removals c.args.store.now.events) last invariant.events;
      spare = omega (arith, one.spare, invariant.spare);
      places = one.places ∙ invariant.places;
      slots = λ slot. slots-left rest r before.store.events events' before.entries.slots slots' one.events one.absent one.others slot
          ∙ subst (λ rs. cond (has_slot slot rs) None (kept_at slot.0 before.entries.slots) ≡ cond (has_slot slot c.args.removals) None (kept_at slot.0 c.args.entries.now.slots)) last (invariant.slots slot);
      kept_places = one.kept_places ∙ invariant.kept_places;
      room = λ q. let less = one.room q in let was = invariant.room q in omega (arith, less, was);
      steps = omega (arith, one.steps, invariant.steps, ap length last, length-append rest (r ∷ []));
    }

pub returns-clause-events : goal.returns-clause-events
returns-clause-events g c = sym (without_slots-none c.loop-removal.removals c.loop-removal.store.events c.in_default.ensures.none) ∙ c.loop-removal.invariant.events
