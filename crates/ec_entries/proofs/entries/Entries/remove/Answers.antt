-- The entries of the slot were taken out of all rows.
use Rattle.std.proofs.Common.{◌≡◌, ◌≤◌, length, set, Option, IsSome, Some, sym, ap, subst, ◌∙◌, arith}
use Rattle.std.proofs.lemmas.Grind.{common_steps}
use Rattle.std.specs.Prelude.{option_and_then}
use Rattle.std.specs.Option.{option_to_list}
use Rattle.ec_entries.specs.declared.event_entries.EventEntries.{EventEntries}
use Rattle.ec_entries.specs.Dependents.{AreDependents, Entered, dependent_in, dependents_of, room_of}
use Rattle.ec_entries.specs.Noting.{AreTakenOut}
use Rattle.ec_entries.proofs.States.{AreDependents-out, kept_at-emptied, kept_at-read}
use Rattle.ec_numbered.specs.ByNumber.{kept_at}
use Rattle.ec_entries.proofs.entries.Entries.remove.Goals as goal

pub invariant_of-self : goal.invariant_of-self
invariant_of-self g c =
    let slots = c.self.inside.slots.items in
    let some : IsSome (kept_at c.args.slot.0 slots) = subst (λ (e : Entered g.row.T.Denot). IsSome (kept_at c.args.slot.0 e.slots)) (sym c.self.view_is) c.requires in
    let there : kept_at c.args.slot.0 slots ≡ Some c.in-Some.kept = kept_at-read slots c.args.slot.0 c.index_mut.result.now c.index_mut.ensures.value some ∙ sym c.in-Some.ensures.value in
    let out : AreTakenOut g.T.Moment.rank c.args.slot.0 (length c.in-Some.kept.list) c.self.inside.rows c.drop_all.new.rows =
    subst (λ ls. AreTakenOut g.T.Moment.rank c.args.slot.0 (length ls) c.self.inside.rows c.drop_all.new.rows) c.as_slice.ensures.items c.drop_all.ensures in
    λ q. subst (λ x. AreDependents g.T.Moment.rank q (set slots c.args.slot.0 x) (dependents_of q c.drop_all.new.rows)) (sym c.take.ensures.after)
    (AreDependents-out g.T.Moment.rank slots c.args.slot.0 c.in-Some.kept there c.self.inside.rows c.drop_all.new.rows c.self.invariant out q)

pub returns-clause-kept_room : goal.returns-clause-kept_room
returns-clause-kept_room g c q =
    subst (λ (e : Entered g.row.T.Denot). room_of q e.rows ≤ room_of q c.drop_all.new.rows) c.self.view_is (c.drop_all.ensures.room q)

pub drop_all-requires-clause-order : goal.drop_all-requires-clause-order
drop_all-requires-clause-order g c q = (c.self.invariant q).order

pub drop_all-requires-clause-present : goal.drop_all-requires-clause-present
drop_all-requires-clause-present g c q place =
    let slots = c.self.inside.slots.items in
    let some : IsSome (kept_at c.args.slot.0 slots) = subst (λ (e : Entered g.row.T.Denot). IsSome (kept_at c.args.slot.0 e.slots)) (sym c.self.view_is) c.requires in
    let there : kept_at c.args.slot.0 slots ≡ Some c.in-Some.kept = kept_at-read slots c.args.slot.0 c.index_mut.result.now c.index_mut.ensures.value some ∙ sym c.in-Some.ensures.value in
    (c.self.invariant q).exact c.args.slot.0 place
    ∙ ap (λ (k : Option (EventEntries g.row.T.Denot)). option_to_list (option_and_then (λ k. dependent_in q k.at c.args.slot.0 k.list place) k)) there
    ∙ sym (ap (λ ls. option_to_list (dependent_in q c.in-Some.kept.at c.args.slot.0 ls place)) c.as_slice.ensures.items)

pub returns-clause-absent : goal.returns-clause-absent
returns-clause-absent g c = ap (λ x. kept_at c.args.slot.0 (set c.self.inside.slots.items c.args.slot.0 x)) c.take.ensures.after ∙ kept_at-emptied c.self.inside.slots.items c.args.slot.0

pub unreachable-requires : goal.unreachable-requires
unreachable-requires c = grind (arith, common_steps)

pub returns-clause-others : goal.returns-clause-others
returns-clause-others c = grind (arith, common_steps)

pub drop_all-requires-clause-few : goal.drop_all-requires-clause-few
drop_all-requires-clause-few c = grind (arith, common_steps)

pub index_mut-requires : goal.index_mut-requires
index_mut-requires c = grind (arith, common_steps)

pub returns-clause-places : goal.returns-clause-places
returns-clause-places c = grind (arith, common_steps)
