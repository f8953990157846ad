-- One entry more is taken out.
use Rattle.std.proofs.Common.{◌≡◌, sym, subst, arith}
use Rattle.std.proofs.lemmas.Grind.{common_steps}
use Rattle.std.specs.Option.{option_to_list}
use Rattle.ec_entries.specs.declared.event_entries.Dependent.{Dependent}
use Rattle.ec_entries.specs.Dependents.{any_on, dependent_if, dependents_of, from_place}
use Rattle.ec_entries.specs.Noting.{IsTakenOut}
use Rattle.ec_entries.proofs.NotedLists.{AreTakenOut-more, AreTakenOut-next}
use Rattle.ec_entries.proofs.noting.drop_all.Goals as goal

pub loop-place-preserved : goal.loop-place-preserved
loop-place-preserved g c =
    AreTakenOut-more g.T.Moment.rank c.args.at c.args.slot.0 c.args.list.now c.loop-place.place c.index-list-place.result c.loop-place-test.true c.index-list-place.is
    c.args.rows.now c.loop-place.rows c.requires.present c.loop-place.invariant c.drop_entry.new.rows
    (subst (λ ls. IsTakenOut g.T.Moment.rank c.args.slot.0 c.loop-place.place (λ q. any_on q ls) c.loop-place.rows c.drop_entry.new.rows) c.as_slice.ensures.items
    (subst (λ (d : Dependent g.row.T.Denot). IsTakenOut g.T.Moment.rank d.slot.0 d.place (λ q. any_on q c.as_slice.result.now) c.loop-place.rows c.drop_entry.new.rows)
    c.dependent_at.ensures c.drop_entry.ensures))

pub drop_entry-requires-clause-present : goal.drop_entry-requires-clause-present
drop_entry-requires-clause-present g c q =
    subst (λ (d : Dependent g.row.T.Denot). from_place d.slot.0 d.place (dependents_of q c.loop-place.rows) ≡ option_to_list (dependent_if (any_on q c.as_slice.result.now) d.at d.slot.0 d.place))
    (sym c.dependent_at.ensures)
    (subst (λ ls. from_place c.args.slot.0 c.loop-place.place (dependents_of q c.loop-place.rows) ≡ option_to_list (dependent_if (any_on q ls) c.args.at c.args.slot.0 c.loop-place.place))
    (sym c.as_slice.ensures.items)
    (AreTakenOut-next g.T.Moment.rank c.args.at c.args.slot.0 c.args.list.now c.loop-place.place c.index-list-place.result c.loop-place-test.true c.index-list-place.is
    c.args.rows.now c.loop-place.rows c.requires.present c.loop-place.invariant q))

pub loop-place-init : goal.loop-place-init
loop-place-init c = grind (arith, common_steps)

pub returns : goal.returns
returns c = grind (arith, common_steps)
