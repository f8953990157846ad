-- The parts of a change at the instant are those between two counts; what is done with them is the look.
use Rattle.std.proofs.Common.{◌≤◌, length, IsSome, refl, subst, sym, arith}
use Rattle.std.specs.List.{All}
use Rattle.std.proofs.lemmas.Grind.{common_steps}
use Rattle.ec_numbered.specs.ByNumber.{kept_at}
use Rattle.ec_parts.specs.StandFor.{view_of}
use Rattle.ec_revise.specs.declared.change.Removal.{Removal}
use Rattle.ec_sweep.proofs.LookBody.{HasLooked-between, added-further, added-ordered, count-same, length-entries, part-same, removals-kept, removals-ordered, removed-further}
use Rattle.ec_sweep.proofs.MostSteps.{look-most, look-steps}
use Rattle.ec_sweep.proofs.look.look.Goals as goal

pub count_removals-removed-requires : goal.count_removals-removed-requires
count_removals-removed-requires g c =
    let can = c.requires.may_look.can in
    rw c.as_slice.ensures
    (removals-ordered g.T.Moment.rank c.args.parts.now.checked c.args.parts.now.props c.args.parts.now.store.events c.requires.may_look.new c.args.change.now can.underway.change_is)

pub count_added-added-requires : goal.count_added-added-requires
count_added-added-requires g c =
    let can = c.requires.may_look.can in
    rw c.as_slice-2.ensures
    (added-ordered g.T.Moment.rank c.args.parts.now.checked c.args.parts.now.props c.args.parts.now.store.events c.requires.may_look.new c.args.change.now can.underway.change_is)

pub between-requires-clause-ordered : goal.between-requires-clause-ordered
between-requires-clause-ordered g c =
    subst (λ n. c.args.progress.now.removed ≤ n) (sym (count-same _ c.count_removals-removed.ensures.count c.as_slice.ensures))
    (removed-further g.T.Moment.rank c.args.parts.now.checked c.requires.may_look.new (view_of c.args.parts.now) c.requires.may_look.tally c.args.change.now c.requires.may_look.r (g.T.Moment.rank c.args.at)
    c.args.dirty.now c.requires.may_look.agenda c.args.due.now c.args.looked.now c.requires.may_look.planned c.requires.may_look.active c.args.progress.now c.requires.may_look.can)

pub between-requires-2-clause-ordered : goal.between-requires-2-clause-ordered
between-requires-2-clause-ordered g c =
    subst (λ n. c.args.progress.now.added ≤ n) (sym (count-same _ c.count_added-added.ensures.count c.as_slice-2.ensures))
    (added-further g.T.Moment.rank c.args.parts.now.checked c.requires.may_look.new (view_of c.args.parts.now) c.requires.may_look.tally c.args.change.now c.requires.may_look.r (g.T.Moment.rank c.args.at)
    c.args.dirty.now c.requires.may_look.agenda c.args.due.now c.args.looked.now c.requires.may_look.planned c.requires.may_look.active c.args.progress.now c.requires.may_look.can)

pub between-requires-2-clause-within : goal.between-requires-2-clause-within
between-requires-2-clause-within g c =
    let can = c.requires.may_look.can in
    let many = length-entries g.T.Moment.rank c.args.parts.now.checked c.args.parts.now.props c.args.parts.now.store.events c.requires.may_look.new c.args.change.now can.underway.change_is in
    let within = rw c.as_slice-2.ensures at c.count_added-added.ensures.within in
    rw c.as_slice-4.ensures (rw many within)

pub look_by_number-requires : goal.look_by_number-requires
look_by_number-requires g c =
    subst (All (λ (removal : Removal _). IsSome (kept_at removal.slot.0 c.args.parts.now.entries.slots)))
    (sym (part-same _ c.between.ensures c.as_slice-3.ensures (count-same _ c.count_removals-removed.ensures.count c.as_slice.ensures)))
    (removals-kept g.T.Moment.rank c.args.parts.now.checked c.requires.may_look.new (view_of c.args.parts.now) c.requires.may_look.tally c.args.change.now c.requires.may_look.r (g.T.Moment.rank c.args.at)
    c.args.dirty.now c.requires.may_look.agenda c.args.due.now c.args.looked.now c.requires.may_look.planned c.requires.may_look.active c.args.progress.now c.requires.may_look.can)

pub returns-clause-looked : goal.returns-clause-looked
returns-clause-looked g c =
    λ new tally r agenda planned active can.
    HasLooked-between g.T.Moment.rank c.args.parts.now.checked new (view_of c.args.parts.now) tally c.args.change.now r (g.T.Moment.rank c.args.at) c.args.dirty.now agenda c.args.due.now
    c.args.looked.now planned active c.args.progress.now can (record { in_order = c.len.ensures.order; numbers = c.len.ensures.numbers }) c.len-2.ensures.slots
    c.between.result.now c.between-2.result.now
    (part-same _ c.between.ensures c.as_slice-3.ensures (count-same _ c.count_removals-removed.ensures.count c.as_slice.ensures))
    (part-same _ c.between-2.ensures c.as_slice-4.ensures (count-same _ c.count_added-added.ensures.count c.as_slice-2.ensures))
    c.look_by_number.new.looked c.in_ok-turns.turns.items c.in_ok-turns.ensures.looked

pub returns-clause-progress : goal.returns-clause-progress
returns-clause-progress g c =
    λ r next before.
    record { removed_by = count-same _ c.count_removals-removed.ensures.count c.as_slice.ensures; added_by = count-same _ c.count_added-added.ensures.count c.as_slice-2.ensures }

pub returns-in_err-turns-clause-most : goal.returns-in_err-turns-clause-most
returns-in_err-turns-clause-most g c =
    λ new tally r agenda planned active can.
    look-most g.T.Moment.rank c.args.parts.now.checked new (view_of c.args.parts.now) tally c.args.change.now r (g.T.Moment.rank c.args.at) c.args.dirty.now agenda c.args.due.now
    c.args.looked.now planned active c.args.progress.now can (record { in_order = c.len.ensures.order; numbers = c.len.ensures.numbers }) c.len-2.ensures.slots
    c.between.result.now c.between-2.result.now
    (part-same _ c.between.ensures c.as_slice-3.ensures (count-same _ c.count_removals-removed.ensures.count c.as_slice.ensures))
    (part-same _ c.between-2.ensures c.as_slice-4.ensures (count-same _ c.count_added-added.ensures.count c.as_slice-2.ensures))
    c.args.steps.now c.look_by_number.new.steps c.look_by_number.ensures.most

pub returns-clause-most : goal.returns-clause-most
returns-clause-most g c =
    λ new tally r agenda planned active can.
    look-most g.T.Moment.rank c.args.parts.now.checked new (view_of c.args.parts.now) tally c.args.change.now r (g.T.Moment.rank c.args.at) c.args.dirty.now agenda c.args.due.now
    c.args.looked.now planned active c.args.progress.now can (record { in_order = c.len.ensures.order; numbers = c.len.ensures.numbers }) c.len-2.ensures.slots
    c.between.result.now c.between-2.result.now
    (part-same _ c.between.ensures c.as_slice-3.ensures (count-same _ c.count_removals-removed.ensures.count c.as_slice.ensures))
    (part-same _ c.between-2.ensures c.as_slice-4.ensures (count-same _ c.count_added-added.ensures.count c.as_slice-2.ensures))
    c.args.steps.now c.look_by_number.new.steps c.look_by_number.ensures.most

pub returns-clause-steps : goal.returns-clause-steps
returns-clause-steps g c =
    look-steps c.args.change.now c.args.looked.now c.look_by_number.new.looked c.args.progress.now (record { removed = c.count_removals-removed.result; added = c.count_added-added.result })
    c.between.result.now c.between-2.result.now c.args.steps.now c.look_by_number.new.steps
    (part-same _ c.between.ensures c.as_slice-3.ensures refl)
    (part-same _ c.between-2.ensures c.as_slice-4.ensures refl)
    (subst (λ n. c.args.progress.now.removed ≤ n) (sym (count-same _ c.count_removals-removed.ensures.count c.as_slice.ensures))
    (removed-further g.T.Moment.rank c.args.parts.now.checked c.requires.may_look.new (view_of c.args.parts.now) c.requires.may_look.tally c.args.change.now c.requires.may_look.r (g.T.Moment.rank c.args.at)
    c.args.dirty.now c.requires.may_look.agenda c.args.due.now c.args.looked.now c.requires.may_look.planned c.requires.may_look.active c.args.progress.now c.requires.may_look.can))
    (subst (λ rs. c.count_removals-removed.result ≤ length rs) c.as_slice.ensures c.count_removals-removed.ensures.within)
    (subst (λ n. c.args.progress.now.added ≤ n) (sym (count-same _ c.count_added-added.ensures.count c.as_slice-2.ensures))
    (added-further g.T.Moment.rank c.args.parts.now.checked c.requires.may_look.new (view_of c.args.parts.now) c.requires.may_look.tally c.args.change.now c.requires.may_look.r (g.T.Moment.rank c.args.at)
    c.args.dirty.now c.requires.may_look.agenda c.args.due.now c.args.looked.now c.requires.may_look.planned c.requires.may_look.active c.args.progress.now c.requires.may_look.can))
    c.in_ok-turns.ensures.steps

pub between-requires-clause-within : goal.between-requires-clause-within
between-requires-clause-within c = grind (arith, common_steps)
