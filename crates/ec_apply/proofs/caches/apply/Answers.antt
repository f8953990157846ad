-- The three parts of the change, for any new list for which the delta is ready.
use Rattle.std.proofs.Common.{◌∙◌, arith}
use Rattle.ec_points.specs.Clashes.{clashes_at}
use Rattle.ec_parts.proofs.ListedInitials.{lists_initials}
use Rattle.ec_parts.specs.StandFor.{view_of}
use Rattle.ec_axioms.specs.Changes.{change_counts}
use Rattle.ec_store.specs.Store.{history_of}
use Rattle.ec_apply.proofs.Standing.{seen-same}
use Rattle.ec_apply.proofs.Whole.{all-new, mendable-new, no_clashes, props-are, starts-new}
use Rattle.ec_apply.proofs.caches.apply.Goals as goal

pub switch_events-requires-clause-switch : goal.switch_events-requires-clause-switch
switch_events-requires-clause-switch g c = record {
  theory = c.args.parts.now.checked;
  table = c.args.parts.now.props;
  new = c.requires.aimed.new;
  switch = record { is_change = c.requires.aimed.ready.change; bits = c.requires.aimed.ready.bits; entries = c.requires.aimed.stands.caches.entries_of };
}

pub apply-requires-2-clause-clash_room : goal.apply-requires-2-clause-clash_room
apply-requires-2-clause-clash_room g c =
    let none = no_clashes g.T.Moment.rank c.changes_are_made.ensures c.args.parts.now.checked c.requires.aimed.new (view_of c.args.parts.now) c.requires.aimed.tally c.args.delta c.requires.aimed.stands c.requires.aimed.ready
    c.len-3.ensures.apart (λ n t. clashes_at g.T.Moment.rank n t c.args.parts.now.initiations) in
    omega (arith, none)

pub mend-props-requires-clause-once : goal.mend-props-requires-clause-once
mend-props-requires-clause-once g c = c.len-4.ensures.once

pub mend-props-requires-clause-mendable : goal.mend-props-requires-clause-mendable
mend-props-requires-clause-mendable g c =
    mendable-new g.T.Moment.rank c.changes_are_made.ensures c.args.parts.now.checked c.requires.aimed.new (view_of c.args.parts.now) c.requires.aimed.tally c.args.delta c.requires.aimed.stands c.requires.aimed.ready
    c.growth_is_bounded_law.ensures c.len-2.ensures.apart c.len-4.ensures.once c.apply.new.self c.apply.ensures.initials c.apply.ensures.rows c.apply.ensures.marks c.apply.ensures.others

pub returns-clause-stands : goal.returns-clause-stands
returns-clause-stands g c new tally stands ready =
    let switched = c.switch_events.ensures.switched c.args.parts.now.checked c.args.parts.now.props new (record { is_change = ready.change; bits = ready.bits; entries = stands.caches.entries_of }) in
    all-new g.T.Moment.rank c.changes_are_made.ensures c.args.parts.now.checked new (view_of c.args.parts.now) tally c.args.delta stands ready
    c.growth_is_bounded_law.ensures c.len-2.ensures.apart c.len-4.ensures.once c.apply.new.self c.apply.ensures.initials c.apply.ensures.rows c.apply.ensures.marks c.apply.ensures.others
    c.mend-props.new.intervals c.mend-props.ensures.mended c.mend-props.ensures.others
    c.switch_events.new.store c.switch_events.new.entries c.apply-2.new.self
    switched.events switched.entries
    (starts-new g.T.Moment.rank c.changes_are_made.ensures c.args.parts.now.checked new (view_of c.args.parts.now) tally c.args.delta stands ready
    c.apply-2.new.self c.len-3.ensures.apart c.apply-2.ensures.marks c.apply-2.ensures.others)

pub returns-clause-counts : goal.returns-clause-counts
returns-clause-counts g c new tally stands ready =
    seen-same (change_counts c.args.parts.now.checked (history_of g.T.Moment.rank c.args.parts.now.store.events) new) c.args.delta.looked.seen c.args.delta.looked.on c.args.delta.looked.off c.mend-props.result
    ready.seen ready.on ready.off
    (c.mend-props.ensures.count
    ∙ props-are g.T.Moment.rank c.changes_are_made.ensures c.args.parts.now.checked new (view_of c.args.parts.now) tally c.args.delta stands ready
    c.growth_is_bounded_law.ensures c.len-2.ensures.apart c.len-4.ensures.once c.apply.new.self c.apply.ensures.initials c.apply.ensures.rows c.apply.ensures.marks c.apply.ensures.others
    c.mend-props.new.intervals c.mend-props.ensures.mended c.mend-props.ensures.others
    (record { in_order = c.len.ensures.order; numbers = c.len.ensures.numbers }) (lists_initials c.args.parts.now.checked c.theory.ensures.well_formed c.theory.ensures.matchable))
