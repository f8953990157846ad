use Rattle.std.proofs.Common.{◌+◌, refl, ap, arith}
use Rattle.ec_parts.proofs.LinksByNumber.{IsOneToOne}
use Rattle.ec_parts.proofs.OneMention.{AreListed}
use Rattle.ec_parts.proofs.Mentioned.{count-few, links-few, HasMentioned-one}
use Rattle.ec_parts.proofs.mention.mention.Goals as goal

pub links_with-links-requires-clause-kept : goal.links_with-links-requires-clause-kept
links_with-links-requires-clause-kept g c = c.of-list.ensures.kept c.requires.tables.theory c.args.props.now c.requires.tables.tables.added.neighbours

pub links_with-links-requires-clause-few : goal.links_with-links-requires-clause-few
links_with-links-requires-clause-few g c =
    let one : IsOneToOne c.args.props.now = record { in_order = c.len.ensures.order; numbers = c.len.ensures.numbers } in
    let listed : AreListed c.args.neighbours.now c.args.p c.of-list.result.now = record { ascend = c.of-list.ensures.order; exclusive = c.of-list.ensures.exclusive } in
    let few = links-few _ _ _ _ c.args.p _ one c.requires.kept listed c.requires.tables c.requires.few c.mentions-fresh.result c.mentions-fresh.ensures in
    omega (arith, few)

pub mention-requires-clause-room : goal.mention-requires-clause-room
mention-requires-clause-room g c =
    let one : IsOneToOne c.args.props.now = record { in_order = c.len.ensures.order; numbers = c.len.ensures.numbers } in
    let listed : AreListed c.args.neighbours.now c.args.p c.of-list.result.now = record { ascend = c.of-list.ensures.order; exclusive = c.of-list.ensures.exclusive } in
    count-few _ _ _ _ c.args.p _ one c.requires.kept listed c.requires.tables c.requires.few

pub overflow_add-tally-2 : goal.overflow_add-tally-2
overflow_add-tally-2 g c =
    let one : IsOneToOne c.args.props.now = record { in_order = c.len.ensures.order; numbers = c.len.ensures.numbers } in
    let listed : AreListed c.args.neighbours.now c.args.p c.of-list.result.now = record { ascend = c.of-list.ensures.order; exclusive = c.of-list.ensures.exclusive } in
    let few = links-few _ _ _ _ c.args.p _ one c.requires.kept listed c.requires.tables c.requires.few c.mentions-fresh.result c.mentions-fresh.ensures in
    omega (arith, few, c.links_with-links.ensures)

pub returns : goal.returns
returns g c =
    let one : IsOneToOne c.args.props.now = record { in_order = c.len.ensures.order; numbers = c.len.ensures.numbers } in
    let listed : AreListed c.args.neighbours.now c.args.p c.of-list.result.now = record { ascend = c.of-list.ensures.order; exclusive = c.of-list.ensures.exclusive } in
    HasMentioned-one _ _ _ _ c.args.p _ one c.requires.kept listed c.requires.tables c.requires.few _ _ c.mentions-fresh.result c.mentions-fresh.ensures
    c.mention.ensures.props refl (ap (λ n. c.args.tally.now.links + n) c.links_with-links.ensures)
