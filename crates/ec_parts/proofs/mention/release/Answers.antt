use Rattle.std.proofs.Common.{arith}
use Rattle.std.proofs.lemmas.Grind.{common_steps}
use Rattle.ec_parts.proofs.LinksByNumber.{IsOneToOne}
use Rattle.ec_parts.proofs.OneMention.{AreListed}
use Rattle.ec_parts.proofs.Mentioned.{count-some, mentions-some, AreNeighbours-released, links-within, HasReleased-one}
use Rattle.ec_parts.proofs.mention.release.Goals as goal

pub release-requires-clause-enough : goal.release-requires-clause-enough
release-requires-clause-enough g c = count-some _ _ _ _ c.args.p c.requires.kept c.requires.tables

pub links_with-links-requires-clause-kept : goal.links_with-links-requires-clause-kept
links_with-links-requires-clause-kept g c =
    let one : IsOneToOne c.args.props.now = record { in_order = c.len.ensures.order; numbers = c.len.ensures.numbers } in
    let listed : AreListed c.args.neighbours.now c.args.p c.of-list.result.now = record { ascend = c.of-list.ensures.order; exclusive = c.of-list.ensures.exclusive } in
    c.of-list.ensures.kept c.requires.tables.theory c.release.new.self
    (AreNeighbours-released _ _ _ _ c.args.p c.requires.kept c.requires.tables _ one listed _ c.release.ensures.props)

pub links_with-links-requires-clause-few : goal.links_with-links-requires-clause-few
links_with-links-requires-clause-few g c =
    let one : IsOneToOne c.args.props.now = record { in_order = c.len.ensures.order; numbers = c.len.ensures.numbers } in
    let listed : AreListed c.args.neighbours.now c.args.p c.of-list.result.now = record { ascend = c.of-list.ensures.order; exclusive = c.of-list.ensures.exclusive } in
    let within = links-within _ _ _ _ c.args.p c.requires.kept c.requires.tables _ one listed _ c.release.ensures.props c.mentions-fresh.result c.mentions-fresh.ensures in
    omega (arith, within)

pub overflow_sub-tally-2 : goal.overflow_sub-tally-2
overflow_sub-tally-2 g c =
    let one : IsOneToOne c.args.props.now = record { in_order = c.len.ensures.order; numbers = c.len.ensures.numbers } in
    let listed : AreListed c.args.neighbours.now c.args.p c.of-list.result.now = record { ascend = c.of-list.ensures.order; exclusive = c.of-list.ensures.exclusive } in
    let within = links-within _ _ _ _ c.args.p c.requires.kept c.requires.tables _ one listed _ c.release.ensures.props c.mentions-fresh.result c.mentions-fresh.ensures in
    omega (arith, within, c.links_with-links.ensures)

pub returns : goal.returns
returns g c =
    let one : IsOneToOne c.args.props.now = record { in_order = c.len.ensures.order; numbers = c.len.ensures.numbers } in
    let listed : AreListed c.args.neighbours.now c.args.p c.of-list.result.now = record { ascend = c.of-list.ensures.order; exclusive = c.of-list.ensures.exclusive } in
    let within = links-within _ _ _ _ c.args.p c.requires.kept c.requires.tables _ one listed _ c.release.ensures.props c.mentions-fresh.result c.mentions-fresh.ensures in
    let some = mentions-some _ _ _ _ c.args.p c.requires.kept c.requires.tables in
    HasReleased-one _ _ _ _ c.args.p c.requires.kept c.requires.tables _ one listed _ c.release.ensures.props _ c.mentions-fresh.result c.mentions-fresh.ensures
    (omega (arith, some)) (omega (arith, within, c.links_with-links.ensures))

pub overflow_sub-tally : goal.overflow_sub-tally
overflow_sub-tally c = grind (arith, common_steps)
