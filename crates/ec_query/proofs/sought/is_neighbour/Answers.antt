-- The neighbours are the added properties that are exclusive.
use Rattle.std.proofs.Common.{◌∙◌}
use Rattle.ec_parts.specs.StandFor.{view_of}
use Rattle.ec_query.proofs.OnParts.{on-added, on-neighbour}
use Rattle.ec_query.proofs.sought.is_neighbour.Goals as goal

pub of-requires : goal.of-requires
of-requires g c = on-added g.T.Moment.rank c.args.parts.now.checked c.requires.events (view_of c.args.parts.now) c.args.id c.requires.p c.requires.on

pub returns : goal.returns
returns g c = λ events p q on there.
    c.is_listed.ensures
    ∙ on-neighbour g.T.Moment.rank c.args.parts.now.checked events (view_of c.args.parts.now) c.args.id p on c.args.head q c.of.result.now there
    (c.of.ensures.exclusive c.args.parts.now.checked c.args.parts.now.props on.stand.both.tables.added.neighbours)
