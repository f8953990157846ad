-- The two are exclusive, or the same and strong.
use Rattle.std.proofs.Common.{arith}
use Rattle.ec_parts.specs.StandFor.{view_of}
use Rattle.ec_query.proofs.OnParts.{on-strong}
use Rattle.ec_query.proofs.sought.breaks.Goals as goal

pub returns-then-is_neighbour : goal.returns-then-is_neighbour
returns-then-is_neighbour g c = λ events p q on there.
    let exclusive = c.is_neighbour.ensures events p q on there in
    let asked = c.if-is_neighbour.true in grind arith

pub returns-then-strong : goal.returns-then-strong
returns-then-strong g c = λ events p q on there.
    let parts = c.args.parts.now in
    let exclusive = c.is_neighbour.ensures events p q on there in
    let own = c.is_head-own.ensures events p q on there in
    let strong = on-strong g.T.Moment.rank parts.checked events (view_of parts) c.args.id p on c.is_strong-strong.result (c.is_strong-strong.ensures parts.checked parts.props on.stand.both.tables.added.neighbours) in
    let asked = c.if-is_neighbour.false in
    let asked_strong = c.if-strong.true in grind arith

pub returns-else-strong : goal.returns-else-strong
returns-else-strong g c = λ events p q on there.
    let parts = c.args.parts.now in
    let exclusive = c.is_neighbour.ensures events p q on there in
    let strong = on-strong g.T.Moment.rank parts.checked events (view_of parts) c.args.id p on c.is_strong-strong.result (c.is_strong-strong.ensures parts.checked parts.props on.stand.both.tables.added.neighbours) in
    let asked = c.if-is_neighbour.false in
    let asked_strong = c.if-strong.false in grind arith
