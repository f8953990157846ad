-- The last start comes behind the begin before all events; and where no initiation can break, the last begin is that of an interval.
use Rattle.std.proofs.Common.{None, false, true, ap, ◌∙◌}
use Rattle.std.specs.List.{last_or}
use Rattle.ec_axioms.specs.Timeline.{initial_begins}
use Rattle.ec_parts.specs.StandFor.{view_of}
use Rattle.ec_query.proofs.LastBegins.{last_begin-initially, last_begin-started}
use Rattle.ec_query.proofs.OnParts.{on-begin, on-breaks_by_initiation}
use Rattle.ec_query.proofs.last_begins.last_begin.Goals as goal

pub returns-then-not-breaks_by_initiation : goal.returns-then-not-breaks_by_initiation
returns-then-not-breaks_by_initiation g c = λ events p on.
    let parts = c.args.parts.now in
    let rank = g.T.Moment.rank in
    let asked = c.breaks_by_initiation.ensures parts.checked parts.props on.stand.both.tables.added.neighbours in
    c.last_begin_before.ensures
    ∙ on-begin rank parts.checked events (view_of parts) c.args.id p on
    (on-breaks_by_initiation rank parts.checked events (view_of parts) c.args.id p on c.breaks_by_initiation.result false asked c.if-not-breaks_by_initiation.true) (rank c.args.at)

pub returns-in-Some : goal.returns-in-Some
returns-in-Some g c = λ events p on.
    let parts = c.args.parts.now in
    let rank = g.T.Moment.rank in
    let asked = c.breaks_by_initiation.ensures parts.checked parts.props on.stand.both.tables.added.neighbours in
    last_begin-started parts.checked events p (rank c.args.at) (rank c.in-Some.start)
    (c.in-Some.ensures events p on (on-breaks_by_initiation rank parts.checked events (view_of parts) c.args.id p on c.breaks_by_initiation.result true asked c.if-not-breaks_by_initiation.false))

pub returns-in-None : goal.returns-in-None
returns-in-None g c = λ events p on.
    let parts = c.args.parts.now in
    let rank = g.T.Moment.rank in
    let asked = c.breaks_by_initiation.ensures parts.checked parts.props on.stand.both.tables.added.neighbours in
    last_begin-initially parts.checked events p (rank c.args.at) _
    (c.in-None.ensures events p on (on-breaks_by_initiation rank parts.checked events (view_of parts) c.args.id p on c.breaks_by_initiation.result true asked c.if-not-breaks_by_initiation.false))
    (c.initial_begin.ensures ∙ ap (λ b. last_or None (initial_begins b)) (c.initial.ensures ∙ on.stand.both.caches.marks_of.initials.initial c.args.id.0 p on.kept))
