-- The mark at the time tells whether the property starts there.
use Rattle.std.proofs.Common.{sym, ap, ◌∙◌}
use Rattle.ec_terms.specs.Domain.{is_strong}
use Rattle.ec_axioms.specs.Calculus.{is_current}
use Rattle.ec_axioms.specs.Marks.{mark_breaks}
use Rattle.ec_points.specs.Table.{is_initial_at, marks_at}
use Rattle.ec_rows.specs.PlainMarks.{plain_mark}
use Rattle.ec_parts.specs.StandFor.{view_of}
use Rattle.ec_query.proofs.OnMarks.{current-by_marks, start-mark, start-no_mark, start_breaks, start_not_current, start_not_initiated}
use Rattle.ec_query.proofs.OnParts.{on-strong}
use Rattle.ec_query.proofs.last_begins.starts_at.Goals as goal

pub returns-in_default : goal.returns-in_default
returns-in_default g c = λ events p on.
    let parts = c.args.parts.now in
    sym (start-no_mark g.T.Moment.rank parts.checked events p (marks_at c.args.id.0 parts.points) (on.stand.both.caches.marks_of.marks c.args.id.0 p on.kept) (g.T.Moment.rank c.args.at)
    (sym c.in_default.ensures))

pub returns-then-breaks : goal.returns-then-breaks
returns-then-breaks g c = λ events p on.
    let parts = c.args.parts.now in
    let rank = g.T.Moment.rank in
    let strong = on-strong rank parts.checked events (view_of parts) c.args.id p on c.is_strong-strong.result (c.is_strong-strong.ensures parts.checked parts.props on.stand.both.tables.added.neighbours) in
    start_breaks c.in-Some.mark.inits c.breaks.result (mark_breaks (is_strong parts.checked p) (plain_mark rank c.in-Some.mark)) (is_current parts.checked events p (rank c.args.at)) _
    c.if-mark-gt0.true c.if-breaks.true (c.breaks.ensures ∙ ap (λ b. mark_breaks b (plain_mark rank c.in-Some.mark)) strong)
    (start-mark rank parts.checked events p (marks_at c.args.id.0 parts.points) (on.stand.both.caches.marks_of.marks c.args.id.0 p on.kept) (rank c.args.at) c.in-Some.mark (sym c.in-Some.ensures))

pub returns-else-breaks : goal.returns-else-breaks
returns-else-breaks g c = λ events p on.
    let parts = c.args.parts.now in
    let rank = g.T.Moment.rank in
    let strong = on-strong rank parts.checked events (view_of parts) c.args.id p on c.is_strong-strong.result (c.is_strong-strong.ensures parts.checked parts.props on.stand.both.tables.added.neighbours) in
    start_not_current c.in-Some.mark.inits c.breaks.result (mark_breaks (is_strong parts.checked p) (plain_mark rank c.in-Some.mark)) c.current.result (is_current parts.checked events p (rank c.args.at)) _
    c.if-mark-gt0.true c.if-breaks.false (c.breaks.ensures ∙ ap (λ b. mark_breaks b (plain_mark rank c.in-Some.mark)) strong)
    (c.current.ensures
    ∙ current-by_marks rank parts.checked events p (marks_at c.args.id.0 parts.points) (on.stand.both.caches.marks_of.marks c.args.id.0 p on.kept) (rank c.args.at) (is_initial_at c.args.id.0 parts.points)
    on.stand.both.caches.history (on.stand.both.caches.marks_of.initials.initial c.args.id.0 p on.kept))
    (start-mark rank parts.checked events p (marks_at c.args.id.0 parts.points) (on.stand.both.caches.marks_of.marks c.args.id.0 p on.kept) (rank c.args.at) c.in-Some.mark (sym c.in-Some.ensures))

pub returns-else-mark-gt0 : goal.returns-else-mark-gt0
returns-else-mark-gt0 g c = λ events p on.
    let parts = c.args.parts.now in
    let rank = g.T.Moment.rank in
    start_not_initiated c.in-Some.mark.inits _ _ c.if-mark-gt0.false
    (start-mark rank parts.checked events p (marks_at c.args.id.0 parts.points) (on.stand.both.caches.marks_of.marks c.args.id.0 p on.kept) (rank c.args.at) c.in-Some.mark (sym c.in-Some.ensures))
