-- What is reached is the whole stretch, or nothing goes on from it.
use Rattle.std.proofs.Common.{◌<◌, sym, ap, subst, ◌∙◌}
use Rattle.std.specs.Ordering.{is_le}
use Rattle.ec_terms.specs.Term.{ground_of}
use Rattle.ec_intervals.specs.Table.{members_at, plain_end, plain_intervals}
use Rattle.ec_query.proofs.HeldLemmas.{intervals_of-kept, holds_through-kept, holds_through-unkept}
use Rattle.ec_query.proofs.SpanLemmas.{is_le-int_le}
use Rattle.ec_query.proofs.StretchLemmas.{Reaches, Reaches-start, Reaches-next, Reaches-whole, Reaches-broken, broken_at_once, far-at, far-unended, left_from-less, left_from}
use Rattle.ec_query.proofs.stretches.through.Goals as goal

pub returns-in_default : goal.returns-in_default
returns-in_default g c = λ theory events held.
    sym (holds_through-unkept g.T.Moment.rank theory events c.args.held.now.props.now c.args.held.now.intervals.now held (ground_of c.args.p.now) (g.T.Moment.rank c.args.from) (g.T.Moment.rank c.args.until) (sym c.in_default.ensures.number))

pub returns-in_default-end_over : goal.returns-in_default-end_over
returns-in_default-end_over g c = λ theory events held.
    broken_at_once (plain_intervals g.T.Moment.rank (members_at c.in-Some.id.0 c.args.held.now.intervals.now)) (g.T.Moment.rank c.args.from) (g.T.Moment.rank c.args.until) c.in_default-end_over.ensures.none
    ∙ holds_through-kept g.T.Moment.rank theory events c.args.held.now.props.now c.args.held.now.intervals.now held c.in-Some.id.0 (ground_of c.args.p.now) (g.T.Moment.rank c.args.from) (g.T.Moment.rank c.args.until) c.in-Some.ensures.term

pub loop-end-init : goal.loop-end-init
loop-end-init g c =
    Reaches-start (plain_intervals g.T.Moment.rank (members_at c.in-Some.id.0 c.args.held.now.intervals.now)) (g.T.Moment.rank c.args.from) (g.T.Moment.rank c.args.until) (plain_end g.T.Moment.rank c.in-Some-end_over.end)
    c.in-Some-end_over.ensures.some

pub returns-then-is_le : goal.returns-then-is_le
returns-then-is_le g c = λ theory events held.
    let rank = g.T.Moment.rank in
    Reaches-whole theory events (ground_of c.args.p.now) (rank c.args.from) (rank c.args.until) (plain_end rank c.loop-end.end) (plain_intervals rank (members_at c.in-Some.id.0 c.args.held.now.intervals.now))
    held.history c.requires
    (intervals_of-kept rank theory events c.args.held.now.props.now c.args.held.now.intervals.now held c.in-Some.id.0 (ground_of c.args.p.now) c.in-Some.ensures.term)
    c.loop-end.invariant
    (far-at (rank c.args.until) (rank c.in-At.reached) (plain_end rank c.loop-end.end) (ap (plain_end rank) c.in-At.is)
    (sym (c.is_le.ensures ∙ ap is_le c.order.ensures.order ∙ is_le-int_le (rank c.args.until) (rank c.in-At.reached)) ∙ c.if-is_le.true))

pub loop-end-smaller : goal.loop-end-smaller
loop-end-smaller g c =
    let rank = g.T.Moment.rank in
    let intervals = plain_intervals rank (members_at c.in-Some.id.0 c.args.held.now.intervals.now) in
    subst (λ end. left_from intervals (plain_end rank c.in-Some-end_from.next) < left_from intervals end) (sym (ap (plain_end rank) c.in-At.is))
    (left_from-less intervals (rank c.in-At.reached) (plain_end rank c.in-Some-end_from.next) c.in-Some-end_from.ensures.some)

pub loop-end-preserved : goal.loop-end-preserved
loop-end-preserved g c =
    let rank = g.T.Moment.rank in
    let intervals = plain_intervals rank (members_at c.in-Some.id.0 c.args.held.now.intervals.now) in
    Reaches-next intervals (rank c.args.from) (rank c.args.until) (rank c.in-At.reached) (plain_end rank c.in-Some-end_from.next)
    (subst (Reaches intervals (rank c.args.from) (rank c.args.until)) (ap (plain_end rank) c.in-At.is) c.loop-end.invariant)
    c.in-Some-end_from.ensures.some

pub returns-in-None : goal.returns-in-None
returns-in-None g c = λ theory events held.
    let rank = g.T.Moment.rank in
    let intervals = plain_intervals rank (members_at c.in-Some.id.0 c.args.held.now.intervals.now) in
    Reaches-broken intervals (rank c.args.from) (rank c.args.until) (rank c.in-At.reached)
    (subst (Reaches intervals (rank c.args.from) (rank c.args.until)) (ap (plain_end rank) c.in-At.is) c.loop-end.invariant)
    (sym (c.is_le.ensures ∙ ap is_le c.order.ensures.order ∙ is_le-int_le (rank c.args.until) (rank c.in-At.reached)) ∙ c.if-is_le.false)
    c.in-None.ensures.none
    ∙ holds_through-kept rank theory events c.args.held.now.props.now c.args.held.now.intervals.now held c.in-Some.id.0 (ground_of c.args.p.now) (rank c.args.from) (rank c.args.until) c.in-Some.ensures.term

pub returns : goal.returns
returns g c = λ theory events held.
    let rank = g.T.Moment.rank in
    Reaches-whole theory events (ground_of c.args.p.now) (rank c.args.from) (rank c.args.until) (plain_end rank c.loop-end.end) (plain_intervals rank (members_at c.in-Some.id.0 c.args.held.now.intervals.now))
    held.history c.requires
    (intervals_of-kept rank theory events c.args.held.now.props.now c.args.held.now.intervals.now held c.in-Some.id.0 (ground_of c.args.p.now) c.in-Some.ensures.term)
    c.loop-end.invariant
    (far-unended rank (rank c.args.until) c.loop-end.end c.in_default-end.not-At)
