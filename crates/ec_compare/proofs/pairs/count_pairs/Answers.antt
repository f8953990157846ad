-- The pairs are those of the intervals under the numbers of the properties; one without a number has none.
use Rattle.std.proofs.Common.{◌≡◌, ◌<◌, length, sym, ap, subst}
use Rattle.std.specs.Prelude.{IfSome, IfNone}
use Rattle.ec_commands.specs.declared.limits.TheConstants.{MOST_PAIRS}
use Rattle.ec_terms.specs.Term.{ground_of}
use Rattle.ec_compare.proofs.Replies.{IsIntervalRow-kept, pairs_of-kept, pairs_of-unkept_left, pairs_of-unkept_right}
use Rattle.ec_compare.proofs.pairs.count_pairs.Goals as goal

pub returns-in_default-clause-count : goal.returns-in_default-clause-count
returns-in_default-clause-count g c = λ theory events held.
    sym (ap length (pairs_of-unkept_left g.T.Moment.rank theory events c.args.held.now.props.now c.args.held.now.intervals.now held (ground_of c.args.p.now) (ground_of c.args.q.now) c.args.wanted (sym c.in_default.ensures.number)))

pub returns-in_default-lookup-clause-count : goal.returns-in_default-lookup-clause-count
returns-in_default-lookup-clause-count g c = λ theory events held.
    sym (ap length (pairs_of-unkept_right g.T.Moment.rank theory events c.args.held.now.props.now c.args.held.now.intervals.now held (ground_of c.args.p.now) (ground_of c.args.q.now) c.args.wanted (sym c.in_default-lookup.ensures.number)))

pub returns-clause-count : goal.returns-clause-count
returns-clause-count g c = λ theory events held.
    subst (λ pairs. IfSome c.count_between.result (λ count. count ≡ length pairs))
    (pairs_of-kept g.T.Moment.rank theory events c.args.held.now.props.now c.args.held.now.intervals.now held c.in-Some.left.0 c.in-Some-lookup.right.0 (ground_of c.args.p.now) (ground_of c.args.q.now) c.args.wanted c.in-Some.ensures.term c.in-Some-lookup.ensures.term)
    (c.count_between.ensures.count (IsIntervalRow-kept g.T.Moment.rank theory events c.args.held.now.props.now c.args.held.now.intervals.now held c.in-Some.left.0 (ground_of c.args.p.now) c.in-Some.ensures.term) (IsIntervalRow-kept g.T.Moment.rank theory events c.args.held.now.props.now c.args.held.now.intervals.now held c.in-Some-lookup.right.0 (ground_of c.args.q.now) c.in-Some-lookup.ensures.term))

pub returns-clause-many : goal.returns-clause-many
returns-clause-many g c = λ theory events held.
    subst (λ pairs. IfNone c.count_between.result (MOST_PAIRS < length pairs))
    (pairs_of-kept g.T.Moment.rank theory events c.args.held.now.props.now c.args.held.now.intervals.now held c.in-Some.left.0 c.in-Some-lookup.right.0 (ground_of c.args.p.now) (ground_of c.args.q.now) c.args.wanted c.in-Some.ensures.term c.in-Some-lookup.ensures.term)
    (c.count_between.ensures.many (IsIntervalRow-kept g.T.Moment.rank theory events c.args.held.now.props.now c.args.held.now.intervals.now held c.in-Some.left.0 (ground_of c.args.p.now) c.in-Some.ensures.term) (IsIntervalRow-kept g.T.Moment.rank theory events c.args.held.now.props.now c.args.held.now.intervals.now held c.in-Some-lookup.right.0 (ground_of c.args.q.now) c.in-Some-lookup.ensures.term))
