-- The intervals under the number of a property are its own; one without a number has none.
use Rattle.std.proofs.Common.{sym, ◌∙◌}
use Rattle.ec_terms.specs.Term.{ground_of}
use Rattle.ec_compare.proofs.Replies.{IsIntervalRow-kept, interval_at-kept, interval_at-unkept}
use Rattle.ec_compare.proofs.covering.interval_at.Goals as goal

pub returns-in-Some-clause-covers : goal.returns-in-Some-clause-covers
returns-in-Some-clause-covers g c = λ theory events held.
    c.covering.ensures.covers (IsIntervalRow-kept g.T.Moment.rank theory events c.args.held.now.props.now c.args.held.now.intervals.now held c.in-Some.id.0 (ground_of c.args.p.now) c.in-Some.ensures.term)
    ∙ interval_at-kept g.T.Moment.rank theory events c.args.held.now.props.now c.args.held.now.intervals.now held c.in-Some.id.0 (ground_of c.args.p.now) (g.T.Moment.rank c.args.at) c.in-Some.ensures.term

pub returns-in-None-clause-covers : goal.returns-in-None-clause-covers
returns-in-None-clause-covers g c = λ theory events held.
    sym (interval_at-unkept g.T.Moment.rank theory events c.args.held.now.props.now c.args.held.now.intervals.now held (ground_of c.args.p.now) (g.T.Moment.rank c.args.at) (sym c.in-None.ensures.number))
