-- The intervals under the number of a property are its own; one without a number has none.
use Rattle.std.proofs.Common.{sym, ◌∙◌}
use Rattle.ec_terms.specs.Term.{ground_of}
use Rattle.ec_query.proofs.HeldLemmas.{holds_at-kept, holds_at-unkept}
use Rattle.ec_query.proofs.held.holds_at.Goals as goal

pub returns-in-Some : goal.returns-in-Some
returns-in-Some g c = λ theory events held.
    c.covers.ensures ∙ holds_at-kept g.T.Moment.rank theory events c.args.held.now.props.now c.args.held.now.intervals.now held c.in-Some.id.0 (ground_of c.args.p.now) (g.T.Moment.rank c.args.at) c.in-Some.ensures.term

pub returns-in-None : goal.returns-in-None
returns-in-None g c = λ theory events held.
    sym (holds_at-unkept g.T.Moment.rank theory events c.args.held.now.props.now c.args.held.now.intervals.now held (ground_of c.args.p.now) (g.T.Moment.rank c.args.at) (sym c.in-None.ensures.number))
