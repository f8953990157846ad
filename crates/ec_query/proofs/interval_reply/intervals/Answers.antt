-- The intervals under the number of a property are its own; one without a number has none.
use Rattle.std.proofs.Common.{sym}
use Rattle.ec_terms.specs.Term.{ground_of}
use Rattle.ec_query.proofs.HeldLemmas.{intervals_reply-kept, intervals_reply-unkept}
use Rattle.ec_query.proofs.WritingLemmas.{OnErr-renamed, OnOk-renamed}
use Rattle.ec_query.proofs.interval_reply.intervals.Goals as goal

pub returns-in-Some-clause-written : goal.returns-in-Some-clause-written
returns-in-Some-clause-written g c = λ theory events held.
    OnOk-renamed g.K.Sink.stands c.args.out.now c.write_intervals.new.out c.write_intervals.result
    (intervals_reply-kept g.T.Moment.rank theory events c.args.held.now.props.now c.args.held.now.intervals.now held g.T.Moment.canon c.in-Some.id.0 (ground_of c.args.p.now) c.in-Some.ensures.term)
    c.write_intervals.ensures.written

pub returns-in-Some-clause-part : goal.returns-in-Some-clause-part
returns-in-Some-clause-part g c = λ theory events held.
    OnErr-renamed g.K.Sink.stands c.args.out.now c.write_intervals.new.out c.write_intervals.result
    (intervals_reply-kept g.T.Moment.rank theory events c.args.held.now.props.now c.args.held.now.intervals.now held g.T.Moment.canon c.in-Some.id.0 (ground_of c.args.p.now) c.in-Some.ensures.term)
    c.write_intervals.ensures.part

pub returns-in-None-clause-written : goal.returns-in-None-clause-written
returns-in-None-clause-written g c = λ theory events held.
    OnOk-renamed g.K.Sink.stands c.args.out.now c.write_count.new.out c.write_count.result
    (intervals_reply-unkept g.T.Moment.rank theory events c.args.held.now.props.now c.args.held.now.intervals.now held g.T.Moment.canon (ground_of c.args.p.now) (sym c.in-None.ensures.number))
    c.write_count.ensures.written

pub returns-in-None-clause-part : goal.returns-in-None-clause-part
returns-in-None-clause-part g c = λ theory events held.
    OnErr-renamed g.K.Sink.stands c.args.out.now c.write_count.new.out c.write_count.result
    (intervals_reply-unkept g.T.Moment.rank theory events c.args.held.now.props.now c.args.held.now.intervals.now held g.T.Moment.canon (ground_of c.args.p.now) (sym c.in-None.ensures.number))
    c.write_count.ensures.part
