-- Where an interval covers the time, what it relates to is written, and else `none`.
use Rattle.std.proofs.Common.{ap}
use Rattle.ec_terms.specs.Term.{ground_of}
use Rattle.ec_axioms.specs.Calculus.{intervals_of}
use Rattle.ec_commands.specs.QueryTexts.{related_reply, related_text}
use Rattle.ec_query.proofs.WritingLemmas.{OnErr-renamed, OnOk-renamed}
use Rattle.ec_compare.proofs.related.write_related.Goals as goal

pub returns-in-Some-clause-written : goal.returns-in-Some-clause-written
unfolding related_reply
returns-in-Some-clause-written g c = λ theory events held.
    OnOk-renamed g.K.Sink.stands c.args.out.now c.write_those.new.out c.write_those.result
    (ap (related_text g.T.Moment.canon c.args.wanted (intervals_of theory events (ground_of c.args.q.now))) (c.in-Some.ensures.covers theory events held))
    (c.write_those.ensures.written theory events held)

pub returns-in-None-clause-written : goal.returns-in-None-clause-written
unfolding related_reply
returns-in-None-clause-written g c = λ theory events held.
    OnOk-renamed g.K.Sink.stands c.args.out.now c.write_all.new.out c.write_all.result
    (ap (related_text g.T.Moment.canon c.args.wanted (intervals_of theory events (ground_of c.args.q.now))) (c.in-None.ensures.covers theory events held))
    c.write_all.ensures.written

pub returns-in-Some-clause-part : goal.returns-in-Some-clause-part
unfolding related_reply
returns-in-Some-clause-part g c = λ theory events held.
    OnErr-renamed g.K.Sink.stands c.args.out.now c.write_those.new.out c.write_those.result
    (ap (related_text g.T.Moment.canon c.args.wanted (intervals_of theory events (ground_of c.args.q.now))) (c.in-Some.ensures.covers theory events held))
    (c.write_those.ensures.part theory events held)

pub returns-in-None-clause-part : goal.returns-in-None-clause-part
unfolding related_reply
returns-in-None-clause-part g c = λ theory events held.
    OnErr-renamed g.K.Sink.stands c.args.out.now c.write_all.new.out c.write_all.result
    (ap (related_text g.T.Moment.canon c.args.wanted (intervals_of theory events (ground_of c.args.q.now))) (c.in-None.ensures.covers theory events held))
    c.write_all.ensures.part
