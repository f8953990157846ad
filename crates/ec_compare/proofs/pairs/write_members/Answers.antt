-- The pairs are those of the intervals under the numbers of the properties; one without a number has none.
use Rattle.std.proofs.Common.{sym, ap}
use Rattle.ec_terms.specs.Term.{ground_of}
use Rattle.ec_commands.specs.QueryTexts.{pair_text}
use Rattle.ec_query.specs.Members.{members_text}
use Rattle.ec_query.proofs.WritingLemmas.{OnErr-renamed, OnOk-renamed}
use Rattle.ec_compare.proofs.Replies.{IsIntervalRow-kept, pairs_of-kept, pairs_of-unkept_left, pairs_of-unkept_right}
use Rattle.ec_compare.proofs.pairs.write_members.Goals as goal

pub returns-in_default-clause-written : goal.returns-in_default-clause-written
returns-in_default-clause-written g c = λ theory events held.
    OnOk-renamed g.K.Sink.stands c.args.out.now c.write_all.new.out c.write_all.result
    (sym (ap (members_text (pair_text g.T.Moment.canon)) (pairs_of-unkept_left g.T.Moment.rank theory events c.args.held.now.props.now c.args.held.now.intervals.now held (ground_of c.args.p.now) (ground_of c.args.q.now) c.args.wanted (sym c.in_default.ensures.number))))
    c.write_all.ensures.written

pub returns-in_default-lookup-clause-written : goal.returns-in_default-lookup-clause-written
returns-in_default-lookup-clause-written g c = λ theory events held.
    OnOk-renamed g.K.Sink.stands c.args.out.now c.write_all-in_default-lookup.new.out c.write_all-in_default-lookup.result
    (sym (ap (members_text (pair_text g.T.Moment.canon)) (pairs_of-unkept_right g.T.Moment.rank theory events c.args.held.now.props.now c.args.held.now.intervals.now held (ground_of c.args.p.now) (ground_of c.args.q.now) c.args.wanted (sym c.in_default-lookup.ensures.number))))
    c.write_all-in_default-lookup.ensures.written

pub returns-clause-written : goal.returns-clause-written
returns-clause-written g c = λ theory events held.
    OnOk-renamed g.K.Sink.stands c.args.out.now c.write_between.new.out c.write_between.result
    (ap (members_text (pair_text g.T.Moment.canon)) (pairs_of-kept g.T.Moment.rank theory events c.args.held.now.props.now c.args.held.now.intervals.now held c.in-Some.left.0 c.in-Some-lookup.right.0 (ground_of c.args.p.now) (ground_of c.args.q.now) c.args.wanted c.in-Some.ensures.term c.in-Some-lookup.ensures.term))
    (c.write_between.ensures.written (IsIntervalRow-kept g.T.Moment.rank theory events c.args.held.now.props.now c.args.held.now.intervals.now held c.in-Some.left.0 (ground_of c.args.p.now) c.in-Some.ensures.term) (IsIntervalRow-kept g.T.Moment.rank theory events c.args.held.now.props.now c.args.held.now.intervals.now held c.in-Some-lookup.right.0 (ground_of c.args.q.now) c.in-Some-lookup.ensures.term))

pub returns-in_default-clause-part : goal.returns-in_default-clause-part
returns-in_default-clause-part g c = λ theory events held.
    OnErr-renamed g.K.Sink.stands c.args.out.now c.write_all.new.out c.write_all.result
    (sym (ap (members_text (pair_text g.T.Moment.canon)) (pairs_of-unkept_left g.T.Moment.rank theory events c.args.held.now.props.now c.args.held.now.intervals.now held (ground_of c.args.p.now) (ground_of c.args.q.now) c.args.wanted (sym c.in_default.ensures.number))))
    c.write_all.ensures.part

pub returns-in_default-lookup-clause-part : goal.returns-in_default-lookup-clause-part
returns-in_default-lookup-clause-part g c = λ theory events held.
    OnErr-renamed g.K.Sink.stands c.args.out.now c.write_all-in_default-lookup.new.out c.write_all-in_default-lookup.result
    (sym (ap (members_text (pair_text g.T.Moment.canon)) (pairs_of-unkept_right g.T.Moment.rank theory events c.args.held.now.props.now c.args.held.now.intervals.now held (ground_of c.args.p.now) (ground_of c.args.q.now) c.args.wanted (sym c.in_default-lookup.ensures.number))))
    c.write_all-in_default-lookup.ensures.part

pub returns-clause-part : goal.returns-clause-part
returns-clause-part g c = λ theory events held.
    OnErr-renamed g.K.Sink.stands c.args.out.now c.write_between.new.out c.write_between.result
    (ap (members_text (pair_text g.T.Moment.canon)) (pairs_of-kept g.T.Moment.rank theory events c.args.held.now.props.now c.args.held.now.intervals.now held c.in-Some.left.0 c.in-Some-lookup.right.0 (ground_of c.args.p.now) (ground_of c.args.q.now) c.args.wanted c.in-Some.ensures.term c.in-Some-lookup.ensures.term))
    (c.write_between.ensures.part (IsIntervalRow-kept g.T.Moment.rank theory events c.args.held.now.props.now c.args.held.now.intervals.now held c.in-Some.left.0 (ground_of c.args.p.now) c.in-Some.ensures.term) (IsIntervalRow-kept g.T.Moment.rank theory events c.args.held.now.props.now c.args.held.now.intervals.now held c.in-Some-lookup.right.0 (ground_of c.args.q.now) c.in-Some-lookup.ensures.term))
