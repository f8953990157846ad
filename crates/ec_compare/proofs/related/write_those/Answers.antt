-- The intervals under the number of a property are its own; one without a number has none.
use Rattle.std.proofs.Common.{map, filter, sym, ap, ◌∙◌, append-nil}
use Rattle.std.specs.Prelude.{decimal}
use Rattle.ec_terms.specs.Term.{ground_of}
use Rattle.ec_commands.specs.QueryTexts.{counted_text, interval_text}
use Rattle.ec_commands.specs.Relations.{stands_in}
use Rattle.ec_intervals.specs.Table.{plain_interval}
use Rattle.ec_query.proofs.HeldLemmas.{intervals_of-kept, intervals_of-unkept}
use Rattle.ec_query.proofs.WritingLemmas.{OnErr-renamed, OnOk-renamed}
use Rattle.ec_compare.proofs.Replies.{IsIntervalRow-kept}
use Rattle.ec_compare.proofs.related.write_those.Goals as goal

pub returns-in-Some-clause-written : goal.returns-in-Some-clause-written
returns-in-Some-clause-written g c = λ theory events held.
    OnOk-renamed g.K.Sink.stands c.args.out.now c.write_counted.new.out c.write_counted.result
    (ap (λ is. counted_text (map (interval_text g.T.Moment.canon) (filter (stands_in c.args.wanted (plain_interval g.T.Moment.rank c.args.left.now)) is)))
    (intervals_of-kept g.T.Moment.rank theory events c.args.held.now.props.now c.args.held.now.intervals.now held c.in-Some.id.0 (ground_of c.args.q.now) c.in-Some.ensures.term))
    (c.write_counted.ensures.written (IsIntervalRow-kept g.T.Moment.rank theory events c.args.held.now.props.now c.args.held.now.intervals.now held c.in-Some.id.0 (ground_of c.args.q.now) c.in-Some.ensures.term))

pub returns-in-None-clause-written : goal.returns-in-None-clause-written
returns-in-None-clause-written g c = λ theory events held.
    OnOk-renamed g.K.Sink.stands c.args.out.now c.write_count.new.out c.write_count.result
    (sym (ap (λ is. counted_text (map (interval_text g.T.Moment.canon) (filter (stands_in c.args.wanted (plain_interval g.T.Moment.rank c.args.left.now)) is)))
    (intervals_of-unkept g.T.Moment.rank theory events c.args.held.now.props.now c.args.held.now.intervals.now held (ground_of c.args.q.now) (sym c.in-None.ensures.number)) ∙ append-nil (decimal 0)))
    c.write_count.ensures.written

pub returns-in-Some-clause-part : goal.returns-in-Some-clause-part
returns-in-Some-clause-part g c = λ theory events held.
    OnErr-renamed g.K.Sink.stands c.args.out.now c.write_counted.new.out c.write_counted.result
    (ap (λ is. counted_text (map (interval_text g.T.Moment.canon) (filter (stands_in c.args.wanted (plain_interval g.T.Moment.rank c.args.left.now)) is)))
    (intervals_of-kept g.T.Moment.rank theory events c.args.held.now.props.now c.args.held.now.intervals.now held c.in-Some.id.0 (ground_of c.args.q.now) c.in-Some.ensures.term))
    (c.write_counted.ensures.part (IsIntervalRow-kept g.T.Moment.rank theory events c.args.held.now.props.now c.args.held.now.intervals.now held c.in-Some.id.0 (ground_of c.args.q.now) c.in-Some.ensures.term))

pub returns-in-None-clause-part : goal.returns-in-None-clause-part
returns-in-None-clause-part g c = λ theory events held.
    OnErr-renamed g.K.Sink.stands c.args.out.now c.write_count.new.out c.write_count.result
    (sym (ap (λ is. counted_text (map (interval_text g.T.Moment.canon) (filter (stands_in c.args.wanted (plain_interval g.T.Moment.rank c.args.left.now)) is)))
    (intervals_of-unkept g.T.Moment.rank theory events c.args.held.now.props.now c.args.held.now.intervals.now held (ground_of c.args.q.now) (sym c.in-None.ensures.number)) ∙ append-nil (decimal 0)))
    c.write_count.ensures.part
