-- The break is no termination, or it is one at the time or later, or before it.
use Rattle.std.proofs.Common.{Some, sym, ap, ◌∙◌}
use Rattle.ec_axioms.specs.Timeline.{reason_yes, reason_ended, reason_broken}
use Rattle.ec_intervals.specs.Table.{plain_begin}
use Rattle.ec_query.specs.ReasonSteps.{begin_count, count_at}
use Rattle.ec_query.proofs.ReasonCases.{broken-there, reason_of-broken, reason_of-ended, reason_of-ending}
use Rattle.ec_query.proofs.ToldReasons.{both_read, end_read, last_begin-begun, not_terminated, terminated, why_steps-within}
use Rattle.ec_query.proofs.explaining.why_broken.Goals as goal

pub find_cause-breaking-requires : goal.find_cause-breaking-requires
find_cause-breaking-requires g c =
    let rank = g.T.Moment.rank in
    let theory = c.args.parts.now.checked in
    let broken = c.requires.on.3 in record {
      on = (
        c.requires.on.0,
        c.requires.on.1,
        c.requires.on.2,
        broken-there theory c.requires.on.0 c.requires.on.1 (rank c.args.at) (plain_begin rank c.args.begin) broken.last (rank c.args.mark.at) broken.break
            (not_terminated rank theory c.requires.on.0 c.requires.on.1 c.args.at (plain_begin rank c.args.begin) c.args.mark broken c.if-mark-eq0.true),
      );
    }

pub returns-then-mark-eq0-clause-reason : goal.returns-then-mark-eq0-clause-reason
returns-then-mark-eq0-clause-reason g c = λ events p on broken.
    let rank = g.T.Moment.rank in
    let theory = c.args.parts.now.checked in
    record {
      same = reason_of-broken theory events p (rank c.args.at) (plain_begin rank c.args.begin) broken.last (rank c.args.mark.at) broken.break
          (not_terminated rank theory events p c.args.at (plain_begin rank c.args.begin) c.args.mark broken c.if-mark-eq0.true);
      causes = c.find_cause-breaking.ensures.cause events p on;
    }

pub returns-then-mark-eq0-clause-steps : goal.returns-then-mark-eq0-clause-steps
returns-then-mark-eq0-clause-steps g c = λ events p on broken.
    let rank = g.T.Moment.rank in
    let theory = c.args.parts.now.checked in
    let begin = plain_begin rank c.args.begin in
    why_steps-within theory events p (rank c.args.at) c.find_cause-breaking.new.steps c.args.steps.now (reason_broken begin (rank c.args.mark.at))
    (reason_of-broken theory events p (rank c.args.at) begin broken.last (rank c.args.mark.at) broken.break (not_terminated rank theory events p c.args.at begin c.args.mark broken c.if-mark-eq0.true))
    (end_read c.find_cause-breaking.new.steps c.args.steps.now (begin_count events begin) (count_at events (rank c.args.mark.at)) (c.find_cause-breaking.ensures.steps events p on))

pub find_cause-ending-requires : goal.find_cause-ending-requires
find_cause-ending-requires g c =
    let rank = g.T.Moment.rank in record {
      on = (
        c.requires.on.0,
        c.requires.on.1,
        c.requires.on.2,
        terminated rank c.args.parts.now.checked c.requires.on.0 c.requires.on.1 c.args.at (plain_begin rank c.args.begin) c.args.mark c.requires.on.3 c.if-mark-eq0.false,
      );
    }

pub origin_of-origin-requires : goal.origin_of-origin-requires
origin_of-origin-requires g c =
    let rank = g.T.Moment.rank in record {
      on = (
        c.requires.on.0,
        c.requires.on.1,
        c.requires.on.2,
        last_begin-begun c.args.parts.now.checked c.requires.on.0 c.requires.on.1 (rank c.args.at) (plain_begin rank c.args.begin) c.requires.on.3.last,
      );
    }

pub returns-then-holds-clause-reason : goal.returns-then-holds-clause-reason
returns-then-holds-clause-reason g c = λ events p on broken.
    let rank = g.T.Moment.rank in
    let theory = c.args.parts.now.checked in
    record {
      same = ap (λ begin. reason_yes begin (Some (rank c.args.mark.at))) c.origin_of-origin.ensures.begin
          ∙ reason_of-ending theory events p (rank c.args.at) (plain_begin rank c.args.begin) broken.last (rank c.args.mark.at) broken.break
          (terminated rank theory events p c.args.at (plain_begin rank c.args.begin) c.args.mark broken c.if-mark-eq0.false) (sym c.is_up_to-holds.ensures ∙ c.if-holds.true);
      causes = (c.origin_of-origin.ensures.cause events p on, c.find_cause-ending.ensures.cause events p on);
    }

pub returns-then-holds-clause-steps : goal.returns-then-holds-clause-steps
returns-then-holds-clause-steps g c = λ events p on broken.
    let rank = g.T.Moment.rank in
    let theory = c.args.parts.now.checked in
    let begin = plain_begin rank c.args.begin in
    why_steps-within theory events p (rank c.args.at) c.origin_of-origin.new.steps c.args.steps.now (reason_yes begin (Some (rank c.args.mark.at)))
    (reason_of-ending theory events p (rank c.args.at) begin broken.last (rank c.args.mark.at) broken.break (terminated rank theory events p c.args.at begin c.args.mark broken c.if-mark-eq0.false)
    (sym c.is_up_to-holds.ensures ∙ c.if-holds.true))
    (both_read c.origin_of-origin.new.steps c.find_cause-ending.new.steps c.args.steps.now (begin_count events begin) (count_at events (rank c.args.mark.at)) (c.find_cause-ending.ensures.steps events p on)
    (c.origin_of-origin.ensures.steps events p on))

pub returns-clause-reason : goal.returns-clause-reason
returns-clause-reason g c = λ events p on broken.
    let rank = g.T.Moment.rank in
    let theory = c.args.parts.now.checked in
    record {
      same = reason_of-ended theory events p (rank c.args.at) (plain_begin rank c.args.begin) broken.last (rank c.args.mark.at) broken.break
          (terminated rank theory events p c.args.at (plain_begin rank c.args.begin) c.args.mark broken c.if-mark-eq0.false) (sym c.is_up_to-holds.ensures ∙ c.if-holds.false);
      causes = c.find_cause-ending.ensures.cause events p on;
    }

pub returns-clause-steps : goal.returns-clause-steps
returns-clause-steps g c = λ events p on broken.
    let rank = g.T.Moment.rank in
    let theory = c.args.parts.now.checked in
    let begin = plain_begin rank c.args.begin in
    why_steps-within theory events p (rank c.args.at) c.find_cause-ending.new.steps c.args.steps.now (reason_ended begin (rank c.args.mark.at))
    (reason_of-ended theory events p (rank c.args.at) begin broken.last (rank c.args.mark.at) broken.break (terminated rank theory events p c.args.at begin c.args.mark broken c.if-mark-eq0.false)
    (sym c.is_up_to-holds.ensures ∙ c.if-holds.false))
    (end_read c.find_cause-ending.new.steps c.args.steps.now (begin_count events begin) (count_at events (rank c.args.mark.at)) (c.find_cause-ending.ensures.steps events p on))
