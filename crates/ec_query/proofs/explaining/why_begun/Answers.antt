-- The begin is broken at the next break, or goes on without an end.
use Rattle.std.proofs.Common.{None, sym, ap, ◌∙◌}
use Rattle.ec_lists.proofs.Options.{None-from_option_map}
use Rattle.ec_axioms.specs.Marks.{mark_at}
use Rattle.ec_axioms.specs.Timeline.{reason_yes}
use Rattle.ec_intervals.specs.Table.{plain_begin}
use Rattle.ec_query.specs.ReasonSteps.{begin_count}
use Rattle.ec_query.proofs.ReasonCases.{reason_of-lasting}
use Rattle.ec_query.proofs.ToldReasons.{begin_read, broken-at, last_begin-begun, why_steps-within}
use Rattle.ec_query.proofs.explaining.why_begun.Goals as goal

pub why_broken-requires : goal.why_broken-requires
why_broken-requires g c =
    let rank = g.T.Moment.rank in record {
      on = (
        c.requires.on.0,
        c.requires.on.1,
        c.requires.on.2,
        broken-at rank c.args.parts.now.checked c.requires.on.0 c.requires.on.1 c.args.at (plain_begin rank c.args.begin) c.in-Some.mark c.requires.on.3 (c.in-Some.ensures c.requires.on.0 c.requires.on.1 c.requires.on.2),
      );
    }

pub origin_of-requires : goal.origin_of-requires
origin_of-requires g c =
    let rank = g.T.Moment.rank in record {
      on = (c.requires.on.0, c.requires.on.1, c.requires.on.2, last_begin-begun c.args.parts.now.checked c.requires.on.0 c.requires.on.1 (rank c.args.at) (plain_begin rank c.args.begin) c.requires.on.3);
    }

pub returns-in-Some-clause-reason : goal.returns-in-Some-clause-reason
returns-in-Some-clause-reason g c = λ events p on last.
    let rank = g.T.Moment.rank in
    c.why_broken.ensures.reason events p on (broken-at rank c.args.parts.now.checked events p c.args.at (plain_begin rank c.args.begin) c.in-Some.mark last (c.in-Some.ensures events p on))

pub returns-in-Some-clause-steps : goal.returns-in-Some-clause-steps
returns-in-Some-clause-steps g c = λ events p on last.
    let rank = g.T.Moment.rank in
    c.why_broken.ensures.steps events p on (broken-at rank c.args.parts.now.checked events p c.args.at (plain_begin rank c.args.begin) c.in-Some.mark last (c.in-Some.ensures events p on))

pub returns-in-None-clause-reason : goal.returns-in-None-clause-reason
returns-in-None-clause-reason g c = λ events p on last.
    let rank = g.T.Moment.rank in
    let theory = c.args.parts.now.checked in
    record {
      same = ap (λ begin. reason_yes begin None) c.origin_of.ensures.begin
          ∙ reason_of-lasting theory events p (rank c.args.at) (plain_begin rank c.args.begin) last (None-from_option_map (mark_at theory events p) _ (sym (c.in-None.ensures events p on)));
      causes = (c.origin_of.ensures.cause events p on, tt);
    }

pub returns-in-None-clause-steps : goal.returns-in-None-clause-steps
returns-in-None-clause-steps g c = λ events p on last.
    let rank = g.T.Moment.rank in
    let theory = c.args.parts.now.checked in
    let begin = plain_begin rank c.args.begin in
    why_steps-within theory events p (rank c.args.at) c.origin_of.new.steps c.args.steps.now (reason_yes begin None)
    (reason_of-lasting theory events p (rank c.args.at) begin last (None-from_option_map (mark_at theory events p) _ (sym (c.in-None.ensures events p on))))
    (begin_read c.origin_of.new.steps c.args.steps.now (begin_count events begin) (c.origin_of.ensures.steps events p on))
