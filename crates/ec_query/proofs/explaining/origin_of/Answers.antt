-- A begin before all events has no cause, and one at a time has the first cause of the initiation there.
use Rattle.std.proofs.Common.{◌+◌, ◌*◌, ◌≤◌, sym, ap, subst}
use Rattle.ec_axioms.specs.Timeline.{Begin}
use Rattle.ec_intervals.specs.Table.{plain_begin}
use Rattle.ec_query.specs.ReasonSteps.{begin_count}
use Rattle.ec_query.specs.Standing.{IsBegun}
use Rattle.ec_query.proofs.ToldReasons.{no_more_steps}
use Rattle.ec_query.proofs.explaining.origin_of.Goals as goal

pub returns-in-Initial : goal.returns-in-Initial
returns-in-Initial g c = record {
  begin = ap (plain_begin g.T.Moment.rank) (sym c.in-Initial.is);
  cause = λ events p on. tt;
  steps = λ events p on. no_more_steps c.args.steps.now (begin_count events (plain_begin g.T.Moment.rank c.args.begin));
}

pub find_cause-requires : goal.find_cause-requires
find_cause-requires g c = record {
  on = (
    c.requires.on.0,
    c.requires.on.1,
    c.requires.on.2,
    subst (λ (b : Begin). IsBegun c.args.parts.now.checked c.requires.on.0 c.requires.on.1 b) (ap (plain_begin g.T.Moment.rank) c.in-At.is) c.requires.on.3,
  );
}

pub returns-in-At : goal.returns-in-At
returns-in-At g c = record {
  begin = ap (plain_begin g.T.Moment.rank) (sym c.in-At.is);
  cause = λ events p on. c.find_cause.ensures.cause events p on;
  steps = λ events p on.
      subst (λ (b : Begin). c.find_cause.new.steps ≤ c.args.steps.now + 2 * begin_count events b) (ap (plain_begin g.T.Moment.rank) (sym c.in-At.is))
      (c.find_cause.ensures.steps events p on);
}
