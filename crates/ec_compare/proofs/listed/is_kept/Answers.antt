-- Those that begin no later than it are those that begin up to its begin.
use Rattle.std.proofs.Common.{length, not, ap, ◌∙◌}
use Rattle.ec_intervals.specs.Steps.{begins_behind}
use Rattle.ec_intervals.specs.Table.{members_at, plain_begin, plain_interval, plain_intervals}
use Rattle.ec_axioms.specs.Timeline.{Interval}
use Rattle.ec_compare.proofs.Found.{begun-agree}
use Rattle.ec_compare.proofs.Zones.{few-filtered}
use Rattle.ec_compare.proofs.listed.is_kept.Goals as goal

pub returns-in-Initial : goal.returns-in-Initial
returns-in-Initial g c = λ row. c.is_first_of.ensures row (ap (plain_begin g.T.Moment.rank) c.in-Initial.is)

pub is_last_of-requires : goal.is_last_of-requires
is_last_of-requires g c = record {
  within = few-filtered (λ (interval : Interval). not (begins_behind (g.T.Moment.rank c.in-At.at) interval)) (plain_interval g.T.Moment.rank) (members_at c.args.id.0 c.args.intervals.now)
      c.begun_up_to.result c.begun_up_to.ensures;
}

pub returns-in-At : goal.returns-in-At
returns-in-At g c = λ row.
    c.is_last_of.ensures row (c.begun_up_to.ensures ∙ ap length (begun-agree (g.T.Moment.rank c.in-At.at) (plain_interval g.T.Moment.rank c.args.interval.now) (ap (plain_begin g.T.Moment.rank) c.in-At.is)
    (plain_intervals g.T.Moment.rank (members_at c.args.id.0 c.args.intervals.now))))
