-- None ends before what begins before all.
use Rattle.std.proofs.Common.{filter, length, ap, sym, ◌∙◌}
use Rattle.ec_axioms.specs.Timeline.{Interval}
use Rattle.ec_commands.specs.Relations.{begin_point, end_point, point_lt}
use Rattle.ec_intervals.specs.Table.{members_at, plain_begin, plain_intervals}
use Rattle.ec_compare.proofs.Zones.{none-ended}
use Rattle.ec_compare.proofs.zone.count_ended.Goals as goal

pub returns-in-Initial : goal.returns-in-Initial
returns-in-Initial g c =
    let all = plain_intervals g.T.Moment.rank (members_at c.args.id.0 c.args.intervals.now) in
    none-ended all
    ∙ ap (λ begin. length (filter (λ (j : Interval). point_lt (end_point j.until) (begin_point (plain_begin g.T.Moment.rank begin))) all)) (sym c.in-Initial.is)
