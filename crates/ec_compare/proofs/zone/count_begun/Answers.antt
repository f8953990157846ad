-- Each begins by what does not end.
use Rattle.std.proofs.Common.{filter, length, not, ap, sym, ◌∙◌}
use Rattle.std.proofs.lemmas.List.{length-map}
use Rattle.ec_axioms.specs.Timeline.{Interval}
use Rattle.ec_commands.specs.Relations.{begin_point, end_point, point_lt}
use Rattle.ec_intervals.specs.Table.{members_at, plain_end, plain_interval, plain_intervals}
use Rattle.ec_compare.proofs.Zones.{all-begun}
use Rattle.ec_compare.proofs.zone.count_begun.Goals as goal

pub returns-in-Unended : goal.returns-in-Unended
returns-in-Unended g c =
    let members = members_at c.args.id.0 c.args.intervals.now in
    let all = plain_intervals g.T.Moment.rank members in
    c.len.ensures ∙ sym (length-map members (plain_interval g.T.Moment.rank)) ∙ all-begun all
    ∙ ap (λ end. length (filter (λ (j : Interval). not (point_lt (end_point (plain_end g.T.Moment.rank end)) (begin_point j.from))) all)) (sym c.in-Unended.is)
