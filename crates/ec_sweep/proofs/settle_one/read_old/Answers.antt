-- What one reading says of a property.
use Rattle.std.proofs.Common.{ap, ◌∙◌}
use Rattle.std.specs.Prelude.{unwrap_or}
use Rattle.ec_revise.specs.declared.settled.Currencies.{Currencies}
use Rattle.ec_sweep.specs.Settling.{mark_or_zeros}
use Rattle.ec_sweep.specs.State.{dirty_at}
use Rattle.ec_sweep.proofs.NextTimes.{IsNextMark-first}
use Rattle.ec_sweep.proofs.settle_one.read_old.Goals as goal

pub returns-clause-mark : goal.returns-clause-mark
returns-clause-mark g c = c.mark_or_zeros.ensures ∙ ap (mark_or_zeros c.args.at) c.read-here.ensures.mark

pub returns-clause-current : goal.returns-clause-current
returns-clause-current g c =
    c.currencies.ensures ∙ ap (λ current. let it : Currencies = record { in_old = current; in_new = unwrap_or (dirty_at c.args.p.0 c.args.dirty.now) current } in it) c.read-here.ensures.current

pub returns-clause-next : goal.returns-clause-next
returns-clause-next g c =
    IsNextMark-first g.T.Moment.rank (g.T.Moment.rank c.args.at) c.args.points.now c.args.p.0 c.read-here.ensures.row c.read-here.result.next c.time_of.result c.read-here.ensures.next c.time_of.ensures
