-- Days and the second of the day make the rank.
use Rattle.std.proofs.Common.{ap, sym, ◌∙◌, pos, arith}
use Rattle.ec_civil.proofs.Stamps.{civil_rank-day_number}
use Rattle.ec_civil.proofs.stamp.Stamp.rank.Goals as goal

pub returns-clause-value : goal.returns-clause-value
returns-clause-value c =
    let rank = civil_rank-day_number c.args.self c.in_ok-days.days (sym c.in_ok-days.ensures.value) in
    ap pos (omega arith) ∙ sym rank
