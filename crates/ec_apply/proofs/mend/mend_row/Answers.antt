use Rattle.std.proofs.Common.{rules}
use Rattle.ec_apply.specs.Mended.{intervals_at}
use Rattle.ec_apply.proofs.Moved.{are_moved-from}
use Rattle.ec_apply.proofs.mend.mend_row.Goals as goal

pub returns-clause-moved : goal.returns-clause-moved
returns-clause-moved g c =
    are_moved-from c.splice_from.result (intervals_at g.T.Moment.rank c.args.p.0 c.args.intervals.now) (intervals_at g.T.Moment.rank c.args.p.0 c.splice_from.new.self) c.splice_from.ensures.differs

pub splice_from-requires-clause-old : goal.splice_from-requires-clause-old
splice_from-requires-clause-old g c = search rules
