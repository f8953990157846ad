-- The member is what is left behind the front.
use Rattle.std.proofs.Common.{◌++◌, ◌∷◌, refl, sym, ◌∙◌}
use Rattle.ec_commands.specs.QueryTexts.{interval_text}
use Rattle.ec_intervals.specs.Table.{plain_interval}
use Rattle.ec_query.proofs.WritingLemmas.{IsLeft-start, IsLeft-next, IsLeft-last_part}
use Rattle.ec_compare.proofs.fronted.write_fronted.Goals as goal

pub returns-clause-part : goal.returns-clause-part
returns-clause-part g c =
    let member = 32 ∷ interval_text g.T.Moment.canon (plain_interval g.T.Moment.rank c.args.interval) in
    let start = IsLeft-start {faults = g.K.Sink.faults} c.args.out.now (c.args.front.now ++ member) (c.args.front.now ++ member) refl in
    IsLeft-last_part c.write_all-2.new.out c.write_all-2.result c.as_bytes.result.now
    (IsLeft-next c.args.front.now member start refl c.in_ok-write_all.ensures.written c.in_ok-write_all.ensures.quiet)
    (sym (c.as_bytes.ensures ∙ c.set_interval.ensures)) c.write_all-2.ensures.part
