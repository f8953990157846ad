-- Each property is met once, since the list ascends.
use Rattle.std.proofs.Common.{◌+◌, ◌<◌, ◌^◌, sym, subst}
use Rattle.ec_revise.specs.declared.settled.Tallied.{Tallied}
use Rattle.ec_revise.specs.declared.tally.Part.TheVariants.{Clashes}
use Rattle.ec_revise.specs.TurnCounts.{count_in, counts_of}
use Rattle.ec_revise.proofs.TallyRows.{CountsEach-more, tallied_at-fresh}
use Rattle.ec_revise.proofs.tally.Tally.count_clashes.Goals as goal

pub count-requires : goal.count-requires
count-requires c =
    subst (λ (t : Tallied). count_in Clashes (counts_of c.args.up t) + 1 < 2 ^ 32)
    (sym (tallied_at-fresh c.args.props.now c.loop-q.q-index (record { 0 = 0 }) Clashes c.args.up c.args.self.now c.loop-q.self c.requires.order c.loop-q-test.true c.loop-q.invariant))
    (c.requires.room _)

pub loop-q-preserved : goal.loop-q-preserved
loop-q-preserved c =
    CountsEach-more c.args.props.now c.loop-q.q-index (record { 0 = 0 }) Clashes c.args.up c.args.self.now c.loop-q.self c.count.new.self
    c.requires.order c.loop-q-test.true c.loop-q.invariant c.in_ok-count.ensures
