-- What is exclusive to one more has left.
use Rattle.std.proofs.Common.{◌&&◌, not, ap, ◌∙◌}
use Rattle.ec_numbered.specs.PropSet.{has_number}
use Rattle.ec_exclusive.specs.CurrentProps.{is_in}
use Rattle.ec_exclusive.proofs.InTurn.{prop_at_place, read_at_place}
use Rattle.ec_pass.proofs.SettlingLemmas.{members-excluded}
use Rattle.ec_pass.proofs.settling.leave_exclusive.Goals as goal

pub loop-p-preserved : goal.loop-p-preserved
loop-p-preserved c = (
  members-excluded c.args.theory.now c.args.props.now (prop_at_place c.args.started.now c.loop-p.p-index) c.args.now.now c.loop-p.now c.leave_each.new.now
      c.in_ok-excluded.excluded.items c.args.started.now c.loop-p.p-index c.loop-p-test.true (read_at_place c.args.started.now c.loop-p.p-index c.loop-p-test.true)
      c.in_ok-excluded.ensures
      (λ n. c.leave_each.ensures.members n ∙ ap (λ ps. is_in n c.loop-p.now && not (has_number n ps)) c.as_slice.ensures.items)
      c.loop-p.invariant.0,
  c.leave_each.ensures.forms c.args.theory.now c.args.props.now c.loop-p.invariant.1,
)
