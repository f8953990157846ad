-- One entry more is told, where its bit is set.
use Rattle.std.proofs.Common.{◌<◌, length, sym, ap, ◌∙◌, arith}
use Rattle.std.proofs.lemmas.Grind.{common_steps}
use Rattle.ec_sweep.proofs.Turning.{turns_from-clear, turns_from-set}
use Rattle.ec_sweep.proofs.turned.turn_down.Goals as goal
use Rattle.ec_sweep.proofs.turned.turn_down.Goals.{then-has_bit+in_ok-push, else-has_bit}

pub loop-k-preserved : goal.loop-k-preserved
loop-k-preserved c =
    let within : c.loop-k.k < length c.args.list.now = omega arith in
    elim c.if-has_bit.branch [
      | then-has_bit+in_ok-push w ↦
          turns_from-set c.args.list.now c.loop-k.k c.index-list-k.result within c.index-list-k.is _ c.loop-k.turns.items c.args.active c.if-has_bit.turns.items
          (sym c.has_bit.ensures ∙ w.if-has_bit.true) c.loop-k.invariant (ap (λ v. v.items) w.turns-is ∙ w.in_ok-push.ensures.items)
      | else-has_bit w ↦
          turns_from-clear c.args.list.now c.loop-k.k c.index-list-k.result within c.index-list-k.is _ c.loop-k.turns.items c.args.active c.if-has_bit.turns.items
          (sym c.has_bit.ensures ∙ w.if-has_bit.false) c.loop-k.invariant (ap (λ v. v.items) w.turns-is)
    ]

pub returns : goal.returns
returns c = grind (arith, common_steps)
