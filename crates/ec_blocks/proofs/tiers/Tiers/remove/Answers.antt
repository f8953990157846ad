-- What is carried goes back to its group, and the member itself is carried at last.
use Rattle.std.proofs.Common.{◌-◌, ◌*◌, ◌/◌, length, sym, ap, ◌∙◌, arith}
use Rattle.std.proofs.lemmas.Grind.{common_steps}
use Rattle.std.specs.List.{insert}
use Rattle.std.proofs.lemmas.List.Edits.{length-remove}
use Rattle.ec_blocks.proofs.TierLemmas.{put-back, put-in-out, put-in-get}
use Rattle.ec_blocks.proofs.tiers.Tiers.remove.Goals as goal

pub loop-at-init : goal.loop-at-init
loop-at-init g c =
    let gone = c.remove_straight-carried.ensures.items in
    let less = length-remove c.args.self.now.items ((c.len.result - 1) / 64 * 64) (omega (arith, c.len.ensures)) in
    record {
      items = ap (λ us. insert us ((c.len.result - 1) / 64 * 64) c.remove_straight-carried.result) gone
          ∙ put-back c.args.self.now.items ((c.len.result - 1) / 64 * 64) c.remove_straight-carried.result (omega (arith, c.len.ensures)) c.remove_straight-carried.ensures.member;
      len = omega (arith, ap length gone, less);
      room = c.remove_straight-carried.ensures.room;
      from = omega (arith, c.if-last-k.false);
      to = omega (arith, ap length gone, less, c.len.ensures);
      whole = omega arith;
    }

pub returns-clause-member : goal.returns-clause-member
returns-clause-member g c =
    put-in-get c.shift_out.new.self.items c.args.self.now.items c.args.k c.shift_out.result (omega (arith, c.loop-at.invariant.len, c.shift_out.ensures.len))
    (sym c.shift_out.ensures.items ∙ ap (λ n. insert c.loop-at.self.items n c.loop-at.carried) (omega (arith, c.loop-at.invariant.from, c.loop-at-test.false)) ∙ c.loop-at.invariant.items)

pub returns-clause-items : goal.returns-clause-items
returns-clause-items g c =
    put-in-out c.shift_out.new.self.items c.args.self.now.items c.args.k c.shift_out.result (omega (arith, c.loop-at.invariant.len, c.shift_out.ensures.len))
    (sym c.shift_out.ensures.items ∙ ap (λ n. insert c.loop-at.self.items n c.loop-at.carried) (omega (arith, c.loop-at.invariant.from, c.loop-at-test.false)) ∙ c.loop-at.invariant.items)

pub loop-at-preserved : goal.loop-at-preserved
loop-at-preserved c = grind (arith, common_steps)
