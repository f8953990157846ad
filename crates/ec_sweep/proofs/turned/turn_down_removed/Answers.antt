-- One event more is taken out.
use Rattle.std.proofs.Common.{◌++◌, ap, ◌∙◌, arith}
use Rattle.std.proofs.lemmas.Grind.{common_steps}
use Rattle.ec_numbered.specs.ByNumber.{kept_at}
use Rattle.ec_revise.specs.declared.change.Removal.{Removal}
use Rattle.ec_sweep.specs.Acting.{down_turns, removed_turns, turns_from}
use Rattle.ec_sweep.proofs.Turning.{down_turns-read, flat_map-next}
use Rattle.ec_sweep.proofs.turned.turn_down_removed.Goals as goal

pub loop-removal-preserved : goal.loop-removal-preserved
loop-removal-preserved g c = record {
  told =
      flat_map-next c.args.removals.now c.loop-removal.removal-index c.removal-item.result c.loop-removal-test.true c.removal-item.is
      (λ (removal : Removal _). down_turns (kept_at removal.slot.0 c.args.entries.now.slots))
      (c.args.turns.now.items ++ removed_turns c.args.entries.now.slots c.args.removals.now) c.loop-removal.turns.items c.turn_down.new.turns.items c.loop-removal.invariant.told
      (c.in_ok-turn_down.ensures
      ∙ ap (λ list. c.loop-removal.turns.items ++ turns_from c.active.result 0 list) c.as_slice.ensures.items
      ∙ ap (λ turns. c.loop-removal.turns.items ++ turns) (down_turns-read (kept_at c.removal-item.result.slot.0 c.args.entries.now.slots) c.list-list.result.now c.active.result c.list-list.ensures.list c.active.ensures));
  counted = let more = c.list-list.ensures.step in let before = c.loop-removal.invariant.counted in omega (arith, more, before);
}

pub returns-clause-turns : goal.returns-clause-turns
returns-clause-turns c = grind (arith, common_steps)

pub turn_down-requires : goal.turn_down-requires
turn_down-requires c = grind (arith, common_steps)

pub list-list-requires : goal.list-list-requires
list-list-requires c = grind (arith, common_steps)

pub active-requires : goal.active-requires
active-requires c = grind (arith, common_steps)
