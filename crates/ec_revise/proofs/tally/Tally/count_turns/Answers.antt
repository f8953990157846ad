-- One turn after the other.
use Rattle.ec_revise.specs.TurnCounts.{counts_at}
use Rattle.ec_revise.proofs.TurnTallies.{IsTallyAt-more, count_in-fits, list_any-turn_more}
use Rattle.ec_revise.proofs.tally.Tally.count_turns.Goals as goal

pub count_turn-requires-clause-room : goal.count_turn-requires-clause-room
count_turn-requires-clause-room c = λ p part up.
    count_in-fits c.args.neighbours.now.rows c.args.turns.now c.loop-turn.turn-index p _ part up c.loop-turn-test.true c.requires.few (c.loop-turn.invariant.tallied p)

pub loop-turn-preserved : goal.loop-turn-preserved
loop-turn-preserved c = record {
  tallied = λ p.
      IsTallyAt-more c.args.neighbours.now.rows c.args.turns.now c.loop-turn.turn-index _ p _ _ c.loop-turn-test.true (c.loop-turn.invariant.tallied p) (c.in_ok-count_turn.ensures.counted p);
  rows = λ p.
      list_any-turn_more (counts_at c.args.neighbours.now.rows p) c.args.turns.now c.loop-turn.turn-index _ _ _ _ c.loop-turn-test.true
      (c.in_ok-count_turn.ensures.rows p) (c.loop-turn.invariant.rows p);
}
