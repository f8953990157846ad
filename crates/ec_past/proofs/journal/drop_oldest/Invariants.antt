-- What is dropped is not among the latest that there is room for.
use Rattle.std.proofs.Common.{◌≡◌, ◌-◌}
use Rattle.std.specs.VecDeque.{deque_capacity}
use Rattle.ec_commands.specs.declared.limits.TheConstants.{MOST_PAST}
use Rattle.ec_past.specs.Journals.{latest_within, weights_of}
use Rattle.ec_past.proofs.journal.drop_oldest.Given as goal

abbrev pub invariant-loop-weight : goal.invariant-loop-weight
invariant-loop-weight g l = record {
  weighs : l.weight ≡ weights_of l.kept.items;
  latest : latest_within MOST_PAST l.kept.items ≡ latest_within MOST_PAST l.initial.kept.items;
  capacity : deque_capacity l.kept ≡ deque_capacity l.initial.kept;
}

abbrev pub decreases-loop-weight : goal.decreases-loop-weight
decreases-loop-weight g l = l.weight - MOST_PAST
