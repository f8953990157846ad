-- The empty list, and one event more in front.
use Rattle.std.proofs.Common.{arith}
use Rattle.std.proofs.lemmas.Grind.{common_steps}
use Rattle.ec_axioms.specs.Changes.{is_history}
use Rattle.ec_axioms.proofs.in_order.+is_in_order.Goals as goal

pub bounds-events-0 : goal.bounds-events-0
unfolding is_history
bounds-events-0 g t c = grind (arith, common_steps)

pub returns-else-not-is_present : goal.returns-else-not-is_present
unfolding is_history
returns-else-not-is_present g t c = grind (arith, common_steps)

pub returns-in-empty : goal.returns-in-empty
unfolding is_history
returns-in-empty g t c = grind (arith, common_steps)

pub returns-then-not-is_present : goal.returns-then-not-is_present
unfolding is_history
returns-then-not-is_present g t c = grind (arith, common_steps)

pub slice_bounds-rest-count : goal.slice_bounds-rest-count
unfolding is_history
slice_bounds-rest-count g t c = grind (arith, common_steps)

pub slice_bounds-rest-start : goal.slice_bounds-rest-start
unfolding is_history
slice_bounds-rest-start g t c = grind (arith, common_steps)
