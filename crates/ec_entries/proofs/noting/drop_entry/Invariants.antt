-- The entry is taken out for the literals so far.
use Rattle.std.proofs.Common.{take}
use Rattle.ec_entries.specs.Dependents.{any_on}
use Rattle.ec_entries.specs.Noting.{IsTakenOut}
use Rattle.ec_entries.proofs.noting.drop_entry.Given as goal

abbrev pub invariant-loop-k : goal.invariant-loop-k
invariant-loop-k g l = IsTakenOut g.T.Moment.rank l.dependent.slot.0 l.dependent.place (λ q. any_on q (take l.k l.literals)) l.initial.rows l.rows
