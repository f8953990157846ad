-- There is room for the entry with the literals so far.
use Rattle.std.proofs.Common.{cond, take}
use Rattle.ec_entries.specs.Dependents.{any_on}
use Rattle.ec_entries.specs.Wanted.{IsWider, WantsMore}
use Rattle.ec_entries.proofs.reserving.want_entry.Given as goal

abbrev pub invariant-loop-k : goal.invariant-loop-k
invariant-loop-k g l = record {
  wider : IsWider l.initial.rows l.rows;
  wants : WantsMore (λ q. cond (any_on q (take l.k l.literals)) 1 0) l.initial.wanted l.wanted l.rows;
}
