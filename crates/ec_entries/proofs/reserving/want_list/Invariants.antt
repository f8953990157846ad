-- There is room for the entries so far.
use Rattle.std.proofs.Common.{take}
use Rattle.ec_entries.specs.Dependents.{count_on}
use Rattle.ec_entries.specs.Wanted.{IsWider, WantsMore}
use Rattle.ec_entries.proofs.reserving.want_list.Given as goal

abbrev pub invariant-loop-entry : goal.invariant-loop-entry
invariant-loop-entry g l = record {
  wider : IsWider l.initial.rows l.rows;
  wants : WantsMore (λ q. count_on q (take l.entry-index l.list)) l.initial.wanted l.wanted l.rows;
}
