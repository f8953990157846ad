-- There is room for the lists so far.
use Rattle.std.proofs.Common.{◌≡◌, ◌≤◌, ℕ, take}
use Rattle.ec_entries.specs.Dependents.{count_on_all, room_of}
use Rattle.ec_entries.specs.Wanted.{IsWider, wanted_at}
use Rattle.ec_entries.proofs.reserving.reserve_all.Given as goal

abbrev pub invariant-loop-list : goal.invariant-loop-list
invariant-loop-list g l = record {
  wider : IsWider l.initial.rows l.rows;
  wanted : (q : ℕ) → wanted_at q l.wanted ≡ count_on_all q (take l.list-index l.lists);
  room : (q : ℕ) → wanted_at q l.wanted ≤ room_of q l.rows;
}
