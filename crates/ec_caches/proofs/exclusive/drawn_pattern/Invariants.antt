-- The variables so far are few and small.
use Rattle.std.proofs.Common.{◌≤◌, length, IsTrue}
use Rattle.std.specs.List.{list_all}
use Rattle.ec_terms.specs.Binding.{is_small_place}
use Rattle.ec_caches.proofs.exclusive.drawn_pattern.Given as goal

abbrev pub invariant-loop : goal.invariant-loop
invariant-loop g l = record {
  few : length l.args ≤ 8;
  small : IsTrue (list_all is_small_place l.args);
}
