-- The arguments so far are the shared values of the places so far.
use Rattle.std.proofs.Common.{◌≡◌, ◌≤◌, true, length, map, take, filter_map}
use Rattle.std.specs.List.{list_all}
use Rattle.ec_terms.specs.Binding.{values_of}
use Rattle.ec_terms.specs.Term.{arg_of, is_argument}
use Rattle.ec_exclusive.specs.Keys.{shared_value}
use Rattle.ec_exclusive.proofs.keys.shared_term.Given as goal

abbrev pub invariant-loop-place : goal.invariant-loop-place
invariant-loop-place l = record {
  few : length l.args ≤ l.place-index;
  values : map arg_of l.args ≡ filter_map (shared_value (values_of l.binding) l.declaration.right) (take l.place-index l.fn.declaration.left.args);
  named : list_all is_argument (map arg_of l.args) ≡ true;
}
