use Rattle.std.proofs.Common.{◌≡◌, ◌≤◌, true, length, map, take, filter_map}
use Rattle.std.specs.List.{list_all}
use Rattle.ec_terms.specs.Binding.{values_of}
use Rattle.ec_terms.specs.Matching.{value_of}
use Rattle.ec_terms.specs.Term.{arg_of, is_argument}
use Rattle.ec_terms.proofs.filling.fill_ref.Given as goal

abbrev pub invariant-loop-place : goal.invariant-loop-place
invariant-loop-place l = record {
  few : length l.args ≤ l.place-index;
  values : map arg_of l.args ≡ filter_map (value_of (values_of l.binding)) (take l.place-index l.fn.pattern.args);
  named : list_all is_argument (map arg_of l.args) ≡ true;
}
