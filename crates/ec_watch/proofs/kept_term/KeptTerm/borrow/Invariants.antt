-- The arguments so far are borrowed, and each of them is one.
use Rattle.std.proofs.Common.{◌≡◌, IsTrue, length, map, take}
use Rattle.std.specs.List.{list_all}
use Rattle.ec_terms.specs.Term.{arg_of, is_argument}
use Rattle.ec_watch.proofs.kept_term.KeptTerm.borrow.Given as goal

abbrev pub invariant-loop-arg : goal.invariant-loop-arg
invariant-loop-arg l = record {
  same : map arg_of l.args ≡ take l.arg-index l.fn.self.args;
  names : IsTrue (list_all is_argument (take l.arg-index l.fn.self.args));
  count : length l.args ≡ l.arg-index;
}
