-- The arguments so far are the same.
use Rattle.std.proofs.Common.{◌≡◌, drop, map}
use Rattle.std.specs.Cmp.Lexicographic.{slice_cmp}
use Rattle.ec_terms.specs.Term.{arg_of, arg_cmp}
use Rattle.ec_store.proofs.prop_order.compare_args.Given as goal

abbrev pub invariant-loop-i : goal.invariant-loop-i
invariant-loop-i l = slice_cmp arg_cmp l.fn.args (map arg_of l.fn.others) ≡ slice_cmp arg_cmp (drop l.i l.fn.args) (drop l.i (map arg_of l.fn.others))
