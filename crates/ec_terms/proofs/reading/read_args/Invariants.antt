-- The arguments so far are the first of those that the text spells.
use Rattle.std.proofs.Common.{◌≡◌, ◌≤◌, ◌-◌, length, map, drop, IsTrue}
use Rattle.std.specs.List.{list_all}
use Rattle.ec_terms.specs.declared.limits.TheConstants.{MOST_ARGS}
use Rattle.ec_terms.specs.Term.{arg_of, is_argument}
use Rattle.ec_terms.specs.Front.{args_front}
use Rattle.ec_terms.proofs.Pieces.{args_from}
use Rattle.ec_terms.proofs.reading.read_args.Given as goal

abbrev pub invariant-loop-args : goal.invariant-loop-args
invariant-loop-args l = record {
  within : l.at ≤ length l.bytes;
  names : IsTrue (list_all is_argument (map arg_of l.args));
  so_far : args_front l.bytes ≡ args_from (map arg_of l.args) l.at (drop l.at l.bytes);
}

abbrev pub decreases-loop-args : goal.decreases-loop-args
decreases-loop-args l = MOST_ARGS - length l.args
