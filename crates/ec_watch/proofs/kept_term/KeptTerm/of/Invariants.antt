-- The arguments so far are kept.
use Rattle.std.proofs.Common.{◌≡◌, length, map, take}
use Rattle.ec_terms.specs.Term.{arg_of}
use Rattle.ec_watch.proofs.kept_term.KeptTerm.of.Given as goal

abbrev pub invariant-loop-arg : goal.invariant-loop-arg
invariant-loop-arg l = record { same : l.args.items ≡ map arg_of (take l.arg-index l.term.args); count : length l.args.items ≡ l.arg-index }
