-- The arguments so far are kept.
use Rattle.std.proofs.Common.{◌≡◌, length, map, take}
use Rattle.ec_terms.specs.Term.{arg_of}
use Rattle.ec_terms.proofs.ground.ArgRefs.to_args.Given as goal

abbrev pub invariant-loop-arg : goal.invariant-loop-arg
invariant-loop-arg l = record { same : l.args ≡ map arg_of (take l.arg-index l.fn.self); count : length l.args ≡ l.arg-index }
