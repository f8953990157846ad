-- The hasher has been fed the name and the arguments so far.
use Rattle.std.proofs.Common.{◌≡◌, take}
use Rattle.std.specs.List.{fold}
use Rattle.std.specs.Hash.FoldHasher.{initial, write}
use Rattle.ec_terms.specs.Term.{arg_of}
use Rattle.ec_store.specs.PropKeys.{fed_by}
use Rattle.ec_store.proofs.prop_keys.key_of.Given as goal

abbrev pub invariant-loop-arg : goal.invariant-loop-arg
invariant-loop-arg l = l.hasher ≡ fold (λ h r. fed_by write h (arg_of r)) (write initial l.fn.term.name.now) (take l.arg-index l.fn.term.args)
