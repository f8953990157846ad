-- The keys so far are those of the declarations so far.
use Rattle.std.proofs.Common.{◌≡◌, take}
use Rattle.ec_terms.specs.Term.{ground_of}
use Rattle.ec_exclusive.specs.Keys.{keys_from}
use Rattle.ec_exclusive.specs.Forms.{texts_of}
use Rattle.ec_exclusive.proofs.keys.keys_of.Given as goal

abbrev pub invariant-loop-i : goal.invariant-loop-i
invariant-loop-i l = texts_of l.keys.items ≡ keys_from l.left l.right 0 (take l.i l.theory.exclusives) (ground_of l.term)
