-- The places among the rules so far.
use Rattle.std.proofs.Common.{◌≡◌, take}
use Rattle.ec_context.specs.RulePlaces.{places_for}
use Rattle.ec_context.proofs.rules.places_of.Given as goal

abbrev pub invariant-loop-i : goal.invariant-loop-i
invariant-loop-i l = l.places.items ≡ places_for l.name l.arity (take l.i l.rules)
