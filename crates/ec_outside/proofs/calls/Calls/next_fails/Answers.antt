-- The call that is made has the number behind those that were made.
use Rattle.std.proofs.Common.{◌+◌, ◌==◌, arith, rules}
use Rattle.std.proofs.lemmas.Grind.{common_steps}
use Rattle.std.proofs.lemmas.Iterator.{YieldsList-from_slice}
use Rattle.std.proofs.lemmas.Iterator.Search.{any_from_yields_List}
use Rattle.ec_outside.proofs.calls.Calls.next_fails.Goals as goal

pub returns-clause-fails : goal.returns-clause-fails
returns-clause-fails c =
    rw (← c.self.view_is)
    (any_from_yields_List (λ number. number == c.self.inside.made + 1) _ _ _ c.any.ensures.ran (YieldsList-from_slice c.self.inside.failing.items (cc))
    (λ x b q called. search (rules, called)))

pub returns-clause-numbered : goal.returns-clause-numbered
returns-clause-numbered c = grind (arith, common_steps)

pub invariant_of-self : goal.invariant_of-self
invariant_of-self c = grind (arith, common_steps)

pub returns-clause-made : goal.returns-clause-made
returns-clause-made c = grind (arith, common_steps)
