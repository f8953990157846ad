-- No two of no changes are of one property and time.
use Rattle.std.proofs.Common.{map, ap, arith}
use Rattle.std.proofs.lemmas.Grind.{common_steps}
use Rattle.ec_points.specs.Changes.{are_apart}
use Rattle.ec_points.specs.declared.change.Hinted.{Hinted}
use Rattle.ec_points.proofs.Lists.{is_ascending-nil}
use Rattle.ec_points.proofs.change.MarkChange.clear.Goals as goal

pub invariant_of-self : goal.invariant_of-self
invariant_of-self g c =
    is_ascending-nil (are_apart g.T.Moment.rank) (map (λ hinted. hinted.change) c.clear.new.self.items) (ap (map (λ (hinted : Hinted _). hinted.change)) c.clear.ensures.items)

pub returns : goal.returns
returns c = grind (arith, common_steps)
