use Rattle.std.proofs.Common.{◌≡◌, is_lt}
use Rattle.std.proofs.Common.{rules}
use Rattle.std.proofs.lemmas.Fn.{always_returns_same}
use Rattle.ec_revise.specs.Change.{removal_before}
use Rattle.ec_batch.proofs.NetChanges.{removal_before-weak}
use Rattle.ec_batch.proofs.net_changes.sort_going.Goals as goal

pub returns-clause-order : goal.returns-clause-order
returns-clause-order g c =
    c.sort_unstable_by.ensures.sorted (removal_before g.T.Moment.rank) (removal_before-weak g.T.Moment.rank)
    (always_returns_same _ (λ a r. is_lt r ≡ removal_before g.T.Moment.rank a.0.now a.1.0.now) _
    (λ a r f k. let h : (is_lt r ≡ removal_before g.T.Moment.rank a.0.now a.1.0.now) × (f ≡ _) = search rules in h))
