use Rattle.std.proofs.Common.{◌≡◌, ap, is_lt, rules}
use Rattle.std.specs.Ordering.{nat_cmp}
use Rattle.std.proofs.lemmas.Cmp.{nat_cmp_total}
use Rattle.std.proofs.lemmas.Fn.{always_returns_same}
use Rattle.std.proofs.lemmas.List.Sorted.{ranks_by}
use Rattle.ec_watch.specs.declared.tails.Tail.{Tail}
use Rattle.ec_watch.proofs.tails.sort_by_place.Goals as goal

pub returns-clause-order : goal.returns-clause-order
returns-clause-order g c =
    c.sort_unstable_by.ensures.sorted (λ a b. is_lt (nat_cmp a.place b.place))
    (ranks_by nat_cmp_total (λ (tail : Tail _). tail.place))
    (always_returns_same _ (λ a r. is_lt r ≡ is_lt (nat_cmp a.0.now.place a.1.0.now.place)) _
    (λ a r f k. let h : (r ≡ nat_cmp a.0.now.place a.1.0.now.place) × (f ≡ _) = search rules in (ap is_lt h.0, h.1)))
