use Rattle.std.proofs.Common.{◌≡◌, ap, is_lt}
use Rattle.std.proofs.Common.{rules}
use Rattle.std.specs.Ordering.{int_cmp}
use Rattle.std.proofs.lemmas.Cmp.{int_cmp_total}
use Rattle.std.proofs.lemmas.Fn.{always_returns_same}
use Rattle.std.proofs.lemmas.List.Sorted.{ranks_by}
use Rattle.ec_rows.specs.declared.mark.Mark.{Mark}
use Rattle.ec_parts.proofs.gathering.sort_by_time.Goals as goal

pub returns-clause-order : goal.returns-clause-order
returns-clause-order g c =
    c.sort_unstable_by.ensures.sorted (λ a b. is_lt (int_cmp (g.T.Moment.rank a.at) (g.T.Moment.rank b.at)))
    (ranks_by int_cmp_total (λ (m : Mark _). g.T.Moment.rank m.at))
    (always_returns_same _ (λ a r. is_lt r ≡ is_lt (int_cmp (g.T.Moment.rank a.0.now.at) (g.T.Moment.rank a.1.0.now.at))) _
    (λ a r f k. let h : (r ≡ int_cmp (g.T.Moment.rank a.0.now.at) (g.T.Moment.rank a.1.0.now.at)) × (f ≡ _) = search rules in (ap is_lt h.0, h.1)))
