-- A call through the reference is a call of the test.
use Rattle.std.proofs.Common.{[], ◌∷◌}
use borrow.Author.Rules.{of_calls}
use Rattle.std.specs.Fn.Refs.{Mut-at_ref}
use Rattle.std.proofs.lemmas.Fn.{always_returns_same}
use Rattle.ec_blocks.proofs.chain.cut.Goals as goal

pub returns-clause-partitioned : goal.returns-clause-partitioned
returns-clause-partitioned g c p computes parted =
    c.partition_point.ensures.partitioned p
    (always_returns_same _ _ _ (λ a r f' called. let h = computes.at (a ∷ []) r c.args.pred.now in ((h (search (of_calls, called) parts 8)).0, called.met.1))) parted

pub partition_point-requires : goal.partition_point-requires
partition_point-requires g c = Mut-at_ref g.F.Fn _ _ (search of_calls) (λ s a p. p) (λ s a r t e. e.met.1)
