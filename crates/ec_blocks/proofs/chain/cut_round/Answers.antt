-- What is found among the few is the end, where they show that no other member matters.
use Rattle.std.proofs.Common.{◌-◌, take, drop, refl, arith}
use Rattle.ec_blocks.proofs.SearchLemmas.{found-between}
use Rattle.ec_blocks.proofs.chain.cut_round.Goals as goal

pub returns-then-is_between-clause-partitioned : goal.returns-then-is_between-clause-partitioned
returns-then-is_between-clause-partitioned g c p computes parted =
    found-between p c.args.members.now (take (c.min-to.result - c.saturating_sub-from.result) (drop c.saturating_sub-from.result c.args.members.now))
    c.saturating_sub-from.result c.min-to.result c.cut.result
    (omega (arith, c.saturating_sub-from.ensures, c.saturating_add.ensures, c.min-to.ensures, c.ranges.near.fits))
    (omega (arith, c.min-to.ensures)) refl parted c.cut.ensures.bound (c.cut.ensures.partitioned p computes)
    (c.is_between.ensures.front c.if-is_between.true) (c.is_between.ensures.behind c.if-is_between.true)
