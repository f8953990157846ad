-- The halves meet where what passes ends.
use Rattle.std.proofs.Common.{◌+◌, ◌-◌, ◌/◌, inl, refl, length, arith}
use Rattle.std.proofs.lemmas.Grind.{common_steps}
use Rattle.ec_blocks.proofs.HalvingLemmas.{one-within}
use Rattle.ec_blocks.proofs.SearchLemmas.{halving-step, halving-cut}
use Rattle.ec_blocks.proofs.tiers.Tiers.partition_turned.Goals as goal

pub loop-size-init : goal.loop-size-init
loop-size-init g c = record {
  some = omega arith;
  within = omega arith;
  halving = λ p computes parted. record { front = λ d. inl refl; behind = λ d inside. absurd (omega arith) };
}

pub loop-size-preserved : goal.loop-size-preserved
loop-size-preserved g c = record {
  some = omega arith;
  within = omega (
    arith,
    c.loop-size.invariant.within,
    one-within (length c.args.self.now.items - (c.loop-size.size - c.loop-size.size / 2) + 1) (c.loop-size.low + c.loop-size.size / 2) c.loop-size.low c.choose-low.result c.passes.result
        (omega (arith, c.loop-size.invariant.within)) (omega (arith, c.loop-size.invariant.within)) c.choose-low.ensures,
  );
  halving = λ p computes parted.
      halving-step p c.args.self.now.items parted c.loop-size.low c.loop-size.size (c.loop-size.size / 2) (c.loop-size.low + c.loop-size.size / 2) c.choose-low.result c.get.result.now c.passes.result
      (c.loop-size.invariant.halving p computes parted) c.loop-size.invariant.within refl refl c.get.ensures (c.passes.ensures p computes) c.choose-low.ensures;
}

pub returns-clause-partitioned : goal.returns-clause-partitioned
returns-clause-partitioned g c p computes parted =
    halving-cut p c.args.self.now.items parted c.loop-size.low c.loop-size.size c.choose.result c.get-2.result.now c.passes-2.result
    (c.loop-size.invariant.halving p computes parted) (omega arith) (omega arith) c.get-2.ensures (c.passes-2.ensures p computes) c.choose.ensures

pub returns-clause-bound : goal.returns-clause-bound
returns-clause-bound c = grind (arith, common_steps)
