-- The halves meet where the numbers go beyond the one.
use Rattle.std.proofs.Common.{◌≡◌, ℕ, ◌-◌, true, false, sym, subst, arith}
use Rattle.std.proofs.lemmas.Grind.{common_steps}
use Rattle.std.specs.Prelude.{nat_le}
use Rattle.std.specs.List.Sorted.{IsPartitionPoint}
use Rattle.ec_blocks.proofs.HalvingLemmas.{bracketed-none, bracketed-between, bracketed-cut}
use Rattle.ec_blocks.proofs.starts.Starts.count_up_to.Goals as goal

pub get-last-requires : goal.get-last-requires
get-last-requires c = omega (arith, c.len-count.ensures)

pub returns-then-last-i-clause-within : goal.returns-then-last-i-clause-within
returns-then-last-i-clause-within c = omega (arith, c.len-count.ensures)

pub returns-then-last-i-clause-cut : goal.returns-then-last-i-clause-cut
returns-then-last-i-clause-cut c =
    bracketed-none c.args.self.now.items c.args.i c.requires c.len-count.result (c.len-count.result - 1) c.get-last.result
    (omega (arith, c.len-count.ensures)) (omega arith) c.get-last.ensures (omega arith)

pub loop-size-init : goal.loop-size-init
loop-size-init c =
    bracketed-between c.args.self.now.items c.args.i c.requires c.bracket-low.result.0 c.bracket-low.result.1 (c.len-count.result - 1) c.bracket-low.ensures.ordered c.bracket-low.ensures.within
    (omega (arith, c.len-count.ensures)) (omega (arith, c.get-last.ensures))
    c.bracket-low.ensures.before c.bracket-low.ensures.behind

pub returns-clause-cut : goal.returns-clause-cut
returns-clause-cut c =
    subst (λ (n : ℕ). IsPartitionPoint (λ m. nat_le m c.args.i ≡ true) (λ m. nat_le m c.args.i ≡ false) c.args.self.now.items n) (sym c.choose.ensures)
    (bracketed-cut c.args.self.now.items c.args.i c.requires c.loop-size.low c.loop-size.size c.get-2.result c.loop-size.invariant (omega arith) c.get-2.ensures)

pub returns-clause-within : goal.returns-clause-within
returns-clause-within c = grind (arith, common_steps)
