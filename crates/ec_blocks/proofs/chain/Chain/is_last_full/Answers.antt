-- The last block is full, or has fewer.
use Rattle.std.proofs.Common.{◌≡◌, ℕ, ◌-◌, ◌<◌, ◌≤◌, false, length, sym, ap, ◌∙◌, arith}
use Rattle.std.proofs.lemmas.Grind.{common_steps}
use Rattle.std.specs.Prelude.{◌==◌}
use Rattle.std.proofs.lemmas.Bool.{eqb-true}
use Rattle.std.proofs.lemmas.Bool.Decides.{nat_tests}
use Rattle.ec_blocks.specs.Chain.{block_at}
use Rattle.ec_blocks.proofs.ChainLemmas.{is_block-most}
use Rattle.ec_blocks.proofs.chain.Chain.is_last_full.Goals as goal

less : (m n : ℕ) → (m == n) ≡ false → m ≤ n → m < n
less m n test most = grind (arith, nat_tests)

pub returns-clause-full : goal.returns-clause-full
returns-clause-full g c is_full k last =
    ap (λ n. length (block_at n c.args.self.now.blocks)) (omega arith) ∙ ap length (sym c.block.ensures.block) ∙ eqb-true (length c.block.result.now) 128 is_full

pub returns-clause-free : goal.returns-clause-free
returns-clause-free g c not_full =
    let most = is_block-most c.block.result.now c.block.ensures.kept in
    let fewer = less (length c.block.result.now) 128 not_full most in
    omega (arith, ap length c.block.ensures.block, ap (λ n. length (block_at n c.args.self.now.blocks)) (same c.count-count.result (length c.args.self.now.blocks) c.count-count.ensures.count))
  where
    same : (a b : ℕ) → a ≡ b → a - 1 ≡ b - 1
    same a b e = ap (λ n. n - 1) e

pub returns-then-count-eq0-clause-free : goal.returns-then-count-eq0-clause-free
returns-then-count-eq0-clause-free c = grind (arith, common_steps)

pub returns-then-count-eq0-clause-some : goal.returns-then-count-eq0-clause-some
returns-then-count-eq0-clause-some c = grind (arith, common_steps)

pub returns-clause-some : goal.returns-clause-some
returns-clause-some c = grind (arith, common_steps)
