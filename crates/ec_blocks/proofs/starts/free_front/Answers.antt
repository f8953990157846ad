-- The places are turned to the front.
use Rattle.std.proofs.Common.{◌≡◌, ℕ, List, ◌+◌, ◌-◌, ◌/◌, ◌++◌, length, take, drop, refl, sym, ap, ◌∙◌, arith}
use Rattle.std.proofs.lemmas.Grind.{common_steps}
use Rattle.ec_blocks.proofs.FreeLemmas.{turned-to_front}
use Rattle.ec_blocks.proofs.starts.free_front.Goals as goal

pub returns-clause-items : goal.returns-clause-items
returns-clause-items c =
    let none : c.args.free ≡ 0 = omega (arith, c.if-free-gt0.false) in
    let count : ℕ = c.len-count.result in
    let ys : List ℕ = c.loop-parts.parts.items in
    turned-to_front c.args.parts.now.items ys c.rotate_right.new.self.items count (count + count / 2 - count) (length ys) c.loop-parts.invariant.kept
    (omega (arith, c.loop-parts.invariant.from, c.loop-parts.invariant.upto, c.loop-parts-test.false, c.len.ensures)) refl (omega (arith, c.loop-parts.invariant.from))
    (c.rotate_right.ensures.items ∙ ap (λ n. drop (n - (count + count / 2 - count)) ys ++ take (n - (count + count / 2 - count)) ys) (omega arith))
    ∙ ap (λ n. drop n c.args.parts.now.items) (sym none)

pub loop-parts-init : goal.loop-parts-init
loop-parts-init c = grind (arith, common_steps)

pub returns-clause-free : goal.returns-clause-free
returns-clause-free c = grind (arith, common_steps)

pub loop-parts-preserved : goal.loop-parts-preserved
loop-parts-preserved c = grind (arith, common_steps)
