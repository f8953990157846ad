-- Both places are within the list, and the numbers there tell.
use Rattle.std.proofs.Common.{◌-◌, inl, length, refl, arith}
use Rattle.std.proofs.lemmas.Grind.{common_steps}
use Rattle.std.specs.Prelude.{nat_lt}
use Rattle.ec_blocks.proofs.HalvingLemmas.{bracketed-end, one-within}
use Rattle.ec_blocks.proofs.starts.Starts.bracket.Goals as goal

pub returns-then-end-le-FEW-clause-within : goal.returns-then-end-le-FEW-clause-within
returns-then-end-le-FEW-clause-within c = omega (arith, c.requires.some, c.len-end.ensures)

pub returns-then-end-le-FEW-clause-behind : goal.returns-then-end-le-FEW-clause-behind
returns-then-end-le-FEW-clause-behind c =
    inl (omega (arith, c.requires.some, c.len-end.ensures))

pub get-requires : goal.get-requires
get-requires c = omega (arith, c.requires.some, c.min-low.ensures, c.len-end.ensures)

pub get-requires-2 : goal.get-requires-2
get-requires-2 c = omega (arith, c.requires.some, c.min-high.ensures, c.len-end.ensures)

pub returns-clause-within : goal.returns-clause-within
returns-clause-within c =
    one-within (length c.args.self.now.items) c.min-high.result (c.len-end.result - 1) c.choose-2.result (nat_lt c.args.i c.get-2.result)
    (omega (arith, c.requires.some, c.min-high.ensures, c.len-end.ensures))
    (omega (arith, c.requires.some, c.len-end.ensures)) c.choose-2.ensures

pub returns-clause-behind : goal.returns-clause-behind
returns-clause-behind c =
    bracketed-end c.args.self.now.items c.args.i c.min-high.result (c.len-end.result - 1) c.choose-2.result c.get-2.result (nat_lt c.args.i c.get-2.result) refl
    (omega (arith, c.requires.some, c.len-end.ensures)) c.get-2.ensures c.choose-2.ensures

pub returns-clause-before : goal.returns-clause-before
returns-clause-before c = grind (arith, common_steps)

pub returns-clause-ordered : goal.returns-clause-ordered
returns-clause-ordered c = grind (arith, common_steps)
