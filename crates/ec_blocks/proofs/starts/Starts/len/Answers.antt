-- The parts but the free places.
use Rattle.std.proofs.Common.{length, ap, arith}
use Rattle.ec_blocks.proofs.NumberLemmas.{numbers-behind}
use Rattle.ec_blocks.proofs.starts.Starts.len.Goals as goal

pub returns : goal.returns
returns c = omega (arith, c.self.invariant.0, ap (λ v. length v.items) c.self.view_is, numbers-behind c.self.inside.parts.items c.self.inside.bases c.self.inside.free)
