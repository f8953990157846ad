-- The lowest bit behind the shift is the bit that is asked for.
use Rattle.std.proofs.Common.{◌==◌, ap}
use Rattle.std.proofs.lemmas.Nat.Bits.{shr_and_one}
use Rattle.ec_query.proofs.causes.has_bit.Goals as goal

pub returns : goal.returns
returns c = ap (λ bit. bit == 1) (shr_and_one c.args.word c.args.k)
