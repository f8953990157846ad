-- Each part is what was handed over, out of its box.
use Rattle.ec_parts.proofs.initials.assembled.Goals as goal

pub returns : goal.returns
returns g c = cc
