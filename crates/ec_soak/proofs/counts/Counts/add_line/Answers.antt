-- Each count is one more where its text is found.
use Rattle.std.proofs.Common.{rules}
use Rattle.ec_soak.proofs.counts.Counts.add_line.Goals as goal

pub returns : goal.returns
returns c = search rules
