-- No line is made yet.
use Rattle.std.proofs.Common.{rules}
use Rattle.ec_soak.proofs.generated_lines.GeneratedLines.new.Goals as goal

pub returns : goal.returns
returns c = search rules
