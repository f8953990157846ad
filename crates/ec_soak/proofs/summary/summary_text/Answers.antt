-- The counts stand behind their names, one after another.
use Rattle.std.proofs.Common.{rules}
use Rattle.ec_soak.specs.Tally.{summary_line}
use Rattle.ec_outside.proofs.Texts.{texts}
use Rattle.ec_soak.proofs.summary.summary_text.Goals as goal

pub returns : goal.returns
unfolding summary_line
returns c = search (rules, texts)
