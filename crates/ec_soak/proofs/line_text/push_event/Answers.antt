-- The parts of an event stand behind each other.
use Rattle.std.proofs.Common.{arith}
use Rattle.ec_soak.specs.Load.{event_text}
use Rattle.ec_outside.proofs.Texts.{texts}
use Rattle.ec_soak.proofs.line_text.push_event.Goals as goal

pub returns-in-Leave-clause-text : goal.returns-in-Leave-clause-text
unfolding event_text
returns-in-Leave-clause-text c = grind (arith, texts)

pub returns-in-Move-clause-text : goal.returns-in-Move-clause-text
unfolding event_text
returns-in-Move-clause-text c = grind (arith, texts)

pub returns-in-Push-clause-text : goal.returns-in-Push-clause-text
unfolding event_text
returns-in-Push-clause-text c = grind (arith, texts)
