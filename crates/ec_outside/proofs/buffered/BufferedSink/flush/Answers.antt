-- What waited was handed on, and the sink behind is flushed then: it keeps what it stood for, and nothing waits in either.
use Rattle.std.proofs.Common.{rules, arith}
use Rattle.std.proofs.lemmas.Grind.{common_steps}
use Rattle.ec_outside.proofs.Waiting.{NothingAppended-flushed}
use Rattle.ec_outside.proofs.buffered.BufferedSink.flush.Goals as goal

pub returns-clause-kept : goal.returns-clause-kept
returns-clause-kept g c = search (rules, NothingAppended-flushed)

pub returns-clause-handed_on : goal.returns-clause-handed_on
returns-clause-handed_on g c = search rules

pub returns-clause-sent : goal.returns-clause-sent
returns-clause-sent c = grind (arith, common_steps)

pub returns-clause-quiet : goal.returns-clause-quiet
returns-clause-quiet c = grind (arith, common_steps)

pub returns-clause-bounded : goal.returns-clause-bounded
returns-clause-bounded c = grind (arith, common_steps)

pub returns-clause-failed : goal.returns-clause-failed
returns-clause-failed c = grind (arith, common_steps)
