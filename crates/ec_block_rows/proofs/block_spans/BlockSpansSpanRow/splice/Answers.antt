-- What follows from the calls and the tests before it.
use Rattle.std.proofs.Common.{arith}
use Rattle.std.proofs.lemmas.Grind.{common_steps}
use Rattle.ec_block_rows.proofs.block_spans.BlockSpansSpanRow.splice.Goals as goal

pub returns-clause-spans : goal.returns-clause-spans
returns-clause-spans c = grind (arith, common_steps)

pub splice-requires-clause-room : goal.splice-requires-clause-room
splice-requires-clause-room c = grind (arith, common_steps)

pub splice-requires-clause-within : goal.splice-requires-clause-within
splice-requires-clause-within c = grind (arith, common_steps)

pub returns-clause-spare : goal.returns-clause-spare
returns-clause-spare c = grind (arith, common_steps)
