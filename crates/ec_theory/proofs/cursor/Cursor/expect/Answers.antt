-- Where the symbol does not come next, there is no place behind it.
use Rattle.std.proofs.Common.{rules}
use Rattle.ec_theory.proofs.cursor.Cursor.expect.Goals as goal

pub returns-in-None-clause-ok : goal.returns-in-None-clause-ok
returns-in-None-clause-ok c = search rules
