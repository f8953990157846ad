-- A slot stands to the term as the term of its record does.
use Rattle.std.proofs.Common.{rules}
use Rattle.ec_store.proofs.prop_keys.SoughtTermSought.compare.Goals as goal

pub returns : goal.returns
returns c = search rules
