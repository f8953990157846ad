-- The first row of the key has its value.
use Rattle.std.proofs.Common.{sym, arith}
use Rattle.std.proofs.lemmas.Grind.{common_steps}
use Rattle.ec_numbered.proofs.KeyedRowLemmas.{lookup-first}
use Rattle.ec_numbered.proofs.few_rows.value_of.Goals as goal

pub returns-in-Some : goal.returns-in-Some
returns-in-Some g c = sym (lookup-first (g.K.PartialEq.eq c.args.key) c.args.rows.now c.in-Some.place c.index-rows-place.result c.in-Some.ensures.some)

pub returns-in-None : goal.returns-in-None
returns-in-None c = grind (arith, common_steps)
