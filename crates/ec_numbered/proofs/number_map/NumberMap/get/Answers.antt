-- The first row of the number has its value.
use Rattle.std.proofs.Common.{Some, sym, subst, ap, ◌∙◌, arith}
use Rattle.std.proofs.lemmas.Grind.{common_steps}
use Rattle.std.specs.Prelude.{nat_eq}
use Rattle.std.specs.Map.{lookup}
use Rattle.ec_numbered.specs.KeyedRows.{IsFirst}
use Rattle.ec_numbered.proofs.KeyedRowLemmas.{lookup-first}
use Rattle.ec_numbered.proofs.number_map.NumberMap.get.Goals as goal

pub returns-in-Some : goal.returns-in-Some
returns-in-Some g c =
    let rows = c.self.inside.rows.items in
    let first = subst (λ rows. IsFirst (nat_eq c.args.n) rows c.in-Some.place) c.deref.ensures.value c.in-Some.ensures.some in
    ap (λ row. Some row.1) c.index.ensures ∙ sym (lookup-first (nat_eq c.args.n) rows c.in-Some.place c.index.result.now first) ∙ ap (lookup (nat_eq c.args.n)) c.self.view_is

pub returns-in-None : goal.returns-in-None
returns-in-None c = grind (arith, common_steps)
