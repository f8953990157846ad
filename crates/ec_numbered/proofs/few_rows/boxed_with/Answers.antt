-- The boxed map is the one of the rows that was given the value.
use Rattle.std.proofs.Common.{cond, Some, ap, ◌∙◌}
use Rattle.std.specs.Map.{lookup}
use Rattle.ec_numbered.proofs.few_rows.boxed_with.Goals as goal

pub returns : goal.returns
returns g c = λ k.
    ap (λ map. lookup (g.K.PartialEq.eq k) map.entries) c.in_ok-boxed.ensures.ok
    ∙ c.in_ok-insert.ensures.updates.0 k
    ∙ ap (λ o. cond (g.K.PartialEq.eq c.args.key k) (Some c.args.value) o) (c.in_ok-map.ensures k)
