-- The rows in the map are those that were few.
use Rattle.std.proofs.Common.{cond, Some, sym, ap, ◌∙◌}
use Rattle.std.specs.Map.{lookup}
use Rattle.ec_numbered.specs.KeyedRows.{rows_of}
use Rattle.ec_numbered.proofs.small_map.grown.Goals as goal

pub returns-in_ok-boxed_with-in-Few : goal.returns-in_ok-boxed_with-in-Few
returns-in_ok-boxed_with-in-Few g c = λ k.
    c.in_ok-boxed_with-in-Few.ensures k
    ∙ ap (λ rows. cond (g.K.PartialEq.eq c.args.key k) (Some c.args.value) (lookup (g.K.PartialEq.eq k) rows)) (c.deref.ensures.value ∙ ap rows_of (sym c.in-Few.is))
