use Rattle.std.proofs.Common.{ap, ◌∙◌}
use Rattle.std.specs.Prelude.{unwrap_or}
use Rattle.ec_theory.specs.Sign.{number_of}
use Rattle.ec_theory.proofs.VariableSets.{number_found}
use Rattle.ec_theory.proofs.variables.Variables.number.Goals as goal

pub returns : goal.returns
returns c =
    c.unwrap_or.ensures ∙ (λ i. unwrap_or (c.get_index_of.ensures.index i) (c.len.ensures.len i))
    ∙ number_found c.args.name.now c.self.inside.names.keys ∙ ap (λ names. number_of names c.args.name.now) c.self.view_is
