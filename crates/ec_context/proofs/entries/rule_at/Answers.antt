-- A well-formed theory has few literals in each rule.
use Rattle.std.proofs.Common.{rules}
use Rattle.std.specs.List.{All}
use Rattle.ec_context.proofs.Limits.{HasFewLiterals, few_literals}
use Rattle.ec_context.proofs.entries.rule_at.Goals as goal

pub returns-clause-few : goal.returns-clause-few
returns-clause-few c =
    let few : All HasFewLiterals c.args.theory.now.rules = few_literals c.args.theory.now c.requires.well_formed in
    let here : HasFewLiterals c.index-rules-place.result = search rules in here
