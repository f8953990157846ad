-- A well-formed theory has few rules.
use Rattle.std.proofs.Common.{length, ap, arith}
use Rattle.ec_terms.specs.declared.theory.Theory.{Theory}
use Rattle.ec_context.proofs.Limits.{few_rules}
use Rattle.ec_context.proofs.rules.Rules.new.Goals as goal

pub index_of-requires-clause-few : goal.index_of-requires-clause-few
index_of-requires-clause-few c =
    let few = few_rules c.args.checked c.theory.ensures.well_formed in
    let as_many = ap length c.as_slice.ensures in
    let theirs = ap (λ (t : Theory). length t.rules) c.theory.ensures.theory in omega (arith, few, as_many, theirs)
