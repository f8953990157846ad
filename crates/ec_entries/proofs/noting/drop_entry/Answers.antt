-- A literal takes the entry out where no earlier one is on its property.
use Rattle.std.proofs.Common.{sym, ◌∙◌, take, arith}
use Rattle.std.proofs.lemmas.Grind.{common_steps}
use Rattle.ec_entries.specs.Dependents.{any_on}
use Rattle.ec_entries.proofs.NotedLiterals.{IsTakenOut-again, IsTakenOut-first}
use Rattle.ec_entries.proofs.Wanting.{any_on-more}
use Rattle.ec_entries.proofs.noting.drop_entry.Goals as goal
use Rattle.ec_entries.proofs.noting.drop_entry.Goals.{then-not-is_any_on, else-not-is_any_on}

pub loop-k-preserved : goal.loop-k-preserved
loop-k-preserved g c =
    let ls = c.args.literals.now in
    let k = c.loop-k.k in
    elim c.if-not-is_any_on.branch [
      | then-not-is_any_on w ↦ rw w.rows-is
          (IsTakenOut-first g.T.Moment.rank c.args.dependent.now (λ q. any_on q (take k ls)) _ _ (λ q. any_on-more q ls k _ c.loop-k-test.true) c.args.rows.now c.loop-k.rows
          c.loop-k.invariant (sym c.is_any_on.ensures ∙ w.if-not-is_any_on.true) w.drop_out.new.rows w.drop_out.ensures.order w.drop_out.ensures.exact w.drop_out.ensures.others
          w.drop_out.ensures.spare)
      | else-not-is_any_on w ↦ rw w.rows-is
          (IsTakenOut-again g.T.Moment.rank c.args.dependent.now (λ q. any_on q (take k ls)) _ _ (λ q. any_on-more q ls k _ c.loop-k-test.true) c.args.rows.now c.loop-k.rows
          c.loop-k.invariant (sym c.is_any_on.ensures ∙ w.if-not-is_any_on.false))
    ]

pub returns : goal.returns
returns c = grind (arith, common_steps)

pub drop_out-requires-clause-present : goal.drop_out-requires-clause-present
drop_out-requires-clause-present c = grind (arith, common_steps)
