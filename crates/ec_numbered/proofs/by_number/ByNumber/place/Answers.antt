-- The places that are added are empty.
use Rattle.std.proofs.Common.{rules, arith, ap, ◌∙◌}
use Rattle.std.proofs.lemmas.Grind.{common_steps}
use Rattle.ec_numbered.specs.ByNumber.{kept_at}
use Rattle.ec_numbered.proofs.ByNumberLemmas.{kept_at-AppendsResults}
use Rattle.ec_numbered.proofs.by_number.ByNumber.place.Goals as goal

pub returns-clause-same : goal.returns-clause-same
returns-clause-same g c = λ n.
    kept_at-AppendsResults _ (λ f x f' called. search (rules, called)) n _ _ c.resize_with.new.self.items _
    (omega (arith, c.len.ensures, c.if-p-len.false, c.in_ok-add_counts.ensures.sum, c.self.inside.rows.ok.0)) c.in_ok-resize_with.ensures.items
    ∙ ap (kept_at n) c.self.view_is

pub returns-clause-place : goal.returns-clause-place
returns-clause-place g c = omega (arith, c.in_ok-resize_with.ensures.len, c.in_ok-add_counts.ensures.sum)

pub returns-clause-grown : goal.returns-clause-grown
returns-clause-grown c = grind (arith, common_steps)
