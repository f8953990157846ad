-- The pass comes to the time asked for, and then it is known whether the property holds.
use Rattle.std.proofs.Common.{◌≡◌, [], false, refl, ap, ◌∙◌}
use Rattle.std.specs.Prelude.{int_lt}
use Rattle.ec_axioms.specs.Calculus.{holds_at}
use Rattle.ec_pass.specs.Holdings.{held_at_end}
use Rattle.ec_pass.specs.Passing.{IsPassing}
use Rattle.ec_pass.proofs.PassingLemmas.{IsComing-end, held-passed}
use Rattle.ec_pass.proofs.pass.Pass.finish.Goals as goal

pub returns : goal.returns
returns g c events done q passing =
    let reached : IsPassing g.T.Moment.rank c.args.theory.now events done [] q c.reach.new.self =
    c.in_ok-reach.ensures.passing events done [] q passing (IsComing-end g.T.Moment.rank c.args.theory.now events done [] q c.args.self.now passing refl) in
    let not_before : int_lt (g.T.Moment.rank c.reach.new.self.instant) (g.T.Moment.rank c.reach.new.self.at) ≡ false =
    ap (λ a. int_lt (g.T.Moment.rank c.reach.new.self.instant) (g.T.Moment.rank a)) c.in_ok-reach.ensures.at ∙ c.in_ok-reach.ensures.reached in
    c.held.ensures ∙ ap held_at_end (c.judged.ensures q reached.number)
    ∙ held-passed g.T.Moment.rank c.args.theory.now events done [] q c.reach.new.self reached refl not_before
    ∙ ap (λ a. holds_at c.args.theory.now events q (g.T.Moment.rank a)) c.in_ok-reach.ensures.at
