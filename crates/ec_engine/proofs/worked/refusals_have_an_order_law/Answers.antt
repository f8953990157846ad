-- The tests are made in this order.
use Rattle.std.proofs.Common.{◌∙◌, arith, ◌≡◌, true}
use Rattle.std.specs.Prelude.{nat_le, length}
use Rattle.std.proofs.lemmas.Bool.{cond-true, cond-false}
use Rattle.ec_axioms.specs.Links.{most_events}
use Rattle.ec_replies.specs.Updates.{asserted}
use Rattle.ec_engine.proofs.worked.refusals_have_an_order_law.Goals as goal

pub returns-clause-duplicate : goal.returns-clause-duplicate
unfolding asserted
returns-clause-duplicate c theory events e there = cond-true _ _ _ there

pub returns-clause-full : goal.returns-clause-full
unfolding asserted
returns-clause-full c theory events e absent full =
    let many : nat_le most_events (length events) ≡ true = grind arith in
    cond-false _ _ _ absent ∙ cond-true _ _ _ many
