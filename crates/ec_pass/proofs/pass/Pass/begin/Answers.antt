-- What is initial is current at the first instant.
use Rattle.std.proofs.Common.{refl, ap, ◌∙◌}
use Rattle.std.specs.Prelude.{int_lt}
use Rattle.std.specs.Ordering.{is_lt}
use Rattle.ec_terms.specs.Term.{ground_of}
use Rattle.ec_axioms.specs.Links.{initial_properties}
use Rattle.ec_exclusive.specs.CurrentProps.{is_in}
use Rattle.ec_pass.specs.declared.holding.Holding.TheVariants.{Before}
use Rattle.ec_pass.specs.declared.pass.Pass.{Pass}
use Rattle.ec_pass.proofs.BeginningLemmas.{IsFirst-widened}
use Rattle.ec_pass.proofs.Earlier.{is_lt-int_cmp}
use Rattle.ec_pass.proofs.FirstLemmas.{IsPassing-first}
use Rattle.ec_pass.proofs.PassingLemmas.{looked_up-by}
use Rattle.ec_pass.proofs.pass.Pass.begin.Goals as goal

pub returns-clause-passing : goal.returns-clause-passing
returns-clause-passing g c events history lists coming =
    let pass : Pass g.row.T.Denot = record {
      p = c.in_ok-p.p;
      at = c.args.at;
      instant = c.args.first;
      present = c.know.new.self;
      holding = c.look_up-holding.result;
    } in
    IsPassing-first g.T.Moment.rank c.args.theory.now events (ground_of c.args.p.now) pass history lists coming
    (IsFirst-widened c.args.theory.now (initial_properties c.args.theory.now) c.in_ok-present.present c.know.new.self c.in_ok-p.ensures.kept c.in_ok-p.ensures.order c.in_ok-p.ensures.current
    (ap (λ v. v.items) c.in_ok-p.ensures.started) (ap (λ v. v.items) c.in_ok-p.ensures.ended) c.in_ok-present.ensures)
    c.in_ok-p.ensures.term
    (c.look_up-holding.ensures
    ∙ looked_up-by Before Before c.is_lt-reached.result (int_lt (g.T.Moment.rank c.args.first) (g.T.Moment.rank c.args.at)) c.contains.result (is_in c.in_ok-p.p.0 c.know.new.self.current) refl
    (c.is_lt-reached.ensures ∙ ap is_lt c.order.ensures.order ∙ is_lt-int_cmp (g.T.Moment.rank c.args.first) (g.T.Moment.rank c.args.at))
    c.contains.ensures)
