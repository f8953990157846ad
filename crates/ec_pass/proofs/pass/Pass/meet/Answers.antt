-- The pass comes to the event's instant, and takes it in there.
use Rattle.std.proofs.Common.{◌≡◌, ◌∷◌, List, sym, subst}
use Rattle.ec_terms.specs.declared.ground.Ground.{Ground}
use Rattle.ec_axioms.specs.Calculus.{PlainEvent}
use Rattle.ec_axioms.specs.Events.{event_of}
use Rattle.ec_pass.specs.Passing.{IsPassing}
use Rattle.ec_pass.specs.Present.{IsAt}
use Rattle.ec_pass.proofs.PassingLemmas.{IsComing-next, IsPassing-taken, instant-next}
use Rattle.ec_pass.proofs.pass.Pass.meet.Goals as goal
use Rattle.ec_pass.proofs.pass.Pass.meet.Goals.{In_ok-reach}
use Rattle.ec_pass.proofs.pass.Pass.meet.Given.{Over}

module _ (g : Over) (c : In_ok-reach g) (events done left : List PlainEvent) (q : Ground) where
  abbrev e : PlainEvent
  e = event_of g.T.Moment.rank c.args.event.now

  module _ (passing : IsPassing g.T.Moment.rank c.args.rules.now events done (e ∷ left) q c.args.self.now) where
    reached : IsPassing g.T.Moment.rank c.args.rules.now events done (e ∷ left) q c.reach.new.self
    reached =
        subst (λ theory. IsPassing g.T.Moment.rank theory events done (e ∷ left) q c.reach.new.self) c.theory.ensures.theory
        (c.in_ok-reach.ensures.passing events done (e ∷ left) q
        (subst (λ theory. IsPassing g.T.Moment.rank theory events done (e ∷ left) q c.args.self.now) (sym c.theory.ensures.theory) passing)
        (IsComing-next g.T.Moment.rank c.args.rules.now events done left e q c.args.self.now passing))

    here : g.T.Moment.rank c.reach.new.self.instant ≡ e.rank
    here = instant-next g.T.Moment.rank c.args.rules.now events done left e q c.reach.new.self reached c.in_ok-reach.ensures.reached

    at : IsAt c.args.rules.now events done e.rank c.reach.new.self.present
    at = subst (λ t. IsAt c.args.rules.now events done t c.reach.new.self.present) here reached.at

pub returns-clause-passing : goal.returns-clause-passing
returns-clause-passing g c events done left q passing =
    let was = (goal.at.returns-clause-passing g c).In_ok-reach in
    IsPassing-taken g.T.Moment.rank c.args.rules.now events done left (e g was events done left q) q c.reach.new.self (reached g was events done left q passing) c.take_in.new.self
    (here g was events done left q passing) (c.in_ok-take_in.ensures.at events done (at g was events done left q passing)) c.in_ok-take_in.ensures.kept

pub returns-clause-bits : goal.returns-clause-bits
returns-clause-bits g c events done left q passing is =
    c.in_ok-take_in.ensures.bits events done q (at g (goal.at.returns-clause-bits g c).In_ok-reach events done left q passing) is
