-- The text has one theory.
use Rattle.std.proofs.Common.{subst}
use Rattle.std.specs.Prelude.{IfOk}
use Rattle.ec_theory.specs.Accepted.{IsAccepted}
use Rattle.ec_caches.proofs.Taken.{IsAccepted-one}
use Rattle.ec_caches.proofs.built.two_theories.Goals as goal

pub returns : goal.returns
returns g c =
    IsAccepted-one c.args.text.now _ _
    (subst (λ r. IfOk r (λ checked. IsAccepted c.args.text.now checked)) c.expect-one.ensures c.accept.ensures.ok)
    (subst (λ r. IfOk r (λ checked. IsAccepted c.args.text.now checked)) c.expect-other.ensures c.accept-2.ensures.ok)
