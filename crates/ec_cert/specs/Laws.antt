-- The law of written certificates, as statements.
use Rattle.std.specs.Prelude.{◌≡◌, ℕ, Bool, List, ℤ, IsTrue}
use Rattle.ec_terms.specs.declared.ground.Ground.{Ground}
use Rattle.ec_terms.specs.declared.theory.Theory.{Theory}
use Rattle.ec_axioms.specs.Calculus.{PlainEvent, holds_at}
use Rattle.ec_cone.specs.Label.{label_text}
use Rattle.ec_cert.specs.declared.verdict.Verdict.TheVariants.{Yes}
use Rattle.ec_cert.specs.Verdicts.{proof_text, verdict_of}

-- Where a property holds, what is written to prove it comes to yes.
abbrev pub WrittenComesToYes : Type 0
WrittenComesToYes =
    (theory : Theory) (events : List PlainEvent) (canon : ℤ → List ℕ) (p : Ground) (t : ℤ) → IsTrue (holds_at theory events p t)
    → verdict_of (proof_text theory events canon p t) (label_text theory events canon p t) (holds_at theory events p t) ≡ Yes

-- Whatever comes to yes, the property holds.
abbrev pub YesHolds : Type 0
YesHolds = (certificate label : List ℕ) (holds : Bool) → verdict_of certificate label holds ≡ Yes → IsTrue holds
