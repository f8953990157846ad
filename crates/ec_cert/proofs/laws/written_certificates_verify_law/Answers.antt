-- By the definitions of what is written and of what it comes to.
use Rattle.std.proofs.Common.{◌≡◌, ℕ, ℤ, Bool, true, false, cond, List, refl, ap₂, ◌∙◌}
use Rattle.std.specs.Prelude.{IsTrue, bytes_eq}
use Rattle.std.proofs.lemmas.Bool.{cond-true}
use Rattle.std.proofs.lemmas.Slice.Eq.{bytes_eq-Decides}
use Rattle.ec_terms.specs.declared.ground.Ground.{Ground}
use Rattle.ec_terms.specs.declared.theory.Theory.{Theory}
use Rattle.ec_axioms.specs.Calculus.{PlainEvent, holds_at}
use Rattle.ec_cone.specs.Label.{label_text}
use Rattle.ec_cert.specs.declared.verdict.Verdict.TheVariants.{Yes, No, Bad}
use Rattle.ec_cert.specs.Verdicts.{bad_line, proof_text, verdict_of}
use Rattle.ec_cert.proofs.laws.written_certificates_verify_law.Goals as goal

-- where it holds, the label is written
label_written : (theory : Theory) (events : List PlainEvent) (canon : ℤ → List ℕ) (p : Ground) (t : ℤ) → IsTrue (holds_at theory events p t)
    → proof_text theory events canon p t ≡ label_text theory events canon p t
unfolding proof_text
label_written theory events canon p t holds = cond-true _ _ _ holds

-- a label is its own certificate
itself : (label : List ℕ) → verdict_of label label true ≡ Yes
unfolding verdict_of
itself label = cond-true (bytes_eq label label) Yes (Bad (bad_line label label)) ((bytes_eq-Decides label label).1 refl)

-- only what holds comes to yes
only_holding : (same holds : Bool) (line : ℕ) → cond same (cond holds Yes No) (Bad line) ≡ Yes → IsTrue holds
only_holding true true line is = refl
only_holding true false line is = cc
only_holding false true line is = refl
only_holding false false line is = cc

yes_holds : (certificate label : List ℕ) (holds : Bool) → verdict_of certificate label holds ≡ Yes → IsTrue holds
unfolding verdict_of
yes_holds certificate label holds is = only_holding (bytes_eq certificate label) holds (bad_line certificate label) is

pub returns : goal.returns
returns c = record {
  written = λ theory events canon p t holds. ap₂ (λ (written : List ℕ) (h : Bool). verdict_of written (label_text theory events canon p t) h) (label_written theory events canon p t holds) holds ∙ itself (label_text theory events canon p t);
  yes = yes_holds;
}
