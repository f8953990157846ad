-- What is written to prove that a property holds, and what a certificate comes to.
use Rattle.std.specs.Prelude.{ℕ, ◌+◌, Bool, ◌==◌, nat_eq, if◌then◌else◌, List, [], ◌∷◌, ◌++◌, ℤ, take, length, filter, bytes_eq, codes, decimal}
use Rattle.std.specs.List.{common_prefix_len}
use Rattle.ec_terms.specs.declared.ground.Ground.{Ground}
use Rattle.ec_terms.specs.declared.theory.Theory.{Theory}
use Rattle.ec_axioms.specs.Calculus.{PlainEvent, holds_at}
use Rattle.ec_commands.specs.Lines.{line_feed}
use Rattle.ec_cone.specs.Label.{label_text}
use Rattle.ec_cert.specs.declared.verdict.Verdict.{Verdict}
use Rattle.ec_cert.specs.declared.verdict.Verdict.TheVariants.{Yes, No, Bad}

-- what is written to prove that a property holds at a time: its label, or `none` where it does not hold
unfoldable pub proof_text : Theory → List PlainEvent → (ℤ → List ℕ) → Ground → ℤ → List ℕ
proof_text theory events canon p t =
    if holds_at theory events p t then label_text theory events canon p t else codes "none" ++ 10 ∷ []

-- the longest text with which both begin
abbrev pub common_prefix : List ℕ → List ℕ → List ℕ
common_prefix a b = take (common_prefix_len nat_eq a b) a

-- the line, from 1, at which a certificate leaves its label: one more than the line ends in what they have in common
unfoldable pub bad_line : List ℕ → List ℕ → ℕ
bad_line certificate label = 1 + length (filter (λ b. b == line_feed) (common_prefix certificate label))

-- what a certificate comes to, by its label and by whether the property holds: it must be the label to the last byte
unfoldable pub verdict_of : List ℕ → List ℕ → Bool → Verdict
verdict_of certificate label holds =
    if bytes_eq certificate label then (if holds then Yes else No) else Bad (bad_line certificate label)

-- the line that tells a verdict
abbrev pub verdict_line : Verdict → List ℕ
verdict_line Yes = codes "yes" ++ 10 ∷ []
verdict_line No = codes "no" ++ 10 ∷ []
verdict_line (Bad line) = codes "bad " ++ decimal line ++ 10 ∷ []
