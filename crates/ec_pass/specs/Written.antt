-- A label as far as a pass has written it.
use Rattle.std.specs.Prelude.{ℕ, ◌≡◌, List, [], ◌∷◌, ◌++◌, ℤ, length, flat_map}
use Rattle.ec_terms.specs.declared.ground.Ground.{Ground}
use Rattle.ec_terms.specs.declared.theory.Theory.{Theory}
use Rattle.ec_axioms.specs.Calculus.{PlainEvent, is_current}
use Rattle.ec_cone.specs.Cone.{cone_events}
use Rattle.ec_cone.specs.Label.{event_line, head_line}
use Rattle.ec_pass.specs.declared.label.Label.{Label}

-- a line of an identity and of bits
abbrev pub line_of : List ℕ → List ℕ → List ℕ
line_of id bits = id ++ 32 ∷ bits ++ 10 ∷ []

-- The label has its first line and the lines of the events done, and counts these.
pub record IsWritten (theory : Theory) (events done : List PlainEvent) (canon : ℤ → List ℕ) (p : Ground) (t : ℤ) (label : Label) : Type 0 where
  pub text : label.text.items ≡ head_line canon p t ++ flat_map (event_line theory (is_current theory events) p) (cone_events theory p done)
  pub lines : label.lines ≡ length (cone_events theory p done)
