-- What the reader of a rule's conditions gives.
use Rattle.std.specs.Prelude.{◌≡◌, List}
use Rattle.ec_theory.specs.declared.condition.Condition.{Condition}
use Rattle.ec_theory.specs.declared.condition.Body.{Body}
use Rattle.ec_theory.specs.Grammar.{tests_of, literals_of}

-- the tests and literals of a body are those among conditions that were taken
pub record Collects (Takes : List Condition → Type 0) (body : Body) : Type 0 where
  pub conditions : List Condition
  pub takes : Takes conditions
  pub tests : body.tests ≡ tests_of conditions
  pub literals : body.literals ≡ literals_of conditions
