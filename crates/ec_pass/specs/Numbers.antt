-- Sets of numbers that stand for sets of properties: the numbers under which a table keeps their terms.
use Rattle.std.specs.Prelude.{◌≡◌, ℕ, Bool, List, Some, IsTrue, IsSome}
use Rattle.ec_terms.specs.declared.ground.Ground.{Ground}
use Rattle.ec_store.specs.Table.{KeptProp, term_at}

-- the table keeps a term, under some number
abbrev pub IsKept : List KeptProp → Ground → Type 0
IsKept table q = (n : ℕ) × (term_at n table ≡ Some q)

-- The numbers that pass the first test are those of the terms that pass the second: both say the same of each kept term, and
-- nothing else passes either.
pub record AreNumbersOf (table : List KeptProp) (by_number : ℕ → Bool) (by_term : Ground → Bool) : Type 0 where
  pub same : (n : ℕ) (q : Ground) → term_at n table ≡ Some q → by_number n ≡ by_term q
  pub numbers : (n : ℕ) → IsTrue (by_number n) → IsSome (term_at n table)
  pub terms : (q : Ground) → IsTrue (by_term q) → IsKept table q
