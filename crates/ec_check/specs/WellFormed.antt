-- Well-formed theories: numbered, and without a fault.
use Rattle.std.specs.Prelude.{◌≡◌, None}
use Rattle.ec_terms.specs.declared.theory.Theory.{Theory}
use Rattle.ec_check.specs.Faults.{first_wrong}
use Rattle.ec_check.specs.Numbering.{IsNumbered}

-- the theory is numbered, and no clause has a fault
pub record IsWellFormed (theory : Theory) : Type 0 where
  pub numbered : IsNumbered theory
  pub no_fault : first_wrong theory ≡ None
