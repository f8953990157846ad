-- When a theory is numbered: its clauses from 1 on, and the variables of each clause from 0 on.
use Rattle.std.specs.Prelude.{◌≡◌, ◌<◌, ◌+◌, ◌==◌, ℕ, List, length, filter, map, IsTrue}
use Rattle.std.specs.List.{All, list_any}
use Rattle.std.specs.List.Sorted.{IsStrictlyIncreasing}
use Rattle.ec_terms.specs.declared.pattern.PatArg.{PatArg}
use Rattle.ec_terms.specs.declared.theory.Rule.{Rule}
use Rattle.ec_terms.specs.declared.theory.Exclusive.{Exclusive}
use Rattle.ec_terms.specs.declared.theory.Strong.{Strong}
use Rattle.ec_terms.specs.declared.theory.Initial.{Initial}
use Rattle.ec_terms.specs.declared.theory.TimeDecl.{TimeDecl}
use Rattle.ec_terms.specs.declared.theory.Theory.{Theory}
use Rattle.ec_terms.specs.Binding.{stands_at}
use Rattle.ec_check.specs.Faults.{rule_places, exclusive_places}

-- how many of some clauses have the number n
abbrev pub count_of : ℕ → List ℕ → ℕ
count_of n numbers = length (filter (λ m. m == n) numbers)

-- the numbers of the clauses of each kind
abbrev pub rule_numbers : Theory → List ℕ
rule_numbers theory = map (λ (r : Rule). r.clause) theory.rules

abbrev pub exclusive_numbers : Theory → List ℕ
exclusive_numbers theory = map (λ (e : Exclusive). e.clause) theory.exclusives

abbrev pub strong_numbers : Theory → List ℕ
strong_numbers theory = map (λ (s : Strong). s.clause) theory.strongs

abbrev pub initial_numbers : Theory → List ℕ
initial_numbers theory = map (λ (i : Initial). i.clause) theory.initials

abbrev pub time_numbers : Theory → List ℕ
time_numbers theory = map (λ (t : TimeDecl). t.clause) theory.times

-- how many clauses of a theory have the number n
unfoldable pub clauses_numbered : ℕ → Theory → ℕ
clauses_numbered n theory =
    count_of n (rule_numbers theory) + count_of n (exclusive_numbers theory) + count_of n (strong_numbers theory) + count_of n (initial_numbers theory)
    + count_of n (time_numbers theory)

-- how many clauses a theory has
unfoldable pub clause_count : Theory → ℕ
clause_count theory = length theory.rules + length theory.exclusives + length theory.strongs + length theory.initials + length theory.times

-- the variables that stand at the places are the numbers from 0 on without a gap
abbrev pub AreWithoutGap : List PatArg → Type 0
AreWithoutGap places = (v w : ℕ) → IsTrue (list_any (stands_at v) places) → w < v → IsTrue (list_any (stands_at w) places)

-- The clauses have the numbers from 1 to how many they are, each number once, ascending in each list; and so have the
-- variables of each clause from 0 on.
pub record IsNumbered (theory : Theory) : Type 0 where
  pub each_once : (n : ℕ) → n < clause_count theory → clauses_numbered (n + 1) theory ≡ 1
  pub rules_ascend : IsStrictlyIncreasing (rule_numbers theory)
  pub exclusives_ascend : IsStrictlyIncreasing (exclusive_numbers theory)
  pub strongs_ascend : IsStrictlyIncreasing (strong_numbers theory)
  pub initials_ascend : IsStrictlyIncreasing (initial_numbers theory)
  pub times_ascend : IsStrictlyIncreasing (time_numbers theory)
  pub rules : All (λ (r : Rule). AreWithoutGap (rule_places r)) theory.rules
  pub exclusives : All (λ (e : Exclusive). AreWithoutGap (exclusive_places e)) theory.exclusives
  pub initials : All (λ (i : Initial). AreWithoutGap i.prop.args) theory.initials
