-- Calls of one kind on an object in memory, numbered from 1: which of them fail.
use Rattle.std.specs.Prelude.{ℕ, ◌+◌, ◌<◌, ◌≤◌, Bool, ◌==◌, nat_le, List, length, filter}
use Rattle.std.specs.List.{list_any}
use Rattle.ec_outside.specs.Counts.{last_count, next_count}

-- the numbers of the calls that fail, and how many calls were made
pub record Calls : Type 0 where
  pub failing : List ℕ
  pub made : ℕ

-- no call was made yet
abbrev pub no_calls : List ℕ → Calls
no_calls failing = record { failing = failing; made = 0 }

-- the next call is one of those that fail
abbrev pub next_fails : Calls → Bool
next_fails calls = list_any (λ number. number == calls.made + 1) calls.failing

-- one more call was made
abbrev pub one_more : Calls → Calls
one_more calls = record { failing = calls.failing; made = next_count calls.made }

-- how many of the failing numbers are those of calls made so far
abbrev pub failed_count : Calls → ℕ
failed_count calls = length (filter (λ number. nat_le number calls.made) calls.failing)

-- calls of one kind, and how many of them were counted as faults
pub record CountedCalls : Type 0 where
  pub calls : Calls
  pub faults : ℕ

-- the count of calls is one of 64 bits, and no more faults were counted than there are failing
-- numbers of calls made so far, which are too few to bring their count to its last value
pub record IsWithin (calls : Calls) (faults : ℕ) : Type 0 where
  pub made : calls.made ≤ last_count
  pub counted : faults ≤ failed_count calls
  pub numbers : length calls.failing < last_count
