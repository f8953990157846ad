-- How a source counts its reads: all of them, and those that came once one had met the end.
use Rattle.std.specs.Prelude.{ℕ, Bool, false, ◌==◌, ◌&&◌, ◌||◌, nat_lt, Result, Ok, Err, if◌then◌else◌, refl}
use Rattle.std.specs.Coded.{Coded, code_by, coded×, coded_ℕ}
use Rattle.ec_outside.specs.Counts.{next_count}

-- a read into a buffer of that length met the end: there was room, and it gave nothing
abbrev pub meets_end : {E : Type 0} → Result ℕ E → ℕ → Bool
meets_end (Ok count) room = count == 0 && nat_lt 0 room
meets_end (Err failed) room = false

-- How many reads there were from the one on that met the end, after one more read. There is none as long as none met it.
abbrev pub next_ended : ℕ → Bool → ℕ
next_ended ended met = if met || nat_lt 0 ended then next_count ended else ended

-- how many reads failed, how many there were, and how many there were from the one on that met the end
pub record ReadCounts : Type 0 where
  pub faults : ℕ
  pub reads : ℕ
  pub ended : ℕ

-- how they are stored: each as its parts
abbrev pub read_counts_code : Coded ReadCounts
read_counts_code = code_by (ℕ × (ℕ × ℕ)) (coded× coded_ℕ (coded× coded_ℕ coded_ℕ))
    (λ counts. (counts.faults, (counts.reads, counts.ended)))
    (λ parts. record { faults = parts.0; reads = parts.1.0; ended = parts.1.1 }) (λ _. refl)
