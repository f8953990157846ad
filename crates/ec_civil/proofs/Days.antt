-- Days of the years 0 to 9999: their count from 0000-01-01 on, and the way back from it.
use Rattle.std.proofs.Common.{◌≡◌, ℕ, zero, suc, ◌+◌, ◌-◌, ◌<◌, ◌≤◌, true, pos, ◌+ℤ◌, ◌<ℤ◌, refl, arith}
use Rattle.std.proofs.lemmas.Bool.Decides.{nat_tests}
use Rattle.std.specs.Int.{IsInRange}
use Rattle.jiff_core.specs.Calendar.{days_in_year, days_in_month, days_of_months, day_count, IsCivilDate}
use Rattle.jiff_core.specs.Date.{epoch_day}
use Rattle.jiff_core.specs.declared.civil.date.Date.{Date}
use Rattle.jiff_core.proofs.CalendarLemmas.{days_from_civil-day_count, days_of_months-zero, days_of_months_more, days_of_months_all, day_count-day_of_year, day_count-next_year, day_count-later_year, day_count-lt_year, day_count-end}
use Rattle.jiff_core.proofs.DateLemmas.{epoch_day_injective}
use Rattle.jiff_core.proofs.MarchLemmas.{day_count-early}
use Rattle.jiff_core.proofs.SignedLemmas.{signed_arith}
use Rattle.ec_civil.specs.Civil.{day_number, is_day, month_place, stamp_of, year_place}
use Rattle.ec_civil.specs.declared.limits.TheConstants.{DAYS}
use Rattle.ec_civil.specs.declared.stamp.Stamp.{Stamp}
use Rattle.ec_civil.proofs.Places.{IsPlace, place_of-is}

-- the numbers are those of a day, as facts
pub record IsDay (s : Stamp) : Type 0 where
  pub year : s.year ≤ 9999
  pub month : IsInRange 1 12 s.month
  pub day : IsInRange 1 (days_in_month (pos s.year) s.month) s.day

-- the test and the facts agree
pub IsDay-from_true : (s : Stamp) → is_day s ≡ true → IsDay s
IsDay-from_true s e =
    record {
      year = grind (arith, nat_tests);
      month = (grind (arith, nat_tests), grind (arith, nat_tests));
      day = (grind (arith, nat_tests), grind (arith, nat_tests));
    }

pub is_day-true : (s : Stamp) → IsDay s → is_day s ≡ true
is_day-true s h =
    let year = h.year in
    let month = h.month in
    let day = h.day in
    grind (arith, nat_tests)

-- the days before it in jiff's count, which begins long before 0000-01-01
abbrev pub count_of : Stamp → ℕ
count_of s = day_count (pos s.year) s.month s.day

-- the days before 0000-01-01 in that count; they happen to be as many as the years 0 to 9999 have
pub day_count-year_0 : day_count (pos 0) 1 1 ≡ DAYS
day_count-year_0 = day_count-early (pos 0) 9999 1 1 refl (omega arith) (omega arith) (omega arith)

-- the days from 0000-01-01 to it
abbrev pub days_of : Stamp → ℕ
days_of s = count_of s - DAYS

-- a year from 0 on begins on 0000-01-01 or later
year_begins : (year : ℕ) → DAYS ≤ day_count (pos year) 1 1
year_begins zero = omega (arith, day_count-year_0)
year_begins (suc n) =
    let later =
    day_count-later_year (pos 0) (pos (suc n)) (omega (arith, signed_arith)) (omega (arith, signed_arith)) in
    omega (arith, day_count-year_0)

-- a day of the years 0 to 9999 comes between their ends
pub count_of-bounds : (s : Stamp) → IsDay s → (DAYS ≤ count_of s) × (count_of s < DAYS + DAYS)
count_of-bounds s h =
    let year = h.year in
    let begins = year_begins s.year in
    let placed = day_count-day_of_year (pos s.year) s.month s.day h.day.0 in
    let civil : IsCivilDate (pos s.year) s.month s.day =
    ((omega (arith, signed_arith), omega (arith, signed_arith)), h.month, h.day) in
    let next : pos s.year <ℤ pos 10000 = omega (arith, signed_arith) in
    let before = day_count-lt_year (pos s.year) s.month s.day (pos 10000) 1 1 civil (omega arith) next in
    (omega (arith, h.day), omega (arith, day_count-end))

-- and its number is what the count says
pub day_number-days_of : (s : Stamp) → IsDay s → day_number s ≡ pos (days_of s)
unfolding day_number
day_number-days_of s h =
    let bounds = count_of-bounds s h in
    let counted = days_from_civil-day_count (pos s.year) s.month s.day in
    omega (arith, signed_arith)

-- a date of jiff has the parts of a stamp
pub record HasParts (d : Date) (s : Stamp) : Type 0 where
  pub year : d.year ≡ pos s.year
  pub month : d.month ≡ s.month
  pub day : d.day ≡ s.day

-- then the stamp has a day
IsDay-of_date : (d : Date) (s : Stamp) → s.year ≤ 9999 → HasParts d s → IsDay s
IsDay-of_date d s few same =
    let month_in = d.month_in in
    let month = same.month in
    let day_in = rw (same.year, same.month, same.day) at d.day_in in
    record { year = few; month = (omega arith, omega arith); day = day_in }

-- and both have one day number
pub record HaveNumber (d : Date) (s : Stamp) : Type 0 where
  pub date : epoch_day d +ℤ pos 719_528 ≡ pos (days_of s)
  pub stamp : day_number s ≡ pos (days_of s)
  pub few : days_of s < DAYS

pub HaveNumber-date : (d : Date) (s : Stamp) → s.year ≤ 9999 → HasParts d s → HaveNumber d s
unfolding day_number
HaveNumber-date d s few same =
    let has = IsDay-of_date d s few same in
    let number = day_number-days_of s has in
    let bounds = count_of-bounds s has in
    record { date = rw (same.year, same.month, same.day) number; stamp = number; few = omega arith }

-- the date of jiff with these parts
date_of : (s : Stamp) → IsDay s → Date
date_of s h = record {
  year = pos s.year;
  month = s.month;
  day = s.day;
  year_in = (omega (arith, signed_arith), omega (arith, signed_arith, h.year));
  month_in = h.month;
  day_in = h.day;
}

-- the year of a day
year_place-is : (days : ℕ) → days < DAYS →
    IsPlace (λ year. days_in_year (pos year)) (λ year. day_count (pos year) 1 1) 0 9999
    (day_count (pos 0) 1 1 + days) (year_place days)
year_place-is days few =
    place_of-is _ (λ year. day_count (pos year) 1 1) 9999 0 days
    (λ n low. day_count-next_year (pos n) (pos (n + 1)) (omega (arith, signed_arith)) refl)
    (omega (arith, day_count-year_0, day_count-end))

-- the month of a day of the year
month_place-is : (year days : ℕ) → days < days_in_year (pos year) →
    IsPlace (days_in_month (pos year)) (λ month. days_of_months (pos year) (month - 1)) 1 11
    (days_of_months (pos year) 0 + days) (month_place year days)
month_place-is year days few =
    place_of-is (days_in_month (pos year)) (λ month. days_of_months (pos year) (month - 1)) 11 1 days
    (λ n low. let e : n + 1 - 1 ≡ n = omega arith in rw e (days_of_months_more (pos year) n low))
    (omega (arith, days_of_months-zero (pos year), days_of_months_all (pos year)))

-- the day that comes so many days after 0000-01-01: the calendar has it, and that is its count
pub record IsDayAfter (days : ℕ) (s : Stamp) : Type 0 where
  pub has : IsDay s
  pub count : count_of s ≡ DAYS + days

pub stamp_of-day : (days second : ℕ) → days < DAYS → IsDayAfter days (stamp_of days second)
unfolding stamp_of
stamp_of-day days second few =
    let year = year_place-is days few in
    let y = (year_place days).number in
    let month = month_place-is y (year_place days).rest year.within in
    let m = month_place y (year_place days).rest in
    let placed = day_count-day_of_year (pos y) m.number (m.rest + 1) (omega arith) in
    record {
      has = record {
        year = year.high;
        month = (month.low, month.high);
        day = (omega arith, omega (arith, month.within));
      };
      count = omega (arith, day_count-year_0, year.same, month.same, days_of_months-zero (pos y));
    }

-- the way back is the only one: a date of jiff with this day number has the parts that are found
pub stamp_of-date : (d : Date) (days second : ℕ) → days < DAYS →
    epoch_day d +ℤ pos 719_528 ≡ pos days → HasParts d (stamp_of days second)
unfolding date_of
stamp_of-date d days second few e =
    let s = stamp_of days second in
    let found = stamp_of-day days second few in
    let count = found.count in
    let one = days_from_civil-day_count d.year d.month d.day in
    let other = days_from_civil-day_count (pos s.year) s.month s.day in
    let same = epoch_day_injective d (date_of s found.has) (omega (arith, signed_arith)) in
    record { year = same.0; month = same.1; day = same.2 }

-- two stamps have one day
pub record SameDay (s t : Stamp) : Type 0 where
  pub year : s.year ≡ t.year
  pub month : s.month ≡ t.month
  pub day : s.day ≡ t.day

-- and so has a stamp with this day number
pub stamp_of-day_number : (s : Stamp) (days second : ℕ) → IsDay s → days < DAYS →
    day_number s ≡ pos days → SameDay s (stamp_of days second)
unfolding day_number date_of
stamp_of-day_number s days second h few e =
    let same = stamp_of-date (date_of s h) days second few e in
    let year = same.year in
    record { year = cc; month = same.month; day = same.day }
