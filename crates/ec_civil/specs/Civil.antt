-- What a civil time is: a second of a day of the years 0 to 9999 in UTC, with its text and its rank.
use Rattle.std.specs.Prelude.{ℕ, zero, suc, ◌+◌, ◌-◌, ◌*◌, ◌/◌, ◌%◌, Bool, ◌&&◌, nat_le, nat_lt, if◌then◌else◌, List, [], ◌∷◌, ◌++◌, slice_index, bytes_eq, ℤ, pos, ◌+ℤ◌, ◌*ℤ◌, unsigned_abs, Option, Some, None}
use Rattle.jiff_core.specs.Calendar.{days_in_year, days_in_month, days_from_civil}
use Rattle.ec_civil.specs.declared.stamp.Stamp.{Stamp}

-- the calendar has this day, in a year from 0 to 9999
abbrev pub is_day : Stamp → Bool
is_day s =
    nat_le s.year 9999 && nat_le 1 s.month && nat_le s.month 12
    && nat_le 1 s.day && nat_le s.day (days_in_month (pos s.year) s.month)

-- 00:00:00 to 23:59:59
abbrev pub is_time_of_day : Stamp → Bool
is_time_of_day s = nat_lt s.hour 24 && nat_lt s.minute 60 && nat_lt s.second 60

-- such a day, with such a time
abbrev pub is_civil : Stamp → Bool
is_civil s = is_day s && is_time_of_day s

-- a number below 100 in two decimal digits
abbrev pub two_digits : ℕ → List ℕ
two_digits n = (48 + n / 10) ∷ (48 + n % 10) ∷ []

-- YYYY-MM-DDThh:mm:ssZ
unfoldable pub stamp_text : Stamp → List ℕ
stamp_text s =
    two_digits (s.year / 100) ++ two_digits (s.year % 100)
    ++ 45 ∷ two_digits s.month ++ 45 ∷ two_digits s.day
    ++ 84 ∷ two_digits s.hour ++ 58 ∷ two_digits s.minute ++ 58 ∷ two_digits s.second ++ 90 ∷ []

-- what the two bytes at a place say, where these are decimal digits
abbrev pub two_at : List ℕ → ℕ → ℕ
two_at bytes i = (slice_index bytes i - 48) * 10 + (slice_index bytes (i + 1) - 48)

-- the numbers at their places in such a text
unfoldable pub stamp_at : List ℕ → Stamp
stamp_at bytes = record {
  year = two_at bytes 0 * 100 + two_at bytes 2;
  month = two_at bytes 5;
  day = two_at bytes 8;
  hour = two_at bytes 11;
  minute = two_at bytes 14;
  second = two_at bytes 17;
}

-- the day, counted from 0000-01-01 on, which is day 0
unfoldable pub day_number : Stamp → ℤ
day_number s = days_from_civil (pos s.year) s.month s.day +ℤ pos 719_528

-- the second of the day, from 0
abbrev pub second_of_day : Stamp → ℕ
second_of_day s = s.hour * 3600 + s.minute * 60 + s.second

-- the second, counted from 0000-01-01T00:00:00Z on, where each day has 86,400
unfoldable pub civil_rank : Stamp → ℤ
civil_rank s = day_number s *ℤ pos 86_400 +ℤ pos (second_of_day s)

-- the rank of the civil time that the bytes spell, or none: the numbers at their places are those of
-- a civil time, and the bytes are its text
unfoldable pub civil_value : List ℕ → Option ℤ
civil_value bytes =
    let s = stamp_at bytes in
    if is_civil s && bytes_eq bytes (stamp_text s) then Some (civil_rank s) else None

-- a place in a row of parts: the number of its part, and how much of that part lies before it
pub record Place : Type 0 where
  pub number : ℕ
  pub rest : ℕ

-- the place that lies `rest` behind the beginning of part `number`: as many whole parts are taken off
-- as there are, but at most `most`; `size` says how large each part is
unfoldable pub place_of : (size : ℕ → ℕ) → (most number rest : ℕ) → Place
place_of size zero number rest = record { number = number; rest = rest }
place_of size (suc most) number rest =
    if nat_lt rest (size number) then record { number = number; rest = rest }
    else place_of size most (number + 1) (rest - size number)

-- the year of a day that is counted from 0000-01-01 on, and how many days of the year lie before it
abbrev pub year_place : ℕ → Place
year_place days = place_of (λ year. days_in_year (pos year)) 9999 0 days

-- the month of a day that is counted from the beginning of the year on, and how many days of the
-- month lie before it
abbrev pub month_place : (year days : ℕ) → Place
month_place year days = place_of (days_in_month (pos year)) 11 1 days

-- the second of a day, where the day is counted from 0000-01-01 on
unfoldable pub stamp_of : (days second : ℕ) → Stamp
stamp_of days second =
    let year = year_place days in
    let month = month_place year.number year.rest in
    record {
      year = year.number;
      month = month.number;
      day = month.rest + 1;
      hour = second / 3600;
      minute = second % 3600 / 60;
      second = second % 60;
    }

-- the numbers of the civil time with this rank
abbrev pub stamp_of_rank : ℕ → Stamp
stamp_of_rank rank = stamp_of (rank / 86_400) (rank % 86_400)

-- the text of the civil time with this rank, where the rank is in the range
unfoldable pub civil_text : ℤ → List ℕ
civil_text z = stamp_text (stamp_of_rank (unsigned_abs z))
