-- Civil times and their ranks: each has one in the range, and the way back from it.
use Rattle.std.proofs.Common.{◌≡◌, ℕ, ◌+◌, ◌*◌, ◌/◌, ◌%◌, ◌<◌, ◌≤◌, true, pos, sym, ◌∙◌, ap, arith}
use Rattle.std.proofs.lemmas.Bool.Decides.{nat_tests}
use Rattle.ec_civil.specs.Civil.{civil_rank, day_number, is_civil, second_of_day, stamp_of, stamp_of_rank}
use Rattle.ec_civil.specs.declared.limits.TheConstants.{DAYS, MOST_CIVIL}
use Rattle.ec_civil.specs.declared.stamp.Stamp.{Stamp}
use Rattle.ec_civil.proofs.Days.{IsDay, IsDay-from_true, count_of-bounds, day_number-days_of, days_of, is_day-true, stamp_of-day, stamp_of-day_number}

-- the numbers are those of a civil time, as facts
pub record IsCivil (s : Stamp) : Type 0 where
  pub day : IsDay s
  pub hour : s.hour < 24
  pub minute : s.minute < 60
  pub second : s.second < 60

-- the test and the facts agree
pub IsCivil-from_true : (s : Stamp) → is_civil s ≡ true → IsCivil s
IsCivil-from_true s e =
    record {
      day = IsDay-from_true s (grind (arith, nat_tests));
      hour = grind (arith, nat_tests);
      minute = grind (arith, nat_tests);
      second = grind (arith, nat_tests);
    }

pub is_civil-true : (s : Stamp) → IsCivil s → is_civil s ≡ true
is_civil-true s h =
    let day = is_day-true s h.day in
    let hour = h.hour in
    let minute = h.minute in
    let second = h.second in
    grind (arith, nat_tests)

-- the rank in whole numbers
pub civil_rank-day_number : (s : Stamp) (days : ℕ) → day_number s ≡ pos days →
    civil_rank s ≡ pos (days * 86_400 + second_of_day s)
unfolding civil_rank
civil_rank-day_number s days e = rw e

-- each civil time has a rank in the range
pub record IsRanked (s : Stamp) : Type 0 where
  pub number : day_number s ≡ pos (days_of s)
  pub few : days_of s < DAYS
  pub short : second_of_day s < 86_400
  pub rank : civil_rank s ≡ pos (days_of s * 86_400 + second_of_day s)

pub IsRanked-civil : (s : Stamp) → IsCivil s → IsRanked s
IsRanked-civil s h =
    let bounds = count_of-bounds s h.day in
    let hour = h.hour in
    let minute = h.minute in
    let second = h.second in
    let number = day_number-days_of s h.day in
    record {
      number = number;
      few = omega arith;
      short = omega arith;
      rank = civil_rank-day_number s (days_of s) number;
    }

-- what is found for days and a second is a civil time
stamp_of-civil : (days second : ℕ) → days < DAYS → second < 86_400 → IsCivil (stamp_of days second)
unfolding stamp_of
stamp_of-civil days second few short =
    record {
      day = (stamp_of-day days second few).has;
      hour = omega arith;
      minute = omega arith;
      second = omega arith;
    }

second_of_day-stamp_of : (days second : ℕ) → second_of_day (stamp_of days second) ≡ second
unfolding stamp_of
second_of_day-stamp_of days second = omega arith

-- with that rank
civil_rank-stamp_of : (days second : ℕ) → days < DAYS → second < 86_400 →
    civil_rank (stamp_of days second) ≡ pos (days * 86_400 + second)
civil_rank-stamp_of days second few short =
    let count = (stamp_of-day days second few).count in
    let time = second_of_day-stamp_of days second in
    let ranked = IsRanked-civil (stamp_of days second) (stamp_of-civil days second few short) in
    ranked.rank ∙ ap pos (omega arith)

-- stamps with the same numbers are the same
pub same_stamp : (s t : Stamp) → s.year ≡ t.year → s.month ≡ t.month → s.day ≡ t.day →
    s.hour ≡ t.hour → s.minute ≡ t.minute → s.second ≡ t.second → s ≡ t
same_stamp s t year month day hour minute second =
    let parts : Stamp = record {
      year = s.year;
      month = s.month;
      day = s.day;
      hour = s.hour;
      minute = s.minute;
      second = s.second;
    } in
    let e : parts ≡ t = rw (year, month, day, hour, minute, second) in e

-- a civil time is what is found for its day and its second
stamp_of-parts : (s : Stamp) (days : ℕ) → IsCivil s → days < DAYS → day_number s ≡ pos days →
    s ≡ stamp_of days (second_of_day s)
unfolding stamp_of
stamp_of-parts s days h few e =
    let hour = h.hour in
    let minute = h.minute in
    let second = h.second in
    let day = stamp_of-day_number s days (second_of_day s) h.day few e in
    same_stamp s _ day.year day.month day.day (omega arith) (omega arith) (omega arith)

-- and so for its rank: the way back is the only one
pub stamp_of_rank-civil_rank : (s : Stamp) (n : ℕ) → IsCivil s → civil_rank s ≡ pos n → stamp_of_rank n ≡ s
stamp_of_rank-civil_rank s n h e =
    let ranked = IsRanked-civil s h in
    let rank = ranked.rank in
    let short = ranked.short in
    let number : n ≡ days_of s * 86_400 + second_of_day s = cc in
    let whole : n / 86_400 ≡ days_of s = omega arith in
    let left : n % 86_400 ≡ second_of_day s = omega arith in
    rw (whole, left) (sym (stamp_of-parts s (days_of s) h ranked.few ranked.number))

-- a rank in the range is that of a civil time
pub IsCivil-of_rank : (n : ℕ) → n ≤ MOST_CIVIL → IsCivil (stamp_of_rank n)
IsCivil-of_rank n few = stamp_of-civil (n / 86_400) (n % 86_400) (omega arith) (omega arith)

pub civil_rank-stamp_of_rank : (n : ℕ) → n ≤ MOST_CIVIL → civil_rank (stamp_of_rank n) ≡ pos n
civil_rank-stamp_of_rank n few =
    civil_rank-stamp_of (n / 86_400) (n % 86_400) (omega arith) (omega arith) ∙ ap pos (omega arith)
