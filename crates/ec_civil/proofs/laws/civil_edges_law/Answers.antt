-- The definitions compute.
use Rattle.std.proofs.Common.{refl}
use Rattle.jiff_core.specs.Calendar.{days_from_civil, day_count, days_of_years, days_of_months}
use Rattle.ec_civil.specs.Civil.{civil_value, civil_text, civil_rank, day_number, stamp_at, stamp_of, stamp_text, place_of}
use Rattle.ec_civil.proofs.laws.civil_edges_law.Goals as goal

pub returns : goal.returns
unfolding civil_value civil_text civil_rank day_number stamp_at stamp_of stamp_text place_of days_from_civil day_count days_of_years days_of_months
returns c = record {
  first = refl;
  text_of_first = refl;
  last = refl;
  text_of_last = refl;
  year_1970 = refl;
  leap_year_0 = refl;
  leap_year_2000 = refl;
  leap_year_2024 = refl;
  no_leap_year_1900 = refl;
  no_leap_year_2023 = refl;
  month_0 = refl;
  month_13 = refl;
  day_0 = refl;
  day_31 = refl;
  hour_24 = refl;
  minute_60 = refl;
  second_60 = refl;
  colon_for_year = refl;
  colon_for_month = refl;
  colon_for_second = refl;
  small_t = refl;
  small_z = refl;
  no_zone = refl;
  blank_behind = refl;
  empty = refl;
}
