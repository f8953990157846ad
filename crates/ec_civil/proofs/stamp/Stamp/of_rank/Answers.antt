-- The date with this day number is the day that is found, and the rest is the time of day.
use Rattle.std.proofs.Common.{◌≡◌, ◌/◌, ◌%◌, ◌<◌, pos, ◌+ℤ◌, refl, ◌∙◌, arith}
use Rattle.jiff_core.proofs.SignedLemmas.{signed_arith, signed_casts}
use Rattle.jiff_core.specs.Date.{epoch_day}
use Rattle.ec_civil.specs.Civil.{stamp_of}
use Rattle.ec_civil.specs.declared.limits.TheConstants.{DAYS}
use Rattle.ec_civil.proofs.Days.{stamp_of-date, stamp_of-day}
use Rattle.ec_civil.proofs.Stamps.{same_stamp}
use Rattle.ec_civil.proofs.stamp.Stamp.of_rank.Goals as goal

pub returns-clause-value : goal.returns-clause-value
unfolding stamp_of
returns-clause-value c =
    let days = c.args.rank / 86400 in
    let second = c.args.rank % 86400 in
    let few : days < DAYS = omega arith in
    let date = c.from_days_since_min-date.result in
    let number : epoch_day date +ℤ pos 719_528 ≡ pos days =
    omega (arith, signed_arith, c.from_days_since_min-date.ensures) in
    let parts = stamp_of-date date days second few number in
    let found = (stamp_of-day days second few).has.year in
    let same = parts.year in
    let absolute = c.unsigned_abs.ensures.value in
    let year : c.from.result ≡ (stamp_of days second).year = omega (arith, signed_casts, c.from.ensures) in
    let month = c.from-2.ensures ∙ parts.month in
    let day = c.from-3.ensures ∙ parts.day in
    same_stamp _ (stamp_of days second) year month day refl refl refl
