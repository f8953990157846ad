-- The casts lose nothing, and the date has the day number of its parts.
use Rattle.std.proofs.Common.{◌≡◌, ap, ◌∙◌, arith}
use Rattle.jiff_core.proofs.SignedLemmas.{signed_casts}
use Rattle.jiff_core.specs.Date.{epoch_day}
use Rattle.ec_civil.proofs.Days.{HasParts, HaveNumber-date}
use Rattle.ec_civil.proofs.stamp.Stamp.day_number.Goals as goal

pub overflow_cast-result : goal.overflow_cast-result
overflow_cast-result c =
    let parts = c.in-Ok.ensures.value in
    let same : HasParts c.in-Ok.date c.args.self =
    record {
      year = omega (arith, signed_casts);
      month = omega (arith, signed_casts);
      day = omega (arith, signed_casts);
    } in
    let have = HaveNumber-date c.in-Ok.date c.args.self (omega arith) same in
    let value : c.to_unix_epoch_day.result ≡ epoch_day c.in-Ok.date =
    c.to_unix_epoch_day.ensures.value ∙ ap epoch_day c.to_plain.ensures in
    let few = have.few in
    let date = have.date in
    (omega (arith, signed_casts), omega (arith, signed_casts))

pub returns-in-Ok-clause-value : goal.returns-in-Ok-clause-value
returns-in-Ok-clause-value c =
    let parts = c.in-Ok.ensures.value in
    let same : HasParts c.in-Ok.date c.args.self =
    record {
      year = omega (arith, signed_casts);
      month = omega (arith, signed_casts);
      day = omega (arith, signed_casts);
    } in
    let have = HaveNumber-date c.in-Ok.date c.args.self (omega arith) same in
    let value : c.to_unix_epoch_day.result ≡ epoch_day c.in-Ok.date =
    c.to_unix_epoch_day.ensures.value ∙ ap epoch_day c.to_plain.ensures in
    let few = have.few in
    let date = have.date in
    let stamp = have.stamp in
    omega (arith, signed_casts)
