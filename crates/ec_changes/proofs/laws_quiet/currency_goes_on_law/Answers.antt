-- Currency at the next whole number.
use Rattle.ec_changes.proofs.Quiet.{CurrencyGoesOn-law}
use Rattle.ec_changes.proofs.laws_quiet.currency_goes_on_law.Goals as goal

pub returns : goal.returns
returns c = CurrencyGoesOn-law
