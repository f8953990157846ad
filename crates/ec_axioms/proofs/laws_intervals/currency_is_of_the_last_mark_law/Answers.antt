-- The last mark before a time tells currency there.
use Rattle.ec_axioms.proofs.HistoryLaws.{CurrencyIsOfTheLastMark-law}
use Rattle.ec_axioms.proofs.laws_intervals.currency_is_of_the_last_mark_law.Goals as goal

pub returns : goal.returns
returns c = CurrencyIsOfTheLastMark-law
