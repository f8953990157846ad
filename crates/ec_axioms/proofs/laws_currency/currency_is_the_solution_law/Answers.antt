-- Currency in rounds satisfies the equation, and is alone in that.
use Rattle.ec_axioms.proofs.Rounds.{CurrencyIsTheSolution-law}
use Rattle.ec_axioms.proofs.laws_currency.currency_is_the_solution_law.Goals as goal

pub returns : goal.returns
returns c = CurrencyIsTheSolution-law
