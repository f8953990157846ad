-- Rounds at an instant look at the events before it alone.
use Rattle.ec_axioms.proofs.Rounds.{PastIsClosed-law}
use Rattle.ec_axioms.proofs.laws_currency.past_is_closed_law.Goals as goal

pub returns : goal.returns
returns c = PastIsClosed-law
