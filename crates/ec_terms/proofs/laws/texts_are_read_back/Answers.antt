-- The laws are lemmas.
use Rattle.ec_terms.proofs.ReadBack.{read_in_front, read_back}
use Rattle.ec_terms.proofs.laws.texts_are_read_back.Goals as goal

pub returns : goal.returns
returns c = record { front = read_in_front; whole = read_back }
