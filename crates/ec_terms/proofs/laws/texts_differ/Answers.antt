-- The law is a lemma.
use Rattle.ec_terms.proofs.ReadBack.{text_faithful}
use Rattle.ec_terms.proofs.laws.texts_differ.Goals as goal

pub returns : goal.returns
returns c = text_faithful
