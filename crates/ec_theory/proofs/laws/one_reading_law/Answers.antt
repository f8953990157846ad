use Rattle.ec_theory.proofs.OneReading.{reading_same}
use Rattle.ec_theory.proofs.laws.one_reading_law.Goals as goal

pub returns : goal.returns
returns c = λ tokens a b reads reads'. reading_same reads reads'
