use Rattle.ec_theory.proofs.CutLemmas.{text_is_cut}
use Rattle.ec_theory.proofs.laws.cut_law.Goals as goal

pub returns-clause-text : goal.returns-clause-text
returns-clause-text c = λ bytes list is. (text_is_cut bytes list is).0

pub returns-clause-end : goal.returns-clause-end
returns-clause-end c = λ bytes list is. (text_is_cut bytes list is).1
