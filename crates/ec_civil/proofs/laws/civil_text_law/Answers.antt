-- Each clause is a lemma on the texts of ranks.
use Rattle.ec_civil.proofs.Texts.{All-civil_text, civil_value-civil_text, length-civil_text}
use Rattle.ec_civil.proofs.laws.civil_text_law.Goals as goal

pub returns : goal.returns
returns c = record {
  spelling = civil_value-civil_text;
  length = λ z inside. length-civil_text z;
  word = λ z inside. All-civil_text z;
}
