-- Each clause is a lemma on the text of a number.
use Rattle.ec_moment.proofs.NumberLemmas.{number_value-number_text, length-number_text, All-number_text}
use Rattle.ec_moment.proofs.laws.number_text_law.Goals as goal

pub returns : goal.returns
returns c = record {
  spelling = number_value-number_text;
  nonempty = λ z inside. (length-number_text z inside).0;
  short = λ z inside. (length-number_text z inside).1;
  bytes = All-number_text;
}
