-- Each clause is a lemma on what spells a civil time.
use Rattle.ec_civil.proofs.Texts.{IsWithin-spelt, civil_text-spelt}
use Rattle.ec_civil.proofs.laws.one_spelling_law.Goals as goal

pub returns : goal.returns
returns c = record {
  one = civil_text-spelt;
  in_range = IsWithin-spelt;
}
