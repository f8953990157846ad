-- What a list of tokens reads as is a numbered theory.
use Rattle.std.proofs.Common.{◌≡◌, ◌+◌, ap, ◌∙◌, arith}
use Rattle.ec_terms.specs.declared.theory.Theory.{Theory}
use Rattle.ec_theory.specs.Lexeme.{Lexemes}
use Rattle.ec_check.specs.Numbering.{IsNumbered, clauses_numbered}
use Rattle.ec_theory.specs.Reading.{Reads}
use Rattle.ec_theory.proofs.NumberedClauses.{one_each, all_rise}
use Rattle.ec_theory.proofs.NumberedVariables.{all_without_gap}

pub reads_numbered : (tokens : Lexemes) (theory : Theory) → Reads tokens theory → IsNumbered theory
reads_numbered tokens theory reads =
    let rise = all_rise reads in
    let full = all_without_gap reads in
    record {
      each_once = λ n below. ap (λ m. clauses_numbered m theory) (let e : n + 1 ≡ 1 + n = omega arith in e) ∙ one_each reads n below;
      rules_ascend = rise.rules.ascend;
      exclusives_ascend = rise.exclusives.ascend;
      strongs_ascend = rise.strongs.ascend;
      initials_ascend = rise.initials.ascend;
      times_ascend = rise.times.ascend;
      rules = full.rules;
      exclusives = full.exclusives;
      initials = full.initials;
    }
