-- Both read the last mark before the time.
use Rattle.std.proofs.Common.{sym, ap₂, ◌∙◌}
use Rattle.ec_axioms.specs.Marks.{last_mark_before, current_after}
use Rattle.ec_axioms.proofs.HistoryLaws.{CurrencyIsOfTheLastMark-law}
use Rattle.ec_points.proofs.laws.points_tell_currency.Goals as goal

pub returns : goal.returns
returns g c = λ points theory events term n history marks initial t.
    ap₂ (λ b ms. current_after b (last_mark_before ms t)) initial marks ∙ sym (CurrencyIsOfTheLastMark-law theory events term t history)
