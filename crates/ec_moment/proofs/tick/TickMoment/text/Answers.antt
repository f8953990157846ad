-- The text is that of a number, of which the lemmas on texts of numbers say each clause.
use Rattle.std.proofs.Common.{◌≡◌, ◌++◌, ◌∙◌, SFits, w64, ap, arith, rules}
use Rattle.std.proofs.lemmas.Int.{ints, to_z-of_z}
use Rattle.std.proofs.lemmas.List.Elements.{All-same, All-weaker}
use Rattle.ec_moment.specs.Moment.{IsWordByte}
use Rattle.ec_moment.specs.Number.{IsNumber, IsNumberByte, number_text}
use Rattle.ec_moment.proofs.NumberLemmas.{number_value-number_text, length-number_text, All-number_text, IsWordByte-of_number}
use Rattle.ec_moment.proofs.tick.TickMoment.text.Goals as goal

pub returns-clause-spelling : goal.returns-clause-spelling
returns-clause-spelling c =
    let inside : IsNumber c.args.self.now.0 = grind (arith, ints) in
    let fits : SFits w64 c.args.self.now.0 = search rules in
    let same : c.push_str.new.self ≡ number_text c.args.self.now.0 =
    c.push_str.ensures ∙ ap (λ t. t ++ c.format.result.now) c.new-text.ensures ∙ c.format.ensures.text ∙ ap number_text (to_z-of_z w64 c.args.self.now.0 fits) in
    rw same (number_value-number_text _ inside)

pub returns-clause-nonempty : goal.returns-clause-nonempty
returns-clause-nonempty c =
    let inside : IsNumber c.args.self.now.0 = grind (arith, ints) in
    let fits : SFits w64 c.args.self.now.0 = search rules in
    let same : c.push_str.new.self ≡ number_text c.args.self.now.0 =
    c.push_str.ensures ∙ ap (λ t. t ++ c.format.result.now) c.new-text.ensures ∙ c.format.ensures.text ∙ ap number_text (to_z-of_z w64 c.args.self.now.0 fits) in
    rw same (length-number_text _ inside).0

pub returns-clause-word : goal.returns-clause-word
returns-clause-word c =
    let inside : IsNumber c.args.self.now.0 = grind (arith, ints) in
    let fits : SFits w64 c.args.self.now.0 = search rules in
    let same : c.push_str.new.self ≡ number_text c.args.self.now.0 =
    c.push_str.ensures ∙ ap (λ t. t ++ c.format.result.now) c.new-text.ensures ∙ c.format.ensures.text ∙ ap number_text (to_z-of_z w64 c.args.self.now.0 fits) in
    All-same IsWordByte _ _ same (All-weaker IsNumberByte IsWordByte IsWordByte-of_number _ (All-number_text _ inside))
