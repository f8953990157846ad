-- The text is that of the rank, of which the lemmas on such texts say each clause.
use Rattle.std.proofs.Common.{pos, sym, arith}
use Rattle.std.proofs.lemmas.List.Elements.{All-same}
use Rattle.ec_moment.specs.Moment.{IsWordByte}
use Rattle.ec_civil.proofs.Texts.{All-civil_text, civil_text-stamp, civil_value-of_rank, length-civil_text}
use Rattle.ec_civil.proofs.civil.CivilMoment.text.Goals as goal

pub returns-clause-canonical : goal.returns-clause-canonical
returns-clause-canonical c =
    rw (sym c.self.view_is) (civil_text-stamp c.self.inside.second _ _ c.of_rank.ensures.value c.text.ensures)

pub returns-clause-spelling : goal.returns-clause-spelling
returns-clause-spelling c =
    let same = civil_text-stamp c.self.inside.second _ _ c.of_rank.ensures.value c.text.ensures in
    rw (sym c.self.view_is, same) (civil_value-of_rank c.self.inside.second c.self.invariant)

pub returns-clause-nonempty : goal.returns-clause-nonempty
returns-clause-nonempty c =
    let same = civil_text-stamp c.self.inside.second _ _ c.of_rank.ensures.value c.text.ensures in
    rw same (omega (arith, length-civil_text (pos c.self.inside.second)))

pub returns-clause-word : goal.returns-clause-word
returns-clause-word c =
    let same = civil_text-stamp c.self.inside.second _ _ c.of_rank.ensures.value c.text.ensures in
    All-same IsWordByte _ _ same (All-civil_text (pos c.self.inside.second))
