use Rattle.std.proofs.Common.{◌+◌, ◌<◌, List, ℕ, ◌∷◌, length, take, sym, ap, ◌∙◌, subst, arith}
use Rattle.std.proofs.lemmas.Grind.{common_steps}
use Rattle.ec_commands.specs.Lines.{without_return, lines_of}
use Rattle.ec_lines.specs.ShownLine.{ShowsLine}
use Rattle.ec_lines.proofs.CutLines.{LineEndAt-found, HasNoLineEnd-not_found}
use Rattle.ec_lines.proofs.SplitLines.{lines_of-first, lines_of-one}
use Rattle.std.proofs.lemmas.List.{take_rest}
use Rattle.ec_lines.proofs.splitting.split_line.Goals as goal

pub returns-in-Some-clause-line : goal.returns-in-Some-clause-line
returns-in-Some-clause-line c =
    let bytes = c.args.bytes.now in
    let at = c.in-Some.at in (
      without_return (take at bytes),
      subst (λ (shown : List ℕ). ShowsLine c.line_of.result shown) c.without_return.ensures c.line_of.ensures,
      lines_of-first (LineEndAt-found bytes at c.in-Some.ensures) ∙ ap (λ (rest : List ℕ). without_return (take at bytes) ∷ lines_of rest) (sym (take_rest bytes (at + 1))),
    )

pub returns-in-None-clause-line : goal.returns-in-None-clause-line
returns-in-None-clause-line c =
    let some : 0 < length c.args.bytes.now = grind (arith, common_steps) in
    (c.args.bytes.now, c.line_of-in-None.ensures, lines_of-one c.args.bytes.now (HasNoLineEnd-not_found c.args.bytes.now c.in-None.ensures) some)
