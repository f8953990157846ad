use Rattle.std.proofs.Common.{sym, ◌∙◌}
use Rattle.std.proofs.lemmas.Bool.{false≢true}
use Rattle.ec_lines.proofs.CutLines.{without_return-take, without_return-same}
use Rattle.ec_lines.proofs.splitting.without_return.Goals as goal

pub returns-then-ends_with_return : goal.returns-then-ends_with_return
returns-then-ends_with_return c =
    let ends = c.ends_with_return.ensures.0 c.if-ends_with_return.true in
    sym (without_return-take c.args.bytes.now ends.0 ends.1)

pub returns-else-ends_with_return : goal.returns-else-ends_with_return
returns-else-ends_with_return c =
    sym (without_return-same c.args.bytes.now (λ some ends. absurd (false≢true (sym c.if-ends_with_return.false ∙ c.ends_with_return.ensures.1 (some, ends)))))
