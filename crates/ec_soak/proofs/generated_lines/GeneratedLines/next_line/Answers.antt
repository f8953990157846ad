use Rattle.std.proofs.Common.{◌∙◌, ◌<◌, sym, arith}
use Rattle.ec_soak.proofs.Loads.{drawn_lines-none, drawn_lines-next}
use Rattle.ec_soak.proofs.generated_lines.GeneratedLines.next_line.Goals as goal

pub returns-then-self-clause-none : goal.returns-then-self-clause-none
returns-then-self-clause-none c =
    sym c.self.view_is ∙ drawn_lines-none c.self.inside.lines c.self.inside.made c.self.inside.draws c.if-self.true

pub returns-clause-next : goal.returns-clause-next
returns-clause-next c =
    let more : c.self.inside.made < c.self.inside.lines = omega (arith, c.self.invariant) in
    rw (c.draw_line.ensures.line, c.draw_line.ensures.state)
    (sym c.self.view_is ∙ drawn_lines-next c.self.inside.lines c.self.inside.made c.self.inside.draws more)
