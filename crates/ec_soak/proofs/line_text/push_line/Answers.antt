-- The lamp is added before the time.
use Rattle.std.proofs.Common.{append_assoc, append-nil, arith}
use Rattle.ec_outside.proofs.Texts.{texts}
use Rattle.ec_soak.specs.Load.{line_text}
use Rattle.ec_soak.proofs.line_text.push_line.Goals as goal

pub returns-in-HoldsLit-clause-text : goal.returns-in-HoldsLit-clause-text
unfolding line_text
returns-in-HoldsLit-clause-text c =
    rw (c.push_number-in-HoldsLit-2.ensures.text, c.push_number-in-HoldsLit.ensures.text, c.in-HoldsLit.is) (simp (append_assoc, append-nil))

pub returns-in-Assert-clause-text : goal.returns-in-Assert-clause-text
unfolding line_text
returns-in-Assert-clause-text c = grind (arith, texts)

pub returns-in-HoldsAt-clause-text : goal.returns-in-HoldsAt-clause-text
unfolding line_text
returns-in-HoldsAt-clause-text c = grind (arith, texts)
