-- An initiation of the property itself breaks it where it is strong.
use Rattle.std.proofs.Common.{rules}
use Rattle.ec_axioms.proofs.currency.makes_change.Goals as goal

pub returns-then-is_strong : goal.returns-then-is_strong
returns-then-is_strong c = search rules
