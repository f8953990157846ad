use Rattle.ec_theory.specs.Reader.{left_of}
use Rattle.ec_lists.proofs.Options.{IfNone-from}
use Rattle.ec_theory.proofs.NextTokens.{no_time_kind}
use Rattle.ec_theory.proofs.cursor.Cursor.time_kind.Goals as goal

pub returns-in_err-text-clause-none : goal.returns-in_err-text-clause-none
returns-in_err-text-clause-none c = IfNone-from _ _ (no_time_kind (left_of c.args.self) c.in_err-text.ensures.none)
