-- What was written is a first part of the line.
use Rattle.std.proofs.Common.{◌∷◌, []}
use Rattle.std.proofs.lemmas.Result.{on_err_weaker}
use Rattle.ec_lists.proofs.Results.{OnErr-anyway}
use Rattle.ec_commands.specs.Lines.{line_feed}
use Rattle.ec_outside.proofs.Streams.{Appended-then, Appended-then-part, AppendedPart-longer}
use Rattle.ec_sessions.proofs.compared.write_line.Goals as goal

pub returns-in_err-write_comparison-clause-part : goal.returns-in_err-write_comparison-clause-part
returns-in_err-write_comparison-clause-part g c =
    OnErr-anyway c.from_residual-in_err-write_comparison.result
    (AppendedPart-longer (Appended-then-part c.in_ok-write_front.ensures.written c.in_err-write_comparison.ensures.part) (line_feed ∷ []))

pub returns-clause-part : goal.returns-clause-part
returns-clause-part g c =
    on_err_weaker c.write_all.result (λ part. Appended-then-part (Appended-then c.in_ok-write_front.ensures.written c.in_ok-write_comparison.ensures.written) part) c.write_all.ensures.part
