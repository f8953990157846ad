-- The run at the front is the number or none is there.
use Rattle.std.proofs.Common.{sym, ◌∙◌}
use Rattle.ec_terms.proofs.Runs.{number_front-some, number_front-none}
use Rattle.ec_terms.proofs.reading.read_int.Goals as goal

pub returns-in_err-number-clause-exact : goal.returns-in_err-number-clause-exact
returns-in_err-number-clause-exact c =
    c.from_residual.ensures ∙ sym (number_front-none _ _ c.number_run_len-count.ensures.run (sym c.in_err-number.ensures.exact))

pub returns-clause-exact : goal.returns-clause-exact
returns-clause-exact c = number_front-some _ _ _ c.number_run_len-count.ensures.run (sym c.in_ok-number.ensures.exact)
