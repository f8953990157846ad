-- A `-` in front belongs to the run.
use Rattle.std.proofs.Common.{sym, ap, ◌∙◌, length}
use Rattle.std.proofs.lemmas.List.{take_rest}
use Rattle.ec_terms.specs.Front.{digit_run}
use Rattle.ec_terms.proofs.Runs.{length-number_run-minus}
use Rattle.ec_terms.proofs.reading.number_run_len.Goals as goal

pub returns-in-Some-eq45-clause-run : goal.returns-in-Some-eq45-clause-run
returns-in-Some-eq45-clause-run c =
    length-number_run-minus c.args.bytes.now _ (c.in-Some-eq45.ensures.item.3.0) (sym (c.in-Some-eq45.ensures.item.3.1 0) ∙ c.in-Some-eq45.field-0-test)
    (c.digit_run_len.ensures.run ∙ ap (λ xs. length (digit_run xs)) (take_rest c.args.bytes.now 1))
