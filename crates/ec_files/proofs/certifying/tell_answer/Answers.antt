-- The line is the text of the answer.
use Rattle.std.proofs.Common.{◌≡◌, List, ℕ, refl}
use Rattle.ec_files.specs.Answering.{answer_text}
use Rattle.ec_files.proofs.CommandEnds.{line_handed_on}
use Rattle.ec_files.proofs.certifying.tell_answer.Goals as goal

pub returns-in-Ok-clause-says : goal.returns-in-Ok-clause-says
returns-in-Ok-clause-says g c =
    line_handed_on g.K.Sink.stands g.K.Sink.faults c.args.output.now c.hand_on_line.new.output (λ (text : List ℕ). text ≡ answer_text c.args.answer.now) c.write_answer.new.output
    (answer_text c.args.answer.now) c.hand_on_line.result refl c.in-Ok.ensures.written c.hand_on_line.ensures.kept
    c.in-Ok.ensures.quiet c.hand_on_line.ensures.either c.hand_on_line.ensures.quiet

pub returns-in-Err-clause-says : goal.returns-in-Err-clause-says
returns-in-Err-clause-says g c = (c.in-Err.ensures.failed, (answer_text c.args.answer.now, refl, c.in-Err.ensures.part))
