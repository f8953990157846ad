-- Where the sink did not fail, all lines are answered.
use Rattle.ec_commands.specs.Lines.{lines_of}
use Rattle.ec_server.proofs.Endings.{answered_and_handed_on, ending_either, ending_fault}
use Rattle.ec_files.proofs.StatusCodes.{quiet-then, second_of_two}
use Rattle.ec_server.proofs.input.finish.Goals as goal

pub returns-in_default : goal.returns-in_default
returns-in_default g c = record {
  answered = λ taken start at. answered_and_handed_on g.K.Sink.stands (record { theory = c.args.sessions.now.theory; spelt = g.T.Moment.spelt; canon = g.T.Moment.canon }) g.K.Sink.faults c.answer_rest.result c.hand_on.result (lines_of taken) start
      c.answer_rest.new.out c.hand_on.new.out (c.answer_rest.ensures.answered taken start at) c.in_default.not-WriteFault c.hand_on.ensures.kept c.hand_on.ensures.either;
  either = ending_either c.hand_on.result c.hand_on.ensures.either;
  failed = ending_fault c.hand_on.result c.answer_rest.ensures.counted c.hand_on.ensures.either;
  quiet = quiet-then (second_of_two c.answer_rest.ensures.quiet c.in_default.not-WriteFault) c.hand_on.ensures.quiet;
  handed_on = c.hand_on.ensures.handed_on;
}
