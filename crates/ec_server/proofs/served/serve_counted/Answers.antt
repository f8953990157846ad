-- What the ending of the serving says is what the status says.
use Rattle.std.proofs.Common.{IsTrue, sym, subst, ◌∙◌}
use Rattle.ec_terms.specs.declared.theory.Theory.{Theory}
use Rattle.ec_files.specs.declared.status.Status.{Status}
use Rattle.ec_server.specs.Ending.{IsEnding, SaysServed}
use Rattle.ec_files.specs.ExitStatus.{hands_on}
use Rattle.ec_server.proofs.Endings.{SaysServed-of}
use Rattle.ec_server.proofs.EndingStatuses.{hands_on-ending, write_fault-ending}
use Rattle.ec_server.proofs.served.serve_counted.Goals as goal

pub returns-clause-handed_on : goal.returns-clause-handed_on
returns-clause-handed_on g c = λ on. hands_on-ending c.serve_input.result (g.K.Sink.waiting c.serve_input.new.output) c.serve_input.ensures.handed_on (subst (λ (s : Status). IsTrue (hands_on s)) c.status.ensures on)

pub returns-clause-served : goal.returns-clause-served
returns-clause-served g c =
    let ending = c.serve_input.ensures.ending in
    subst (λ (s : Status). SaysServed g.S.Source.left g.S.Source.faults g.K.Sink.stands g.K.Sink.faults (record { theory = c.args.checked; spelt = g.T.Moment.spelt; canon = g.T.Moment.canon }) c.args.limit c.args.input.now c.serve_input.new.input c.args.output.now c.serve_input.new.output s) (sym c.status.ensures)
    (SaysServed-of g.S.Source.left g.S.Source.faults g.K.Sink.stands g.K.Sink.faults (record { theory = c.args.checked; spelt = g.T.Moment.spelt; canon = g.T.Moment.canon }) c.args.limit c.args.input.now c.serve_input.new.input c.args.output.now c.serve_input.new.output c.serve_input.result (record {
      taken = ending.0;
      took = ending.1;
      ended = subst (λ (theory : Theory). IsEnding g.K.Sink.stands (record { theory = theory; spelt = g.T.Moment.spelt; canon = g.T.Moment.canon }) c.serve_input.result c.args.limit (g.S.Source.left c.serve_input.new.input) ending.0 c.args.output.now c.serve_input.new.output) c.in-Ok-made.ensures.theory ending.2;
      read_fault = c.serve_input.ensures.read_fault;
      write_fault = c.serve_input.ensures.write_fault;
      read_told = c.serve_input.ensures.read_told;
      write_told = c.serve_input.ensures.write_told;
    }))

pub returns-clause-read_first : goal.returns-clause-read_first
returns-clause-read_first g c = λ fault. c.serve_input.ensures.read_first (write_fault-ending c.serve_input.result (sym c.status.ensures ∙ fault))
