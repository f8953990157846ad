-- An input is served with the theory that was loaded; where there is none, this is said.
use Rattle.std.proofs.Common.{inl, inr, refl}
use Rattle.ec_files.proofs.TheoryTexts.{SaysRefused-of, refused_told}
use Rattle.ec_files.proofs.StatusCodes.{second_of_two}
use Rattle.ec_server.proofs.commands.serve_command.Goals as goal

pub returns-in-Ok-clause-served : goal.returns-in-Ok-clause-served
returns-in-Ok-clause-served g c = record {
  says = inl (c.in-Ok.checked, c.in-Ok.ensures.theory, c.serve.ensures.served);
  files_told = inr (second_of_two c.in-Ok.ensures.quiet (λ broken. cc));
}

pub returns-in-Err-clause-served : goal.returns-in-Err-clause-served
returns-in-Err-clause-served g c = record {
  says = inr (
    SaysRefused-of g.K.Sink.stands g.K.Sink.faults (g.F.Folder.files c.args.files.now) c.args.theory.now (g.F.Folder.faults c.args.files.now) _ c.args.output.now c.refuse.new.output
        c.in-Err.reason c.refuse.result c.in-Err.ensures.reason c.refuse.ensures.refusal,
    refl,
  );
  files_told = refused_told g.K.Sink.stands g.K.Sink.faults (g.F.Folder.faults c.args.files.now) _ c.args.output.now c.refuse.new.output c.in-Err.reason c.refuse.result c.in-Err.ensures.quiet c.refuse.ensures.refusal;
}
