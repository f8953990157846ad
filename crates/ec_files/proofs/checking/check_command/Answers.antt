-- The theory that was loaded is told as accepted; where there is none, this is said.
use Rattle.std.proofs.Common.{inl, inr, subst}
use Rattle.ec_terms.specs.declared.theory.Theory.{Theory}
use Rattle.ec_files.specs.CommandEnds.{SaysAccepted}
use Rattle.ec_files.proofs.TheoryTexts.{SaysRefused-of, refused_told}
use Rattle.ec_files.proofs.StatusCodes.{second_of_two}
use Rattle.ec_files.proofs.checking.check_command.Goals as goal

pub returns-in-Ok-clause-checked : goal.returns-in-Ok-clause-checked
returns-in-Ok-clause-checked g c = record {
  says = inl (
    c.in-Ok.checked,
    c.in-Ok.ensures.theory,
    subst (λ (theory : Theory). SaysAccepted g.K.Sink.stands g.K.Sink.faults c.args.output.now c.tell_accepted.new.output theory c.tell_accepted.result) c.theory.ensures.theory c.tell_accepted.ensures.accepted,
  );
  files_told = inr (second_of_two c.in-Ok.ensures.quiet (λ broken. cc));
}

pub returns-in-Err-clause-checked : goal.returns-in-Err-clause-checked
returns-in-Err-clause-checked g c = record {
  says = inr (
    SaysRefused-of g.K.Sink.stands g.K.Sink.faults (g.F.Folder.files c.args.files.now) c.args.theory.now (g.F.Folder.faults c.args.files.now) _ c.args.output.now c.refuse.new.output
        c.in-Err.reason c.refuse.result c.in-Err.ensures.reason c.refuse.ensures.refusal,
    tt,
  );
  files_told = refused_told g.K.Sink.stands g.K.Sink.faults (g.F.Folder.faults c.args.files.now) _ c.args.output.now c.refuse.new.output c.in-Err.reason c.refuse.result c.in-Err.ensures.quiet c.refuse.ensures.refusal;
}
