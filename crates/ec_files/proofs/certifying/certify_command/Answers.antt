-- The claim is decided by the theory that was loaded; where there is none, this is said.
use Rattle.std.proofs.Common.{inl, inr}
use Rattle.ec_files.specs.Languages.{language_of}
use Rattle.ec_files.specs.ShownShape.{plain_claim}
use Rattle.ec_files.proofs.Certified.{SaysCertified-earlier}
use Rattle.ec_files.proofs.TheoryTexts.{SaysRefused-of, refused_told}
use Rattle.ec_files.proofs.StatusCodes.{quiet-then, second_of_two}
use Rattle.ec_files.proofs.certifying.certify_command.Goals as goal

pub returns-in-Ok-clause-certified : goal.returns-in-Ok-clause-certified
returns-in-Ok-clause-certified g c = record {
  says = inl (
    c.in-Ok.checked,
    c.in-Ok.ensures.theory,
    SaysCertified-earlier g.K.Sink.stands g.K.Sink.faults (language_of c.in-Ok.checked) (plain_claim c.args.claim.now) _ c.args.output.now c.certify.new.output c.certify.result
        (g.F.Folder.files c.args.files.now) (g.F.Folder.files c.load.new.files) (g.F.Folder.faults c.args.files.now) (g.F.Folder.faults c.load.new.files)
        c.load.ensures.unchanged c.load.ensures.counted c.certify.ensures.says,
  );
  files_told = quiet-then (second_of_two c.in-Ok.ensures.quiet (λ broken. cc)) c.certify.ensures.files_told;
}

pub returns-in-Err-clause-certified : goal.returns-in-Err-clause-certified
returns-in-Err-clause-certified g c = record {
  says = inr (
    SaysRefused-of g.K.Sink.stands g.K.Sink.faults (g.F.Folder.files c.args.files.now) c.args.claim.now.theory.now (g.F.Folder.faults c.args.files.now) _ c.args.output.now c.refuse.new.output
        c.in-Err.reason c.refuse.result c.in-Err.ensures.reason c.refuse.ensures.refusal,
    tt,
  );
  files_told = refused_told g.K.Sink.stands g.K.Sink.faults (g.F.Folder.faults c.args.files.now) _ c.args.output.now c.refuse.new.output c.in-Err.reason c.refuse.result c.in-Err.ensures.quiet c.refuse.ensures.refusal;
}
