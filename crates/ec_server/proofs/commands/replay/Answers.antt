-- The lines of a file are served with the theory that was loaded; where there is none, this is said.
use Rattle.std.proofs.Common.{inl, inr}
use Rattle.ec_server.proofs.LineFiles.{SaysReplayed-earlier}
use Rattle.ec_files.proofs.TheoryTexts.{SaysRefused-of, refused_told}
use Rattle.ec_files.proofs.StatusCodes.{quiet-then, second_of_two}
use Rattle.ec_server.proofs.commands.replay.Goals as goal

pub returns-in-Ok-clause-replayed : goal.returns-in-Ok-clause-replayed
returns-in-Ok-clause-replayed g c = record {
  says = inl (
    c.in-Ok.checked,
    c.in-Ok.ensures.theory,
    SaysReplayed-earlier g.K.Sink.stands g.K.Sink.faults c.args.lines.now _ c.args.output.now c.replay_with.new.output c.in-Ok.checked c.replay_with.result
        (g.F.Folder.files c.args.files.now) (g.F.Folder.files c.load.new.files) (g.F.Folder.faults c.args.files.now) (g.F.Folder.faults c.load.new.files)
        c.load.ensures.unchanged c.load.ensures.counted c.replay_with.ensures.says,
  );
  files_told = quiet-then (second_of_two c.in-Ok.ensures.quiet (λ broken. cc)) c.replay_with.ensures.files_told;
}

pub returns-in-Err-clause-replayed : goal.returns-in-Err-clause-replayed
returns-in-Err-clause-replayed g c = record {
  says = inr (
    SaysRefused-of g.K.Sink.stands g.K.Sink.faults (g.F.Folder.files c.args.files.now) c.args.theory.now (g.F.Folder.faults c.args.files.now) _ c.args.output.now c.refuse.new.output
        c.in-Err.reason c.refuse.result c.in-Err.ensures.reason c.refuse.ensures.refusal,
    tt,
  );
  files_told = refused_told g.K.Sink.stands g.K.Sink.faults (g.F.Folder.faults c.args.files.now) _ c.args.output.now c.refuse.new.output c.in-Err.reason c.refuse.result c.in-Err.ensures.quiet c.refuse.ensures.refusal;
}
