-- Why there is no answer is told by the status.
use Rattle.std.proofs.Common.{inr}
use Rattle.ec_files.specs.ShownShape.{plain_claim}
use Rattle.ec_files.proofs.Certified.{SaysUnanswered-of}
use Rattle.ec_files.proofs.certifying.certify_in.Goals as goal

pub returns-clause-says : goal.returns-clause-says
returns-clause-says g c =
    inr (SaysUnanswered-of g.K.Sink.stands g.K.Sink.faults (g.F.Folder.files c.args.files.now) (record { theory = c.args.checked; spelt = g.T.Moment.spelt; canon = g.T.Moment.canon })
    (plain_claim c.args.claim.now) (g.F.Folder.faults c.args.files.now) (g.F.Folder.faults c.answer_claim.new.files) c.args.output.now c.tell_reason.new.output
    c.in-Err.reason c.tell_reason.result c.in-Err.ensures.reason c.tell_reason.ensures.told)
