-- Why the certificate was not read is why the claim has no answer.
use Rattle.std.proofs.Common.{ap}
use Rattle.std.specs.Prelude.{option_map}
use Rattle.std.proofs.lemmas.Result.{IfErr-weaker}
use Rattle.ec_terms.specs.Term.{ground_of}
use Rattle.ec_store.specs.Store.{history_of}
use Rattle.ec_files.specs.ShownShape.{plain_claim}
use Rattle.ec_files.proofs.Claims.{IsReason-certificate}
use Rattle.ec_files.proofs.answering.decide.Goals as goal

pub returns-in-Some-clause-reason : goal.returns-in-Some-clause-reason
returns-in-Some-clause-reason g c =
    IfErr-weaker c.verify_certificate.result _ _
    (λ reason is. IsReason-certificate (g.F.Folder.files c.args.files.now) (record { theory = c.args.file.now.rules; spelt = g.T.Moment.spelt; canon = g.T.Moment.canon })
    (ground_of c.args.claim.now.prop) (g.T.Moment.rank c.args.at) (history_of g.T.Moment.rank c.args.file.now.store.events) (plain_claim c.args.claim.now).certificate c.in-Some.name.now
    (g.F.Folder.faults c.args.files.now) (g.F.Folder.faults c.verify_certificate.new.files) reason (ap (λ (name : _). option_map (λ n. n.now) name) c.in-Some.is) is)
    c.verify_certificate.ensures.reason
