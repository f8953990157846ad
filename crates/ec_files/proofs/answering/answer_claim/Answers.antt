-- Why the event file or the certificate was not read is why the claim has no answer.
use Rattle.std.proofs.Common.{◌∙◌, IfErr, subst, refl}
use Rattle.std.proofs.lemmas.Result.{IfErr-weaker}
use Rattle.ec_replies.specs.Replies.{Language}
use Rattle.ec_terms.specs.declared.theory.Theory.{Theory}
use Rattle.ec_store.specs.Store.{history_of}
use Rattle.ec_files.specs.Answering.{IsReason}
use Rattle.ec_files.specs.Claims.{claim_outcome, decided, outcome_at}
use Rattle.ec_files.specs.ShownShape.{plain_claim}
use Rattle.ec_files.proofs.Claims.{IsReason-same, outcome-read, outcome-spelt}
use Rattle.ec_files.proofs.StatusCodes.{counted-same, quiet-then, second_of_two}
use Rattle.ec_files.proofs.answering.answer_claim.Goals as goal

pub returns-in-Err-clause-reason : goal.returns-in-Err-clause-reason
returns-in-Err-clause-reason g c =
    let language : Language = record { theory = c.args.checked; spelt = g.T.Moment.spelt; canon = g.T.Moment.canon } in
    let claim = plain_claim c.args.claim.now in
    let told = g.F.Folder.files c.args.files.now in
    IsReason-same (claim_outcome language claim) (outcome_at language claim (g.T.Moment.rank c.args.at)) (g.F.Folder.faults c.args.files.now) (g.F.Folder.faults c.args.files.now)
    (g.F.Folder.faults c.read_claimed.new.files) c.in-Err.reason refl (counted-same {after = g.F.Folder.faults c.args.files.now} refl)
    (λ files is. outcome-spelt language claim (g.T.Moment.rank c.args.at) c.requires.spelt files) (c.in-Err.ensures.reason (g.T.Moment.rank c.args.at))

pub returns-clause-reason : goal.returns-clause-reason
returns-clause-reason g c =
    let language : Language = record { theory = c.args.checked; spelt = g.T.Moment.spelt; canon = g.T.Moment.canon } in
    let claim = plain_claim c.args.claim.now in
    let told = g.F.Folder.files c.args.files.now in
    let t = g.T.Moment.rank c.args.at in
    let events = history_of g.T.Moment.rank c.in-Ok.file.store.events in
    IfErr-weaker c.decide.result _ _
    (λ reason is. IsReason-same (claim_outcome language claim) (λ files. decided language claim.prop t events files claim.certificate) (g.F.Folder.faults c.args.files.now)
    (g.F.Folder.faults c.read_claimed.new.files) (g.F.Folder.faults c.decide.new.files) reason c.read_claimed.ensures.unchanged c.read_claimed.ensures.counted
    (λ files told_is. outcome-spelt language claim t c.requires.spelt files ∙ outcome-read told language claim t events c.in-Ok.ensures.events files told_is) is)
    (subst (λ (theory : Theory). IfErr c.decide.result (IsReason (g.F.Folder.files c.read_claimed.new.files)
    (λ files. decided (record { theory = theory; spelt = g.T.Moment.spelt; canon = g.T.Moment.canon }) claim.prop t events files claim.certificate)
    (g.F.Folder.faults c.read_claimed.new.files) (g.F.Folder.faults c.decide.new.files))) c.in-Ok.ensures.theory c.decide.ensures.reason)

pub returns-clause-quiet : goal.returns-clause-quiet
returns-clause-quiet g c = quiet-then (second_of_two c.in-Ok.ensures.quiet (λ broken. cc)) c.decide.ensures.quiet
