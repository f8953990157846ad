-- The label is written where the property holds.
use Rattle.std.proofs.Common.{◌∙◌}
use Rattle.ec_terms.specs.Term.{ground_of}
use Rattle.ec_store.specs.Store.{history_of}
use Rattle.ec_cert.proofs.ProofTexts.{proof_text-no, proof_text-yes}
use Rattle.ec_cert.proofs.proving.prove.Goals as goal

pub returns-then-finding : goal.returns-then-finding
returns-then-finding g c =
    c.in_ok-finding.ensures.label
    ∙ proof_text-yes c.args.file.now.rules (history_of g.T.Moment.rank c.args.file.now.store.events) g.T.Moment.canon (ground_of c.args.p.now) (g.T.Moment.rank c.args.at)
    c.in_ok-finding.finding.holds c.in_ok-finding.ensures.holds c.if-finding.true

pub returns : goal.returns
returns g c =
    c.in_ok-from_slice.ensures.items ∙ c.as_bytes.ensures.value
    ∙ proof_text-no c.args.file.now.rules (history_of g.T.Moment.rank c.args.file.now.store.events) g.T.Moment.canon (ground_of c.args.p.now) (g.T.Moment.rank c.args.at)
    c.in_ok-finding.finding.holds c.in_ok-finding.ensures.holds c.if-finding.false
