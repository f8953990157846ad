-- The count tells whether a reply lists so many pairs.
use Rattle.std.proofs.Common.{◌≤◌, subst}
use Rattle.ec_terms.specs.Term.{ground_of}
use Rattle.ec_commands.specs.declared.limits.TheConstants.{MOST_PAIRS}
use Rattle.ec_query.proofs.WritingLemmas.{OnErr-renamed, OnOk-renamed}
use Rattle.ec_sessions.proofs.Comparisons.{pairs_reply-few, pairs_reply-many}
use Rattle.ec_sessions.proofs.compared.write_few_pairs.Goals as goal

pub returns-in-Some-clause-written : goal.returns-in-Some-clause-written
returns-in-Some-clause-written g c =
    let theory = c.args.engine.now.theory in
    let events = c.args.engine.now.events in
    let count = c.in-Some.ensures.count theory events c.held.ensures.held in
    OnOk-renamed g.K.Sink.stands c.args.out.now c.write_pairs.new.out c.write_pairs.result
    (pairs_reply-few theory events g.T.Moment.canon (ground_of c.args.left.now) c.args.relation (ground_of c.args.right.now) (subst (λ n. n ≤ MOST_PAIRS) count c.in-Some.ensures.few))
    (c.write_pairs.ensures.written theory events c.held-in-Some.ensures.held count)

pub returns-in-Some-clause-part : goal.returns-in-Some-clause-part
returns-in-Some-clause-part g c =
    let theory = c.args.engine.now.theory in
    let events = c.args.engine.now.events in
    let count = c.in-Some.ensures.count theory events c.held.ensures.held in
    OnErr-renamed g.K.Sink.stands c.args.out.now c.write_pairs.new.out c.write_pairs.result
    (pairs_reply-few theory events g.T.Moment.canon (ground_of c.args.left.now) c.args.relation (ground_of c.args.right.now) (subst (λ n. n ≤ MOST_PAIRS) count c.in-Some.ensures.few))
    (c.write_pairs.ensures.part theory events c.held-in-Some.ensures.held count)

pub returns-in-None-clause-written : goal.returns-in-None-clause-written
returns-in-None-clause-written g c =
    let theory = c.args.engine.now.theory in
    let events = c.args.engine.now.events in
    OnOk-renamed g.K.Sink.stands c.args.out.now c.write_text.new.out c.write_text.result
    (pairs_reply-many theory events g.T.Moment.canon (ground_of c.args.left.now) c.args.relation (ground_of c.args.right.now) (c.in-None.ensures.many theory events c.held.ensures.held))
    c.write_text.ensures.written

pub returns-in-None-clause-part : goal.returns-in-None-clause-part
returns-in-None-clause-part g c =
    let theory = c.args.engine.now.theory in
    let events = c.args.engine.now.events in
    OnErr-renamed g.K.Sink.stands c.args.out.now c.write_text.new.out c.write_text.result
    (pairs_reply-many theory events g.T.Moment.canon (ground_of c.args.left.now) c.args.relation (ground_of c.args.right.now) (c.in-None.ensures.many theory events c.held.ensures.held))
    c.write_text.ensures.part
