-- Each comparison is answered by its text.
use Rattle.std.proofs.Common.{ℕ, List, OnOk, OnErr, sym, ap, subst}
use Rattle.ec_outside.specs.Streams.{Appended, AppendedPart}
use Rattle.ec_sessions.specs.declared.told.Comparison.{Comparison}
use Rattle.ec_sessions.specs.Answering.{comparison_text}
use Rattle.ec_sessions.proofs.compared.write_comparison.Goals as goal

pub returns-in-Pairs-clause-written : goal.returns-in-Pairs-clause-written
returns-in-Pairs-clause-written g c =
    let theory = c.args.engine.now.theory in
    let events = c.args.engine.now.events in
    let asked = ap (λ (k : Comparison g.row.T.Denot). comparison_text g.T.Moment.rank theory events g.T.Moment.canon k) c.in-Pairs.is in
    subst (λ (text : List ℕ). OnOk c.write_few_pairs.result (Appended g.K.Sink.stands c.args.out.now c.write_few_pairs.new.out text)) (sym asked) c.write_few_pairs.ensures.written

pub returns-in-Pairs-clause-part : goal.returns-in-Pairs-clause-part
returns-in-Pairs-clause-part g c =
    let theory = c.args.engine.now.theory in
    let events = c.args.engine.now.events in
    let asked = ap (λ (k : Comparison g.row.T.Denot). comparison_text g.T.Moment.rank theory events g.T.Moment.canon k) c.in-Pairs.is in
    subst (λ (text : List ℕ). OnErr c.write_few_pairs.result (AppendedPart g.K.Sink.stands c.args.out.now c.write_few_pairs.new.out text)) (sym asked) c.write_few_pairs.ensures.part

pub returns-in-Related-clause-written : goal.returns-in-Related-clause-written
returns-in-Related-clause-written g c =
    let theory = c.args.engine.now.theory in
    let events = c.args.engine.now.events in
    let asked = ap (λ (k : Comparison g.row.T.Denot). comparison_text g.T.Moment.rank theory events g.T.Moment.canon k) c.in-Related.is in
    subst (λ (text : List ℕ). OnOk c.write_related.result (Appended g.K.Sink.stands c.args.out.now c.write_related.new.out text)) (sym asked) (c.write_related.ensures.written theory events c.held.ensures.held)

pub returns-in-Related-clause-part : goal.returns-in-Related-clause-part
returns-in-Related-clause-part g c =
    let theory = c.args.engine.now.theory in
    let events = c.args.engine.now.events in
    let asked = ap (λ (k : Comparison g.row.T.Denot). comparison_text g.T.Moment.rank theory events g.T.Moment.canon k) c.in-Related.is in
    subst (λ (text : List ℕ). OnErr c.write_related.result (AppendedPart g.K.Sink.stands c.args.out.now c.write_related.new.out text)) (sym asked) (c.write_related.ensures.part theory events c.held.ensures.held)
