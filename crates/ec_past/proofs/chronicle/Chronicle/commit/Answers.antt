-- The engine takes the batch, and the journal its records.
use Rattle.std.specs.Global.{Box}
use Rattle.std.specs.Prelude.{option_map}
use Rattle.std.proofs.Common.{map, ap, ◌∙◌, subst, ◌≡◌, ◌-◌, length}
use Rattle.ec_axioms.specs.Events.{plain_update}
use Rattle.ec_replies.specs.Past.{commit_weight}
use Rattle.ec_past.specs.Chronicles.{IsPastAfter, PlainChronicle, journal_after}
use Rattle.ec_past.specs.Journals.{PlainJournal, past_of}
use Rattle.ec_past.specs.Viewing.{PlainView, still_kept}
use Rattle.ec_past.specs.Logged.{plain_records}
use Rattle.ec_past.proofs.Kept.{IsPastAfter-settled, IsViewing-settled, viewed-settled}
use Rattle.ec_past.proofs.chronicle.Chronicle.commit.Goals as goal

pub invariant_of-self : goal.invariant_of-self
invariant_of-self g c =
    let rank = g.T.Moment.rank in
    let engine = c.self.inside.engine in
    let updates = map (plain_update rank) c.args.batch.now in
    let records = plain_records rank c.in-Ok.records in
    let settled = c.settle_made.ensures ∙ ap (journal_after records c.revise-made.result) c.deref_mut.ensures.value in
    let counted = c.first.ensures ∙ ap (λ (j : PlainJournal). j.count - length j.kept) c.deref-2.ensures in
    IsViewing-settled (λ (v : Box PlainView). v.value) engine.theory c.revise-made.new.self.theory engine.events c.revise-made.new.self.events updates records c.self.inside.journal.value c.settle_made.new.journal c.revise-made.result
    c.self.inside.viewed c.drop_gone.new.viewed c.first.result c.revise-made.ensures.theory settled counted c.drop_gone.ensures c.self.invariant c.in-Ok.ensures.records c.revise-made.ensures.revised

pub returns-clause-past : goal.returns-clause-past
returns-clause-past g c =
    let rank = g.T.Moment.rank in
    let engine = c.self.inside.engine in
    let updates = map (plain_update rank) c.args.batch.now in
    let records = plain_records rank c.in-Ok.records in
    let settled = c.settle_made.ensures ∙ ap (journal_after records c.revise-made.result) c.deref_mut.ensures.value in
    subst (λ (s : PlainChronicle). IsPastAfter (commit_weight updates) s.events s.past c.revise-made.result (past_of c.revise-made.new.self.events c.settle_made.new.journal)) c.self.view_is
    (IsPastAfter-settled engine.theory engine.events c.revise-made.new.self.events updates records c.self.inside.journal.value c.settle_made.new.journal c.revise-made.result
    settled c.self.invariant.chronicle c.in-Ok.ensures.records c.revise-made.ensures.revised)

pub returns-clause-viewed : goal.returns-clause-viewed
returns-clause-viewed g c =
    let settled = c.settle_made.new.journal in
    let counted = c.first.ensures ∙ ap (λ (j : PlainJournal). j.count - length j.kept) c.deref-2.ensures in
    subst (λ (s : PlainChronicle). option_map (λ (v : Box PlainView). v.value.at) c.drop_gone.new.viewed ≡ still_kept (past_of c.revise-made.new.self.events settled) s.viewed) c.self.view_is
    (viewed-settled (λ (v : Box PlainView). v.value.at) c.revise-made.new.self.events settled c.self.inside.viewed c.drop_gone.new.viewed c.first.result counted c.drop_gone.ensures)
