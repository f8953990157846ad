-- The engine takes the event, and the journal its record.
use Rattle.std.specs.Global.{Box}
use Rattle.std.specs.Prelude.{option_map}
use Rattle.std.proofs.Common.{[], ◌∷◌, ap, ◌∙◌, subst, ◌≡◌, ◌-◌, length}
use Rattle.ec_terms.specs.Term.{ground_of}
use Rattle.ec_axioms.specs.Calculus.{PlainEvent}
use Rattle.ec_axioms.specs.Changes.{asserting}
use Rattle.ec_past.specs.Chronicles.{IsPastAfter, PlainChronicle, journal_after}
use Rattle.ec_past.specs.Journals.{PlainJournal, past_of}
use Rattle.ec_past.specs.Viewing.{PlainView, still_kept}
use Rattle.ec_past.specs.Logged.{plain_records}
use Rattle.ec_past.proofs.Kept.{AreRecordsOf-assert, IsPastAfter-settled, IsViewing-settled, viewed-settled}
use Rattle.ec_past.proofs.chronicle.Chronicle.assert.Goals as goal

pub invariant_of-self : goal.invariant_of-self
invariant_of-self g c =
    let rank = g.T.Moment.rank in
    let engine = c.self.inside.engine in
    let event : PlainEvent = record { id = c.args.id; rank = rank c.args.at; term = ground_of c.args.event.now } in
    let records = plain_records rank c.in-Ok.records in
    let settled = c.settle_made.ensures ∙ ap (journal_after records c.assert-made.result) c.deref_mut.ensures.value in
    let counted = c.first.ensures ∙ ap (λ (j : PlainJournal). j.count - length j.kept) c.deref-2.ensures in
    IsViewing-settled (λ (v : Box PlainView). v.value) engine.theory c.assert-made.new.self.theory engine.events c.assert-made.new.self.events (asserting event ∷ []) records c.self.inside.journal.value c.settle_made.new.journal c.assert-made.result
    c.self.inside.viewed c.drop_gone.new.viewed c.first.result c.assert-made.ensures.theory settled counted c.drop_gone.ensures c.self.invariant (λ after. AreRecordsOf-assert engine.theory engine.events after event records c.in-Ok.ensures.records) c.assert-made.ensures.revised

pub returns-clause-past : goal.returns-clause-past
returns-clause-past g c =
    let rank = g.T.Moment.rank in
    let engine = c.self.inside.engine in
    let event : PlainEvent = record { id = c.args.id; rank = rank c.args.at; term = ground_of c.args.event.now } in
    let records = plain_records rank c.in-Ok.records in
    let settled = c.settle_made.ensures ∙ ap (journal_after records c.assert-made.result) c.deref_mut.ensures.value in
    subst (λ (s : PlainChronicle). IsPastAfter 1 s.events s.past c.assert-made.result (past_of c.assert-made.new.self.events c.settle_made.new.journal)) c.self.view_is
    (IsPastAfter-settled engine.theory engine.events c.assert-made.new.self.events (asserting event ∷ []) records c.self.inside.journal.value c.settle_made.new.journal c.assert-made.result
    settled c.self.invariant.chronicle (λ after. AreRecordsOf-assert engine.theory engine.events after event records c.in-Ok.ensures.records) c.assert-made.ensures.revised)

pub returns-clause-viewed : goal.returns-clause-viewed
returns-clause-viewed g c =
    let settled = c.settle_made.new.journal in
    let counted = c.first.ensures ∙ ap (λ (j : PlainJournal). j.count - length j.kept) c.deref-2.ensures in
    subst (λ (s : PlainChronicle). option_map (λ (v : Box PlainView). v.value.at) c.drop_gone.new.viewed ≡ still_kept (past_of c.assert-made.new.self.events settled) s.viewed) c.self.view_is
    (viewed-settled (λ (v : Box PlainView). v.value.at) c.assert-made.new.self.events settled c.self.inside.viewed c.drop_gone.new.viewed c.first.result counted c.drop_gone.ensures)
