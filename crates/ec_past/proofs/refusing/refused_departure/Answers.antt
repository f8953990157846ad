-- An identity that is absent is told; for one that is present memory may be wanting.
use Rattle.std.proofs.Common.{is_some, refl, sym, ap, ◌∙◌}
use Rattle.ec_axioms.specs.Changes.{has_id}
use Rattle.ec_store.proofs.EventLemmas.{has_id-slot_of}
use Rattle.ec_past.proofs.Refused.{may_want-departure, unknown-first}
use Rattle.ec_past.proofs.refusing.refused_departure.Goals as goal

pub returns-then-is_some : goal.returns-then-is_some
returns-then-is_some g c = λ rest.
    let there = ap (has_id c.args.id) (sym c.store_of.ensures.events) ∙ has_id-slot_of g.T.Moment.rank c.args.id c.store_of.result.now.events ∙ ap is_some (sym c.find.ensures.slot) ∙ sym c.is_some.ensures in
    (may_want-departure c.args.engine.now.theory c.args.engine.now.events c.args.id rest (there ∙ c.if-is_some.true), refl)

pub returns-else-is_some : goal.returns-else-is_some
returns-else-is_some g c = λ rest.
    let there = ap (has_id c.args.id) (sym c.store_of.ensures.events) ∙ has_id-slot_of g.T.Moment.rank c.args.id c.store_of.result.now.events ∙ ap is_some (sym c.find.ensures.slot) ∙ sym c.is_some.ensures in
    (unknown-first c.args.engine.now.theory c.args.engine.now.events c.args.id rest (there ∙ c.if-is_some.false), refl)
