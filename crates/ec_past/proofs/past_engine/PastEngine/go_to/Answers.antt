-- The way is accepted, and leads to the list that was asked for.
use Rattle.std.proofs.Common.{Err, map, sym, ap, subst, ◌∙◌, arith}
use Rattle.ec_axioms.specs.Events.{plain_update}
use Rattle.ec_batch.specs.declared.refusal.Refusal.{Refusal}
use Rattle.ec_engine.specs.Revise.{IsRevised}
use Rattle.ec_past.specs.Journals.{past_of}
use Rattle.ec_past.specs.Viewing.{IsViewOf, PlainView, steps_on_the_way}
use Rattle.ec_past.proofs.ViewLemmas.{IsViewOf-gone, from_kept, most_steps-way, way-never, within-otherwise}
use Rattle.ec_past.proofs.past_engine.PastEngine.go_to.Goals as goal

pub way-requires-clause-from_kept : goal.way-requires-clause-from_kept
way-requires-clause-from_kept g c =
    let theory = c.args.present.now.theory in
    let events = c.args.present.now.events in
    let journal = c.args.journal.now in
    let here : PlainView = record { at = c.self.inside.at; standing = c.self.inside.engine } in
    let viewed = subst (λ (v : PlainView). IsViewOf theory events (past_of events journal) v) (sym c.self.view_is) c.requires.viewed in
    from_kept theory events journal c.requires.led here viewed c.args.k c.requires.kept c.requires.past

pub returns-in-Ok-clause-viewed : goal.returns-in-Ok-clause-viewed
returns-in-Ok-clause-viewed g c =
    let theory = c.args.present.now.theory in
    let events = c.args.present.now.events in
    let journal = c.args.journal.now in
    let here : PlainView = record { at = c.self.inside.at; standing = c.self.inside.engine } in
    let viewed = subst (λ (v : PlainView). IsViewOf theory events (past_of events journal) v) (sym c.self.view_is) c.requires.viewed in
    let updates = map (plain_update g.T.Moment.rank) c.as_slice.result.now in
    let is = ap (map (plain_update g.T.Moment.rank)) c.as_slice.ensures ∙ c.in_ok-way.ensures.way in
    IsViewOf-gone theory events journal c.requires.led here viewed c.args.k c.requires.kept c.requires.past updates is c.revise.new.self c.revise.ensures.theory c.in-Ok.ensures.revised.0

pub returns-in-Ok-clause-steps : goal.returns-in-Ok-clause-steps
returns-in-Ok-clause-steps g c =
    let theory = c.args.present.now.theory in
    let events = c.args.present.now.events in
    let journal = c.args.journal.now in
    let here : PlainView = record { at = c.self.inside.at; standing = c.self.inside.engine } in
    let viewed = subst (λ (v : PlainView). IsViewOf theory events (past_of events journal) v) (sym c.self.view_is) c.requires.viewed in
    let updates = map (plain_update g.T.Moment.rank) c.as_slice.result.now in
    let is = ap (map (plain_update g.T.Moment.rank)) c.as_slice.ensures ∙ c.in_ok-way.ensures.way in
    let few = most_steps-way theory events journal c.requires.led here viewed c.args.k c.requires.kept c.requires.past updates is in
    within-otherwise c.args.self.now.at c.args.k c.revise.new.steps c.args.steps.now (steps_on_the_way theory events (past_of events journal) c.args.self.now.at c.args.k)
    (λ same. omega (arith, same, c.if-self-k.false, ap (λ (v : PlainView). v.at) c.self.view_is))
    (omega (arith, few, c.revise.ensures.steps, ap (λ (v : PlainView). steps_on_the_way theory events (past_of events journal) v.at c.args.k) c.self.view_is))

pub returns-in-Err-Memory-clause-steps : goal.returns-in-Err-Memory-clause-steps
returns-in-Err-Memory-clause-steps g c =
    let theory = c.args.present.now.theory in
    let events = c.args.present.now.events in
    let journal = c.args.journal.now in
    let here : PlainView = record { at = c.self.inside.at; standing = c.self.inside.engine } in
    let viewed = subst (λ (v : PlainView). IsViewOf theory events (past_of events journal) v) (sym c.self.view_is) c.requires.viewed in
    let updates = map (plain_update g.T.Moment.rank) c.as_slice.result.now in
    let is = ap (map (plain_update g.T.Moment.rank)) c.as_slice.ensures ∙ c.in_ok-way.ensures.way in
    let few = most_steps-way theory events journal c.requires.led here viewed c.args.k c.requires.kept c.requires.past updates is in
    within-otherwise c.args.self.now.at c.args.k c.revise.new.steps c.args.steps.now (steps_on_the_way theory events (past_of events journal) c.args.self.now.at c.args.k)
    (λ same. omega (arith, same, c.if-self-k.false, ap (λ (v : PlainView). v.at) c.self.view_is))
    (omega (arith, few, c.revise.ensures.steps, ap (λ (v : PlainView). steps_on_the_way theory events (past_of events journal) v.at c.args.k) c.self.view_is))

pub unreachable-requires : goal.unreachable-requires
unreachable-requires g c =
    let theory = c.args.present.now.theory in
    let events = c.args.present.now.events in
    let journal = c.args.journal.now in
    let here : PlainView = record { at = c.self.inside.at; standing = c.self.inside.engine } in
    let viewed = subst (λ (v : PlainView). IsViewOf theory events (past_of events journal) v) (sym c.self.view_is) c.requires.viewed in
    let updates = map (plain_update g.T.Moment.rank) c.as_slice.result.now in
    let is = ap (map (plain_update g.T.Moment.rank)) c.as_slice.ensures ∙ c.in_ok-way.ensures.way in
    let refused = subst (λ (r : Refusal). IsRevised here.standing.theory here.standing.events updates (Err r) c.revise.new.self.events) c.in-Err-Update.field-0-is c.in-Err-Update.ensures.revised in
    way-never theory events journal c.requires.led here viewed c.args.k c.requires.kept c.requires.past updates is _ refused.0
