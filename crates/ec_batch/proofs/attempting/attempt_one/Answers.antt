-- The walk goes on by the update, or is undone.
use Rattle.std.proofs.Common.{[], ◌∷◌, sym, ap, subst, ◌∙◌}
use Rattle.ec_axioms.specs.Events.{plain_update}
use Rattle.ec_store.specs.Store.{history_of}
use Rattle.ec_parts.specs.StandFor.{StandFor, view_of}
use Rattle.ec_batch.specs.Walk.{HasWalked, HasWalkedTo}
use Rattle.ec_batch.proofs.Attempts.{refused_after, walked_until}
use Rattle.ec_batch.proofs.attempting.attempt_one.Goals as goal

pub undo-requires-clause-walked : goal.undo-requires-clause-walked
undo-requires-clause-walked g c =
    let rank = g.T.Moment.rank in
    let hist = history_of rank c.args.parts.now.store.events in
    let until = walked_until (Unit {0}) rank c.args.parts.now.checked c.args.parts.now.store.events (plain_update rank c.args.one.now ∷ []) (view_of c.walk_one.new.parts) c.walk_one.new.tally c.walk_one.new.walk c.in-Err.refusal (c.in-Err.ensures.goes hist c.start-walk.ensures.walked) in
    subst (λ theory. HasWalked rank theory (view_of c.walk_one.new.parts) c.walk_one.new.tally c.walk_one.new.walk) (sym c.in-Err.ensures.theory)
    (record {
      soon = until.soon;
      to = subst (λ events. HasWalkedTo rank c.args.parts.now.checked events until.soon (view_of c.walk_one.new.parts) c.walk_one.new.tally c.walk_one.new.walk)
          (sym (ap (λ s. s.events) c.in-Err.ensures.store)) until.to;
    })

pub returns-in-Ok-clause-goes : goal.returns-in-Ok-clause-goes
returns-in-Ok-clause-goes g c = c.in-Ok.ensures.goes (history_of g.T.Moment.rank c.args.parts.now.store.events) c.start-walk.ensures.walked

pub returns-in-Err-clause-theory : goal.returns-in-Err-clause-theory
returns-in-Err-clause-theory g c = c.undo.ensures.theory ∙ c.in-Err.ensures.theory

pub returns-in-Err-clause-goes : goal.returns-in-Err-clause-goes
returns-in-Err-clause-goes g c =
    let rank = g.T.Moment.rank in
    let theory = c.args.parts.now.checked in
    let events = c.args.parts.now.store.events in
    let last = view_of c.undo.new.parts in
    let stand = subst (λ es. StandFor rank theory (history_of rank es) last c.undo.new.tally) (ap (λ s. s.events) c.in-Err.ensures.store)
    (subst (λ t. StandFor rank t (history_of rank c.walk_one.new.parts.store.events) last c.undo.new.tally) c.in-Err.ensures.theory c.undo.ensures.stand) in
    refused_after (Unit {0}) rank theory events (plain_update rank c.args.one.now ∷ []) (view_of c.walk_one.new.parts) c.walk_one.new.tally c.walk_one.new.walk c.in-Err.refusal last c.undo.new.tally
    (c.in-Err.ensures.goes (history_of rank events) c.start-walk.ensures.walked) stand
