-- What the walk put in goes, what it took out comes back, and what it entered is forgotten.
use Rattle.std.proofs.Common.{◌≡◌, ◌||◌, ℕ, IsTrue, sym, ap, subst, ◌∙◌}
use Rattle.ec_axioms.specs.Links.{is_live}
use Rattle.ec_store.specs.Store.{history_of}
use Rattle.ec_numbered.specs.PropSet.{has_number}
use Rattle.ec_parts.specs.declared.parts.Parts.{Parts}
use Rattle.ec_parts.specs.StandFor.{StandForBoth, view_of}
use Rattle.ec_batch.specs.Idle.{ForgetsListed}
use Rattle.ec_batch.specs.Limits.{IsWithinLimits}
use Rattle.ec_batch.specs.Net.{net_in}
use Rattle.ec_batch.specs.Undo.{IsHalfway}
use Rattle.ec_batch.proofs.walk_back.undo.Goals as goal

pub restore_nets-requires-clause-halfway : goal.restore_nets-requires-clause-halfway
restore_nets-requires-clause-halfway g c =
    let walked = c.requires.walked.to in
    let nets = c.args.walk.now.nets in
    subst (λ theory. IsHalfway g.T.Moment.rank theory (view_of c.release_nets.new.parts) c.release_nets.new.tally (λ id. net_in id nets) nets.entries)
    (sym (ap (λ (p : Parts _ _ _ _). p.checked) c.release_nets.ensures.rest))
    (c.release_nets.ensures.halfway c.requires.walked.soon (record { both = walked.both; history = walked.history; net_to = walked.nets }))

pub restore_nets-requires-clause-within : goal.restore_nets-requires-clause-within
restore_nets-requires-clause-within g c =
    subst (λ (p : Parts _ _ _ _). IsWithinLimits p.checked (history_of g.T.Moment.rank p.store.events)) (sym c.release_nets.ensures.rest) c.requires.within

pub returns-clause-stand : goal.returns-clause-stand
returns-clause-stand g c =
    let rank = g.T.Moment.rank in
    let theory = c.args.parts.now.checked in
    let hist = history_of rank c.args.parts.now.store.events in
    let last = c.restore_nets.new.parts in
    let walked = c.requires.walked.to in
    let back = subst (λ (p : Parts _ _ _ _). StandForBoth rank p.checked (history_of rank p.store.events) (history_of rank p.store.events) (view_of last) c.restore_nets.new.tally) c.release_nets.ensures.rest c.restore_nets.ensures.back in
    let same : last.checked ≡ theory = ap (λ (p : Parts _ _ _ _). p.checked) c.restore_nets.ensures.rest ∙ ap (λ (p : Parts _ _ _ _). p.checked) c.release_nets.ensures.rest in
    let forgets = subst (λ t. ForgetsListed rank t (λ (id : ℕ). has_number id c.as_slice.result.now) (view_of last) (view_of c.forget_idle.new.parts)) same c.forget_idle.ensures.stands in
    forgets hist c.restore_nets.new.tally back
    (λ id p is.
    subst (λ ps. IsTrue (is_live theory hist p || has_number id ps)) (sym c.as_slice.ensures.value)
    (walked.fresh id p (sym (c.restore_nets.ensures.terms id ∙ c.release_nets.ensures.terms id) ∙ is)))

pub returns-clause-theory : goal.returns-clause-theory
returns-clause-theory g c =
    c.forget_idle.ensures.theory ∙ ap (λ (p : Parts _ _ _ _). p.checked) c.restore_nets.ensures.rest ∙ ap (λ (p : Parts _ _ _ _). p.checked) c.release_nets.ensures.rest
