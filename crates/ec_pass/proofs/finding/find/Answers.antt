-- The pass begins with what is initial, takes in all events, and ends.
use Rattle.std.proofs.Common.{[], sym, subst}
use Rattle.ec_terms.specs.Matchable.{IsMatchable}
use Rattle.ec_terms.specs.Term.{ground_of}
use Rattle.ec_check.specs.WellFormed.{IsWellFormed}
use Rattle.ec_store.specs.Store.{history_of}
use Rattle.ec_parts.proofs.ListedInitials.{lists_initials, plain_initials}
use Rattle.ec_pass.specs.Passing.{IsPassing}
use Rattle.ec_pass.proofs.finding.find.Goals as goal

pub begin-requires-clause-plain : goal.begin-requires-clause-plain
begin-requires-clause-plain g c =
    plain_initials c.theory-theory.result.now (subst IsWellFormed (sym c.theory-theory.ensures.theory) c.theory-theory.ensures.well_formed)
    (subst IsMatchable (sym c.theory-theory.ensures.theory) c.theory-theory.ensures.matchable)

pub write_label-requires-clause-passing : goal.write_label-requires-clause-passing
write_label-requires-clause-passing g c =
    let rank = g.T.Moment.rank in
    let events = history_of rank c.args.store.now.events in
    subst (λ theory. IsPassing rank theory events [] events (ground_of c.args.p.now) c.in_ok-pass.pass) c.theory-theory.ensures.theory
    (c.in_ok-pass.ensures.passing events c.first_time-first.ensures.history
    (lists_initials c.theory-theory.result.now (subst IsWellFormed (sym c.theory-theory.ensures.theory) c.theory-theory.ensures.well_formed)
    (subst IsMatchable (sym c.theory-theory.ensures.theory) c.theory-theory.ensures.matchable))
    c.first_time-first.ensures.first)
