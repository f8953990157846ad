-- A context reads the currency at a time from the instants before it, of which there are fewer each time.
use Rattle.std.proofs.Common.{◌≡◌, ◌+◌, ◌*◌, true, false, map, length, take}
use Rattle.std.specs.List.{list_all, list_any}
use Rattle.ec_terms.specs.Binding.{values_of}
use Rattle.ec_terms.specs.Domain.{ground_literal_of}
use Rattle.ec_terms.specs.Term.{ground_of}
use Rattle.ec_axioms.specs.Calculus.{PlainEvent, agrees, is_current}
use Rattle.ec_axioms.specs.Events.{event_of}
use Rattle.ec_axioms.specs.Laws.{events_before}
use Rattle.ec_axioms.specs.Plain.{does_change_by}
use Rattle.ec_axioms.proofs.currency.+currency.Given as goal

abbrev pub decreases-is_current : goal.decreases-is_current
decreases-is_current g l = 5 * length (events_before (g.T.Moment.rank l.at) (map (event_of g.T.Moment.rank) l.events.now))

abbrev pub decreases-literals_agree : goal.decreases-literals_agree
decreases-literals_agree g l = 5 * length (events_before (g.T.Moment.rank l.at) (map (event_of g.T.Moment.rank) l.events.now)) + 1

abbrev pub decreases-rule_changes : goal.decreases-rule_changes
decreases-rule_changes g l = 5 * length (events_before (g.T.Moment.rank l.at) (map (event_of g.T.Moment.rank) l.events.now)) + 2

abbrev pub decreases-event_changes : goal.decreases-event_changes
decreases-event_changes g l = 5 * length (events_before (g.T.Moment.rank l.at) (map (event_of g.T.Moment.rank) l.events.now)) + 3

abbrev pub decreases-has_change : goal.decreases-has_change
decreases-has_change g l = 5 * length (events_before (g.T.Moment.rank l.at) (map (event_of g.T.Moment.rank) l.events.now)) + 4

abbrev pub invariant-literals_agree-loop-literal : goal.invariant-literals_agree-loop-literal
invariant-literals_agree-loop-literal g l =
    list_all (λ literal. agrees (is_current l.theory (map (event_of g.T.Moment.rank) l.events)) (g.T.Moment.rank l.at) (ground_literal_of (values_of l.binding) literal))
    (take l.literal-index l.fn.rule.literals) ≡ true

abbrev pub invariant-event_changes-loop-rule : goal.invariant-event_changes-loop-rule
invariant-event_changes-loop-rule g l =
    list_any (does_change_by l.theory (map (event_of g.T.Moment.rank) l.events) (ground_of l.p) l.change (g.T.Moment.rank l.at) (ground_of l.event))
    (take l.rule-index l.fn.theory.rules) ≡ false

abbrev pub invariant-has_change-loop-event : goal.invariant-has_change-loop-event
invariant-has_change-loop-event g l =
    list_any
    (λ (e : PlainEvent).
    list_any (does_change_by l.theory (map (event_of g.T.Moment.rank) l.events) (ground_of l.p) l.change (g.T.Moment.rank l.fn.at) e.term) l.theory.rules)
    (take l.event-index (map (event_of g.T.Moment.rank) l.event-items)) ≡ false
