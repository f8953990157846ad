-- Each answer is a step of the definitions.
use Rattle.std.proofs.Common.{rules, map, IsTrue, refl, sym, ap, subst, ◌∙◌, arith}
use Rattle.std.proofs.lemmas.Grind.{common_steps}
use Rattle.ec_terms.specs.Binding.{values_of}
use Rattle.ec_terms.specs.Domain.{ground_literal_of}
use Rattle.ec_terms.specs.Matchable.{IsGiven}
use Rattle.ec_terms.specs.Term.{names_are_names}
use Rattle.ec_terms.specs.Term.{ground_of}
use Rattle.ec_axioms.specs.Calculus.{agrees, is_current}
use Rattle.ec_axioms.specs.Events.{event_of}
use Rattle.ec_axioms.specs.Plain.{would_change, does_change_by}
use Rattle.ec_axioms.proofs.Changing.{does_change_by-fit, does_change_by-no_fit, change_found, change_not_yet, change_absent, rule_found, rule_not_yet, is_argument-from_names, does_change_by-no_tests, would_not, would_do, agrees-asked, literal_fails, literal_passes, literals_pass}
use Rattle.ec_terms.proofs.Exclusion.{false-from_none}
use Rattle.ec_axioms.proofs.Givens.{GivesAll, are_ready-given, fills-given, is_some-fits}
use Rattle.ec_axioms.proofs.LastInstant.{length-before_last, is_current-last, is_current-first, if_initiated, if_current, if_neither}
use Rattle.ec_axioms.proofs.currency.+currency.Goals as goal

-- ---- is_current

pub is_current-has_change-requires : goal.is_current-has_change-requires
is_current-has_change-requires g t c = let less = length-before_last _ _ _ c.in-Some.ensures.last in search rules

pub is_current-is_current-requires : goal.is_current-is_current-requires
is_current-is_current-requires g t c = let less = length-before_last _ _ _ c.in-Some.ensures.last in search rules

pub is_current-has_change-requires-then-is_current : goal.is_current-has_change-requires-then-is_current
is_current-has_change-requires-then-is_current g t c = let less = length-before_last _ _ _ c.in-Some.ensures.last in search rules

pub is_current-returns-then-has_change : goal.is_current-returns-then-has_change
is_current-returns-then-has_change g t c =
    if_initiated _ _ _ _ _ (is_current-last c.args.theory.now _ (ground_of c.args.p.now) (g.T.Moment.rank c.args.at) _ c.in-Some.ensures.last)
    c.has_change.ensures c.if-has_change.true

pub is_current-returns-then-is_current : goal.is_current-returns-then-is_current
is_current-returns-then-is_current g t c =
    if_current _ _ _ _ _ _ _ (is_current-last c.args.theory.now _ (ground_of c.args.p.now) (g.T.Moment.rank c.args.at) _ c.in-Some.ensures.last)
    c.has_change.ensures c.if-has_change.false c.is_current.ensures c.if-is_current.true c.has_change-then-is_current.ensures

pub is_current-returns-else-is_current : goal.is_current-returns-else-is_current
is_current-returns-else-is_current g t c =
    if_neither _ _ _ _ _ _ (is_current-last c.args.theory.now _ (ground_of c.args.p.now) (g.T.Moment.rank c.args.at) _ c.in-Some.ensures.last)
    c.has_change.ensures c.if-has_change.false c.is_current.ensures c.if-is_current.false

pub is_current-returns-in-None : goal.is_current-returns-in-None
is_current-returns-in-None g t c =
    c.is_initial.ensures ∙ sym (is_current-first c.args.theory.now _ (ground_of c.args.p.now) (g.T.Moment.rank c.args.at) c.in-None.ensures.none)

-- ---- has_change

pub has_change-event_changes-requires : goal.has_change-event_changes-requires
has_change-event_changes-requires g t c =
    let named : IsTrue (names_are_names (ground_of c.borrow.result)) =
    subst (λ x. IsTrue (names_are_names x)) (sym c.borrow.ensures.same) (is_argument-from_names c.event-item.result.term c.borrow.ensures.names) in
    search rules

pub has_change-returns-then-event_changes : goal.has_change-returns-then-event_changes
has_change-returns-then-event_changes g t c =
    change_found (event_of g.T.Moment.rank) c.at-event-items.result.now c.args.theory.now (map (event_of g.T.Moment.rank) c.args.events.now) (ground_of c.args.p.now)
    c.args.change (g.T.Moment.rank c.args.at) c.loop-event.event-index c.event-item.result (ground_of c.borrow.result) c.event_changes.result
    c.at-event-items.ensures c.loop-event-test.true c.event-item.is c.borrow.ensures.same c.event_changes.ensures c.if-event_changes.true

pub has_change-loop-event-preserved : goal.has_change-loop-event-preserved
has_change-loop-event-preserved g t c =
    change_not_yet (event_of g.T.Moment.rank) c.at-event-items.result.now c.args.theory.now (map (event_of g.T.Moment.rank) c.args.events.now) (ground_of c.args.p.now)
    c.args.change (g.T.Moment.rank c.args.at) c.loop-event.event-index c.event-item.result (ground_of c.borrow.result) c.event_changes.result
    c.loop-event-test.true c.event-item.is c.borrow.ensures.same c.event_changes.ensures c.if-event_changes.false c.loop-event.invariant

pub has_change-returns : goal.has_change-returns
has_change-returns g t c =
    change_absent (event_of g.T.Moment.rank) c.at-event-items.result.now c.args.theory.now (map (event_of g.T.Moment.rank) c.args.events.now) (ground_of c.args.p.now)
    c.args.change (g.T.Moment.rank c.args.at) c.loop-event.event-index c.at-event-items.ensures c.loop-event-test.false c.loop-event.invariant

-- ---- rule_changes

pub rule_changes-returns-in_default : goal.rule_changes-returns-in_default
rule_changes-returns-in_default g t c =
    sym (does_change_by-no_fit c.args.theory.now _ (ground_of c.args.p.now) c.args.change (g.T.Moment.rank c.args.at) (ground_of c.args.event.now) c.args.rule.now
    (false-from_none c.matches.result _ c.matches.ensures.fits c.in_default.is))

pub rule_changes-tests_hold-requires : goal.rule_changes-tests_hold-requires
rule_changes-tests_hold-requires g t c =
    are_ready-given c.args.rule.now.event _ c.args.rule.now.tests c.requires.rule.event
    (λ v there. is_some-fits c.args.rule.now.event (ground_of c.args.event.now) _ v (c.in-Some.ensures.fits.0 refl) c.in-Some.ensures.binding there)
    c.requires.rule.tests

pub rule_changes-fill_ref-head-requires-clause-bound : goal.rule_changes-fill_ref-head-requires-clause-bound
rule_changes-fill_ref-head-requires-clause-bound g t c =
    fills-given c.args.rule.now.event c.args.rule.now.head _
    (λ v there. is_some-fits c.args.rule.now.event (ground_of c.args.event.now) _ v (c.in-Some.ensures.fits.0 refl) c.in-Some.ensures.binding there)
    c.requires.rule.head.places

pub rule_changes-literals_agree-requires : goal.rule_changes-literals_agree-requires
rule_changes-literals_agree-requires g t c =
    let all : GivesAll c.args.rule.now.event (values_of c.in-Some.binding) =
    λ v there. is_some-fits c.args.rule.now.event (ground_of c.args.event.now) _ v (c.in-Some.ensures.fits.0 refl) c.in-Some.ensures.binding there in
    grind (arith, common_steps)

pub rule_changes-returns-then-not-tests_hold : goal.rule_changes-returns-then-not-tests_hold
rule_changes-returns-then-not-tests_hold g t c =
    does_change_by-no_tests c.args.theory.now _ (ground_of c.args.p.now) c.args.change (g.T.Moment.rank c.args.at) (ground_of c.args.event.now) c.args.rule.now
    (values_of c.in-Some.binding) c.in-Some.ensures.binding (c.in-Some.ensures.fits.0 refl) (sym c.tests_hold.ensures ∙ c.if-not-tests_hold.true)

pub rule_changes-returns-else-makes_change : goal.rule_changes-returns-else-makes_change
rule_changes-returns-else-makes_change g t c =
    would_not _ _ _ _ _ _
    (does_change_by-fit c.args.theory.now _ (ground_of c.args.p.now) c.args.change (g.T.Moment.rank c.args.at) (ground_of c.args.event.now) c.args.rule.now
    (values_of c.in-Some.binding) c.in-Some.ensures.binding (c.in-Some.ensures.fits.0 refl))
    c.tests_hold.ensures c.if-not-tests_hold.false
    (c.makes_change.ensures ∙ ap (would_change c.args.theory.now (ground_of c.args.p.now) c.args.change c.args.rule.now.kind) c.fill_ref-head.ensures.filled) c.if-makes_change.false

pub rule_changes-returns-then-makes_change : goal.rule_changes-returns-then-makes_change
rule_changes-returns-then-makes_change g t c =
    would_do _ _ _ _ _ _ _
    (does_change_by-fit c.args.theory.now _ (ground_of c.args.p.now) c.args.change (g.T.Moment.rank c.args.at) (ground_of c.args.event.now) c.args.rule.now
    (values_of c.in-Some.binding) c.in-Some.ensures.binding (c.in-Some.ensures.fits.0 refl))
    c.tests_hold.ensures c.if-not-tests_hold.false
    (c.makes_change.ensures ∙ ap (would_change c.args.theory.now (ground_of c.args.p.now) c.args.change c.args.rule.now.kind) c.fill_ref-head.ensures.filled) c.if-makes_change.true c.literals_agree.ensures

-- ---- literals_agree

pub literals_agree-fill_ref-prop-requires-clause-bound : goal.literals_agree-fill_ref-prop-requires-clause-bound
literals_agree-fill_ref-prop-requires-clause-bound g t c =
    let given : IsGiven c.args.rule.now.event c.literal-item.result.prop = grind (arith, common_steps) in
    fills-given c.args.rule.now.event c.literal-item.result.prop (values_of c.args.binding.now) c.requires.bound given.places

pub literals_agree-returns-then-is_current-literal : goal.literals_agree-returns-then-is_current-literal
literals_agree-returns-then-is_current-literal g t c =
    literal_fails (agrees (is_current c.args.theory.now (map (event_of g.T.Moment.rank) c.args.events.now)) (g.T.Moment.rank c.args.at)) (ground_literal_of (values_of c.args.binding.now))
    c.as_slice-literal-items.result.now c.args.rule.now.literals c.loop-literal.literal-index c.literal-item.result _
    c.as_slice-literal-items.ensures c.loop-literal-test.true c.literal-item.is
    (agrees-asked (is_current c.args.theory.now (map (event_of g.T.Moment.rank) c.args.events.now)) (g.T.Moment.rank c.args.at) (values_of c.args.binding.now)
    c.literal-item.result (ground_of c.fill_ref-prop.result) c.is_current.result c.is_current.ensures c.fill_ref-prop.ensures.filled) c.if-is_current-literal.true

pub literals_agree-loop-literal-preserved : goal.literals_agree-loop-literal-preserved
literals_agree-loop-literal-preserved g t c =
    literal_passes (agrees (is_current c.args.theory.now (map (event_of g.T.Moment.rank) c.args.events.now)) (g.T.Moment.rank c.args.at)) (ground_literal_of (values_of c.args.binding.now))
    c.as_slice-literal-items.result.now c.args.rule.now.literals c.loop-literal.literal-index c.literal-item.result _
    c.as_slice-literal-items.ensures c.loop-literal-test.true c.literal-item.is
    (agrees-asked (is_current c.args.theory.now (map (event_of g.T.Moment.rank) c.args.events.now)) (g.T.Moment.rank c.args.at) (values_of c.args.binding.now)
    c.literal-item.result (ground_of c.fill_ref-prop.result) c.is_current.result c.is_current.ensures c.fill_ref-prop.ensures.filled) c.if-is_current-literal.false c.loop-literal.invariant

pub literals_agree-returns : goal.literals_agree-returns
literals_agree-returns g t c =
    literals_pass (agrees (is_current c.args.theory.now (map (event_of g.T.Moment.rank) c.args.events.now)) (g.T.Moment.rank c.args.at)) (ground_literal_of (values_of c.args.binding.now))
    c.as_slice-literal-items.result.now c.args.rule.now.literals c.loop-literal.literal-index c.as_slice-literal-items.ensures c.loop-literal-test.false c.loop-literal.invariant

pub event_changes-loop-rule-preserved : goal.event_changes-loop-rule-preserved
event_changes-loop-rule-preserved g t c =
    rule_not_yet
    (does_change_by c.args.theory.now (map (event_of g.T.Moment.rank) c.args.events.now) (ground_of c.args.p.now) c.args.change (g.T.Moment.rank c.args.at) (ground_of c.args.event.now))
    c.as_slice-rule-items.result.now c.args.theory.now.rules c.loop-rule.rule-index c.rule-item.result c.rule_changes.result
    c.as_slice-rule-items.ensures c.loop-rule-test.true c.rule-item.is c.rule_changes.ensures c.if-rule_changes.false c.loop-rule.invariant

pub event_changes-loop-rule-smaller : goal.event_changes-loop-rule-smaller
event_changes-loop-rule-smaller g t c = grind (arith, common_steps)

pub event_changes-returns : goal.event_changes-returns
event_changes-returns g t c = grind (arith, common_steps)

pub event_changes-returns-then-rule_changes : goal.event_changes-returns-then-rule_changes
event_changes-returns-then-rule_changes g t c =
    rule_found
    (does_change_by c.args.theory.now (map (event_of g.T.Moment.rank) c.args.events.now) (ground_of c.args.p.now) c.args.change (g.T.Moment.rank c.args.at) (ground_of c.args.event.now))
    c.as_slice-rule-items.result.now c.args.theory.now.rules c.loop-rule.rule-index c.rule-item.result c.rule_changes.result
    c.as_slice-rule-items.ensures c.loop-rule-test.true c.rule-item.is c.rule_changes.ensures c.if-rule_changes.true

pub event_changes-rule_changes-requires : goal.event_changes-rule_changes-requires
event_changes-rule_changes-requires g t c = grind (arith, common_steps)

pub has_change-loop-event-smaller : goal.has_change-loop-event-smaller
has_change-loop-event-smaller g t c = grind (arith, common_steps)

pub literals_agree-fill_ref-prop-requires-clause-small : goal.literals_agree-fill_ref-prop-requires-clause-small
literals_agree-fill_ref-prop-requires-clause-small g t c = grind (arith, common_steps)
