-- An event meets a rule that it fits and of which the tests hold.
use Rattle.std.proofs.Common.{Some, option_map, refl, sym, ap, ◌∙◌}
use Rattle.ec_terms.specs.Binding.{values_of}
use Rattle.ec_terms.specs.Term.{ground_of}
use Rattle.ec_terms.proofs.Exclusion.{false-from_none}
use Rattle.ec_axioms.proofs.Givens.{are_ready-given, is_some-fits}
use Rattle.ec_context.proofs.RuleEntries.{entry_of-met, entry_of-no_fit, entry_of-no_tests}
use Rattle.ec_context.proofs.NewNumbers.{AddsOnly-one, AddsOnly-same}
use Rattle.ec_context.proofs.entries.entry_of.Goals as goal

pub returns-in_default-clause-shown : goal.returns-in_default-clause-shown
returns-in_default-clause-shown c =
    sym (ap (option_map Some) (entry_of-no_fit c.args.number c.args.rule.now (ground_of c.args.event.now)
    (false-from_none c.matches.result _ c.matches.ensures.fits c.in_default.is)))

pub tests_hold-requires : goal.tests_hold-requires
tests_hold-requires c =
    are_ready-given c.args.rule.now.event _ c.args.rule.now.tests c.requires.rule.event
    (λ v there. is_some-fits c.args.rule.now.event (ground_of c.args.event.now) _ v (c.in-Some.ensures.fits.0 refl) c.in-Some.ensures.binding there)
    c.requires.rule.tests

pub returns-then-not-tests_hold-clause-shown : goal.returns-then-not-tests_hold-clause-shown
returns-then-not-tests_hold-clause-shown c =
    sym (ap (option_map Some) (entry_of-no_tests c.args.number c.args.rule.now (ground_of c.args.event.now) (values_of c.in-Some.binding)
    c.in-Some.ensures.binding (c.in-Some.ensures.fits.0 refl) (sym c.tests_hold.ensures ∙ c.if-not-tests_hold.true)))

pub entry_with-requires-clause-bound : goal.entry_with-requires-clause-bound
entry_with-requires-clause-bound c = λ v there.
    is_some-fits c.args.rule.now.event (ground_of c.args.event.now) _ v (c.in-Some.ensures.fits.0 refl) c.in-Some.ensures.binding there

pub returns-clause-shown : goal.returns-clause-shown
returns-clause-shown c =
    ap Some c.in_ok-entry.ensures.shown
    ∙ sym (ap (option_map Some) (entry_of-met c.args.number c.args.rule.now (ground_of c.args.event.now) (values_of c.in-Some.binding)
    c.in-Some.ensures.binding (c.in-Some.ensures.fits.0 refl) (sym c.tests_hold.ensures ∙ c.if-not-tests_hold.false)))

pub returns-in_default-clause-added : goal.returns-in_default-clause-added
returns-in_default-clause-added c = AddsOnly-same _ c.args.added.now.items c.args.added.now.items refl

pub returns-then-not-tests_hold-clause-added : goal.returns-then-not-tests_hold-clause-added
returns-then-not-tests_hold-clause-added c = AddsOnly-same _ c.args.added.now.items c.args.added.now.items refl

pub returns-clause-added : goal.returns-clause-added
returns-clause-added c = AddsOnly-one c.in_ok-entry.entry c.args.added.now.items c.entry_with.new.added.items c.in_ok-entry.ensures.added
