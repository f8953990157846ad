-- Each rule at a place gives its entry, and a well-formed theory has few rules.
use Rattle.std.proofs.Common.{◌≡◌, ◌++◌, ◌∷◌, [], ◌+◌, take, drop, get_or, Some, refl, sym, ap, subst, ◌∙◌, arith}
use Rattle.std.specs.List.{list_any}
use Rattle.ec_terms.specs.Term.{ground_of}
use Rattle.ec_context.specs.Entries.{is_named, shown_entries}
use Rattle.ec_context.proofs.NewNumbers.{AddsOnly-met, AddsOnly-not_met, AddsOnly-same}
use Rattle.ec_context.proofs.Keepings.{HasKept-same, HasKept-then}
use Rattle.ec_context.proofs.Limits.{few_rules}
use Rattle.ec_context.proofs.EntryLists.{IsEntryList-shown}
use Rattle.ec_context.proofs.PlaceLemmas.{places-within}
use Rattle.ec_context.proofs.RuleEntries.{entries_at, entries_at-all, entries_at-more, entries_at-rest, shown_entries-met, shown_entries-not_met}
use Rattle.ec_context.proofs.Shown.{shown_entries-none}
use Rattle.ec_context.proofs.entries.gather.Goals as goal
use Rattle.ec_context.proofs.entries.gather.Goals.{in-Some+in_ok-push, in_default}

pub loop-place-init : goal.loop-place-init
unfolding entries_at
loop-place-init c = record {
  kept = HasKept-same c.args.props.now c.args.props.now c.args.added.now.items c.args.added.now.items c.requires.unmentioned refl refl;
  shown = shown_entries-none c.args.props.now c.new-entries.result c.new-entries.ensures;
  added = AddsOnly-same (λ id. list_any (is_named id) c.new-entries.result) c.args.added.now.items c.args.added.now.items refl;
}

pub rule_at-rule-requires-clause-within : goal.rule_at-rule-requires-clause-within
rule_at-rule-requires-clause-within c =
    places-within (ground_of c.args.event.now) c.args.theory.now.rules c.args.places.now c.loop-place.place-index c.requires.places c.loop-place-test.true

pub overflow_add-number : goal.overflow_add-number
overflow_add-number c =
    let few = few_rules c.args.theory.now c.requires.well_formed in
    let below = places-within (ground_of c.args.event.now) c.args.theory.now.rules c.args.places.now c.loop-place.place-index c.requires.places c.loop-place-test.true in
    grind (arith, few, below)

pub push-requires : goal.push-requires
push-requires c =
    let theory = c.args.theory.now in
    let event = ground_of c.args.event.now in
    let i = c.loop-place.place-index in
    let number = get_or c.args.places.now i 0 + 1 in
    IsEntryList-shown theory event c.requires.well_formed c.entry_of.new.props (c.loop-place.entries ++ c.in-Some.entry ∷ [])
    (entries_at theory.rules event (take (i + 1) c.args.places.now)) (entries_at theory.rules event (drop (i + 1) c.args.places.now))
    (shown_entries-met c.loop-place.props c.entry_of.new.props c.in_ok-entry.ensures.kept.kept c.loop-place.entries number c.rule_at-rule.result.now event _ _
    (entries_at-more theory.rules event c.args.places.now i c.rule_at-rule.result.now number c.loop-place-test.true c.rule_at-rule.ensures.rule refl)
    c.loop-place.invariant.shown c.in_ok-entry.field-0 c.in-Some.entry _ c.in-Some.is c.in_ok-entry.ensures.shown refl)
    (entries_at-rest event theory.rules c.args.places.now c.requires.places (i + 1))

pub loop-place-preserved : goal.loop-place-preserved
loop-place-preserved c =
    let grows = entries_at-more c.args.theory.now.rules (ground_of c.args.event.now) c.args.places.now c.loop-place.place-index c.rule_at-rule.result.now
    (get_or c.args.places.now c.loop-place.place-index 0 + 1) c.loop-place-test.true c.rule_at-rule.ensures.rule refl in
    record {
      kept = HasKept-then c.args.props.now c.loop-place.props c.entry_of.new.props c.args.added.now.items c.loop-place.added.items c.entry_of.new.added.items
          c.loop-place.invariant.kept c.in_ok-entry.ensures.kept;
      shown = elim c.match-branch-2.branch [
        | in-Some+in_ok-push w ↦ shown_entries-met c.loop-place.props c.entry_of.new.props c.in_ok-entry.ensures.kept.kept c.loop-place.entries
            (get_or c.args.places.now c.loop-place.place-index 0 + 1) c.rule_at-rule.result.now (ground_of c.args.event.now) _ _ grows c.loop-place.invariant.shown
            c.in_ok-entry.field-0 w.in-Some.entry c.match-branch-2.entries w.in-Some.is c.in_ok-entry.ensures.shown (w.entries-is ∙ w.in_ok-push.ensures.ok)
        | in_default w ↦ subst (λ es. shown_entries c.entry_of.new.props es
            ≡ Some (entries_at c.args.theory.now.rules (ground_of c.args.event.now) (take (c.loop-place.place-index + 1) c.args.places.now)))
            (sym w.entries-is)
            (shown_entries-not_met c.loop-place.props c.entry_of.new.props c.in_ok-entry.ensures.kept.kept c.loop-place.entries
            (get_or c.args.places.now c.loop-place.place-index 0 + 1) c.rule_at-rule.result.now (ground_of c.args.event.now) _ _ grows c.loop-place.invariant.shown
            c.in_ok-entry.field-0 w.in_default.is c.in_ok-entry.ensures.shown)
      ];
      added = elim c.match-branch-2.branch [
        | in-Some+in_ok-push w ↦ AddsOnly-met c.args.added.now.items c.loop-place.added.items c.entry_of.new.added.items c.loop-place.entries c.in_ok-entry.field-0 w.in-Some.entry
            c.match-branch-2.entries w.in-Some.is (w.entries-is ∙ w.in_ok-push.ensures.ok) c.loop-place.invariant.added c.in_ok-entry.ensures.added
        | in_default w ↦ AddsOnly-not_met c.args.added.now.items c.loop-place.added.items c.entry_of.new.added.items c.loop-place.entries c.in_ok-entry.field-0
            c.match-branch-2.entries w.in_default.is w.entries-is c.loop-place.invariant.added c.in_ok-entry.ensures.added
      ];
    }

pub returns-clause-shown : goal.returns-clause-shown
returns-clause-shown c =
    c.loop-place.invariant.shown
    ∙ ap Some (entries_at-all (ground_of c.args.event.now) c.args.theory.now.rules c.args.places.now c.requires.places c.loop-place.place-index c.loop-place-test.false)

pub returns-in_err-entry-clause-kept : goal.returns-in_err-entry-clause-kept
returns-in_err-entry-clause-kept c =
    HasKept-then c.args.props.now c.loop-place.props c.entry_of.new.props c.args.added.now.items c.loop-place.added.items c.entry_of.new.added.items
    c.loop-place.invariant.kept c.entry_of.ensures.kept

pub returns-in_err-push-clause-kept : goal.returns-in_err-push-clause-kept
returns-in_err-push-clause-kept c =
    HasKept-then c.args.props.now c.loop-place.props c.entry_of.new.props c.args.added.now.items c.loop-place.added.items c.entry_of.new.added.items
    c.loop-place.invariant.kept c.in_ok-entry.ensures.kept
