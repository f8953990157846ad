-- Between a list and itself nothing changed.
use Rattle.std.proofs.Common.{◌≡◌, ◌+◌, not, List, [], ◌++◌, length, IsFalse, refl, ap, ap₂, filter}
use Rattle.std.specs.Bool.{beq}
use Rattle.std.proofs.lemmas.Bool.{not_from_true}
use Rattle.std.proofs.Math.Bool.{not-and_self, and-not_self}
use Rattle.ec_lists.proofs.Booleans.{not-beq_same}
use Rattle.ec_terms.specs.declared.ground.Ground.{Ground}
use Rattle.ec_terms.specs.declared.theory.Theory.{Theory}
use Rattle.ec_terms.specs.Domain.{GroundLiteral}
use Rattle.ec_axioms.specs.Calculus.{PlainEvent, Effect, Currency, is_active, is_current, intervals_of}
use Rattle.ec_axioms.specs.Changes.{has_event, events_only_in, kept_effects, sees_change, has_other_intervals, change_counts, entry_count, work_between}
use Rattle.ec_axioms.specs.Links.{live_properties}
use Rattle.ec_axioms.proofs.Members.{filter_none}
use Rattle.ec_changes.specs.Turns.{turns_on, turns_off}
use Rattle.ec_changes.specs.CountLaws.{SameListChangesNothing}
use Rattle.ec_changes.proofs.KeptEvents.{has_event-member}
use Rattle.ec_changes.proofs.Tallies.{list_any-never}
use Rattle.ec_changes.proofs.OtherIntervals.{intervals_eq-Decides}

-- ---- the same list

-- no entry sees a change from a currency to itself
sees_change-none : (current : Currency) (effect : Effect) → IsFalse (sees_change current current effect)
unfolding sees_change
sees_change-none current effect =
    list_any-never (λ (literal : GroundLiteral). not (beq (current literal.prop effect.event.rank) (current literal.prop effect.event.rank))) effect.entry.literals
    (λ literal. not-beq_same (current literal.prop effect.event.rank))

-- no event stands in a list and not in it
events_only_in-none : (events : List PlainEvent) → events_only_in events events ≡ []
unfolding events_only_in
events_only_in-none events = filter_none (λ e. not (has_event events e)) events (λ e member. not_from_true (has_event events e) (has_event-member events e member))

-- no property has other intervals than its own
pub has_other_intervals-none : (theory : Theory) (events : List PlainEvent) (p : Ground) → IsFalse (has_other_intervals theory events events p)
unfolding has_other_intervals
has_other_intervals-none theory events p = ap not ((intervals_eq-Decides (intervals_of theory events p) (intervals_of theory events p)).1 refl)

-- the law
pub SameListChangesNothing-law : SameListChangesNothing
unfolding change_counts work_between entry_count
SameListChangesNothing-law theory events =
    let current = is_current theory events in
    let effects = kept_effects theory events events in
    let unseen : length (filter (sees_change current current) effects) ≡ 0 =
    ap length (filter_none (sees_change current current) effects (λ effect member. sees_change-none current effect)) in
    record {
      seen = unseen;
      on = ap length (filter_none (turns_on theory events events) effects (λ effect member. not-and_self (is_active current effect)));
      off = ap length (filter_none (turns_off theory events events) effects (λ effect member. and-not_self (is_active current effect)));
      props = ap length (filter_none (has_other_intervals theory events events) (live_properties theory (events ++ events)) (λ p member. has_other_intervals-none theory events p));
      work = ap₂ (λ seen singles. seen + entry_count theory (singles ++ singles) + length (singles ++ singles)) unseen (events_only_in-none events);
    }
