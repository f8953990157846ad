-- Which entries are active once an instant was looked at, and how new bits of slots show it.
use Rattle.std.proofs.Common.{◌≡◌, ◌≢◌, ℤ, Bool, not, ◌&&◌, List, ◌++◌, filter, find, Option, Some, None, IsTrue, IsFalse, refl, sym, ap, ◌∙◌}
use Rattle.std.specs.Prelude.{◌==◌, if◌then◌else◌, option_map, unwrap_or}
use Rattle.std.specs.Ordering.{int_eq}
use Rattle.std.specs.List.{list_any}
use Rattle.std.specs.Option.{option_or}
use Rattle.std.proofs.lemmas.Bool.{and_parts, cond-true, cond-false, false≢true, false_from_ne_true}
use Rattle.std.proofs.lemmas.List.Folds.{find-append}
use Rattle.ec_sweep.proofs.OwnChanges.{option_or-idle}
use Rattle.ec_terms.specs.declared.ids.Slot.{Slot}
use Rattle.ec_terms.specs.declared.theory.Theory.{Theory}
use Rattle.ec_axioms.specs.Calculus.{Currency, Effect, PlainEvent, effects_of, is_active}
use Rattle.ec_axioms.specs.Plain.{events_at}
use Rattle.ec_axioms.specs.Changes.{event_eq, has_event, events_only_in}
use Rattle.ec_axioms.proofs.Members.{IsMember-from_filter, list_any-member}
use Rattle.ec_changes.specs.Differences.{entries_at}
use Rattle.ec_changes.specs.Turns.{same_entry}
use Rattle.ec_changes.proofs.Activity.{event-effects_of, rank-entries_at}
use Rattle.ec_changes.proofs.JoinedMembers.{IsMember-from_flat_map}
use Rattle.ec_changes.proofs.KeptEvents.{event_eq-is}
use Rattle.ec_entries.specs.declared.event_entries.EventEntries.{EventEntries}
use Rattle.ec_delta.specs.declared.flips.Flip.{Flip}
use Rattle.ec_delta.specs.Looked.{active_found, active_of, flip_at}

-- ---- new bits behind others

-- the bits of a slot among two lists of new bits: those of the first, or else of the second
pub flip_at-append : (slot : Slot) (first second : List Flip) → flip_at slot (first ++ second) ≡ option_or (flip_at slot first) (flip_at slot second)
flip_at-append slot first second =
    ap (option_map (λ (flip : Flip). flip.active)) (find-append (λ (flip : Flip). flip.slot.0 == slot.0) first second)
    ∙ of (find (λ (flip : Flip). flip.slot.0 == slot.0) first)
  where
    of : (o : Option Flip)
        → option_map (λ (flip : Flip). flip.active) (option_or o (find (λ (flip : Flip). flip.slot.0 == slot.0) second))
        ≡ option_or (option_map (λ (flip : Flip). flip.active) o) (flip_at slot second)
    of None = refl
    of (Some flip) = refl

-- where the first has none, the second's are found, and where the second has none, the first's
pub active_found-second : {T : Type 0} (slot : Slot) (first second : List Flip) (kept : Option (EventEntries T)) → flip_at slot first ≡ None
    → active_found slot (first ++ second) kept ≡ active_found slot second kept
active_found-second slot first second kept none =
    ap (λ o. unwrap_or o (active_of kept)) (flip_at-append slot first second ∙ ap (λ o. option_or o (flip_at slot second)) none)

pub active_found-first : {T : Type 0} (slot : Slot) (first second : List Flip) (kept : Option (EventEntries T)) → flip_at slot second ≡ None
    → active_found slot (first ++ second) kept ≡ active_found slot first kept
active_found-first slot first second kept none =
    ap (λ o. unwrap_or o (active_of kept)) (flip_at-append slot first second ∙ option_or-idle (flip_at slot first) (flip_at slot second) none)

-- ---- what is active now

-- what is active once some entries were evaluated by a currency: of these what it says, and of the others what was
abbrev pub active_now : Currency → List Effect → (Effect → Bool) → Effect → Bool
active_now current looked_at active effect = if list_any (same_entry effect) looked_at then is_active current effect else active effect

module _ (current : Currency) (looked_at : List Effect) (active : Effect → Bool) where
  pub active_now-looked : (effect : Effect) → IsTrue (list_any (same_entry effect) looked_at) → active_now current looked_at active effect ≡ is_active current effect
  active_now-looked effect there = cond-true (list_any (same_entry effect) looked_at) (is_active current effect) (active effect) there

  pub active_now-other : (effect : Effect) → IsFalse (list_any (same_entry effect) looked_at) → active_now current looked_at active effect ≡ active effect
  active_now-other effect missing = cond-false (list_any (same_entry effect) looked_at) (is_active current effect) (active effect) missing

-- an entry of an event that stands in a list is none of the events that do not
pub none_of_added : (theory : Theory) (old new : List PlainEvent) (t : ℤ) (effect : Effect) → IsTrue (has_event old effect.event)
    → IsFalse (list_any (same_entry effect) (entries_at theory (events_only_in new old) t))
unfolding same_entry events_only_in
none_of_added theory old new t effect there =
    false_from_ne_true (list_any (same_entry effect) (entries_at theory (filter (λ e. not (has_event old e)) new) t))
    (λ some.
    let found = list_any-member (λ (other : Effect). event_eq effect.event other.event && effect.entry.rule == other.entry.rule) (entries_at theory (filter (λ e. not (has_event old e)) new) t) some in
    let same = event_eq-is effect.event found.0.event (and_parts (event_eq effect.event found.0.event) (effect.entry.rule == found.0.entry.rule) found.2).0 in
    let at = IsMember-from_flat_map (effects_of theory) (events_at t (filter (λ e. not (has_event old e)) new)) found.0 found.1 in
    let only = IsMember-from_filter (λ (e : PlainEvent). not (has_event old e)) new at.0 (IsMember-from_filter (λ (e : PlainEvent). int_eq e.rank t) (filter (λ e. not (has_event old e)) new) at.0 at.1).0 in
    let is : effect.event ≡ at.0 = same ∙ event-effects_of theory at.0 found.0 at.2 in
    false≢true (sym (ap not (ap (has_event old) (sym is) ∙ there)) ∙ only.1))

-- an entry of another instant is none of those at one
pub none_of_instant : (theory : Theory) (events : List PlainEvent) (t : ℤ) (effect : Effect) → effect.event.rank ≢ t → IsFalse (list_any (same_entry effect) (entries_at theory events t))
unfolding same_entry
none_of_instant theory events t effect apart =
    false_from_ne_true (list_any (same_entry effect) (entries_at theory events t))
    (λ some.
    let found = list_any-member (λ (other : Effect). event_eq effect.event other.event && effect.entry.rule == other.entry.rule) (entries_at theory events t) some in
    let same = event_eq-is effect.event found.0.event (and_parts (event_eq effect.event found.0.event) (effect.entry.rule == found.0.entry.rule) found.2).0 in
    apart (ap (λ (e : PlainEvent). e.rank) same ∙ rank-entries_at theory events t found.0 found.1))
