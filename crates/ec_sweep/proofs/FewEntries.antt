-- What turns at an instant is no more than twice what two lists of events mention.
use Rattle.std.proofs.Common.{◌+◌, ◌≤◌, ℤ, Bool, List, [], ◌∷◌, length, filter, ⊎_elim, arith}
use Rattle.std.specs.Prelude.{not, flat_map}
use Rattle.std.specs.Ordering.{int_eq}
use Rattle.std.proofs.lemmas.Bool.{cases_Bool}
use Rattle.std.proofs.lemmas.List.{length-map, length-append}
use Rattle.ec_lists.proofs.Filters.{length-filter_le}
use Rattle.ec_terms.specs.declared.theory.Theory.{Theory}
use Rattle.ec_terms.specs.Domain.{GroundEntry, entries_of}
use Rattle.ec_axioms.specs.Calculus.{PlainEvent, Effect, Currency, effects_of, effects_at, is_active, is_current}
use Rattle.ec_axioms.specs.Changes.{events_only_in, has_event, kept_events}
use Rattle.ec_axioms.specs.Links.{entry_mentions, event_mentions, mentions_of}
use Rattle.ec_changes.specs.Differences.{entries_at}
use Rattle.ec_changes.specs.Turns.{gained, lost, turns_off, turns_on}

-- entries are no more than they mention
entries-mentions : (entries : List GroundEntry) → length entries ≤ length (flat_map entry_mentions entries)
entries-mentions [] = omega arith
entries-mentions (entry ∷ entries) =
    let rest = entries-mentions entries in
    let joined = length-append (entry_mentions entry) (flat_map entry_mentions entries) in
    omega arith

effects-mentions : (theory : Theory) (e : PlainEvent) → length (effects_of theory e) ≤ length (event_mentions theory e)
unfolding effects_of
effects-mentions theory e =
    let entries = entries_of theory e.term in
    let paired : GroundEntry → Effect = λ entry. record { event = e; entry = entry } in
    omega (arith, length-map entries paired, entries-mentions entries)

-- the entries at an instant of some of the events are no more than all mention
pub length-entries_of_some : (theory : Theory) (test : PlainEvent → Bool) (events : List PlainEvent) (t : ℤ)
    → length (entries_at theory (filter test events) t) ≤ length (mentions_of theory events)
unfolding mentions_of
length-entries_of_some theory test [] t = omega arith
length-entries_of_some theory test (e ∷ events) t =
    let rest = length-entries_of_some theory test events t in
    let mentions = length-append (event_mentions theory e) (flat_map (event_mentions theory) events) in
    let own = effects-mentions theory e in
    let entries = length-append (effects_of theory e) (entries_at theory (filter test events) t) in
    ⊎_elim
    (λ passes.
    ⊎_elim
    (λ here. rw passes (rw here (omega arith)))
    (λ apart. rw passes (rw apart (omega arith)))
    (cases_Bool (int_eq e.rank t)))
    (λ fails. rw fails (omega arith))
    (cases_Bool (test e))

-- so is what takes effect of them there
length-effects_of_some : (theory : Theory) (test : PlainEvent → Bool) (events : List PlainEvent) (current : Currency) (wanted : GroundEntry → Bool) (t : ℤ)
    → length (effects_at theory (filter test events) current wanted t) ≤ length (mentions_of theory events)
unfolding effects_at
length-effects_of_some theory test events current wanted t =
    let all = entries_at theory (filter test events) t in
    let chosen = filter (λ (effect : Effect). wanted effect.entry) all in
    omega (arith, length-filter_le (is_active current) chosen, length-filter_le (λ (effect : Effect). wanted effect.entry) all, length-entries_of_some theory test events t)

module _ (theory : Theory) (old new : List PlainEvent) (wanted : GroundEntry → Bool) (t : ℤ) where
  -- what was gained at an instant
  pub gained-few : gained theory old new wanted t ≤ length (mentions_of theory old) + length (mentions_of theory new)
  unfolding gained kept_events events_only_in
  gained-few =
      let all = entries_at theory (kept_events old new) t in
      let chosen = filter (λ (effect : Effect). wanted effect.entry) all in
      omega (
        arith,
        length-filter_le (turns_on theory old new) chosen,
        length-filter_le (λ (effect : Effect). wanted effect.entry) all,
        length-entries_of_some theory (has_event new) old t,
        length-effects_of_some theory (λ e. not (has_event old e)) new (is_current theory new) wanted t,
      )

  -- and what was lost
  pub lost-few : lost theory old new wanted t ≤ length (mentions_of theory old) + length (mentions_of theory old)
  unfolding lost kept_events events_only_in
  lost-few =
      let all = entries_at theory (kept_events old new) t in
      let chosen = filter (λ (effect : Effect). wanted effect.entry) all in
      omega (
        arith,
        length-filter_le (turns_off theory old new) chosen,
        length-filter_le (λ (effect : Effect). wanted effect.entry) all,
        length-entries_of_some theory (has_event new) old t,
        length-effects_of_some theory (λ e. not (has_event new e)) old (is_current theory old) wanted t,
      )
