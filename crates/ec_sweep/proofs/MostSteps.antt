-- What a sweep takes at most of steps, whether it ends or not.
use Rattle.std.proofs.Common.{◌≡◌, ◌≤◌, ◌+◌, ◌*◌, ℕ, ℤ, pos, ◌+ℤ◌, Bool, ◌&&◌, List, drop, filter, length, take, sym, ap, subst, ◌∙◌, inl, inr, arith}
use Rattle.std.specs.Prelude.{flat_map, int_le, int_lt}
use Rattle.std.proofs.lemmas.Bool.{and_parts}
use Rattle.ec_lists.proofs.Filters.{length-filter_le, length-filter_wider}
use Rattle.ec_terms.specs.declared.ids.PropId.{PropId}
use Rattle.ec_terms.specs.declared.theory.Theory.{Theory}
use Rattle.ec_axioms.specs.declared.event.Event.{Event}
use Rattle.ec_axioms.specs.Calculus.{Effect, PlainEvent}
use Rattle.ec_axioms.specs.Changes.{change_counts, kept_effects}
use Rattle.ec_numbered.specs.Due.{Due}
use Rattle.ec_changes.specs.Turns.{kept_count, sees}
use Rattle.ec_changes.proofs.Hits.{SeenInAnyOrder-law}
use Rattle.ec_changes.proofs.KeptCounts.{KeptCountsGoOn-law}
use Rattle.ec_context.specs.declared.entry.Entry.{Entry}
use Rattle.ec_store.specs.Store.{history_of}
use Rattle.ec_parts.specs.declared.tally.Tally.{Tally}
use Rattle.ec_parts.specs.StandFor.{View}
use Rattle.ec_parts.proofs.LinksByNumber.{IsOneToOne}
use Rattle.ec_revise.specs.declared.change.Change.{Change}
use Rattle.ec_revise.specs.declared.change.Removal.{Removal}
use Rattle.ec_delta.specs.declared.delta.Looked.{Looked}
use Rattle.ec_delta.specs.declared.delta.Planned.{Planned}
use Rattle.ec_sweep.specs.declared.hits.Hit.{Hit}
use Rattle.ec_sweep.specs.declared.progress.Progress.{Progress}
use Rattle.ec_sweep.specs.declared.sweep.Sweep.{Sweep}
use Rattle.ec_sweep.specs.Hits.{AreHits}
use Rattle.ec_sweep.specs.LookedBy.{TakesSteps}
use Rattle.ec_sweep.specs.State.{DirtyRows, IsProgress}
use Rattle.ec_sweep.specs.Sweeping.{IsSweeping}
use Rattle.ec_sweep.specs.Visiting.{CanLook, most_steps, steps_for}
use Rattle.ec_sweep.proofs.HitEffects.{effects_of_hits, hit-effect, hits-seen, length-effects}
use Rattle.ec_sweep.proofs.LookBody.{added-further, length-between, length-flat_map-between, removals-there, removed-further}
use Rattle.ec_sweep.proofs.ReadingEntries.{AreAtSlots}
use Rattle.ec_sweep.proofs.StepBound.{length-flat_map_take, removed-few, steps-looked}

-- entries that see a change up to an instant are no more than all that do
kept_count-few : (theory : Theory) (old new : List PlainEvent) (t : ℤ) → kept_count theory old new (sees theory old new) t ≤ (change_counts theory old new).seen
unfolding kept_count change_counts
kept_count-few theory old new t =
    length-filter_wider (λ effect. int_lt effect.event.rank t && sees theory old new effect) (sees theory old new) (λ effect both. (and_parts (int_lt effect.event.rank t) (sees theory old new effect) both).1)
    (kept_effects theory old new)

-- what a sweep has taken up to an instant is within the most
pub steps_for-few : {T : Type 0} (rank : T → ℤ) (theory : Theory) (old new : List PlainEvent) (change : Change T) (r : ℤ) (looked : Looked) (progress : Progress)
    → looked.seen ≡ kept_count theory old new (sees theory old new) (r +ℤ pos 1) → IsProgress rank change r progress → steps_for change looked progress ≤ most_steps theory old new change
steps_for-few rank theory old new change r looked progress seen is =
    let few = kept_count-few theory old new (r +ℤ pos 1) in
    let removed = removed-few rank change r progress is in
    let added = length-flat_map_take progress.added change.entries in omega (arith, few, removed, added, seen)

-- so it is while a sweep is under way
pub sweep-few : {T : Type 0} (rank : T → ℤ) (theory : Theory) (new : List PlainEvent) (view : View T) (change : Change T) (sweep : Sweep T) → IsSweeping rank theory new view change sweep
    → steps_for change sweep.looked sweep.progress ≤ most_steps theory (history_of rank view.store.events) new change
sweep-few rank theory new view change sweep sweeping =
    steps_for-few rank theory (history_of rank view.store.events) new change sweeping.r sweep.looked sweep.progress sweeping.found.swept.seen sweeping.found.progress_is

-- a look that is done takes of steps what a sweep may take for what was met there
pub look-steps : {T : Type 0} (change : Change T) (looked after : Looked) (progress now : Progress) (removals : List (Removal T)) (lists : List (List Entry)) (start last : ℕ)
    → removals ≡ drop progress.removed (take now.removed change.remove) → lists ≡ drop progress.added (take now.added change.entries)
    → progress.removed ≤ now.removed → now.removed ≤ length change.remove → progress.added ≤ now.added
    → last + 2 * looked.seen ≡ start + 2 * after.seen + length removals + length (flat_map (λ list. list) lists) → last + steps_for change looked progress ≤ start + steps_for change after now
look-steps change looked after progress now removals lists start last gone come removed_on within added_on told =
    steps-looked start last looked.seen after.seen progress.removed (length (flat_map (λ (entries : List Entry). entries) (take progress.added change.entries)))
    (length removals) (length (flat_map (λ (entries : List Entry). entries) lists)) told
    (ap (λ (rs : List (Removal _)). progress.removed + length rs) gone ∙ length-between change.remove progress.removed now.removed removed_on within)
    (length-flat_map-between (λ (entries : List Entry). entries) change.entries progress.added now.added added_on
    ∙ ap (λ ls. length (flat_map (λ (entries : List Entry). entries) (take progress.added change.entries)) + length (flat_map (λ (entries : List Entry). entries) ls)) (sym come))

module _ {T : Type 0} (rank : T → ℤ) (theory : Theory) (new : List PlainEvent) (view : View T) (tally : Tally) (change : Change T) (r t : ℤ) (dirty : DirtyRows)
    (agenda : List (Due T)) (due : List PropId) (looked : Looked) (planned : Planned T) (active : Effect → Bool) (progress : Progress)
    (can : CanLook rank theory new view tally change r t dirty agenda due looked planned active progress) (one : IsOneToOne view.table) (slots : AreAtSlots view.store.events) where
  -- the list of the store, and how many removed and added events come up to the instant
  abbrev old : List PlainEvent
  old = history_of rank view.store.events

  abbrev removed_by : ℕ
  removed_by = length (filter (λ (removal : Removal T). int_le (rank removal.at) t) change.remove)

  abbrev added_by : ℕ
  added_by = length (filter (λ (event : Event T). int_le (rank event.at) t) change.add)

  -- the hits at the instant are entries that see a change
  hits-counted : (hits : List Hit) → AreHits rank view.entries.slots t dirty due (drop progress.removed (take removed_by change.remove)) hits
      → looked.seen + length hits ≤ (change_counts theory old new).seen
  hits-counted hits are =
      let removals = drop progress.removed (take removed_by change.remove) in
      let there = removals-there rank theory new view tally change r t dirty agenda due looked planned active progress can in
      let effects =
      effects_of_hits rank theory view.store.events hits
      (λ hit member.
      let effect = hit-effect rank theory new view tally change r t dirty agenda due looked planned active progress can one slots removals there hits are hit member in (effect.0, effect.1.of_hit)) in
      let listed = hits-seen rank theory new view tally change r t dirty agenda due looked planned active progress can one slots removals there hits are effects.0 effects.1 in
      let seen_there = (SeenInAnyOrder-law theory old new t effects.0 can.underway.both.caches.history listed).seen_there in
      let many = length-effects rank theory view.store.events hits effects.0 effects.1 in
      let goes_on = KeptCountsGoOn-law theory old new (sees theory old new) t in
      let before : looked.seen ≡ kept_count theory old new (sees theory old new) t = can.swept.seen ∙ ap (kept_count theory old new (sees theory old new)) (sym can.next) in
      let few = kept_count-few theory old new (t +ℤ pos 1) in omega (arith, seen_there, many, goes_on, before, few)

  -- so a look takes the sweep no further than the most
  taken-most : (before after : ℕ)
      → TakesSteps rank view.entries.slots t dirty due (drop progress.removed (take removed_by change.remove)) (drop progress.added (take added_by change.entries)) before after
      → after + steps_for change looked progress ≤ before + most_steps theory old new change
  taken-most before after (inl same) =
      let few = steps_for-few rank theory old new change r looked progress can.swept.seen can.progress_is in omega (arith, few, same)
  taken-most before after (inr taken) =
      let counted = hits-counted taken.0 taken.1 in
      let removed_on = removed-further rank theory new view tally change r t dirty agenda due looked planned active progress can in
      let removed_few = length-filter_le (λ (removal : Removal T). int_le (rank removal.at) t) change.remove in
      let met = length-between change.remove progress.removed removed_by removed_on removed_few in
      let added_on = added-further rank theory new view tally change r t dirty agenda due looked planned active progress can in
      let shown = length-flat_map-between (λ (entries : List Entry). entries) change.entries progress.added added_by added_on in
      let added_few = length-flat_map_take added_by change.entries in
      let steps = taken.2 in omega (arith, counted, removed_few, met, shown, added_few, steps)

  -- at the parts of the lists
  pub look-most : (removals : List (Removal T)) (lists : List (List Entry)) → removals ≡ drop progress.removed (take removed_by change.remove)
      → lists ≡ drop progress.added (take added_by change.entries) → (before after : ℕ) → TakesSteps rank view.entries.slots t dirty due removals lists before after
      → after + steps_for change looked progress ≤ before + most_steps theory old new change
  look-most removals lists gone come before after takes =
      taken-most before after
      (subst (λ rs. TakesSteps rank view.entries.slots t dirty due rs (drop progress.added (take added_by change.entries)) before after) gone
      (subst (λ ls. TakesSteps rank view.entries.slots t dirty due removals ls before after) come takes))
