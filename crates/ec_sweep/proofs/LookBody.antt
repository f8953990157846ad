-- What the body of the look needs of a change: its lists in order of time, and the parts of them at an instant.
use Rattle.std.proofs.Common.{◌≡◌, ℕ, ℤ, ◌+◌, ◌-◌, ◌≤◌, Bool, true, not, ◌&&◌, ◌||◌, List, ◌++◌, filter, flat_map, length, map, drop, take, Option, Some, None, IsTrue, refl, sym, ap, ap₂, subst, ◌∙◌, length-drop, arith}
use Rattle.std.specs.Prelude.{int_le, int_lt, nat_lt, option_map, IsSome, is_some}
use Rattle.std.specs.List.{All}
use Rattle.std.specs.Ordering.{int_eq}
use Rattle.std.proofs.lemmas.Grind.{flat_map-append}
use Rattle.std.proofs.lemmas.Int.{ints}
use Rattle.std.proofs.lemmas.List.{length-append, length-map, length-take-le, drop-map, take-map}
use Rattle.std.proofs.Math.Seq.{take-add}
use Rattle.std.proofs.lemmas.List.{drop-take}
use Rattle.std.proofs.lemmas.List.Elements.{All-contains}
use Rattle.std.proofs.lemmas.Option.{none-some}
use Rattle.ec_lists.proofs.Filters.{length-filter_wider}
use Rattle.ec_terms.specs.declared.ids.PropId.{PropId}
use Rattle.ec_terms.specs.declared.theory.Theory.{Theory}
use Rattle.ec_axioms.specs.declared.event.Event.{Event}
use Rattle.ec_axioms.specs.Calculus.{Effect, PlainEvent}
use Rattle.ec_axioms.specs.Changes.{comes_before, events_only_in, has_event}
use Rattle.ec_axioms.specs.Events.{event_of}
use Rattle.ec_axioms.proofs.Members.{Contains-from_member, IsMember-from_filter, IsPairwise, IsPairwise-filter, IsPairwise-weaker}
use Rattle.ec_changes.proofs.KeptEvents.{IsPairwise-from_history}
use Rattle.ec_store.specs.Store.{Kept, event_at, history_of}
use Rattle.ec_numbered.specs.ByNumber.{kept_at}
use Rattle.ec_parts.specs.declared.tally.Tally.{Tally}
use Rattle.ec_parts.specs.StandFor.{View}
use Rattle.ec_parts.proofs.LinksByNumber.{IsOneToOne}
use Rattle.ec_parts.proofs.Waiting.{All-from_members}
use Rattle.ec_numbered.specs.Due.{Due}
use Rattle.ec_delta.specs.declared.delta.Looked.{Looked}
use Rattle.ec_delta.specs.declared.delta.Planned.{Planned}
use Rattle.ec_revise.specs.declared.turn.Turn.{Turn}
use Rattle.ec_sweep.specs.declared.progress.Progress.{Progress}
use Rattle.ec_sweep.specs.LookedBy.{HasLookedBy}
use Rattle.ec_sweep.specs.State.{DirtyRows, is_current_over}
use Rattle.ec_sweep.specs.Visiting.{CanLook, HasLooked}
use Rattle.ec_sweep.proofs.LookByTerm.{HasLooked-by_number}
use Rattle.ec_sweep.proofs.ReadingEntries.{AreAtSlots, entered-event}
use Rattle.ec_sweep.proofs.TimedRuns.{run-next}
use Rattle.ec_store.specs.Table.{KeptProp}
use Rattle.ec_revise.specs.declared.change.Change.{Change}
use Rattle.ec_revise.specs.declared.change.Removal.{Removal}
use Rattle.ec_revise.specs.Change.{IsChange, entries_to_show, removal_before}
use Rattle.ec_context.specs.declared.entry.Entry.{Entry}
use Rattle.ec_context.specs.Entries.{shown_entries}
use Rattle.ec_rows.specs.Ordered.{is_ascending}
use Rattle.ec_rows.proofs.OrderedPairs.{IsPairwise-ascending, ascending-from_pairwise, IsPairwise-from_map}
use Rattle.ec_sweep.specs.Runs.{not_after}

-- ---- parts of lists

-- what stands up to a place is what stands up to an earlier one, and what is between
pub take-between : {X : Type 0} (xs : List X) (m n : ℕ) → m ≤ n → take n xs ≡ take m xs ++ drop m (take n xs)
take-between xs m n within =
    let whole : m + (n - m) ≡ n = omega arith in
    ap (λ k. take k xs) (sym whole) ∙ take-add m (n - m) xs ∙ ap (λ ys. take m xs ++ ys) (sym (drop-take m (n - m) xs)) ∙ ap (λ k. take m xs ++ drop m (take k xs)) whole

-- so the members of lists are counted
pub length-flat_map-between : {X Y : Type 0} (f : X → List Y) (xs : List X) (m n : ℕ) → m ≤ n
    → length (flat_map f (take n xs)) ≡ length (flat_map f (take m xs)) + length (flat_map f (drop m (take n xs)))
length-flat_map-between f xs m n within =
    ap (λ ys. length (flat_map f ys)) (take-between xs m n within) ∙ ap length (flat_map-append f (take m xs) (drop m (take n xs))) ∙ length-append (flat_map f (take m xs)) (flat_map f (drop m (take n xs)))

pub length-between : {X : Type 0} (xs : List X) (m n : ℕ) → m ≤ n → n ≤ length xs → m + length (drop m (take n xs)) ≡ n
length-between xs m n within few =
    let taken = length-take-le n xs few in let dropped = length-drop m (take n xs) in omega arith

-- a part of a list that is another list, up to a place that is another place
pub part-same : {X : Type 0} (m : ℕ) {part xs ys : List X} {n k : ℕ} → part ≡ drop m (take n xs) → xs ≡ ys → n ≡ k → part ≡ drop m (take k ys)
part-same m is lists places = is ∙ ap₂ (λ n xs. drop m (take n xs)) places lists

-- what is counted of a list that is another list
pub count-same : {X : Type 0} (p : X → Bool) {n : ℕ} {xs ys : List X} → n ≡ length (filter p xs) → xs ≡ ys → n ≡ length (filter p ys)
count-same p is lists = is ∙ ap (λ xs. length (filter p xs)) lists

-- what is shown of a part is a part of what is shown
pub map-between : {X Y : Type 0} (f : X → Y) (xs : List X) (m n : ℕ) → map f (drop m (take n xs)) ≡ drop m (take n (map f xs))
map-between f xs m n = sym (drop-map f m (take n xs)) ∙ ap (drop m) (sym (take-map f n xs))

-- what comes first by time, and then by something else, is no later
int_le-from_first : (s u : ℤ) (below : Bool) → (int_lt s u || (int_eq s u && below)) ≡ true → int_le s u ≡ true
int_le-from_first s u below before = grind (arith, ints)

-- ---- the lists of a change

module _ {T : Type 0} (rank : T → ℤ) (theory : Theory) (table : List KeptProp) (events : List (Kept T)) (new : List PlainEvent) (change : Change T)
    (is : IsChange rank theory table events new change) where
  -- removed events go by time
  pub removals-ordered : IsTrue (is_ascending (not_after rank (λ (removal : Removal T). removal.at)) change.remove)
  removals-ordered =
      ascending-from_pairwise (not_after rank (λ (removal : Removal T). removal.at)) change.remove
      (IsPairwise-weaker (λ a b. IsTrue (removal_before rank a b)) (λ a b. IsTrue (not_after rank (λ (removal : Removal T). removal.at) a b)) change.remove
      (IsPairwise-ascending (removal_before rank) change.remove is.order)
      (λ a b left right before. int_le-from_first (rank a.at) (rank b.at) (nat_lt a.slot.0 b.slot.0) before))

  -- and so do added events
  pub added-ordered : IsTrue (is_ascending (not_after rank (λ (event : Event T). event.at)) change.add)
  unfolding comes_before events_only_in
  added-ordered =
      ascending-from_pairwise (not_after rank (λ (event : Event T). event.at)) change.add
      (IsPairwise-weaker (λ a b. IsTrue (comes_before (event_of rank a) (event_of rank b))) (λ a b. IsTrue (not_after rank (λ (event : Event T). event.at) a b)) change.add
      (IsPairwise-from_map (λ e f. IsTrue (comes_before e f)) (event_of rank) change.add
      (subst (IsPairwise (λ e f. IsTrue (comes_before e f))) (sym is.added)
      (IsPairwise-filter (λ e f. IsTrue (comes_before e f)) (λ e. not (has_event (history_of rank events) e)) new (IsPairwise-from_history new is.history))))
      (λ a b left right before. int_le-from_first (rank a.at) (rank b.at) _ before))

  -- as many lists of entries as added events
  pub length-entries : length change.entries ≡ length change.add
  length-entries = sym (length-map _ _) ∙ ap length is.entries ∙ length-map _ _

  -- the lists of a part show the entries of the events of the same part
  pub entries-between : (m n : ℕ) → map (shown_entries table) (drop m (take n change.entries)) ≡ map (entries_to_show theory) (drop m (take n change.add))
  entries-between m n =
      map-between (shown_entries table) change.entries m n ∙ ap (λ os. drop m (take n os)) is.entries ∙ sym (map-between (entries_to_show theory) change.add m n)

-- ---- where a look can be taken

module _ {T : Type 0} (rank : T → ℤ) (theory : Theory) (new : List PlainEvent) (view : View T) (tally : Tally) (change : Change T) (r t : ℤ) (dirty : DirtyRows)
    (agenda : List (Due T)) (due : List PropId) (looked : Looked) (planned : Planned T) (active : Effect → Bool) (progress : Progress)
    (can : CanLook rank theory new view tally change r t dirty agenda due looked planned active progress) where
  abbrev removed_by : ℤ → ℕ
  removed_by u = length (filter (λ (removal : Removal T). int_le (rank removal.at) u) change.remove)

  abbrev added_by : ℤ → ℕ
  added_by u = length (filter (λ (event : Event T). int_le (rank event.at) u) change.add)

  further : (s : ℤ) → int_le s r ≡ true → int_le s t ≡ true
  further s early = let next = can.next in grind (arith, ints)

  -- the counts go on from those before
  pub removed-further : progress.removed ≤ removed_by t
  removed-further =
      let before = can.progress_is.removed_by in
      let wider = length-filter_wider (λ (removal : Removal T). int_le (rank removal.at) r) (λ (removal : Removal T). int_le (rank removal.at) t) (λ removal early. further (rank removal.at) early) change.remove in
      omega arith

  pub added-further : progress.added ≤ added_by t
  added-further =
      let before = can.progress_is.added_by in
      let wider = length-filter_wider (λ (event : Event T). int_le (rank event.at) r) (λ (event : Event T). int_le (rank event.at) t) (λ event early. further (rank event.at) early) change.add in
      omega arith

  -- the removed events between are those at the instant
  pub removals-there : drop progress.removed (take (removed_by t) change.remove) ≡ filter (λ (removal : Removal T). int_eq (rank removal.at) t) change.remove
  removals-there =
      ap (λ n. drop n (take (removed_by t) change.remove)) can.progress_is.removed_by
      ∙ subst (λ u. drop (removed_by r) (take (removed_by u) change.remove) ≡ filter (λ (removal : Removal T). int_eq (rank removal.at) u) change.remove) (sym can.next)
      (run-next rank (λ (removal : Removal T). removal.at) r change.remove
      (removals-ordered rank theory view.table view.store.events new change can.underway.change_is))

  -- each has entries that are kept
  pub removals-kept : All (λ (removal : Removal T). IsSome (kept_at removal.slot.0 view.entries.slots)) (drop progress.removed (take (removed_by t) change.remove))
  removals-kept =
      subst (All (λ (removal : Removal T). IsSome (kept_at removal.slot.0 view.entries.slots))) (sym removals-there)
      (All-from_members (λ (removal : Removal T). IsSome (kept_at removal.slot.0 view.entries.slots)) (filter (λ (removal : Removal T). int_eq (rank removal.at) t) change.remove)
      (λ removal member.
      let listed = IsMember-from_filter (λ (s : Removal T). int_eq (rank s.at) t) change.remove removal member in
      let time = All-contains (λ (s : Removal T). option_map (λ (e : Event T). e.at) (event_at s.slot view.store.events) ≡ Some s.at) change.remove removal
      can.underway.change_is.times (Contains-from_member change.remove removal listed.0) in
      of removal (event_at removal.slot view.store.events) refl time))
    where
      of : (removal : Removal T) (o : Option (Event T)) → event_at removal.slot view.store.events ≡ o
          → option_map (λ (e : Event T). e.at) (event_at removal.slot view.store.events) ≡ Some removal.at → is_some (kept_at removal.slot.0 view.entries.slots) ≡ true
      of removal None none time = absurd (none-some removal.at (sym (ap (option_map (λ (e : Event T). e.at)) none) ∙ time))
      of removal (Some event) there time =
          ap is_some (entered-event rank theory (history_of rank view.store.events) view.table view.store view.entries can.underway.both.caches.entries_of removal.slot event there).1

  -- What was done by slots and numbers with the parts of the lists at the instant is the look there.
  pub HasLooked-between : IsOneToOne view.table → AreAtSlots view.store.events → (removals : List (Removal T)) (lists : List (List Entry))
      → removals ≡ drop progress.removed (take (removed_by t) change.remove) → lists ≡ drop progress.added (take (added_by t) change.entries) → (after : Looked) (turns : List Turn)
      → HasLookedBy rank (is_current_over rank view.points dirty) view.entries.slots t dirty due removals lists looked after turns
      → HasLooked rank theory new view change t dirty agenda planned looked after active turns
  HasLooked-between one slots removals lists gone come after turns by =
      HasLooked-by_number rank theory new view tally change r t dirty agenda due looked planned active progress can one slots
      (added-ordered rank theory view.table view.store.events new change can.underway.change_is)
      removals (gone ∙ removals-there) (drop progress.added (take (added_by t) change.add)) lists
      (ap (λ n. drop n (take (added_by t) change.add)) can.progress_is.added_by)
      (ap (map (shown_entries view.table)) come ∙ entries-between rank theory view.table view.store.events new change can.underway.change_is progress.added (added_by t))
      after turns by
