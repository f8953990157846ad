-- The words of added events show which of their entries are active once an instant was looked at.
use Rattle.std.proofs.Common.{◌≡◌, ℕ, ℤ, ◌+◌, ◌<◌, ◌≤◌, Bool, true, false, List, [], ◌∷◌, length, filter, map, take, drop, zero, suc, Option, Some, None, IsTrue, refl, sym, ap, ap₂, subst, ◌∙◌, ⊎_elim, length-append, length-drop, arith}
use Rattle.std.specs.Prelude.{int_le, option_and_then, option_map, slice_get, unwrap_or}
use Rattle.std.specs.Option.{option_map_or}
use Rattle.std.specs.Ordering.{int_eq}
use Rattle.std.proofs.lemmas.Int.{ints}
use Rattle.std.proofs.lemmas.List.{length-map, length-take-le}
use Rattle.std.proofs.lemmas.Option.{none-some, slice_get-map, slice_get_within}
use Rattle.ec_lists.proofs.Filters.{length-filter_le, length-filter_wider}
use Rattle.ec_lists.proofs.Integers.{int_eq-is, int_eq-same}
use Rattle.ec_intervals.proofs.Spliced.{slice_get-drop}
use Rattle.ec_terms.specs.declared.ids.PropId.{PropId}
use Rattle.ec_terms.specs.declared.theory.Theory.{Theory}
use Rattle.ec_terms.specs.Domain.{GroundEntry, entries_of}
use Rattle.ec_axioms.specs.declared.event.Event.{Event}
use Rattle.ec_axioms.specs.Calculus.{Currency, Effect, PlainEvent, effects_of}
use Rattle.ec_axioms.specs.Changes.{events_only_in}
use Rattle.ec_axioms.specs.Events.{event_of}
use Rattle.ec_axioms.specs.Plain.{events_at}
use Rattle.ec_axioms.proofs.Members.{IsMember, IsMember-filter, IsMember-from_filter, IsMember-map, IsMember-slice_get}
use Rattle.ec_numbered.specs.Due.{Due}
use Rattle.ec_changes.specs.Differences.{entries_at}
use Rattle.ec_changes.proofs.Activity.{event-effects_of}
use Rattle.ec_changes.proofs.JoinedMembers.{IsMember-flat_map}
use Rattle.ec_context.specs.declared.entry.Entry.{Entry}
use Rattle.ec_context.specs.Activity.{IsCurrencyOfTerms, NumberCurrency}
use Rattle.ec_context.specs.Entries.{shown_entries, shown_entry}
use Rattle.ec_context.proofs.Shown.{literals_agree-is_active}
use Rattle.ec_store.specs.Store.{history_of}
use Rattle.ec_parts.specs.declared.tally.Tally.{Tally}
use Rattle.ec_parts.specs.Activity.{is_bit_set}
use Rattle.ec_parts.specs.StandFor.{View}
use Rattle.ec_parts.proofs.LinksByNumber.{IsOneToOne}
use Rattle.ec_revise.specs.declared.change.Change.{Change}
use Rattle.ec_revise.specs.declared.change.Removal.{Removal}
use Rattle.ec_revise.specs.Change.{entries_to_show}
use Rattle.ec_revise.specs.Visit.{currency_found}
use Rattle.ec_rows.specs.Ordered.{is_ascending}
use Rattle.ec_delta.specs.declared.delta.Looked.{Looked}
use Rattle.ec_delta.specs.declared.delta.Planned.{Planned}
use Rattle.ec_sweep.specs.declared.hits.Hit.{Hit}
use Rattle.ec_sweep.specs.declared.progress.Progress.{Progress}
use Rattle.ec_sweep.specs.Acting.{AddsWords, AreWordsOf, IsWordOf, acts}
use Rattle.ec_sweep.specs.Hits.{AreHits}
use Rattle.ec_sweep.specs.Runs.{not_after}
use Rattle.ec_sweep.specs.State.{DirtyRows, found_by, is_current_over}
use Rattle.ec_sweep.specs.Visiting.{CanLook}
use Rattle.ec_sweep.proofs.HitActivity.{currency_over-found}
use Rattle.ec_sweep.proofs.HitEffects.{AreEffectsOf}
use Rattle.ec_sweep.proofs.LookedActivity.{active_then, then-added, then-elsewhere}
use Rattle.ec_context.proofs.EachOf.{each_of-at, each_of-slice_get}
use Rattle.ec_sweep.proofs.ReadingEntries.{AreAtSlots, effect_by}
use Rattle.ec_sweep.proofs.SameMembers.{slice_get-joined, slice_get-take}
use Rattle.ec_sweep.proofs.TimedRuns.{run-first, run-next}

-- ---- words of lists

-- there are as many as lists
length-words : (current : NumberCurrency) (t : ℤ) (lists : List (List Entry)) (words : List ℕ) → AreWordsOf current t lists words → length words ≡ length lists
length-words current t [] [] are = refl
length-words current t [] (word ∷ words) are = absurd are
length-words current t (list ∷ lists) [] are = absurd are
length-words current t (list ∷ lists) (word ∷ words) are = ap suc (length-words current t lists words are.1)

-- and the word at a place is that of the list there
word-list : (current : NumberCurrency) (t : ℤ) (lists : List (List Entry)) (words : List ℕ) → AreWordsOf current t lists words → (j word : ℕ) → slice_get words j ≡ Some word
    → (list : List Entry) × (slice_get lists j ≡ Some list) × IsWordOf current t list word
word-list current t [] [] are j word there = absurd (none-some word there)
word-list current t [] (other ∷ words) are j word there = absurd are
word-list current t (list ∷ lists) [] are j word there = absurd are
word-list current t (list ∷ lists) (other ∷ words) are zero word there = (list, refl, subst (IsWordOf current t list) (ap (λ o. unwrap_or o other) there) are.0)
word-list current t (list ∷ lists) (other ∷ words) are (suc j) word there = word-list current t lists words are.1 j word there

-- the entries of an event, place by place: those of a list that a table shows as them
entries-shown : {T : Type 0} (rank : T → ℤ) (theory : Theory) (event : Event T) (shown : List GroundEntry) → shown ≡ entries_of theory event.term → (k : ℕ)
    → slice_get (effects_of theory (event_of rank event)) k ≡ option_map (effect_by (event_of rank event)) (slice_get shown k)
unfolding effects_of
entries-shown rank theory event shown is k =
    slice_get-map (effect_by (event_of rank event)) (entries_of theory event.term) k ∙ ap (λ gs. option_map (effect_by (event_of rank event)) (slice_get gs k)) (sym is)

effect-member : {T : Type 0} (rank : T → ℤ) (theory : Theory) (event : Event T) (ground : GroundEntry) → IsMember (entries_of theory event.term) ground
    → IsMember (effects_of theory (event_of rank event)) (effect_by (event_of rank event) ground)
unfolding effects_of
effect-member rank theory event ground member = IsMember-map (effect_by (event_of rank event)) (entries_of theory event.term) ground member

module _ {T : Type 0} (rank : T → ℤ) (theory : Theory) (new : List PlainEvent) (view : View T) (tally : Tally) (change : Change T) (r t : ℤ) (dirty : DirtyRows)
    (agenda : List (Due T)) (due : List PropId) (looked : Looked) (planned : Planned T) (active : Effect → Bool) (progress : Progress)
    (can : CanLook rank theory new view tally change r t dirty agenda due looked planned active progress) (one : IsOneToOne view.table) (slots : AreAtSlots view.store.events)
    (removals : List (Removal T)) (removals_are : removals ≡ filter (λ (removal : Removal T). int_eq (rank removal.at) t) change.remove) (hits : List Hit)
    (are : AreHits rank view.entries.slots t dirty due removals hits) (seen : List Effect) (of_hits : AreEffectsOf rank theory view.store.events hits seen)
    (after : Looked) (ordered : IsTrue (is_ascending (not_after rank (λ (event : Event T). event.at)) change.add))
    (adds : List (Event T)) (lists : List (List Entry))
    (adds_are : adds ≡ drop (length (filter (λ (event : Event T). int_le (rank event.at) r) change.add)) (take (length (filter (λ (event : Event T). int_le (rank event.at) t) change.add)) change.add))
    (lists_are : map (shown_entries view.table) lists ≡ map (entries_to_show theory) adds)
    (bits : AddsWords (is_current_over rank view.points dirty) t lists looked.bits after.bits) where
  -- the list of the store
  abbrev old : List PlainEvent
  old = history_of rank view.store.events

  -- what is active then
  abbrev active_after : Effect → Bool
  active_after = active_then rank theory new view tally change r t dirty agenda due looked planned active progress can one slots removals removals_are hits are seen of_hits

  -- the currency by which entries are evaluated, by numbers and by terms
  abbrev by_number : NumberCurrency
  by_number = is_current_over rank view.points dirty

  abbrev by_term : Currency
  by_term = currency_found theory old (found_by rank view.table dirty agenda looked planned active)

  -- how many added events were met before the instant, and how many are with it
  abbrev before : ℕ
  before = length (filter (λ (event : Event T). int_le (rank event.at) r) change.add)

  abbrev up_to : ℕ
  up_to = length (filter (λ (event : Event T). int_le (rank event.at) t) change.add)

  -- the added events at the instant
  pub adds-there : adds ≡ filter (λ (event : Event T). int_eq (rank event.at) t) change.add
  adds-there =
      adds_are
      ∙ subst
      (λ u. drop before (take (length (filter (λ (event : Event T). int_le (rank event.at) u) change.add)) change.add) ≡ filter (λ (event : Event T). int_eq (rank event.at) u) change.add)
      (sym can.next) (run-next rank (λ (event : Event T). event.at) r change.add ordered)

  adds-member : (event : Event T) → IsMember adds event → IsMember change.add event × (rank event.at ≡ t)
  adds-member event member =
      let found = IsMember-from_filter (λ (e : Event T). int_eq (rank e.at) t) change.add event (subst (λ es. IsMember es event) adds-there member) in
      (found.0, int_eq-is (rank event.at) t found.1)

  -- their entries are those of added events there
  pub added-member : (event : Event T) → IsMember adds event → (effect : Effect) → IsMember (effects_of theory (event_of rank event)) effect
      → IsMember (entries_at theory (events_only_in new old) t) effect
  added-member event member effect one_of =
      let found = adds-member event member in
      subst (λ es. IsMember (entries_at theory es t) effect) can.underway.change_is.added
      (IsMember-flat_map (effects_of theory) (events_at t (map (event_of rank) change.add)) (event_of rank event) effect
      (IsMember-filter (λ (e : PlainEvent). int_eq e.rank t) (map (event_of rank) change.add) (event_of rank event) (IsMember-map (event_of rank) change.add event found.0)
      (ap (λ u. int_eq u t) found.1 ∙ int_eq-same t))
      one_of)

  -- an entry of one acts where it is active then
  pub acts-added : (event : Event T) → IsMember adds event → (entry : Entry) (ground : GroundEntry) → shown_entry view.table entry ≡ Some ground → IsMember (entries_of theory event.term) ground
      → acts by_number t entry ≡ active_after (effect_by (event_of rank event) ground)
  acts-added event member entry ground shown there =
      let here = (adds-member event member).1 in
      ap (λ u. acts by_number u entry) (sym here)
      ∙ literals_agree-is_active view.table by_number by_term (event_of rank event)
      (subst (IsCurrencyOfTerms view.table by_number by_term) (sym here)
      (currency_over-found rank theory new view tally change r t dirty agenda due looked planned active progress can one))
      entry ground shown
      ∙ sym
      (then-added rank theory new view tally change r t dirty agenda due looked planned active progress can one slots removals removals_are hits are seen of_hits (effect_by (event_of rank event) ground)
      (added-member event member (effect_by (event_of rank event) ground) (effect-member rank theory event ground there)))

  -- ---- how many words there are

  wider : before ≤ up_to
  wider = length-filter_wider (λ (event : Event T). int_le (rank event.at) r) (λ (event : Event T). int_le (rank event.at) t) (λ event early. further (rank event.at) early) change.add
    where
      further : (s : ℤ) → int_le s r ≡ true → int_le s t ≡ true
      further s early = let next = can.next in grind (arith, ints)

  length-adds : before + length adds ≡ up_to
  length-adds =
      let few = length-filter_le (λ (event : Event T). int_le (rank event.at) t) change.add in
      let shorter = wider in
      let taken = length-take-le up_to change.add few in
      let dropped = length-drop before (take up_to change.add) in
      let there = ap length adds_are in omega arith

  word-count : length bits.words ≡ length adds
  word-count =
      length-words by_number t lists bits.words bits.of_lists
      ∙ sym (length-map _ _) ∙ ap length lists_are ∙ length-map _ _

  pub bits-then : length after.bits ≡ up_to
  bits-then = ap length bits.are ∙ length-append looked.bits bits.words ∙ ap₂ (λ a b. a + b) can.shows.bits word-count ∙ length-adds

  -- ---- what the words show

  -- an event that was met before is before the instant
  met-before : (i : ℕ) (event : Event T) → i < length looked.bits → slice_get change.add i ≡ Some event → int_le (rank event.at) r ≡ true
  met-before i event within there =
      (IsMember-from_filter (λ (e : Event T). int_le (rank e.at) r) change.add event
      (subst (λ es. IsMember es event) (run-first rank (λ (e : Event T). e.at) r change.add ordered)
      (IsMember-slice_get (take before change.add) i event
      (slice_get-take before change.add i event (subst (λ n. i < n) can.shows.bits within) there)))).1

  -- a word behind those is of an event at the instant
  met-now : (i j word : ℕ) (event : Event T) → i ≡ length looked.bits + j → slice_get bits.words j ≡ Some word → slice_get change.add i ≡ Some event → slice_get adds j ≡ Some event
  met-now i j word event is word_there there =
      subst (λ es. slice_get es j ≡ Some event) (sym adds_are)
      (slice_get-drop (take up_to change.add) before j event
      (slice_get-take up_to change.add (before + j) event
      (let within = slice_get_within bits.words j word word_there in let count = word-count in let all = length-adds in omega arith)
      (subst (λ k. slice_get change.add k ≡ Some event) (is ∙ ap (λ n. n + j) can.shows.bits) there)))

  -- a word of an event at the instant is of a list that shows its entries
  word-shown : (j word : ℕ) (event : Event T) → slice_get bits.words j ≡ Some word → slice_get adds j ≡ Some event
      → (list : List Entry) × (shown_entries view.table list ≡ Some (entries_of theory event.term)) × IsWordOf by_number t list word
  word-shown j word event word_there there =
      let found = word-list by_number t lists bits.words bits.of_lists j word word_there in
      let both : Some (shown_entries view.table found.0) ≡ Some (entries_to_show theory event) =
      sym (ap (option_map (shown_entries view.table)) found.1) ∙ sym (slice_get-map (shown_entries view.table) lists j) ∙ ap (λ os. slice_get os j) lists_are
      ∙ slice_get-map (entries_to_show theory) adds j ∙ ap (option_map (entries_to_show theory)) there in
      (found.0, ap (λ o. unwrap_or o (shown_entries view.table found.0)) both, found.2)

  added-now : (j word k : ℕ) (event : Event T) (effect : Effect) → slice_get bits.words j ≡ Some word → slice_get adds j ≡ Some event
      → slice_get (effects_of theory (event_of rank event)) k ≡ Some effect → active_after effect ≡ is_bit_set word k
  added-now j word k event effect word_there there at_place =
      let found = word-shown j word event word_there there in
      of found.0 found.1 (slice_get found.0 k) (shown_at found.0 found.1) refl ∙ sym (found.2 k)
    where
      shown_at : (list : List Entry) → shown_entries view.table list ≡ Some (entries_of theory event.term)
          → option_map (effect_by (event_of rank event)) (option_and_then (shown_entry view.table) (slice_get list k)) ≡ Some effect
      shown_at list shown =
          ap (option_map (effect_by (event_of rank event))) (sym (each_of-slice_get (shown_entry view.table) list (entries_of theory event.term) shown k))
          ∙ sym (entries-shown rank theory event (entries_of theory event.term) refl k) ∙ at_place

      of : (list : List Entry) → shown_entries view.table list ≡ Some (entries_of theory event.term) → (o : Option Entry)
          → option_map (effect_by (event_of rank event)) (option_and_then (shown_entry view.table) (slice_get list k)) ≡ Some effect → slice_get list k ≡ o
          → active_after effect ≡ option_map_or (acts by_number t) (slice_get list k) false
      of list shown None made none = absurd (none-some effect (sym (ap (λ o. option_map (effect_by (event_of rank event)) (option_and_then (shown_entry view.table) o)) none) ∙ made))
      of list shown (Some entry) made here = in_table (shown_entry view.table entry) refl
        where
          in_table : (o : Option GroundEntry) → shown_entry view.table entry ≡ o → active_after effect ≡ option_map_or (acts by_number t) (slice_get list k) false
          in_table None none =
              absurd (none-some effect (sym (ap (λ o. option_map (effect_by (event_of rank event)) (option_and_then (shown_entry view.table) o)) here ∙ ap (option_map (effect_by (event_of rank event))) none) ∙ made))
          in_table (Some ground) is =
              let same : effect_by (event_of rank event) ground ≡ effect =
              ap (λ o. unwrap_or o (effect_by (event_of rank event) ground))
              (sym (ap (λ o. option_map (effect_by (event_of rank event)) (option_and_then (shown_entry view.table) o)) here ∙ ap (option_map (effect_by (event_of rank event))) is) ∙ made) in
              let member = IsMember-slice_get (entries_of theory event.term) k ground
              (each_of-slice_get (shown_entry view.table) list (entries_of theory event.term) shown k ∙ ap (option_and_then (shown_entry view.table)) here ∙ is) in
              ap active_after (sym same) ∙ sym (acts-added event (IsMember-slice_get adds j event there) entry ground is member)
              ∙ sym (ap (λ o. option_map_or (acts by_number t) o false) here)

  pub added-then : (i word k : ℕ) (event : Event T) (effect : Effect) → slice_get change.add i ≡ Some event → slice_get after.bits i ≡ Some word
      → slice_get (effects_of theory (event_of rank event)) k ≡ Some effect → active_after effect ≡ is_bit_set word k
  added-then i word k event effect there word_there at_place =
      ⊎_elim
      (λ front.
      then-elsewhere rank theory new view tally change r t dirty agenda due looked planned active progress can one slots removals removals_are hits are seen of_hits effect
      (λ here.
      never (rank event.at)
      (ap (λ (e : PlainEvent). e.rank) (sym (event-effects_of theory (event_of rank event) effect (IsMember-slice_get (effects_of theory (event_of rank event)) k effect at_place))) ∙ here)
      (met-before i event front.0 there))
      ∙ can.shows.added i word k event effect there front.1 at_place)
      (λ behind. added-now behind.0 word k event effect behind.2 (met-now i behind.0 word event behind.1 behind.2 there) at_place)
      (slice_get-joined looked.bits bits.words i word (ap (λ ws. slice_get ws i) (sym bits.are) ∙ word_there))
    where
      never : (s : ℤ) → s ≡ t → int_le s r ≡ true → ⊥
      never s here early = let next = can.next in grind (arith, ints)

  whole-now : (j word k : ℕ) (event : Event T) → slice_get bits.words j ≡ Some word → slice_get adds j ≡ Some event
      → slice_get (effects_of theory (event_of rank event)) k ≡ None → is_bit_set word k ≡ false
  whole-now j word k event word_there there nothing =
      let found = word-shown j word event word_there there in found.2 k ∙ of found.0 found.1 (slice_get found.0 k) refl
    where
      of : (list : List Entry) → shown_entries view.table list ≡ Some (entries_of theory event.term) → (o : Option Entry) → slice_get list k ≡ o
          → option_map_or (acts by_number t) (slice_get list k) false ≡ false
      of list shown None none = ap (λ o. option_map_or (acts by_number t) o false) none
      of list shown (Some entry) here =
          let ground = each_of-at (shown_entry view.table) list (entries_of theory event.term) shown k entry here in
          absurd
          (none-some (effect_by (event_of rank event) ground.0)
          (sym nothing
          ∙ entries-shown rank theory event (entries_of theory event.term) refl k
          ∙ ap (option_map (effect_by (event_of rank event)))
          (each_of-slice_get (shown_entry view.table) list (entries_of theory event.term) shown k ∙ ap (option_and_then (shown_entry view.table)) here ∙ ground.1)))

  pub whole-then : (i word k : ℕ) (event : Event T) → slice_get change.add i ≡ Some event → slice_get after.bits i ≡ Some word
      → slice_get (effects_of theory (event_of rank event)) k ≡ None → is_bit_set word k ≡ false
  whole-then i word k event there word_there nothing =
      ⊎_elim
      (λ front. can.shows.whole i word k event there front.1 nothing)
      (λ behind. whole-now behind.0 word k event behind.2 (met-now i behind.0 word event behind.1 behind.2 there) nothing)
      (slice_get-joined looked.bits bits.words i word (ap (λ ws. slice_get ws i) (sym bits.are) ∙ word_there))
