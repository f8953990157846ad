-- Of the properties of a closed set, the events with an entry in it say what the whole history says. At each time the wanted
-- effects are the same where the currencies of the set are; so the marks are, and so the currencies at the next time.
use Rattle.std.proofs.Common.{◌≡◌, ℤ, Bool, true, false, cond, List, [], ◌∷◌, ◌++◌, length, filter, flat_map, IsTrue, IsFalse, refl, sym, ap, ap₂, subst, ◌∙◌, inl}
use Rattle.std.specs.Prelude.{int_le}
use Rattle.std.specs.Ordering.{int_eq}
use Rattle.std.proofs.lemmas.Bool.{and_parts, false≢true, false_from_ne_true}
use Rattle.std.proofs.lemmas.List.Elements.{filter-append}
use Rattle.ec_lists.proofs.Filters.{filter_comm}
use Rattle.ec_lists.proofs.Integers.{each_of_stretch, int_le-same}
use Rattle.ec_lists.proofs.Tests.{list_all-filter}
use Rattle.ec_terms.specs.declared.ground.Ground.{Ground}
use Rattle.ec_terms.specs.declared.theory.Theory.{Theory}
use Rattle.ec_terms.specs.Domain.{GroundEntry, entries_of}
use Rattle.ec_terms.proofs.OrderLemmas.{term_eq-Decides}
use Rattle.ec_axioms.specs.Plain.{events_at}
use Rattle.ec_axioms.specs.Calculus.{PlainEvent, Effect, Currency, effects_of, effects_at, is_active, is_current, is_initiating, is_terminating, is_clashing, holds_at}
use Rattle.ec_axioms.specs.Timeline.{is_held_at}
use Rattle.ec_axioms.specs.Marks.{mark_at}
use Rattle.ec_axioms.proofs.Members.{IsMember, IsMember-from_map, IsMember-from_filter, Contains-from_member, filter_none, filter_agree, list_any-false}
use Rattle.ec_axioms.proofs.OrderedEvents.{is_history-filter}
use Rattle.ec_changes.specs.Differences.{entries_at}
use Rattle.ec_changes.specs.QuietLaws.{current_behind}
use Rattle.ec_changes.proofs.JoinedMembers.{IsMember-from_flat_map}
use Rattle.ec_changes.proofs.Activity.{rank-entries_at, is_active-each}
use Rattle.ec_changes.proofs.Quiet.{CurrencyBehindMarks-law}
use Rattle.ec_changes.proofs.LiveMarks.{mark_same}
use Rattle.ec_changes.proofs.Inert.{rank_before, is_current-before_all, InertChangesKeepIntervals-law}
use Rattle.ec_cone.specs.Closed.{IsClosed, has_entry_inside, events_inside, ClosedSetSuffices}

module _ (theory : Theory) (inside : Ground → Bool) (closed : IsClosed theory inside) where
  -- the events with an entry inside
  abbrev fewer : List PlainEvent → List PlainEvent
  fewer events = events_inside theory inside events

  -- the effects whose entry a test wants
  abbrev is_wanted : (GroundEntry → Bool) → Effect → Bool
  is_wanted wanted effect = wanted effect.entry

  abbrev wanted_of : (GroundEntry → Bool) → List Effect → List Effect
  wanted_of wanted effects = filter (is_wanted wanted) effects

  -- all entries of some events
  abbrev effects_of_all : List PlainEvent → List Effect
  effects_of_all events = flat_map (effects_of theory) events

  -- ---- effects with a head inside

  -- the test wants entries with a head inside alone
  abbrev WantsInside : (GroundEntry → Bool) → Type 0
  WantsInside wanted = (entry : GroundEntry) → IsTrue (wanted entry) → IsTrue (inside entry.head)

  -- an event that has none gives nothing that is wanted
  wanted_none : (wanted : GroundEntry → Bool) (e : PlainEvent) → WantsInside wanted → IsFalse (has_entry_inside theory inside e)
      → wanted_of wanted (effects_of theory e) ≡ []
  unfolding effects_of has_entry_inside
  wanted_none wanted e wants none =
      filter_none (is_wanted wanted) (effects_of theory e)
      (λ effect member.
      let found = IsMember-from_map (λ (entry : GroundEntry). record { event = e; entry = entry }) (entries_of theory e.term) effect member in
      let own : found.0 ≡ effect.entry = ap (λ (f : Effect). f.entry) found.2 in
      false_from_ne_true (wanted effect.entry)
      (λ yes. false≢true
      (sym (list_any-false (λ (entry : GroundEntry). inside entry.head) (entries_of theory e.term) found.0 none found.1)
      ∙ ap (λ (entry : GroundEntry). inside entry.head) own ∙ wants effect.entry yes)))

  -- so the events that have one give all that is wanted
  wanted-events_inside : (wanted : GroundEntry → Bool) (events : List PlainEvent) → WantsInside wanted
      → wanted_of wanted (effects_of_all (fewer events)) ≡ wanted_of wanted (effects_of_all events)
  wanted-events_inside wanted [] wants = refl
  wanted-events_inside wanted (e ∷ events) wants = by_test (has_entry_inside theory inside e) refl (wanted-events_inside wanted events wants)
    where
      by_test : (bears : Bool) → has_entry_inside theory inside e ≡ bears
          → wanted_of wanted (effects_of_all (fewer events)) ≡ wanted_of wanted (effects_of_all events)
          → wanted_of wanted (effects_of_all (cond bears (e ∷ fewer events) (fewer events)))
          ≡ wanted_of wanted (effects_of_all (e ∷ events))
      by_test true is rest =
          filter-append (is_wanted wanted) (effects_of theory e) (effects_of_all (fewer events))
          ∙ ap (λ kept. wanted_of wanted (effects_of theory e) ++ kept) rest
          ∙ sym (filter-append (is_wanted wanted) (effects_of theory e) (effects_of_all events))
      by_test false is rest =
          rest
          ∙ ap (λ kept. kept ++ wanted_of wanted (effects_of_all events)) (sym (wanted_none wanted e wants is))
          ∙ sym (filter-append (is_wanted wanted) (effects_of theory e) (effects_of_all events))

  -- the currencies agree inside at a time
  abbrev AgreeInside : Currency → Currency → ℤ → Type 0
  AgreeInside c d t = (q : Ground) → IsTrue (inside q) → c q t ≡ d q t

  -- then an entry with a head inside is active in both, as its literals are inside
  is_active-inside : (events : List PlainEvent) (c d : Currency) (t : ℤ) (effect : Effect) → AgreeInside c d t
      → IsMember (entries_at theory events t) effect → IsTrue (inside effect.entry.head) → is_active c effect ≡ is_active d effect
  unfolding effects_of
  is_active-inside events c d t effect agree member within =
      let found = IsMember-from_flat_map (effects_of theory) (events_at t events) effect member in
      let e : PlainEvent = found.0 in
      let of_event = IsMember-from_map (λ (entry : GroundEntry). record { event = e; entry = entry }) (entries_of theory e.term) effect found.2 in
      let entry = subst (IsMember (entries_of theory e.term)) (ap (λ (f : Effect). f.entry) of_event.2) of_event.1 in
      is_active-each c d effect
      (λ literal there.
      subst (λ s. c literal.prop s ≡ d literal.prop s) (sym (rank-entries_at theory events t effect member))
      (agree literal.prop
      (closed.literals e.term effect.entry literal (Contains-from_member (entries_of theory e.term) effect.entry entry)
      (Contains-from_member effect.entry.literals literal there) within)))

  -- so what is wanted takes effect in both
  effects_at-inside : (events : List PlainEvent) (c d : Currency) (wanted : GroundEntry → Bool) (t : ℤ) → AgreeInside c d t → WantsInside wanted
      → effects_at theory events c wanted t ≡ effects_at theory (fewer events) d wanted t
  unfolding effects_at
  effects_at-inside events c d wanted t agree wants =
      filter_agree (is_active c) (is_active d) (wanted_of wanted (entries_at theory events t))
      (λ effect kept.
      let parts = IsMember-from_filter (is_wanted wanted) (entries_at theory events t) effect kept in
      is_active-inside events c d t effect agree parts.0 (wants effect.entry parts.1))
      ∙ ap (filter (is_active d))
      (sym (wanted-events_inside wanted (events_at t events) wants)
      ∙ ap (λ es. wanted_of wanted (effects_of_all es)) (filter_comm (has_entry_inside theory inside) (λ e. int_eq e.rank t) events))

  -- ---- marks and currency

  -- what initiates or terminates a property inside has its head inside
  wants_initiating : (p : Ground) → IsTrue (inside p) → WantsInside (is_initiating p)
  unfolding is_initiating
  wants_initiating p within entry wanted =
      subst (λ q. IsTrue (inside q)) (sym ((term_eq-Decides entry.head p).0 (and_parts _ _ wanted).1)) within

  wants_terminating : (p : Ground) → IsTrue (inside p) → WantsInside (is_terminating p)
  unfolding is_terminating
  wants_terminating p within entry wanted =
      subst (λ q. IsTrue (inside q)) (sym ((term_eq-Decides entry.head p).0 (and_parts _ _ wanted).1)) within

  -- and so has what clashes with it
  wants_clashing : (p : Ground) → IsTrue (inside p) → WantsInside (is_clashing theory p)
  unfolding is_clashing
  wants_clashing p within entry wanted = closed.exclusives p entry.head (and_parts _ _ wanted).1 within

  -- where the currencies agree inside, so do the marks
  mark_at-inside : (events : List PlainEvent) (p : Ground) (t : ℤ) → IsTrue (inside p)
      → AgreeInside (is_current theory events) (is_current theory (fewer events)) t
      → mark_at theory events p t ≡ mark_at theory (fewer events) p t
  unfolding mark_at
  mark_at-inside events p t within agree =
      mark_same (mark_at theory events p t) (mark_at theory (fewer events) p t) refl
      (same (is_initiating p) (wants_initiating p within))
      (same (is_terminating p) (wants_terminating p within))
      (same (is_clashing theory p) (wants_clashing p within))
    where
      same : (wanted : GroundEntry → Bool) → WantsInside wanted
          → length (effects_at theory events (is_current theory events) wanted t)
          ≡ length (effects_at theory (fewer events) (is_current theory (fewer events)) wanted t)
      same wanted wants =
          ap length (effects_at-inside events (is_current theory events) (is_current theory (fewer events)) wanted t agree wants)

  -- before all events what is initial is current, and from each time to the next the currencies go on agreeing
  is_current-inside : (events : List PlainEvent) (t : ℤ) → AgreeInside (is_current theory events) (is_current theory (fewer events)) t
  is_current-inside events t =
      let first = rank_before events t in
      each_of_stretch (AgreeInside (is_current theory events) (is_current theory (fewer events))) first.0 t
      (λ q within.
      is_current-before_all theory events q first.0 first.2
      ∙ sym (is_current-before_all theory (fewer events) q first.0
      (list_all-filter (λ e. int_le first.0 e.rank) (has_entry_inside theory inside) events first.2)))
      (λ s from to agree q within.
      CurrencyBehindMarks-law theory events q s
      ∙ ap₂ current_behind (agree q within) (mark_at-inside events q s within agree)
      ∙ sym (CurrencyBehindMarks-law theory (fewer events) q s))
      t first.1 (int_le-same t)

-- the law
pub ClosedSetSuffices-law : ClosedSetSuffices
unfolding holds_at
ClosedSetSuffices-law theory inside events p history closed within =
    let kept = InertChangesKeepIntervals-law theory events (events_inside theory inside events) p history
    (is_history-filter (has_entry_inside theory inside) events history)
    (λ t. inl (mark_at-inside theory inside closed events p t within (is_current-inside theory inside closed events t))) in
    record { kept = kept; holding = λ t. ap (λ intervals. is_held_at intervals t) kept.intervals }
