-- A sweep that found nothing is under way: it has come up to before all events that stand in one list alone.
use Rattle.std.proofs.lemmas.Int.{ints}
use Rattle.std.proofs.Common.{◌≡◌, ◌≤ℤ◌, ◌+ℤ◌, ◌-ℤ◌, pos, ℕ, ℤ, Bool, true, false, List, [], ◌∷◌, Option, Some, None, option_map, length, filter, refl, sym, ap, ap₂, subst, ◌∙◌, ⊎_elim, arith}
use Rattle.std.specs.Prelude.{if◌then◌else◌, ◌&&◌, int_le, not}
use Rattle.std.specs.List.{list_all}
use Rattle.std.specs.Option.{option_map_or}
use Rattle.std.proofs.lemmas.Bool.{cases_Bool}
use Rattle.std.proofs.lemmas.List.Elements.{All-nil}
use Rattle.std.proofs.Common.{option_and_then}
use Rattle.ec_exclusive.specs.Forms.{breaks_by_initiation}
use Rattle.ec_lists.proofs.Integers.{int_le-same}
use Rattle.ec_terms.specs.declared.ids.Slot.{Slot}
use Rattle.ec_terms.specs.declared.ground.Ground.{Ground}
use Rattle.ec_terms.specs.declared.theory.Theory.{Theory}
use Rattle.ec_axioms.specs.declared.event.Event.{Event}
use Rattle.ec_axioms.specs.Calculus.{PlainEvent, Effect, is_active, is_current}
use Rattle.ec_axioms.specs.Changes.{events_only_in, has_event}
use Rattle.ec_axioms.specs.Events.{event_of}
use Rattle.ec_axioms.specs.Marks.{mark_at}
use Rattle.ec_axioms.proofs.Members.{Contains-from_member, IsMember-append_right, IsMember-filter, IsMember-from_contains, IsMember-map, filter_none, list_all-from_members, list_all-member, IsMember-append_left}
use Rattle.ec_changes.specs.QuietLaws.{DifferFrom, single_events}
use Rattle.ec_store.specs.Store.{event_at, history_of, plain_of}
use Rattle.ec_numbered.specs.ByNumber.{kept_at}
use Rattle.ec_rows.specs.Ordered.{is_ascending}
use Rattle.ec_store.specs.Table.{prop_of}
use Rattle.ec_parts.specs.declared.tally.Tally.{Tally}
use Rattle.ec_parts.specs.Activity.{is_active_at, is_bit_set}
use Rattle.ec_parts.specs.Caches.{IsEnteredIn}
use Rattle.ec_parts.specs.StandFor.{View}
use Rattle.ec_entries.specs.declared.event_entries.EventEntries.{EventEntries}
use Rattle.ec_revise.specs.declared.change.Change.{Change}
use Rattle.ec_revise.specs.declared.change.Removal.{Removal}
use Rattle.ec_revise.specs.Sweep.{Swept}
use Rattle.ec_revise.proofs.Starting.{SweepStarts-law}
use Rattle.ec_changes.proofs.Past.{PastStays-law}
use Rattle.ec_revise.specs.Sweep.{Found}
use Rattle.ec_axioms.specs.Marks.{PlainMark}
use Rattle.ec_rows.specs.PlainMarks.{plain_mark}
use Rattle.ec_points.specs.Changes.{change_at}
use Rattle.ec_numbered.specs.Due.{has_due}
use Rattle.ec_sweep.specs.State.{dirty_at}
use Rattle.ec_axioms.proofs.Members.{IsMember}
use Rattle.ec_delta.specs.Looked.{active_of}
use Rattle.ec_sweep.specs.declared.sweep.Sweep.{Sweep}
use Rattle.ec_sweep.specs.State.{IsUnderway, found_by, keeps}
use Rattle.ec_sweep.specs.Sweeping.{IsSweeping, no_sweep}
use Rattle.ec_sweep.proofs.Singles.{IsRemoved-of}
use Rattle.ec_sweep.proofs.NextInstant.{compared}

-- ---- a whole number before all

-- some number is no later than each event
record IsBelow (events : List PlainEvent) : Type 0 where
  bound : ℤ
  below : list_all (λ (e : PlainEvent). int_le bound e.rank) events ≡ true

below_all : (events : List PlainEvent) → IsBelow events
below_all [] = record { bound = pos 0; below = refl }
below_all (e ∷ events) =
    let rest = below_all events in
    ⊎_elim
    (λ early. record { bound = rest.bound; below = ap₂ (λ a b. a && b) early rest.below })
    (λ late.
    record {
      bound = e.rank;
      below = ap₂ (λ a b. a && b) (int_le-same e.rank)
          (list_all-from_members (λ (f : PlainEvent). int_le e.rank f.rank) events
          (λ f member. earlier rest.bound e.rank f.rank late (list_all-member (λ (g : PlainEvent). int_le rest.bound g.rank) events f rest.below member)));
    })
    (cases_Bool (int_le rest.bound e.rank))
  where
    earlier : (b s t : ℤ) → int_le b s ≡ false → int_le b t ≡ true → int_le s t ≡ true
    earlier b s t late after = grind (arith, ints)

-- ---- the beginning

module _ {T : Type 0} (rank : T → ℤ) (theory : Theory) (new : List PlainEvent) (view : View T) (tally : Tally) (change : Change T)
    (underway : IsUnderway rank theory new view tally change) where
  abbrev old : List PlainEvent
  old = history_of rank view.store.events

  abbrev first : ℤ
  first = (below_all (single_events old new)).bound

  abbrev start : ℤ
  start = first -ℤ pos 1

  next_is : start +ℤ pos 1 ≡ first
  next_is = omega (arith, ints)

  late : DifferFrom (start +ℤ pos 1) old new
  late = subst (λ t. DifferFrom t old new) (sym next_is) (below_all (single_events old new)).below

  -- what was active in the old list
  abbrev was_active : Effect → Bool
  was_active = is_active (is_current theory old)

  abbrev nothing : Sweep T
  nothing = no_sweep

  abbrev found : Found
  found = found_by rank view.table nothing.dirty nothing.agenda nothing.looked nothing.planned was_active

  nothing_of : {A B : Type 0} (f : A → Option B) (o : Option A) → ((a : A) → f a ≡ None) → option_and_then f o ≡ None
  nothing_of f None none = refl
  nothing_of f (Some a) none = none a

  no_test : {A : Type 0} (o : Option A) (f : A → Bool) → ((a : A) → f a ≡ false) → option_map_or f o false ≡ false
  no_test None f none = refl
  no_test (Some a) f none = none a

  swept : Swept theory old new (keeps view.table) start found
  swept = SweepStarts-law theory old new (keeps view.table) start found (compared rank theory new view tally change underway) late
      (record {
        dirty = λ p. nothing_of (λ (id : ℕ). dirty_at id nothing.dirty) (prop_of p view.table) (λ id. refl);
        planned = λ p t. nothing_of (λ (id : ℕ). option_map (λ change. plain_mark rank change.1) (change_at rank id t nothing.planned.marks)) (prop_of p view.table) (λ id. refl);
        active = λ effect t contained. refl;
        agenda = λ p t. no_test (prop_of p view.table) (λ (id : ℕ). has_due rank t id nothing.agenda) (λ id. refl);
        seen = refl;
        on = refl;
        off = refl;
      })

  never_planned : (p : Ground) (t : ℤ) → found.planned p t ≡ None
  never_planned p t = nothing_of (λ (id : ℕ). option_map (λ change. plain_mark rank change.1) (change_at rank id t nothing.planned.marks)) (prop_of p view.table) (λ id. refl)

  marks_same : (p : Ground) (t : ℤ) → t ≤ℤ start → mark_at theory old p t ≡ mark_at theory new p t
  marks_same p t within =
      (PastStays-law theory old new (start +ℤ pos 1) underway.both.caches.history underway.change_is.history late).marks p t (omega (arith, ints))

  -- the bits of a slot are those of its event
  bits_of : (slot : Slot) (event : Event T) → event_at slot view.store.events ≡ Some event → (k : ℕ)
      → is_bit_set (active_of (kept_at slot.0 view.entries.slots)) k ≡ is_active_at theory (is_current theory old) (event_of rank event) k
  bits_of slot event there k = of (event_at slot view.store.events) (kept_at slot.0 view.entries.slots) there (underway.both.caches.entries_of slot)
    where
      of : (o : Option (Event T)) (m : Option (EventEntries T)) → o ≡ Some event → IsEnteredIn rank theory old view.table o m
          → is_bit_set (active_of m) k ≡ is_active_at theory (is_current theory old) (event_of rank event) k
      of None m is entered = cc
      of (Some e) None is entered = absurd entered
      of (Some e) (Some kept) is entered =
          let same : e ≡ event = cc in
          entered.active k ∙ ap (λ f. is_active_at theory (is_current theory old) (event_of rank f) k) same

  -- an event of one list alone is behind the start
  behind_start : (e : PlainEvent) → IsMember (single_events old new) e → int_le e.rank start ≡ false
  behind_start e member = before first e.rank (list_all-member (λ (f : PlainEvent). int_le first f.rank) (single_events old new) e (below_all (single_events old new)).below member)
    where
      before : (b t : ℤ) → int_le b t ≡ true → int_le t (b -ℤ pos 1) ≡ false
      before b t after = grind (arith, ints)

  none_added : filter (λ (event : Event T). int_le (rank event.at) start) change.add ≡ []
  none_added =
      filter_none (λ (event : Event T). int_le (rank event.at) start) change.add
      (λ event member.
      behind_start (event_of rank event)
      (IsMember-append_right (events_only_in old new) (events_only_in new old) (event_of rank event)
      (subst (λ es. IsMember es (event_of rank event)) underway.change_is.added (IsMember-map (event_of rank) change.add event member))))

  none_removed : filter (λ (removal : Removal T). int_le (rank removal.at) start) change.remove ≡ []
  unfolding events_only_in
  none_removed =
      filter_none (λ (removal : Removal T). int_le (rank removal.at) start) change.remove
      (λ removal member.
      let is = IsRemoved-of rank theory view.table view.store.events new change underway.change_is removal (Contains-from_member change.remove removal member) in
      subst (λ at. int_le (rank at) start ≡ false) is.time
      (behind_start (plain_of rank is.kept)
      (IsMember-append_left (events_only_in old new) (events_only_in new old) (plain_of rank is.kept)
      (IsMember-filter (λ e. not (has_event new e)) old (plain_of rank is.kept)
      (IsMember-map (plain_of rank) view.store.events is.kept (IsMember-from_contains view.store.events is.kept is.member)) (ap not is.gone)))))

  -- the sweep is under way
  pub IsSweeping-begin : IsSweeping rank theory new view change nothing
  unfolding is_ascending
  IsSweeping-begin = record {
    r = start;
    last = tt;
    found = record {
      active = was_active;
      swept = swept;
      shows = record {
        stored = λ slot event k effect there is. sym (bits_of slot event there k ∙ ap (λ o. option_map_or (is_active (is_current theory old)) o false) is);
        added = λ i word k event effect is bits effect_is. cc;
        whole = λ i word k event is bits none. cc;
        stored_whole = λ slot event k there none. bits_of slot event there k ∙ ap (λ o. option_map_or (is_active (is_current theory old)) o false) none;
        flipped = All-nil _;
        stayed = All-nil _;
        apart = refl;
        bits = sym (ap length none_added);
      };
      progress_is = record { removed_by = sym (ap length none_removed); added_by = sym (ap length none_added) };
      planned_up_to = record {
        initiations = λ id p t kept within.
            ap (λ (mark : PlainMark). record { instant = t; inits = if breaks_by_initiation theory p then mark.inits else 0; terms = 0; clashes = 0 })
            (marks_same p t within);
        not_yet = λ id t behind. refl;
        none_yet = λ id t behind. refl;
        of_kept = All-nil _;
        starts_of_kept = All-nil _;
        windows = record {
          windows = λ id t is. cc;
          in_order = λ id touched is. cc;
          kept = λ id touched is. cc;
          counted = λ id touched is. cc;
          grown = λ id touched is. cc;
          started = λ id touched is. cc;
          started_only = λ id none. refl;
        };
        so_far = λ id touched is. cc;
      };
      due_of = All-nil _;
    };
  }
