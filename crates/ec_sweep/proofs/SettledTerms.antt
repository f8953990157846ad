-- What is settled by numbers is settled by terms.
use Rattle.std.proofs.Common.{◌≡◌, ◌≢◌, ℕ, ℤ, ◌<ℤ◌, ◌≤ℤ◌, Bool, true, false, not, ◌&&◌, ◌||◌, List, Option, Some, None, IsTrue, IsFalse, refl, sym, ap, ap₂, subst, ◌∙◌, ⊎_elim, arith}
use Rattle.std.specs.Prelude.{◌==◌, Contains, IsSome, nat_lt, is_some, unwrap_or, if◌then◌else◌, option_map, option_and_then}
use Rattle.std.specs.List.{All, list_any}
use Rattle.std.specs.Option.{option_map_or}
use Rattle.std.specs.Ordering.{int_eq}
use Rattle.std.proofs.lemmas.Bool.{cases_Bool, and_from, and_parts, cond-true, eq-eqb, eqb-true, false≢true, false_from_ne_true, or_cases, or_left, or_parts, not-true, not-false}
use Rattle.std.proofs.lemmas.Bool.Decides.{nat_tests}
use Rattle.std.proofs.lemmas.List.Elements.{All-contains, All-contains_itself, All-weaker}
use Rattle.std.proofs.lemmas.Option.{none-some}
use Rattle.std.proofs.lemmas.Int.{by_lt_z, ints}
use Rattle.std.proofs.Math.Bool.{or-false}
use Rattle.ec_lists.proofs.Integers.{int_eq-is, int_eq-same}
use Rattle.ec_lists.proofs.Finds.{is_some-find}
use Rattle.ec_lists.proofs.Options.{None-from_is_some}
use Rattle.ec_terms.specs.declared.ids.PropId.{PropId}
use Rattle.ec_terms.specs.declared.ground.Ground.{Ground}
use Rattle.ec_terms.specs.declared.theory.Theory.{Theory}
use Rattle.ec_axioms.specs.Calculus.{PlainEvent, Effect, is_current}
use Rattle.ec_axioms.specs.Marks.{PlainMark, current_after, is_marked, last_mark_before, mark_at, mark_initiates, marks_of}
use Rattle.ec_axioms.proofs.HistoryLaws.{CurrencyIsOfTheLastMark-law}
use Rattle.ec_axioms.proofs.Members.{Contains-from_member, IsMember, IsMember-filter, IsMember-from_contains, IsMember-from_filter, list_any-member, member-list_any}
use Rattle.ec_changes.proofs.LiveMarks.{mark_same}
use Rattle.ec_numbered.specs.Due.{Due, has_due, is_due as is_due_at}
use Rattle.ec_changes.specs.QuietLaws.{current_behind}
use Rattle.ec_store.specs.Table.{KeptProp, is_in_order, prop_at, prop_of, term_at}
use Rattle.ec_store.proofs.FoundLemmas.{found_own}
use Rattle.ec_store.specs.Store.{history_of}
use Rattle.ec_numbered.specs.PropSet.{has_number}
use Rattle.ec_numbered.proofs.Numbers.{has_number-filter}
use Rattle.ec_exclusive.specs.Added.{added_props, is_added, neighbours_of, stands_in_list}
use Rattle.ec_exclusive.specs.Forms.{breaks_by_initiation}
use Rattle.ec_exclusive.specs.Neighbours.{exclusive_at}
use Rattle.ec_exclusive.proofs.RowLemmas.{neighbours-exclusive}
use Rattle.ec_points.specs.Changes.{Change as MarkChange, change_at, has_change, is_new}
use Rattle.ec_points.specs.Table.{is_current_at, marks_at}
use Rattle.ec_rows.specs.declared.mark.Mark.{Mark}
use Rattle.ec_rows.specs.Marks.{has_mark, is_counted, mark_at as row_mark_at}
use Rattle.ec_rows.specs.PlainMarks.{plain_mark, plain_marks}
use Rattle.ec_parts.specs.declared.tally.Tally.{Tally as PartsTally}
use Rattle.ec_parts.specs.StandFor.{View}
use Rattle.ec_parts.proofs.KeptInitiations.{kept_initiations-all}
use Rattle.ec_revise.specs.declared.change.Change.{Change}
use Rattle.ec_revise.specs.declared.settled.Tallied.{Tallied}
use Rattle.ec_revise.specs.declared.turn.Turn.{Turn}
use Rattle.ec_revise.specs.ShownTurns.{FindsItsTerms}
use Rattle.ec_revise.specs.Sweep.{Found, IsDueBy, bears_on, other_currency}
use Rattle.ec_revise.specs.Tallied.{IsTallyOf}
use Rattle.ec_revise.specs.TurnCounts.{IsTallyAt, clashes_at, counts_at, is_initiation, nothing_tallied, row_at, tallied_at}
use Rattle.ec_revise.specs.Visit.{LeavesOne, PlainTurn, Settles, SettlesOne, counts_same, currency_found, is_turned, mark_after, mark_matters, mark_planned}
use Rattle.ec_revise.proofs.ByTerm.{TalliesGoByTerm-law}
use Rattle.ec_revise.proofs.TurnedMarks.{MarksAreAfterTurns-law, mark_after-none}
use Rattle.ec_delta.specs.declared.delta.Looked.{Looked}
use Rattle.ec_delta.specs.declared.delta.Planned.{Planned}
use Rattle.ec_delta.specs.declared.touches.Touch.{Touch}
use Rattle.ec_delta.specs.declared.touches.Touched.{Touched}
use Rattle.ec_delta.specs.Ready.{AreWindows, initiation_at, mark_made}
use Rattle.ec_delta.specs.Touched.{matters_at, touched_at}
use Rattle.ec_sweep.specs.State.{AreDueOf, DirtyRows, IsPlannedUpTo, dirty_at, found_by, keeps}
use Rattle.ec_sweep.specs.Visiting.{CanSettle, HasSettled, settled_by}
use Rattle.ec_sweep.specs.Settling.{AreAdded, HaveRoom, Noted, SettlesNumber, SettlesRows, mark_or_zeros, old_mark, own_changes, starts_change, starts_of, touch_of, touched_if}
use Rattle.ec_sweep.proofs.Bearing.{BearsAt-event, bears_on-number}
use Rattle.ec_sweep.proofs.KeptTerms.{prop_of-term_at}
use Rattle.ec_sweep.proofs.OldMarks.{has_initiation-is, mark_or_zeros-is}
use Rattle.ec_sweep.proofs.OwnChanges.{change_at-elsewhere, change_at-more, change_at-none, change_at-same, has_change-more, has_change-same}
use Rattle.ec_sweep.proofs.PlannedWindows.{AreWindows-from, HasWindow-from, HasWindow-left, HasWindow-settled, until-settled}
use Rattle.ec_sweep.proofs.ReadingEntries.{AreAtSlots}
use Rattle.ec_sweep.proofs.TurnedTerms.{AreShown-added, HasRoomFor-turns, is_turned-none, length-turns_few, mark_tallied-after}
use Rattle.ec_sweep.proofs.NextInstant.{compared}

-- ---- single facts

-- a mark is planned where it is another one
planned-if : (mark other : PlainMark) → (if is_some (mark_planned mark other) then Some other else None) ≡ mark_planned mark other
planned-if mark other = by (counts_same mark other)
  where
    by : (b : Bool) → (if is_some (if b then None else Some other) then Some other else None) ≡ (if b then None else Some other)
    by true = refl
    by false = refl

-- where none is planned, none matters
matters-unplanned : (before after : Bool) (mark other : PlainMark) → is_some (mark_planned mark other) ≡ false → mark_matters before after mark other ≡ false
matters-unplanned before after mark other none = by (counts_same mark other) none
  where
    by : (b : Bool) → is_some (if b then None else Some other) ≡ false → (not b && (before || after || mark_initiates mark || mark_initiates other)) ≡ false
    by true none = refl
    by false none = absurd (false≢true (sym none))

-- what matters of a property with one change more, if so
matters-touched : {T : Type 0} (so : Bool) (touch : Touch T) (touched : Option (Touched T))
    → option_map_or (λ (t : Touched T). t.matters) (touched_if so touch touched) false ≡ (option_map_or (λ (t : Touched T). t.matters) touched false || (so && touch.matters))
matters-touched true touch None = refl
matters-touched true touch (Some touched) = refl
matters-touched false touch None = refl
matters-touched false touch (Some touched) = sym (or-false touched.matters)

module _ {T : Type 0} (rank : T → ℤ) (theory : Theory) (new : List PlainEvent) (view : View T) (parts : PartsTally) (change : Change T) (r : ℤ) (at : T)
    (dirty : DirtyRows) (agenda later : List (Due T)) (due : List PropId) (turns : List Turn) (plains : List PlainTurn) (was_looked : Looked) (planned : Planned T) (was_active : Effect → Bool)
    (can : CanSettle rank theory new view parts change r (rank at) dirty agenda later due turns plains was_looked planned was_active)
    (order : is_in_order view.table ≡ true) (numbers : All (λ (k : KeptProp). prop_at k.id view.table ≡ Some k) view.table) (slots : AreAtSlots view.store.events)
    (rows : List (ℕ × Tallied)) (tallied : (p : PropId) → IsTallyAt view.neighbours.rows turns p (tallied_at p rows))
    (counted : (p : PropId) → is_some (row_at p.0 rows) ≡ (has_number p.0 due || list_any (counts_at view.neighbours.rows p) turns)) where
  abbrev pub old : List PlainEvent
  old = history_of rank view.store.events

  abbrev pub before : Noted T
  before = record { dirty = dirty; agenda = later; planned = planned }

  abbrev pub settled : Ground → Bool
  settled = settled_by view.table view.neighbours.rows due turns

  pub finds : FindsItsTerms view.table
  finds n p kept = prop_of-term_at view.table n p order kept

  -- a property with its number
  module _ (n : ℕ) (p : Ground) (found : prop_of p view.table ≡ Some n) where
    abbrev id : PropId
    id = record { 0 = n }

    pub kept : term_at n view.table ≡ Some p
    kept = found_own p n view.table view.table numbers found

    added : IsTrue (is_added id view.neighbours.rows)
    added = can.underway.both.tables.added.added id ∙ some_of (prop_at n view.table) kept
      where
        some_of : (o : Option KeptProp) → option_map (λ (k : KeptProp). k.term) o ≡ Some p → is_some o ≡ true
        some_of None none = absurd (none-some p none)
        some_of (Some k) some = refl

    pub marks : plain_marks rank (marks_at n view.points) ≡ marks_of theory old p
    marks = can.underway.both.caches.marks_of.marks n p kept

    pub mark : plain_mark rank (old_mark rank view.points at n) ≡ mark_at theory old p (rank at)
    mark = mark_or_zeros-is theory old p rank (marks_at n view.points) marks at

    pub current : is_current_at rank view.points n (rank at) ≡ is_current theory old p (rank at)
    current =
        ap₂ (λ b ms. current_after b (last_mark_before ms (rank at))) (can.underway.both.caches.marks_of.initials.initial n p kept) marks
        ∙ sym (CurrencyIsOfTheLastMark-law theory old p (rank at) can.underway.both.caches.history)

    -- it is settled where it stands in the tally
    pub settled-row : settled p ≡ is_some (row_at n rows)
    settled-row = ap (λ o. option_map_or (λ m. has_number m due || list_any (counts_at view.neighbours.rows (record { 0 = m })) turns) o false) found ∙ sym (counted id)

    -- where it does not, no turn counts for it
    pub unturned : is_some (row_at n rows) ≡ false → is_turned theory plains p ≡ false
    unturned none =
        is_turned-none theory view.table view.neighbours turns plains id p finds can.underway.both.tables.added.neighbours can.turned kept added
        (or_parts (has_number n due) (list_any (counts_at view.neighbours.rows id) turns) (sym (counted id) ∙ none)).1

    -- what is tallied of it counts for its term
    module _ (known : Tallied) (there : row_at n rows ≡ Some known) where
      pub tally_is : IsTallyAt view.neighbours.rows turns id known
      tally_is = subst (IsTallyAt view.neighbours.rows turns id) (ap (λ o. unwrap_or o nothing_tallied) there) (tallied id)

      pub tally_of_term : IsTallyOf theory plains p known
      tally_of_term =
          TalliesGoByTerm-law theory view.table view.neighbours turns plains id p known finds can.underway.both.tables.added.neighbours can.turned kept added tally_is

  -- ---- after that

  module _ (after : Noted T) (settles : SettlesRows rank view.neighbours view.points view.entries.slots at rows before after) (n : ℕ) (p : Ground) (found : prop_of p view.table ≡ Some n) where
    module _ (looked : Looked) (active : Effect → Bool) where
      abbrev pub was : Found
      was = found_by rank view.table dirty agenda looked planned active

      abbrev pub is : Found
      is = found_by rank view.table after.dirty after.agenda looked after.planned active

      pub dirty-was : was.dirty p ≡ dirty_at n dirty
      dirty-was = ap (option_and_then (λ m. dirty_at m dirty)) found

      dirty-is : is.dirty p ≡ dirty_at n after.dirty
      dirty-is = ap (option_and_then (λ m. dirty_at m after.dirty)) found

      pub planned-was : (t : ℤ) → was.planned p t ≡ option_map (λ (c : MarkChange T). plain_mark rank c.1) (change_at rank n t planned.marks)
      planned-was t = ap (option_and_then (λ m. option_map (λ (c : MarkChange T). plain_mark rank c.1) (change_at rank m t planned.marks))) found

      pub planned-is : (t : ℤ) → is.planned p t ≡ option_map (λ (c : MarkChange T). plain_mark rank c.1) (change_at rank n t after.planned.marks)
      planned-is t = ap (option_and_then (λ m. option_map (λ (c : MarkChange T). plain_mark rank c.1) (change_at rank m t after.planned.marks))) found

      matters-was : was.matters p ≡ matters_at n planned.touched
      matters-was = ap (λ o. option_map_or (λ m. matters_at m planned.touched) o false) found

      matters-is : is.matters p ≡ matters_at n after.planned.touched
      matters-is = ap (λ o. option_map_or (λ m. matters_at m after.planned.touched) o false) found

      pub agenda-was : (t : ℤ) → was.agenda t p ≡ has_due rank t n agenda
      agenda-was t = ap (λ o. option_map_or (λ m. has_due rank t m agenda) o false) found

      pub agenda-is : (t : ℤ) → is.agenda t p ≡ has_due rank t n after.agenda
      agenda-is t = ap (λ o. option_map_or (λ m. has_due rank t m after.agenda) o false) found

    -- ---- a property that is left alone

    module _ (none : row_at n rows ≡ None) (looked : Looked) (active : Effect → Bool) where
      pub leaves : LeavesOne (rank at) (was looked active) (is looked active) p
      leaves =
          let left = settles.others n none in
          record {
            planned = planned-is looked active (rank at)
                ∙ ap (option_map (λ (c : MarkChange T). plain_mark rank c.1)) (change_at-same rank n (rank at) planned.marks after.planned.marks left.marks)
                ∙ sym (planned-was looked active (rank at));
            dirty = dirty-is looked active ∙ left.dirty ∙ sym (dirty-was looked active);
            matters = matters-is looked active ∙ ap (λ o. option_map_or (λ (t : Touched T). t.matters) o false) left.touched ∙ sym (matters-was looked active);
          }

    -- ---- a property that is settled

    module _ (known : Tallied) (there : row_at n rows ≡ Some known) where
      abbrev pub one : SettlesNumber rank view.neighbours view.points view.entries.slots at (record { 0 = n }) known before after
      one = settles.each (record { 0 = n }) known there

      -- its new mark is the one after the turns
      pub new_mark : plain_mark rank one.settled.mark ≡ mark_after theory plains p (mark_at theory old p (rank at))
      new_mark =
          ap (plain_mark rank) one.is.mark_is
          ∙ mark_tallied-after rank theory plains p (old_mark rank view.points at n) known (tally_of_term n p found known there)
          ∙ ap (mark_after theory plains p) (mark n p found)

      pub changed : one.settled.is_changed ≡ is_some (mark_planned (mark_at theory old p (rank at)) (mark_after theory plains p (mark_at theory old p (rank at))))
      changed = one.is.changed ∙ ap₂ (λ a b. is_some (mark_planned a b)) (mark n p found) new_mark

      -- its initiations are planned where they change, and an initiation may break it
      pub starts_is : one.starts ≡ (starts_change (old_mark rank view.points at n) one.settled && breaks_by_initiation theory p)
      starts_is = one.starts_if theory view.table p can.underway.both.tables.added.neighbours (kept n p found)

      -- so one whose initiations are planned may be broken by one
      pub breaks-planned : one.starts ≡ true → breaks_by_initiation theory p ≡ true
      breaks-planned planned_one = (and_parts (starts_change (old_mark rank view.points at n) one.settled) (breaks_by_initiation theory p) (sym starts_is ∙ planned_one)).1

      pub unplanned : one.settled.is_changed ≡ false → one.starts ≡ false
      unplanned stays =
          starts_is ∙ ap (λ b. (b && not ((old_mark rank view.points at n).inits == one.settled.mark.inits)) && breaks_by_initiation theory p) stays

      -- it stands at the instant
      pub here : int_eq (rank one.settled.mark.at) (rank at) ≡ true
      here = ap (λ (m : Mark T). int_eq (rank m.at) (rank at)) one.is.mark_is ∙ int_eq-same (rank at)

      free : has_change rank n (rank at) planned.marks ≡ false
      free = can.planned_up_to.none_yet n (rank at) (let next = can.next in omega (arith, ints))

      module _ (looked : Looked) (active : Effect → Bool) where
        abbrev in_new : Bool
        in_new = currency_found theory old (was looked active) p (rank at)

        currencies : (unwrap_or (dirty_at n dirty) (is_current_at rank view.points n (rank at))) ≡ in_new
        currencies = ap₂ unwrap_or (sym (dirty-was looked active)) (current n p found)

        planned-new : (is looked active).planned p (rank at) ≡ mark_planned (mark_at theory old p (rank at)) (mark_after theory plains p (mark_at theory old p (rank at)))
        planned-new =
            planned-is looked active (rank at)
            ∙ ap (option_map (λ (c : MarkChange T). plain_mark rank c.1))
            (change_at-more rank n one.settled.is_changed (record { 0 = n }, one.settled.mark) planned.marks after.planned.marks one.marks (rank at) here free)
            ∙ mapped one.settled.is_changed
            ∙ ap₂ (λ b m. if b then Some m else None) changed new_mark
            ∙ planned-if (mark_at theory old p (rank at)) (mark_after theory plains p (mark_at theory old p (rank at)))
          where
            mapped : (b : Bool) → option_map (λ (c : MarkChange T). plain_mark rank c.1) (if b then Some (record { 0 = n }, one.settled.mark) else None) ≡ (if b then Some (plain_mark rank one.settled.mark) else None)
            mapped true = refl
            mapped false = refl

        dirty-new : (is looked active).dirty p
            ≡ other_currency (current_behind (is_current theory old p (rank at)) (mark_at theory old p (rank at))) (current_behind in_new (mark_after theory plains p (mark_at theory old p (rank at))))
        dirty-new =
            dirty-is looked active ∙ one.dirty ∙ one.is.dirty
            ∙ ap₂ other_currency (ap₂ current_behind (current n p found) (mark n p found)) (ap₂ current_behind currencies new_mark)

        matters-new : (is looked active).matters p
            ≡ ((was looked active).matters p || mark_matters (is_current theory old p (rank at)) in_new (mark_at theory old p (rank at)) (mark_after theory plains p (mark_at theory old p (rank at))))
        matters-new =
            matters-is looked active
            ∙ ap (λ o. option_map_or (λ (t : Touched T). t.matters) o false) one.touched
            ∙ matters-touched one.settled.is_changed (touch_of one.starts (old_mark rank view.points at n) one.settled) (touched_at n planned.touched)
            ∙ ap₂ (λ a b. a || b) (sym (matters-was looked active)) (alone one.settled.is_changed one.settled.matters _ _ (matters-unplanned (is_current theory old p (rank at)) in_new (mark_at theory old p (rank at)) (mark_after theory plains p (mark_at theory old p (rank at)))) changed matters_is)
          where
            matters_is : one.settled.matters ≡ mark_matters (is_current theory old p (rank at)) in_new (mark_at theory old p (rank at)) (mark_after theory plains p (mark_at theory old p (rank at)))
            matters_is =
                one.is.matters
                ∙ ap₂ (λ a b. mark_matters a b (plain_mark rank (old_mark rank view.points at n)) (plain_mark rank one.settled.mark)) (current n p found) currencies
                ∙ ap₂ (mark_matters (is_current theory old p (rank at)) in_new) (mark n p found) new_mark

            alone : (so m x y : Bool) → (y ≡ false → x ≡ false) → so ≡ y → m ≡ x → (so && m) ≡ x
            alone so m x true silent same is = grind arith
            alone so m x false silent same is = let none = silent refl in grind arith

        due-new : (u : ℤ) → IsTrue (is_some ((is looked active).dirty p)) → rank at <ℤ u → IsTrue (bears_on theory old p u) → IsDueBy (is looked active).agenda p (rank at) u
        due-new u is_dirty behind bears =
            let found_due =
            one.due u (ap is_some (sym one.dirty ∙ sym (dirty-is looked active)) ∙ is_dirty) behind
            (bears_on-number rank theory view.table view.store view.entries view.points can.underway.both.caches.entries_of finds slots n p (kept n p found) (marks n p found) u bears) in
            record { time = found_due.time; after = found_due.after; by = found_due.by; due = agenda-is looked active found_due.time ∙ found_due.due }

        pub settles_one : SettlesOne theory old (rank at) plains (was looked active) (is looked active) p
        settles_one = record { planned = planned-new; dirty = dirty-new; matters = matters-new; due = due-new }

  -- ---- which rows there are

  -- the property of a row is kept
  pub kept-row : (n : ℕ) → is_some (row_at n rows) ≡ true → IsSome (prop_at n view.table)
  kept-row n there =
      ⊎_elim
      (λ is_due. from_due (sym (can.due_is n) ∙ is_due))
      (λ is_turned. from_turns is_turned)
      (or_cases (has_number n due) (list_any (counts_at view.neighbours.rows (record { 0 = n })) turns) (sym (counted (record { 0 = n })) ∙ there))
    where
      from_due : IsTrue (has_due rank (rank at) n agenda) → IsSome (prop_at n view.table)
      from_due is_due =
          let found = list_any-member (is_due_at rank (rank at) n) agenda is_due in
          let both = and_parts (int_eq (rank found.0.0) (rank at)) (found.0.1.0 == n) found.2 in
          subst (λ m. IsSome (prop_at m view.table)) (eqb-true found.0.1.0 n both.1)
          (All-contains (λ (d : Due T). IsSome (prop_at d.1.0 view.table) × IsTrue (list_any (λ (e : PlainEvent). int_eq e.rank (rank d.0)) old)) agenda found.0 can.due_of
          (Contains-from_member agenda found.0 found.1)).0

      -- what is added is kept
      from_added : (q : PropId) → IsTrue (is_added q view.neighbours.rows) → IsSome (prop_at q.0 view.table)
      from_added q added = sym (can.underway.both.tables.added.added q) ∙ added

      from_clash : (head : PropId) (o : Option (List PropId)) → neighbours_of head view.neighbours.rows ≡ o → stands_in_list (record { 0 = n }) o ≡ true → IsSome (prop_at n view.table)
      from_clash head None none stands = absurd (false≢true stands)
      from_clash head (Some list) some stands =
          from_added (record { 0 = n })
          (and_parts (exclusive_at theory view.table head (record { 0 = n })) (is_added (record { 0 = n }) view.neighbours.rows)
          (sym (ap (λ ps. has_number n ps) (neighbours-exclusive theory view.table view.neighbours head list can.underway.both.tables.added.neighbours some)
          ∙ has_number-filter (record { 0 = n }) (exclusive_at theory view.table head) (added_props view.neighbours.rows)) ∙ stands)).1

      from_turns : IsTrue (list_any (counts_at view.neighbours.rows (record { 0 = n })) turns) → IsSome (prop_at n view.table)
      from_turns turned =
          let found = list_any-member (counts_at view.neighbours.rows (record { 0 = n })) turns turned in
          let head_added = All-contains (λ (t : Turn). IsTrue (is_added t.head view.neighbours.rows)) turns found.0
          (AreShown-added view.table view.neighbours.rows turns plains can.turned) (Contains-from_member turns found.0 found.1) in
          ⊎_elim
          (λ same. subst (λ m. IsSome (prop_at m view.table)) (eqb-true found.0.head.0 n same) (from_added found.0.head head_added))
          (λ clash.
          from_clash found.0.head (neighbours_of found.0.head view.neighbours.rows) refl
          (and_parts (is_initiation found.0.kind) (stands_in_list (record { 0 = n }) (neighbours_of found.0.head view.neighbours.rows)) clash).1)
          (or_cases (found.0.head.0 == n) (clashes_at view.neighbours.rows (record { 0 = n }) found.0) found.2)

  -- a kept property has a term, which finds it
  pub term-kept : (n : ℕ) → IsSome (prop_at n view.table) → (p : Ground) × (prop_of p view.table ≡ Some n)
  term-kept n is_kept = of (prop_at n view.table) refl is_kept
    where
      of : (o : Option KeptProp) → prop_at n view.table ≡ o → IsSome o → (p : Ground) × (prop_of p view.table ≡ Some n)
      of None none is_some_one = absurd (false≢true is_some_one)
      of (Some k) some is_some_one = (k.term, finds n k.term (ap (option_map (λ (j : KeptProp). j.term)) some))

  -- the property of each row is added
  pub added-rows : AreAdded view.neighbours.rows rows
  added-rows p known there = can.underway.both.tables.added.added p ∙ kept-row p.0 (ap is_some there)

  -- each row has room for what is tallied
  pub room : HaveRoom rank view.points at rows
  room n known there =
      let p = term-kept n (kept-row n (ap is_some there)) in
      HasRoomFor-turns rank theory old new (rank at) p.0 turns plains view.neighbours.rows (record { 0 = n }) (old_mark rank view.points at n) known
      can.underway.both.caches.history can.underway.change_is.history can.turns_at
      (length-turns_few theory old new (rank at) view.table view.neighbours.rows turns plains can.turned can.turns_at can.underway.few_old can.underway.few_new)
      can.underway.few_old (mark n p.0 p.1) (tally_is n p.0 p.1 known there) (tally_of_term n p.0 p.1 known there)

  -- the new marks are the old ones after the turns
  new-marks : (p : Ground) → mark_at theory new p (rank at) ≡ mark_after theory plains p (mark_at theory old p (rank at))
  new-marks p = MarksAreAfterTurns-law theory old new (keeps view.table) (rank at) plains p (compared rank theory new view parts change can.underway) can.turns_at

  -- ---- the visit

  module _ (after : Noted T) (settles : SettlesRows rank view.neighbours view.points view.entries.slots at rows before after) where
    -- a row, or none
    row-cases : {P : Type 0} (n : ℕ) → ((known : Tallied) → row_at n rows ≡ Some known → P) → (row_at n rows ≡ None → P) → P
    row-cases {P} n some none = of (row_at n rows) refl
      where
        of : (o : Option Tallied) → row_at n rows ≡ o → P
        of None is = none is
        of (Some known) is = some known is

    later-than : (u : ℤ) → r <ℤ u → u ≢ rank at → rank at <ℤ u
    later-than u behind other = let next = can.next in by_lt_z (rank at) u (λ later_on. later_on) (λ within. absurd (other (omega (arith, ints))))

    module _ (looked : Looked) (active : Effect → Bool) where
      abbrev found_before : Found
      found_before = found_by rank view.table dirty agenda looked planned active

      abbrev found_after : Found
      found_after = found_by rank view.table after.dirty after.agenda looked after.planned active

      -- of a term that is not kept nothing is found
      by_number : {P : Type 0} (p : Ground) → ((n : ℕ) → prop_of p view.table ≡ Some n → P) → (prop_of p view.table ≡ None → P) → P
      by_number {P} p some none = of (prop_of p view.table) refl
        where
          of : (o : Option ℕ) → prop_of p view.table ≡ o → P
          of None is = none is
          of (Some n) is = some n is

      unsettled : (p : Ground) → prop_of p view.table ≡ None → settled p ≡ false
      unsettled p none = ap (λ o. option_map_or (λ m. has_number m due || list_any (counts_at view.neighbours.rows (record { 0 = m })) turns) o false) none

      turned : (p : Ground) → IsTrue (keeps view.table p) → IsTrue (is_turned theory plains p) → IsTrue (settled p)
      turned p is_kept is_turned_one =
          by_number p
          (λ n found.
          ⊎_elim (λ yes_settled. yes_settled)
          (λ not_settled. absurd (false≢true (sym (unturned n p found (sym (settled-row n p found) ∙ not_settled)) ∙ is_turned_one)))
          (cases_Bool (settled p)))
          (λ none. absurd (false≢true (sym (ap is_some none) ∙ is_kept)))

      is_due_here : (p : Ground) → IsTrue (is_some (found_before.dirty p)) → IsTrue (found_before.agenda (rank at) p) → IsTrue (settled p)
      is_due_here p is_dirty on_agenda =
          by_number p
          (λ n found.
          settled-row n p found ∙ counted (record { 0 = n })
          ∙ or_left (has_number n due) _ (can.due_is n ∙ sym (agenda-was after settles n p found looked active (rank at)) ∙ on_agenda))
          (λ none. absurd (false≢true (sym (ap (λ o. option_map_or (λ m. has_due rank (rank at) m agenda) o false) none) ∙ on_agenda)))

      each : (p : Ground) → IsTrue (settled p) → SettlesOne theory old (rank at) plains found_before found_after p
      each p is_settled =
          by_number p
          (λ n found.
          row-cases n
          (λ known there. settles_one after settles n p found known there looked active)
          (λ none. absurd (false≢true (sym (settled-row n p found ∙ ap is_some none) ∙ is_settled))))
          (λ none. absurd (false≢true (sym (unsettled p none) ∙ is_settled)))

      others : (p : Ground) → IsFalse (settled p) → LeavesOne (rank at) found_before found_after p
      others p not_settled =
          by_number p
          (λ n found.
          row-cases n
          (λ known there. absurd (false≢true (sym not_settled ∙ settled-row n p found ∙ ap is_some there)))
          (λ none. leaves after settles n p found none looked active))
          (λ none. record {
            planned = ap (option_and_then (λ m. option_map (λ (c : MarkChange T). plain_mark rank c.1) (change_at rank m (rank at) after.planned.marks))) none
                ∙ sym (ap (option_and_then (λ m. option_map (λ (c : MarkChange T). plain_mark rank c.1) (change_at rank m (rank at) planned.marks))) none);
            dirty = ap (option_and_then (λ m. dirty_at m after.dirty)) none ∙ sym (ap (option_and_then (λ m. dirty_at m dirty)) none);
            matters = ap (λ o. option_map_or (λ m. matters_at m after.planned.touched) o false) none ∙ sym (ap (λ o. option_map_or (λ m. matters_at m planned.touched) o false) none);
          })

      -- the changes at other instants stay
      elsewhere-number : (n : ℕ) (u : ℤ) → u ≢ rank at → change_at rank n u after.planned.marks ≡ change_at rank n u planned.marks
      elsewhere-number n u other =
          row-cases n
          (λ known there.
          let one = settles.each (record { 0 = n }) known there in
          change_at-elsewhere rank n one.settled.is_changed (record { 0 = n }, one.settled.mark) planned.marks after.planned.marks one.marks u
          (ap (λ (m : Mark T). int_eq (rank m.at) u) one.is.mark_is ∙ false_from_ne_true (int_eq (rank at) u) (λ same. other (sym (int_eq-is (rank at) u same)))))
          (λ none. change_at-same rank n u planned.marks after.planned.marks (settles.others n none).marks)

      elsewhere : (p : Ground) (u : ℤ) → u ≢ rank at → found_after.planned p u ≡ found_before.planned p u
      elsewhere p u other =
          by_number p
          (λ n found.
          planned-is after settles n p found looked active u ∙ ap (option_map (λ (c : MarkChange T). plain_mark rank c.1)) (elsewhere-number n u other)
          ∙ sym (planned-was after settles n p found looked active u))
          (λ none.
          ap (option_and_then (λ m. option_map (λ (c : MarkChange T). plain_mark rank c.1) (change_at rank m u after.planned.marks))) none
          ∙ sym (ap (option_and_then (λ m. option_map (λ (c : MarkChange T). plain_mark rank c.1) (change_at rank m u planned.marks))) none))

      due_later : (p : Ground) (u : ℤ) → IsTrue (found_after.agenda u p) → rank at <ℤ u
      due_later p u on_agenda =
          by_number p
          (λ n found.
          ⊎_elim
          (λ was.
          let both = and_parts (has_due rank u n agenda) (not (int_eq u (rank at))) (sym (can.later_is n u) ∙ was) in
          later-than u (can.swept.ahead p u (ap (λ o. option_map_or (λ m. has_due rank u m agenda) o false) found ∙ both.0)) (apart u both.1))
          (λ new. new.1)
          (settles.dues.only n u (sym (agenda-is after settles n p found looked active u) ∙ on_agenda)))
          (λ none. absurd (false≢true (sym (ap (λ o. option_map_or (λ m. has_due rank u m after.agenda) o false) none) ∙ on_agenda)))
        where
          apart : (u : ℤ) → not (int_eq u (rank at)) ≡ true → u ≢ rank at
          apart u differ same = false≢true (sym (ap not (ap (λ s. int_eq s (rank at)) same ∙ int_eq-same (rank at))) ∙ differ)

      still_due : (p : Ground) (u : ℤ) → rank at <ℤ u → IsTrue (found_before.agenda u p) → IsTrue (found_after.agenda u p)
      still_due p u behind on_agenda =
          by_number p
          (λ n found.
          agenda-is after settles n p found looked active u
          ∙ settles.dues.still n u
          (can.later_is n u
          ∙ ap₂ (λ a b. a && not b) (sym (agenda-was after settles n p found looked active u) ∙ on_agenda) (false_from_ne_true (int_eq u (rank at)) (λ same. never (int_eq-is u (rank at) same)))))
          (λ none. absurd (false≢true (sym (ap (λ o. option_map_or (λ m. has_due rank u m agenda) o false) none) ∙ on_agenda)))
        where
          never : u ≡ rank at → ⊥
          never same = omega (arith, ints)

      pub settles_all : Settles theory old (keeps view.table) (rank at) plains settled found_before found_after
      settles_all = record {
        turned = turned;
        due = is_due_here;
        each = each;
        others = others;
        elsewhere = elsewhere;
        later = due_later;
        still_due = still_due;
      }

    -- ---- what is planned

    behind-r : (u : ℤ) → rank at <ℤ u → r <ℤ u
    behind-r u later_on = let next = can.next in omega (arith, ints)

    here-behind : r <ℤ rank at
    here-behind = let next = can.next in omega (arith, ints)

    apart-later : (u : ℤ) → rank at <ℤ u → int_eq (rank at) u ≡ false
    apart-later u behind = false_from_ne_true (int_eq (rank at) u) (λ same. never (int_eq-is (rank at) u same))
      where
        never : rank at ≡ u → ⊥
        never same = omega (arith, ints)

    apart-earlier : (u : ℤ) → u ≤ℤ r → int_eq (rank at) u ≡ false
    apart-earlier u within = false_from_ne_true (int_eq (rank at) u) (λ same. never (int_eq-is (rank at) u same))
      where
        never : rank at ≡ u → ⊥
        never same = let next = can.next in omega (arith, ints)

    neither : (a b c : Bool) → a ≡ false → c ≡ false → (a || (b && c)) ≡ false
    neither a b c no_first no_second = grind arith

    none_yet : (n : ℕ) (u : ℤ) → rank at <ℤ u → IsFalse (has_change rank n u after.planned.marks)
    none_yet n u behind =
        row-cases n
        (λ known there.
        let one = settles.each (record { 0 = n }) known there in
        has_change-more rank n one.settled.is_changed (record { 0 = n }, one.settled.mark) planned.marks after.planned.marks one.marks u
        ∙ neither _ one.settled.is_changed _ (can.planned_up_to.none_yet n u (behind-r u behind)) (ap (λ (m : Mark T). int_eq (rank m.at) u) one.is.mark_is ∙ apart-later u behind))
        (λ none. has_change-same rank n u planned.marks after.planned.marks (settles.others n none).marks ∙ can.planned_up_to.none_yet n u (behind-r u behind))

    not_yet : (n : ℕ) (u : ℤ) → rank at <ℤ u → IsFalse (has_change rank n u after.planned.initiations)
    not_yet n u behind =
        row-cases n
        (λ known there.
        let one = settles.each (record { 0 = n }) known there in
        has_change-more rank n one.starts (record { 0 = n }, starts_of one.settled.mark) planned.initiations after.planned.initiations one.initiations u
        ∙ neither _ one.starts _ (can.planned_up_to.not_yet n u (behind-r u behind))
        (ap (λ (m : Mark T). int_eq (rank m.at) u) one.is.mark_is ∙ apart-later u behind))
        (λ none. has_change-same rank n u planned.initiations after.planned.initiations (settles.others n none).initiations ∙ can.planned_up_to.not_yet n u (behind-r u behind))

    -- each change is of a kept property
    all-kept : (changes more : List (MarkChange T)) → ((n : ℕ) → row_at n rows ≡ None → own_changes n more ≡ own_changes n changes)
        → All (λ (c : MarkChange T). IsSome (prop_at c.0.0 view.table)) changes → All (λ (c : MarkChange T). IsSome (prop_at c.0.0 view.table)) more
    all-kept changes more same are =
        All-weaker (Contains more) (λ (c : MarkChange T). IsSome (prop_at c.0.0 view.table))
        (λ c contained.
        row-cases c.0.0
        (λ known there. kept-row c.0.0 (ap is_some there))
        (λ none.
        let own = IsMember-filter (λ (d : MarkChange T). d.0.0 == c.0.0) more c (IsMember-from_contains more c contained) (eq-eqb c.0.0 c.0.0 refl) in
        let was = (IsMember-from_filter (λ (d : MarkChange T). d.0.0 == c.0.0) changes c (subst (λ cs. IsMember cs c) (same c.0.0 none) own)).0 in
        All-contains (λ (d : MarkChange T). IsSome (prop_at d.0.0 view.table)) changes c are (Contains-from_member changes c was)))
        more (All-contains_itself more)

    earlier : (n : ℕ) (x : Touched T) → touched_at n planned.touched ≡ Some x → rank x.until <ℤ rank at
    earlier n x is_touched = let within = can.planned_up_to.so_far n x is_touched in let next = can.next in omega (arith, ints)

    -- a mark that is new for its row is noted as one that grows it
    grows : (n : ℕ) (known : Tallied) (there : row_at n rows ≡ Some known) → let one = settles.each (record { 0 = n }) known there in
        is_new rank (marks_at n view.points) one.settled.mark ≡ true → (touch_of one.starts (old_mark rank view.points at n) one.settled).grows ≡ true
    grows n known there new =
        let one = settles.each (record { 0 = n }) known there in
        let both = and_parts (is_counted one.settled.mark) (not (has_mark rank (rank one.settled.mark.at) (marks_at n view.points))) new in
        let absent : row_mark_at rank (rank at) (marks_at n view.points) ≡ None =
        None-from_is_some (row_mark_at rank (rank at) (marks_at n view.points))
        (is_some-find (λ (m : Mark T). int_eq (rank m.at) (rank at)) (marks_at n view.points)
        ∙ ap (λ (m : Mark T). has_mark rank (rank m.at) (marks_at n view.points)) (sym one.is.mark_is) ∙ not-true _ both.1) in
        ap₂ (λ a b. not a && b) (ap (λ o. is_counted (mark_or_zeros at o)) absent) both.0

    -- and one with new initiations as one that starts
    starts : (n : ℕ) (p : Ground) (found : prop_of p view.table ≡ Some n) (known : Tallied) (there : row_at n rows ≡ Some known) → let one = settles.each (record { 0 = n }) known there in
        one.starts ≡ true → is_new rank (marks_at n view.initiations) (starts_of one.settled.mark) ≡ true → (touch_of one.starts (old_mark rank view.points at n) one.settled).starts ≡ true
    starts n p found known there planned_one new =
        let one = settles.each (record { 0 = n }) known there in
        let both = and_parts (is_counted (starts_of one.settled.mark)) (not (has_mark rank (rank one.settled.mark.at) (marks_at n view.initiations))) new in
        let absent : (is_marked (mark_at theory old p (rank at)) && mark_initiates (mark_at theory old p (rank at))) ≡ false =
        sym (has_initiation-is theory old p rank (marks_at n view.initiations)
        (can.underway.both.caches.initiations_of.marks n p (kept n p found) ∙ kept_initiations-all theory old p (breaks-planned after settles n p found known there planned_one)) (rank at))
        ∙ ap (λ (m : Mark T). has_mark rank (rank m.at) (marks_at n view.initiations)) (sym one.is.mark_is) ∙ not-true _ both.1 in
        ap (λ a. a && not (nat_lt 0 (old_mark rank view.points at n).inits) && nat_lt 0 one.settled.mark.inits) planned_one
        ∙ ap₂ (λ a b. not a && b) (ap mark_initiates (mark n p found) ∙ silent (mark_at theory old p (rank at)) absent) (counted_starts one.settled.mark both.0)
      where
        silent : (m : PlainMark) → (is_marked m && mark_initiates m) ≡ false → mark_initiates m ≡ false
        silent m none = grind (arith, nat_tests)

        counted_starts : (m : Mark T) → is_counted (starts_of m) ≡ true → nat_lt 0 m.inits ≡ true
        counted_starts m is_one = grind (arith, nat_tests)

    windows : AreWindows rank view after.planned
    windows =
        AreWindows-from rank view after.planned
        (λ n.
        let has = HasWindow-from rank view planned n can.planned_up_to.windows in
        row-cases n
        (λ known there.
        let one = settles.each (record { 0 = n }) known there in
        let is_kept = kept-row n (ap is_some there) in
        let p = term-kept n is_kept in
        HasWindow-settled rank view n planned after.planned has at (old_mark rank view.points at n) one.settled one.starts one.marks one.initiations one.touched
        (ap (λ (m : Mark T). rank m.at) one.is.mark_is) (earlier n) is_kept (unplanned after settles n p.0 p.1 known there) (grows n known there) (starts n p.0 p.1 known there))
        (λ none.
        let left = settles.others n none in
        HasWindow-left rank view n planned after.planned has left.marks left.initiations left.touched))

    so_far : (n : ℕ) (x : Touched T) → touched_at n after.planned.touched ≡ Some x → rank x.until ≤ℤ rank at
    so_far n x is_touched =
        let has = HasWindow-from rank view planned n can.planned_up_to.windows in
        row-cases n
        (λ known there.
        let one = settles.each (record { 0 = n }) known there in
        let is_kept = kept-row n (ap is_some there) in
        let p = term-kept n is_kept in
        until-settled rank view n planned after.planned has at (old_mark rank view.points at n) one.settled one.starts one.marks one.initiations one.touched
        (ap (λ (m : Mark T). rank m.at) one.is.mark_is) (earlier n) is_kept (unplanned after settles n p.0 p.1 known there) (grows n known there) (starts n p.0 p.1 known there) x is_touched)
        (λ none. let before_it = earlier n x (sym (settles.others n none).touched ∙ is_touched) in omega (arith, ints))

    -- ---- initiations

    initiations-now : (n : ℕ) (p : Ground) → prop_of p view.table ≡ Some n
        → mark_made rank (change_at rank n (rank at) after.planned.initiations) (initiation_at theory old p (rank at)) ≡ initiation_at theory new p (rank at)
    initiations-now n p found =
        row-cases n
        (λ known there.
        let one = settles.each (record { 0 = n }) known there in
        let made =
        change_at-more rank n one.starts (record { 0 = n }, starts_of one.settled.mark) planned.initiations after.planned.initiations one.initiations
        (rank at) (ap (λ (m : Mark T). int_eq (rank m.at) (rank at)) one.is.mark_is ∙ int_eq-same (rank at)) (can.planned_up_to.not_yet n (rank at) here-behind) in
        let inits : one.settled.mark.inits ≡ (mark_at theory new p (rank at)).inits =
        ap (λ (m : PlainMark). m.inits) (new_mark after settles n p found known there ∙ sym (new-marks p)) in
        ap (λ o. mark_made rank o (initiation_at theory old p (rank at))) made
        ∙ by one.starts (record { 0 = n }, starts_of one.settled.mark)
        (λ starts_now. mark_same _ _ (ap (λ (m : Mark T). rank m.at) one.is.mark_is)
        (inits ∙ sym (cond-true (breaks_by_initiation theory p) (mark_at theory new p (rank at)).inits 0 (breaks-planned after settles n p found known there starts_now))) refl refl)
        (λ stays. same_initiations (mark_at theory old p (rank at)).inits (mark_at theory new p (rank at)).inits
        (λ breaks. sym (ap (λ (m : PlainMark). m.inits) (mark n p found))
        ∙ stay (old_mark rank view.points at n) one.settled.mark one.settled.is_changed one.is.changed
        (first_fails _ (breaks_by_initiation theory p) breaks (sym (starts_is after settles n p found known there) ∙ stays)) ∙ inits))
        refl)
        (λ none.
        ap (λ o. mark_made rank o (initiation_at theory old p (rank at)))
        (change_at-same rank n (rank at) planned.initiations after.planned.initiations (settles.others n none).initiations
        ∙ change_at-none rank n (rank at) planned.initiations (can.planned_up_to.not_yet n (rank at) here-behind))
        ∙ ap initiation
        (ap (λ (m : PlainMark). m.inits) (sym (new-marks p ∙ mark_after-none theory plains p (unturned n p found (ap is_some none)) (mark_at theory old p (rank at))))))
      where
        by : (b : Bool) (x : MarkChange T) → (b ≡ true → plain_mark rank x.1 ≡ initiation_at theory new p (rank at)) → (b ≡ false → initiation_at theory old p (rank at) ≡ initiation_at theory new p (rank at)) → b ≡ b
            → mark_made rank (if b then Some x else None) (initiation_at theory old p (rank at)) ≡ initiation_at theory new p (rank at)
        by true x made stays same = made refl
        by false x made stays same = stays refl

        -- so many initiations, where they are kept
        initiation_if : Bool → ℕ → PlainMark
        initiation_if so k = record { instant = rank at; inits = if so then k else 0; terms = 0; clashes = 0 }

        initiation : ℕ → PlainMark
        initiation k = initiation_if (breaks_by_initiation theory p) k

        same_initiations : (a b : ℕ) → (breaks_by_initiation theory p ≡ true → a ≡ b) → initiation a ≡ initiation b
        same_initiations a b same =
            ⊎_elim (λ breaks. ap initiation (same breaks))
            (λ never. ap (λ c. initiation_if c a) never ∙ sym (ap (λ c. initiation_if c b) never)) (cases_Bool (breaks_by_initiation theory p))

        first_fails : (a b : Bool) → b ≡ true → (a && b) ≡ false → a ≡ false
        first_fails a b second both = grind arith

        stay : (m k : Mark T) (b : Bool) → b ≡ is_some (mark_planned (plain_mark rank m) (plain_mark rank k)) → (b && not (m.inits == k.inits)) ≡ false → m.inits ≡ k.inits
        stay m k true is_changed stays = eqb-true m.inits k.inits (not-false _ stays)
        stay m k false is_changed stays =
            eqb-true m.inits k.inits
            (and_parts (m.inits == k.inits) (m.terms == k.terms)
            (and_parts (m.inits == k.inits && m.terms == k.terms) (m.clashes == k.clashes) (counted_same (counts_same (plain_mark rank m) (plain_mark rank k)) is_changed)).0).0
          where
            counted_same : (b : Bool) → false ≡ is_some (if b then None else Some (plain_mark rank k)) → b ≡ true
            counted_same true differ = refl
            counted_same false differ = absurd (false≢true differ)

    initiations : (n : ℕ) (p : Ground) (t : ℤ) → term_at n view.table ≡ Some p → t ≤ℤ rank at
        → mark_made rank (change_at rank n t after.planned.initiations) (initiation_at theory old p t) ≡ initiation_at theory new p t
    initiations n p t is_kept within =
        by_lt_z r t
        (λ behind.
        let same : rank at ≡ t = let next = can.next in omega (arith, ints) in
        subst (λ u. mark_made rank (change_at rank n u after.planned.initiations) (initiation_at theory old p u) ≡ initiation_at theory new p u) same (initiations-now n p (finds n p is_kept)))
        (λ early.
        ap (λ o. mark_made rank o (initiation_at theory old p t))
        (row-cases n
        (λ known there.
        let one = settles.each (record { 0 = n }) known there in
        change_at-elsewhere rank n one.starts (record { 0 = n }, starts_of one.settled.mark) planned.initiations after.planned.initiations one.initiations t
        (ap (λ (m : Mark T). int_eq (rank m.at) t) one.is.mark_is ∙ apart-earlier t early))
        (λ none. change_at-same rank n t planned.initiations after.planned.initiations (settles.others n none).initiations))
        ∙ can.planned_up_to.initiations n p t is_kept early)

    planned_up_to : IsPlannedUpTo rank theory old new view after.planned (rank at)
    planned_up_to = record {
      initiations = initiations;
      not_yet = not_yet;
      none_yet = none_yet;
      of_kept = all-kept planned.marks after.planned.marks (λ n none. (settles.others n none).marks) can.planned_up_to.of_kept;
      starts_of_kept = all-kept planned.initiations after.planned.initiations (λ n none. (settles.others n none).initiations) can.planned_up_to.starts_of_kept;
      windows = windows;
      so_far = so_far;
    }

    -- ---- what is due

    due_of : AreDueOf rank old view.table after.agenda
    due_of =
        All-weaker (Contains after.agenda) (λ (x : Due T). IsSome (prop_at x.1.0 view.table) × IsTrue (list_any (λ (e : PlainEvent). int_eq e.rank (rank x.0)) old))
        (λ x contained.
        ⊎_elim
        (λ was. was_due x was)
        (λ new_one.
        let is_kept = kept-row x.1.0 new_one.0 in
        let p = term-kept x.1.0 is_kept in (
          is_kept,
          BearsAt-event rank theory view.table view.store view.entries view.points can.underway.both.caches.entries_of finds slots x.1.0 p.0 (kept x.1.0 p.0 p.1) (marks x.1.0 p.0 p.1) (rank x.0) new_one.2,
        ))
        (settles.dues.only x.1.0 (rank x.0)
        (member-list_any (is_due_at rank (rank x.0) x.1.0) after.agenda x (IsMember-from_contains after.agenda x contained)
        (and_from (int_eq (rank x.0) (rank x.0)) (x.1.0 == x.1.0) (int_eq-same (rank x.0)) (eq-eqb x.1.0 x.1.0 refl)))))
        after.agenda (All-contains_itself after.agenda)
      where
        was_due : (x : Due T) → IsTrue (has_due rank (rank x.0) x.1.0 later) → IsSome (prop_at x.1.0 view.table) × IsTrue (list_any (λ (e : PlainEvent). int_eq e.rank (rank x.0)) old)
        was_due x was =
            let before_it = and_parts (has_due rank (rank x.0) x.1.0 agenda) (not (int_eq (rank x.0) (rank at))) (sym (can.later_is x.1.0 (rank x.0)) ∙ was) in
            let found = list_any-member (is_due_at rank (rank x.0) x.1.0) agenda before_it.0 in
            let both = and_parts (int_eq (rank found.0.0) (rank x.0)) (found.0.1.0 == x.1.0) found.2 in
            let is =
            All-contains (λ (d : Due T). IsSome (prop_at d.1.0 view.table) × IsTrue (list_any (λ (e : PlainEvent). int_eq e.rank (rank d.0)) old)) agenda found.0 can.due_of
            (Contains-from_member agenda found.0 found.1) in (
              subst (λ m. IsSome (prop_at m view.table)) (eqb-true found.0.1.0 x.1.0 both.1) is.0,
              subst (λ s. IsTrue (list_any (λ (e : PlainEvent). int_eq e.rank s) old)) (int_eq-is (rank found.0.0) (rank x.0) both.0) is.1,
            )

    -- all together
    pub has_settled : HasSettled rank theory new view (rank at) plains settled agenda after.agenda dirty after.dirty planned after.planned
    has_settled = record { settles = settles_all; planned_up_to = planned_up_to; due_of = due_of }
