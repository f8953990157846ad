-- What a visit looks at: the hits of the agenda are the entries that see a change, and what it finds there is what turned.
use Rattle.std.proofs.Common.{◌≡◌, ℕ, ◌+◌, ℤ, pos, ◌+ℤ◌, Bool, true, false, not, ◌&&◌, List, ◌++◌, length, map, filter, IsTrue, IsFalse, refl, sym, ap, ap₂, subst, ◌∙◌, ⊎_elim, arith, length-append}
use Rattle.std.specs.Prelude.{Contains, is_some}
use Rattle.std.specs.Bool.{beq}
use Rattle.std.specs.List.{list_any}
use Rattle.std.specs.Ordering.{int_eq}
use Rattle.std.proofs.lemmas.Bool.{and_from, cases_Bool, eq-eqb, false≢true, or_right}
use Rattle.std.proofs.lemmas.Int.{ints}
use Rattle.std.proofs.lemmas.List.{length-map}
use Rattle.std.proofs.lemmas.List.Elements.{filter-append}
use Rattle.ec_lists.proofs.Filters.{filter-filter, filter-map, filter_comm}
use Rattle.ec_terms.specs.declared.ground.Ground.{Ground}
use Rattle.ec_terms.specs.declared.theory.Theory.{Theory}
use Rattle.ec_terms.specs.Domain.{GroundEntry}
use Rattle.ec_axioms.specs.Plain.{events_at}
use Rattle.ec_axioms.specs.Calculus.{PlainEvent, Effect, effects_at, effects_of, is_active, is_current}
use Rattle.ec_axioms.specs.Marks.{is_marked, mark_at}
use Rattle.ec_axioms.specs.Changes.{events_only_in, has_event, kept_events}
use Rattle.ec_axioms.proofs.Members.{Contains-from_member, IsMember, IsMember-filter, IsMember-from_contains, IsMember-from_filter, filter_agree, filter_none, member-list_any}
use Rattle.ec_changes.specs.Differences.{differs, entries_at, reads}
use Rattle.ec_changes.specs.Turns.{same_entry, sees, turns_off, turns_on, kept_count}
use Rattle.ec_changes.specs.TurnLaws.{IsCountedBy}
use Rattle.ec_changes.proofs.Activity.{is_active-each, rank-entries_at}
use Rattle.ec_changes.proofs.Hits.{SeenInAnyOrder-law}
use Rattle.ec_changes.proofs.JoinedMembers.{IsMember-flat_map, IsMember-from_flat_map}
use Rattle.ec_changes.proofs.KeptCounts.{KeptCountsGoOn-law}
use Rattle.ec_changes.proofs.KeptEvents.{event_eq-same}
use Rattle.ec_changes.proofs.TurnAccounts.{SeeingIsReading-law, UnseenStays-law}
use Rattle.ec_revise.specs.Sweep.{AreCompared, Found, IsDueBy, Swept}
use Rattle.ec_revise.specs.Visit.{AreTurnsAt, LooksAt, PlainTurn, bare_entry, currency_found, downs, turn_to, turns_between, ups}
use Rattle.ec_revise.specs.SweepLaws.{HitsAreSeen}
use Rattle.ec_revise.proofs.OtherCurrency.{currency_found-is, is_dirty-differs}

-- ---- the hits

-- an entry at an instant of some of the events is one of all of them
pub IsMember-entries_of_some : (theory : Theory) (some : PlainEvent → Bool) (events : List PlainEvent) (t : ℤ) (effect : Effect)
    → IsMember (entries_at theory (filter some events) t) effect → IsMember (entries_at theory events t) effect
IsMember-entries_of_some theory some events t effect member =
    let found = IsMember-from_flat_map (effects_of theory) (events_at t (filter some events)) effect member in
    let here = IsMember-from_filter (λ (e : PlainEvent). int_eq e.rank t) (filter some events) found.0 found.1 in
    let there = IsMember-from_filter some events found.0 here.0 in
    IsMember-flat_map (effects_of theory) (events_at t events) found.0 effect (IsMember-filter (λ (e : PlainEvent). int_eq e.rank t) events found.0 there.0 here.1) found.2

-- what is due after r and by the next instant is due at it
pub due_next : (agenda : ℤ → Ground → Bool) (p : Ground) (r : ℤ) → IsDueBy agenda p r (r +ℤ pos 1) → IsTrue (agenda (r +ℤ pos 1) p)
due_next agenda p r due =
    let after = due.after in
    let by = due.by in
    let here : due.time ≡ r +ℤ pos 1 = omega (arith, ints) in subst (λ t. IsTrue (agenda t p)) here due.due

-- the law
pub HitsAreSeen-law : HitsAreSeen
unfolding kept_events
HitsAreSeen-law theory old new kept r found effect swept contained =
    let member = IsMember-from_contains (entries_at theory (kept_events old new) (r +ℤ pos 1)) effect contained in
    let rank = rank-entries_at theory (kept_events old new) (r +ℤ pos 1) effect member in
    let dirty : (p : Ground) → is_some (found.dirty p) ≡ differs theory old new p (r +ℤ pos 1) = is_dirty-differs theory old new kept r found swept in (
      λ seeing.
          let seen = (SeeingIsReading-law theory old new effect).0 seeing in
          let differ = dirty seen.0 ∙ subst (λ t. IsTrue (differs theory old new seen.0 t)) rank seen.1 in
          let bears = or_right (is_marked (mark_at theory old seen.0 (r +ℤ pos 1))) _
          (member-list_any (reads seen.0) (entries_at theory old (r +ℤ pos 1)) effect (IsMember-entries_of_some theory (has_event new) old (r +ℤ pos 1) effect member) seen.2) in
          (seen.0, differ, due_next found.agenda seen.0 r (swept.due seen.0 (r +ℤ pos 1) differ (omega (arith, ints)) bears), seen.2),
      λ hit.
          (SeeingIsReading-law theory old new effect).1 (hit.0, subst (λ t. IsTrue (differs theory old new hit.0 t)) (sym rank) (sym (dirty hit.0) ∙ hit.1), hit.3),
    )

-- ---- turns in lists

-- turns up of two lists, and turns down
ups-append : (wanted : GroundEntry → Bool) (xs ys : List PlainTurn) → ups wanted (xs ++ ys) ≡ ups wanted xs + ups wanted ys
ups-append wanted xs ys = ap length (filter-append (λ (turn : PlainTurn). turn.up && wanted (bare_entry turn.kind turn.head)) xs ys) ∙ length-append _ _

downs-append : (wanted : GroundEntry → Bool) (xs ys : List PlainTurn) → downs wanted (xs ++ ys) ≡ downs wanted xs + downs wanted ys
downs-append wanted xs ys = ap length (filter-append (λ (turn : PlainTurn). not turn.up && wanted (bare_entry turn.kind turn.head)) xs ys) ∙ length-append _ _

-- and of three
ups-three : (wanted : GroundEntry → Bool) (xs ys zs : List PlainTurn) → ups wanted (xs ++ ys ++ zs) ≡ ups wanted xs + ups wanted ys + ups wanted zs
ups-three wanted xs ys zs = ups-append wanted (xs ++ ys) zs ∙ ap (λ n. n + ups wanted zs) (ups-append wanted xs ys)

downs-three : (wanted : GroundEntry → Bool) (xs ys zs : List PlainTurn) → downs wanted (xs ++ ys ++ zs) ≡ downs wanted xs + downs wanted ys + downs wanted zs
downs-three wanted xs ys zs = downs-append wanted (xs ++ ys) zs ∙ ap (λ n. n + downs wanted zs) (downs-append wanted xs ys)

-- a test of an entry by its kind and head
abbrev by_kind : (GroundEntry → Bool) → GroundEntry → Bool
by_kind wanted entry = wanted (bare_entry entry.kind entry.head)

-- turns up of some entries, and turns down
ups-map : (wanted : GroundEntry → Bool) (active : Effect → Bool) (effects : List Effect)
    → ups wanted (map (turn_to active) effects) ≡ length (filter (λ effect. active effect && by_kind wanted effect.entry) effects)
ups-map wanted active effects =
    ap length (filter-map (λ (turn : PlainTurn). turn.up && wanted (bare_entry turn.kind turn.head)) (turn_to active) effects) ∙ length-map _ _

downs-map : (wanted : GroundEntry → Bool) (active : Effect → Bool) (effects : List Effect)
    → downs wanted (map (turn_to active) effects) ≡ length (filter (λ effect. not (active effect) && by_kind wanted effect.entry) effects)
downs-map wanted active effects =
    ap length (filter-map (λ (turn : PlainTurn). not turn.up && wanted (bare_entry turn.kind turn.head)) (turn_to active) effects) ∙ length-map _ _

-- what changed and is active now turned on
changed_on : (before after wanted : Bool) → (not (beq before after) && (after && wanted)) ≡ (wanted && (not before && after))
changed_on before after wanted = grind arith

-- and what changed and is not, turned off
changed_off : (before after wanted : Bool) → (not (beq before after) && (not after && wanted)) ≡ (wanted && (before && not after))
changed_off before after wanted = grind arith

-- the active entries at an instant that pass a test, in either order of the two tests
length-effects_by : (theory : Theory) (events : List PlainEvent) (current : Ground → ℤ → Bool) (active : Effect → Bool) (wanted : GroundEntry → Bool) (t : ℤ)
    → ((effect : Effect) → IsMember (entries_at theory events t) effect → active effect ≡ is_active current effect)
    → length (filter (λ effect. wanted effect.entry) (filter active (entries_at theory events t))) ≡ length (effects_at theory events current wanted t)
unfolding effects_at
length-effects_by theory events current active wanted t same =
    ap length
    (filter_comm (λ (effect : Effect). wanted effect.entry) active (entries_at theory events t)
    ∙ filter_agree active (is_active current) (filter (λ (effect : Effect). wanted effect.entry) (entries_at theory events t))
    (λ effect member. same effect (IsMember-from_filter (λ (effect : Effect). wanted effect.entry) (entries_at theory events t) effect member).0))

-- an entry is the same as itself
pub same_entry-itself : (effect : Effect) → IsTrue (same_entry effect effect)
unfolding same_entry
same_entry-itself effect = and_from _ _ (event_eq-same effect.event) (eq-eqb effect.entry.rule effect.entry.rule refl)

-- ---- what is looked at

module _ (theory : Theory) (old new : List PlainEvent) (kept : Ground → Bool) (r : ℤ) (seen : List Effect) (before after : Found) (compared : AreCompared theory old new kept)
    (swept : Swept theory old new kept r before) (looks : LooksAt theory old new (r +ℤ pos 1) seen before after) where
  -- what is evaluated is active as in the new list
  evaluated : (effect : Effect) → effect.event.rank ≡ r +ℤ pos 1 → is_active (currency_found theory old before) effect ≡ is_active (is_current theory new) effect
  evaluated effect rank =
      is_active-each (currency_found theory old before) (is_current theory new) effect
      (λ literal member.
      subst (λ t. currency_found theory old before literal.prop t ≡ is_current theory new literal.prop t) (sym rank) (currency_found-is theory old new kept r before swept literal.prop))

  -- an entry of the old list at the instant was active as there
  was : (effect : Effect) → IsMember (entries_at theory old (r +ℤ pos 1)) effect → before.active effect ≡ is_active (is_current theory old) effect
  was effect member =
      swept.not_yet effect (r +ℤ pos 1) (omega (arith, ints)) (Contains-from_member (entries_at theory old (r +ℤ pos 1)) effect member)

  -- a kept entry at the instant is active now as in the new list
  pub kept_active : (effect : Effect) → IsMember (entries_at theory (kept_events old new) (r +ℤ pos 1)) effect → after.active effect ≡ is_active (is_current theory new) effect
  unfolding kept_events
  kept_active effect member =
      let contained = Contains-from_member (entries_at theory (kept_events old new) (r +ℤ pos 1)) effect member in
      ⊎_elim
      (λ listed. looks.evaluated effect contained listed ∙ evaluated effect (rank-entries_at theory (kept_events old new) (r +ℤ pos 1) effect member))
      (λ unlisted.
      looks.unseen effect contained unlisted
      ∙ was effect (IsMember-entries_of_some theory (has_event new) old (r +ℤ pos 1) effect member)
      ∙ UnseenStays-law theory old new effect (blind effect contained unlisted))
      (cases_Bool (list_any (same_entry effect) seen))
    where
      blind : (effect : Effect) → Contains (entries_at theory (kept_events old new) (r +ℤ pos 1)) effect → IsFalse (list_any (same_entry effect) seen)
          → IsFalse (sees theory old new effect)
      blind effect contained unlisted =
          ⊎_elim (λ seeing. absurd (false≢true (sym unlisted ∙ looks.listed.all effect contained seeing))) (λ unseen. unseen) (cases_Bool (sees theory old new effect))

  -- and so is an added one
  pub added_active : (effect : Effect) → IsMember (entries_at theory (events_only_in new old) (r +ℤ pos 1)) effect → after.active effect ≡ is_active (is_current theory new) effect
  added_active effect member =
      looks.added effect (Contains-from_member (entries_at theory (events_only_in new old) (r +ℤ pos 1)) effect member)
      ∙ evaluated effect (rank-entries_at theory (events_only_in new old) (r +ℤ pos 1) effect member)

  -- the entries that were looked at
  seen_kept : (effect : Effect) → IsMember seen effect → IsMember (entries_at theory (kept_events old new) (r +ℤ pos 1)) effect
  seen_kept effect member =
      IsMember-from_contains (entries_at theory (kept_events old new) (r +ℤ pos 1)) effect (looks.listed.kept effect (Contains-from_member seen effect member)).0

  seen_was : (effect : Effect) → IsMember seen effect → before.active effect ≡ is_active (is_current theory old) effect
  unfolding kept_events
  seen_was effect member = was effect (IsMember-entries_of_some theory (has_event new) old (r +ℤ pos 1) effect (seen_kept effect member))

  seen_is : (effect : Effect) → IsMember seen effect → after.active effect ≡ is_active (is_current theory new) effect
  seen_is effect member = kept_active effect (seen_kept effect member)

  counted : IsCountedBy theory old new (r +ℤ pos 1) seen
  counted = SeenInAnyOrder-law theory old new (r +ℤ pos 1) seen compared.old_history looks.listed

  removed_was : (effect : Effect) → IsMember (entries_at theory (events_only_in old new) (r +ℤ pos 1)) effect → before.active effect ≡ is_active (is_current theory old) effect
  unfolding events_only_in
  removed_was effect member = was effect (IsMember-entries_of_some theory (λ e. not (has_event new e)) old (r +ℤ pos 1) effect member)

  -- the changed ones of the seen
  abbrev changed : List Effect
  changed = filter (λ effect. not (beq (before.active effect) (after.active effect))) seen

  seen_on : (wanted : GroundEntry → Bool) → ups wanted (map (turn_to after.active) changed)
      ≡ length (filter (λ effect. by_kind wanted effect.entry && turns_on theory old new effect) seen)
  seen_on wanted =
      ups-map wanted after.active changed
      ∙ ap length
      (filter-filter (λ (effect : Effect). after.active effect && by_kind wanted effect.entry) (λ effect. not (beq (before.active effect) (after.active effect)))
      (λ effect. not (beq (before.active effect) (after.active effect)) && (after.active effect && by_kind wanted effect.entry)) seen (λ effect. refl)
      ∙ filter_agree _ (λ (effect : Effect). by_kind wanted effect.entry && turns_on theory old new effect) seen
      (λ effect member.
      changed_on (before.active effect) (after.active effect) (by_kind wanted effect.entry)
      ∙ ap₂ (λ b a. by_kind wanted effect.entry && (not b && a)) (seen_was effect member) (seen_is effect member)))

  seen_off : (wanted : GroundEntry → Bool) → downs wanted (map (turn_to after.active) changed)
      ≡ length (filter (λ effect. by_kind wanted effect.entry && turns_off theory old new effect) seen)
  seen_off wanted =
      downs-map wanted after.active changed
      ∙ ap length
      (filter-filter (λ (effect : Effect). not (after.active effect) && by_kind wanted effect.entry) (λ effect. not (beq (before.active effect) (after.active effect)))
      (λ effect. not (beq (before.active effect) (after.active effect)) && (not (after.active effect) && by_kind wanted effect.entry)) seen (λ effect. refl)
      ∙ filter_agree _ (λ (effect : Effect). by_kind wanted effect.entry && turns_off theory old new effect) seen
      (λ effect member.
      changed_off (before.active effect) (after.active effect) (by_kind wanted effect.entry)
      ∙ ap₂ (λ b a. by_kind wanted effect.entry && (b && not a)) (seen_was effect member) (seen_is effect member)))

  -- turns the other way are none
  none_up : (wanted : GroundEntry → Bool) (effects : List Effect) → ups wanted (map (turn_to (λ _. false)) effects) ≡ 0
  none_up wanted effects = ups-map wanted (λ _. false) effects ∙ ap length (filter_none _ effects (λ effect member. refl))

  none_down : (wanted : GroundEntry → Bool) (effects : List Effect) → downs wanted (map (turn_to (λ _. true)) effects) ≡ 0
  none_down wanted effects = downs-map wanted (λ _. true) effects ∙ ap length (filter_none _ effects (λ effect member. refl))

  -- the turns of the removed events, and of the added ones
  abbrev removed : List Effect
  removed = filter before.active (entries_at theory (events_only_in old new) (r +ℤ pos 1))

  abbrev added : List Effect
  added = filter after.active (entries_at theory (events_only_in new old) (r +ℤ pos 1))

  removed_down : (wanted : GroundEntry → Bool) → downs wanted (map (turn_to (λ _. false)) removed)
      ≡ length (effects_at theory (events_only_in old new) (is_current theory old) (by_kind wanted) (r +ℤ pos 1))
  removed_down wanted =
      downs-map wanted (λ _. false) removed
      ∙ length-effects_by theory (events_only_in old new) (is_current theory old) before.active (by_kind wanted) (r +ℤ pos 1) removed_was

  added_up : (wanted : GroundEntry → Bool) → ups wanted (map (turn_to (λ _. true)) added)
      ≡ length (effects_at theory (events_only_in new old) (is_current theory new) (by_kind wanted) (r +ℤ pos 1))
  added_up wanted =
      ups-map wanted (λ _. true) added
      ∙ length-effects_by theory (events_only_in new old) (is_current theory new) after.active (by_kind wanted) (r +ℤ pos 1) added_active

  -- the turns of the visit are those of the instant
  pub turns_at : AreTurnsAt theory old new (r +ℤ pos 1) (turns_between theory old new (r +ℤ pos 1) seen before after)
  turns_at = record {
    gained_by = λ wanted.
        counted.gained_by (by_kind wanted)
        ∙ sym (ups-three wanted (map (turn_to after.active) changed) (map (turn_to (λ _. false)) removed) (map (turn_to (λ _. true)) added)
        ∙ in_all _ _ _ _ _ (seen_on wanted) (none_up wanted removed) (added_up wanted));
    lost_by = λ wanted.
        counted.lost_by (by_kind wanted)
        ∙ sym (downs-three wanted (map (turn_to after.active) changed) (map (turn_to (λ _. false)) removed) (map (turn_to (λ _. true)) added)
        ∙ in_front _ _ _ _ _ (seen_off wanted) (removed_down wanted) (none_down wanted added));
  }
    where
      in_all : (a b c d e : ℕ) → a ≡ d → b ≡ 0 → c ≡ e → a + b + c ≡ d + e
      in_all a b c d e same none other = omega arith

      in_front : (a b c d e : ℕ) → a ≡ d → b ≡ e → c ≡ 0 → a + b + c ≡ d + e
      in_front a b c d e same other none = omega arith

  -- the counts go on by what was found
  pub counted_seen : after.seen ≡ kept_count theory old new (sees theory old new) ((r +ℤ pos 1) +ℤ pos 1)
  counted_seen = looks.seen_more ∙ ap₂ (λ m n. m + n) swept.seen (sym counted.seen_there) ∙ sym (KeptCountsGoOn-law theory old new (sees theory old new) (r +ℤ pos 1))

  pub counted_on : after.on ≡ kept_count theory old new (turns_on theory old new) ((r +ℤ pos 1) +ℤ pos 1)
  counted_on =
      looks.on_more
      ∙ ap₂ (λ m n. m + n) swept.on
      (ap length (filter_agree _ (turns_on theory old new) seen (λ effect member. ap₂ (λ b a. not b && a) (seen_was effect member) (seen_is effect member))) ∙ sym counted.on)
      ∙ sym (KeptCountsGoOn-law theory old new (turns_on theory old new) (r +ℤ pos 1))

  pub counted_off : after.off ≡ kept_count theory old new (turns_off theory old new) ((r +ℤ pos 1) +ℤ pos 1)
  counted_off =
      looks.off_more
      ∙ ap₂ (λ m n. m + n) swept.off
      (ap length (filter_agree _ (turns_off theory old new) seen (λ effect member. ap₂ (λ b a. b && not a) (seen_was effect member) (seen_is effect member))) ∙ sym counted.off)
      ∙ sym (KeptCountsGoOn-law theory old new (turns_off theory old new) (r +ℤ pos 1))
