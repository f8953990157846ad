-- The turns of the entries of events to be taken out and of those to be put in, by numbers and by terms.
use Rattle.std.proofs.Common.{◌≡◌, ℕ, ℤ, ◌+◌, zero, suc, Bool, true, false, List, [], ◌∷◌, ◌++◌, filter, flat_map, map, Option, Some, is_some, IsTrue, refl, sym, ap, subst, ◌∙◌, inl, inr, ⊎_elim, arith}
use Rattle.std.specs.Prelude.{slice_get, unwrap_or}
use Rattle.std.proofs.lemmas.Bool.{cases_Bool, cond-true, cond-false}
use Rattle.std.proofs.lemmas.List.{map-append}
use Rattle.std.proofs.lemmas.List.Elements.{filter-append}
use Rattle.ec_lists.proofs.Options.{is_some-option_map}
use Rattle.ec_terms.specs.declared.ids.PropId.{PropId}
use Rattle.ec_terms.specs.declared.ground.Ground.{Ground}
use Rattle.ec_terms.specs.declared.theory.Theory.{Theory}
use Rattle.ec_terms.specs.Domain.{GroundEntry, entries_of}
use Rattle.ec_axioms.specs.declared.event.Event.{Event}
use Rattle.ec_axioms.specs.Calculus.{PlainEvent, Effect, effects_of}
use Rattle.ec_axioms.specs.Events.{event_of}
use Rattle.ec_axioms.proofs.Members.{IsMember}
use Rattle.ec_context.specs.declared.entry.Entry.{Entry}
use Rattle.ec_context.specs.Activity.{NumberCurrency}
use Rattle.ec_context.specs.Entries.{each_of, shown_entries, shown_entry}
use Rattle.ec_context.proofs.EachOf.{each_of-first}
use Rattle.ec_context.proofs.Shown.{IsShownAs-entry}
use Rattle.ec_exclusive.specs.Added.{is_added}
use Rattle.ec_exclusive.specs.Neighbours.{Neighbourhoods}
use Rattle.ec_store.specs.Table.{KeptProp, prop_at, term_at}
use Rattle.ec_parts.specs.Activity.{is_bit_set}
use Rattle.ec_parts.specs.Tables.{AreAllAdded}
use Rattle.ec_revise.specs.Change.{entries_to_show}
use Rattle.ec_revise.specs.ShownTurns.{AreShown}
use Rattle.ec_revise.specs.Visit.{turn_to}
use Rattle.ec_sweep.specs.Acting.{acts, added_turns, turns_from, turn_of, up_turns}
use Rattle.ec_sweep.proofs.HitTurns.{AreShown-append, IsShown-entry}
use Rattle.ec_sweep.proofs.ReadingEntries.{effect_by}

module _ (theory : Theory) (table : List KeptProp) (around : Neighbourhoods) (added : AreAllAdded theory table around) where
  -- what the table keeps is added
  pub is_added-kept : (p : PropId) (term : Ground) → term_at p.0 table ≡ Some term → IsTrue (is_added p around.rows)
  is_added-kept p term there = added.added p ∙ sym (is_some-option_map (λ (kept : KeptProp). kept.term) (prop_at p.0 table)) ∙ ap is_some there

  -- the turns down of the entries of an event, where the bits of a word from a place on say which are active
  pub turns_from-shown : (active : Effect → Bool) (word place : ℕ) (e : PlainEvent) (list : List Entry) (all : List GroundEntry) → shown_entries table list ≡ Some all
      → ((k : ℕ) (effect : Effect) → slice_get (map (effect_by e) all) k ≡ Some effect → active effect ≡ is_bit_set word (place + k))
      → AreShown table around.rows (turns_from word place list) (map (turn_to (λ _. false)) (filter active (map (effect_by e) all)))
  unfolding each_of
  turns_from-shown active word place e [] all is agree =
      subst (λ gs. AreShown table around.rows [] (map (turn_to (λ _. false)) (filter active (map (effect_by e) gs)))) (ap (λ (o : Option (List GroundEntry)). unwrap_or o []) is) tt
  turns_from-shown active word place e (entry ∷ list) all is agree =
      let parts = each_of-first (shown_entry table) entry list all is in
      let effect : Effect = effect_by e parts.first in
      let shown = IsShownAs-entry table entry parts.first parts.first_is in
      let rest = turns_from-shown active word (place + 1) e list parts.others parts.others_are
      (λ k other there.
      agree (suc k) other (ap (λ gs. slice_get (map (effect_by e) gs) (suc k)) parts.all_are ∙ there) ∙ ap (is_bit_set word) (further place k)) in
      let here : active effect ≡ is_bit_set word place =
      agree zero effect (ap (λ gs. slice_get (map (effect_by e) gs) zero) parts.all_are) ∙ ap (is_bit_set word) (start place) in
      let down = turns_from word (place + 1) list in
      let others = filter active (map (effect_by e) parts.others) in
      subst (λ gs. AreShown table around.rows (turns_from word place (entry ∷ list)) (map (turn_to (λ _. false)) (filter active (map (effect_by e) gs)))) (sym parts.all_are)
      (⊎_elim
      (λ on.
      subst (λ turns. AreShown table around.rows turns (map (turn_to (λ _. false)) (filter active (effect ∷ map (effect_by e) parts.others))))
      (sym (cond-true (is_bit_set word place) (turn_of false entry ∷ down) down (sym here ∙ on)))
      (subst (λ es. AreShown table around.rows (turn_of false entry ∷ down) (map (turn_to (λ _. false)) es)) (sym (cond-true (active effect) (effect ∷ others) others on))
      (IsShown-entry table around.rows false entry effect (λ _. false) refl shown.kind shown.head (is_added-kept entry.head parts.first.head shown.head), rest)))
      (λ off.
      subst (λ turns. AreShown table around.rows turns (map (turn_to (λ _. false)) (filter active (effect ∷ map (effect_by e) parts.others))))
      (sym (cond-false (is_bit_set word place) (turn_of false entry ∷ down) down (sym here ∙ off)))
      (subst (λ es. AreShown table around.rows down (map (turn_to (λ _. false)) es)) (sym (cond-false (active effect) (effect ∷ others) others off)) rest))
      (cases_Bool (active effect)))
    where
      further : (place k : ℕ) → place + suc k ≡ place + 1 + k
      further place k = omega arith

      start : (place : ℕ) → place + zero ≡ place
      start place = omega arith

  -- the turns up of the entries of an event that act, where they act exactly as the entries that are shown are active
  pub up_turns-shown : (current : NumberCurrency) (t : ℤ) (active : Effect → Bool) (e : PlainEvent) (list : List Entry) (all : List GroundEntry) → shown_entries table list ≡ Some all
      → ((entry : Entry) (ground : GroundEntry) → shown_entry table entry ≡ Some ground → IsMember all ground → acts current t entry ≡ active (effect_by e ground))
      → AreShown table around.rows (up_turns current t list) (map (turn_to (λ _. true)) (filter active (map (effect_by e) all)))
  unfolding each_of
  up_turns-shown current t active e [] all is agree =
      subst (λ gs. AreShown table around.rows [] (map (turn_to (λ _. true)) (filter active (map (effect_by e) gs)))) (ap (λ (o : Option (List GroundEntry)). unwrap_or o []) is) tt
  up_turns-shown current t active e (entry ∷ list) all is agree =
      let parts = each_of-first (shown_entry table) entry list all is in
      let effect : Effect = effect_by e parts.first in
      let shown = IsShownAs-entry table entry parts.first parts.first_is in
      let member : (g : GroundEntry) → IsMember (parts.first ∷ parts.others) g → IsMember all g = λ g there. subst (λ gs. IsMember gs g) (sym parts.all_are) there in
      let rest = up_turns-shown current t active e list parts.others parts.others_are (λ other g is_shown there. agree other g is_shown (member g (inr there))) in
      let here : acts current t entry ≡ active effect = agree entry parts.first parts.first_is (member parts.first (inl refl)) in
      let acting = filter (acts current t) list in
      let others = filter active (map (effect_by e) parts.others) in
      subst (λ gs. AreShown table around.rows (up_turns current t (entry ∷ list)) (map (turn_to (λ _. true)) (filter active (map (effect_by e) gs)))) (sym parts.all_are)
      (⊎_elim
      (λ on.
      subst (λ es. AreShown table around.rows (map (turn_of true) es) (map (turn_to (λ _. true)) (filter active (effect ∷ map (effect_by e) parts.others))))
      (sym (cond-true (acts current t entry) (entry ∷ acting) acting (here ∙ on)))
      (subst (λ es. AreShown table around.rows (turn_of true entry ∷ map (turn_of true) acting) (map (turn_to (λ _. true)) es)) (sym (cond-true (active effect) (effect ∷ others) others on))
      (IsShown-entry table around.rows true entry effect (λ _. true) refl shown.kind shown.head (is_added-kept entry.head parts.first.head shown.head), rest)))
      (λ off.
      subst (λ es. AreShown table around.rows (map (turn_of true) es) (map (turn_to (λ _. true)) (filter active (effect ∷ map (effect_by e) parts.others))))
      (sym (cond-false (acts current t entry) (entry ∷ acting) acting (here ∙ off)))
      (subst (λ es. AreShown table around.rows (map (turn_of true) acting) (map (turn_to (λ _. true)) es)) (sym (cond-false (active effect) (effect ∷ others) others off)) rest))
      (cases_Bool (active effect)))

  -- the turns up of several events
  pub added_turns-shown : {T : Type 0} (rank : T → ℤ) (current : NumberCurrency) (t : ℤ) (active : Effect → Bool) (events : List (Event T)) (lists : List (List Entry))
      → map (shown_entries table) lists ≡ map (entries_to_show theory) events
      → ((event : Event T) → IsMember events event → (entry : Entry) (ground : GroundEntry) → shown_entry table entry ≡ Some ground → IsMember (entries_of theory event.term) ground
      → acts current t entry ≡ active (effect_by (event_of rank event) ground))
      → AreShown table around.rows (added_turns current t lists) (map (turn_to (λ _. true)) (filter active (flat_map (effects_of theory) (map (event_of rank) events))))
  unfolding effects_of
  added_turns-shown rank current t active [] [] are agree = tt
  added_turns-shown rank current t active [] (list ∷ lists) are agree = absurd (cc)
  added_turns-shown rank current t active (event ∷ events) [] are agree = absurd (cc)
  added_turns-shown {T} rank current t active (event ∷ events) (list ∷ lists) are agree =
      let effects = effects_of theory (event_of rank event) in
      let more = flat_map (effects_of theory) (map (event_of rank) events) in
      let first : shown_entries table list ≡ Some (entries_of theory event.term) = cc in
      let later : map (shown_entries table) lists ≡ map (entries_to_show theory) events = cc in
      subst (λ plains. AreShown table around.rows (up_turns current t list ++ added_turns current t lists) plains)
      (sym (map-append (turn_to (λ _. true)) (filter active effects) (filter active more)) ∙ ap (map (turn_to (λ _. true))) (sym (filter-append active effects more)))
      (AreShown-append table around.rows (up_turns current t list) (added_turns current t lists) (map (turn_to (λ _. true)) (filter active effects)) (map (turn_to (λ _. true)) (filter active more))
      (up_turns-shown current t active (event_of rank event) list (entries_of theory event.term) first (λ entry ground is there. agree event (inl refl) entry ground is there))
      (added_turns-shown rank current t active events lists later (λ e there entry ground is member. agree e (inr there) entry ground is member)))
