-- The note on a property, made of what stands behind the first intervals that both lists share.
use Rattle.std.proofs.Common.{◌≡◌, ℕ, ◌+◌, ◌<◌, zero, suc, Bool, true, false, not, cond, ◌||◌, List, [], ◌∷◌, ◌++◌, map, filter, take, drop, length, Option, Some, None, IsTrue, refl, sym, ap, ap₂, subst, ◌∙◌, append_assoc, take-append-drop, inl, inr, arith}
use Rattle.std.specs.Prelude.{ℤ, IfSome, codes, decimal, option_map}
use Rattle.std.specs.List.{list_all, list_any}
use Rattle.std.proofs.lemmas.Bool.{cond-false, cond-true}
use Rattle.std.proofs.lemmas.List.Elements.{filter-append}
use Rattle.std.proofs.lemmas.List.Folds.{list_any-append}
use Rattle.ec_lists.proofs.Booleans.{and-right}
use Rattle.ec_lists.proofs.Filters.{filter-each}
use Rattle.ec_terms.specs.declared.ground.Ground.{Ground}
use Rattle.ec_terms.specs.declared.theory.Theory.{Theory}
use Rattle.ec_terms.specs.Term.{term_text}
use Rattle.ec_axioms.specs.Timeline.{Interval}
use Rattle.ec_axioms.specs.Calculus.{PlainEvent, intervals_of}
use Rattle.ec_axioms.specs.Changes.{interval_eq, is_history, has_other_intervals}
use Rattle.ec_axioms.proofs.Members.{IsMember, IsMember-append_left, IsMember-append_right, filter_agree, list_all-member, member-list_any}
use Rattle.ec_changes.proofs.OtherIntervals.{OtherIntervalsDiffer-law, interval_eq-Decides}
use Rattle.ec_commands.specs.Lines.{line_feed}
use Rattle.ec_commands.specs.QueryTexts.{Canon, counted_text, interval_text}
use Rattle.ec_intervals.specs.Steps.{IsIntervalRow, comes_before, is_proper}
use Rattle.ec_intervals.specs.Table.{IntervalTable, plain_intervals}
use Rattle.ec_query.specs.Held.{AreHeldOf}
use Rattle.ec_query.proofs.HeldLemmas.{intervals_of-kept, intervals_of-unkept}
use Rattle.ec_store.specs.Table.{KeptProp, prop_of, term_at}
use Rattle.ec_terms.specs.declared.ids.PropId.{PropId}
use Rattle.ec_rows.specs.Ordered.{is_ascending}
use Rattle.ec_rows.proofs.OrderedLemmas.{ascending-first, ascending-rest}
use Rattle.ec_replies.specs.Notes.{missing_from, note_between, note_text, with_note}
use Rattle.ec_replies.proofs.NoteLemmas.{NotesTellTheIntervals-law}
use Rattle.ec_compare.specs.Lists.{changes_text, missing_behind, present_members}
use Rattle.ec_compare.proofs.Found.{earlier-differs}
use Rattle.ec_compare.proofs.Rows.{begins_first}

-- ---- parts of a list

member-take : {X : Type 0} (n : ℕ) (xs : List X) (x : X) → IsMember (take n xs) x → IsMember xs x
member-take n xs x member = subst (λ ys. IsMember ys x) (take-append-drop n xs) (IsMember-append_left (take n xs) (drop n xs) x member)

member-drop : {X : Type 0} (n : ℕ) (xs : List X) (x : X) → IsMember (drop n xs) x → IsMember xs x
member-drop n xs x member = subst (λ ys. IsMember ys x) (take-append-drop n xs) (IsMember-append_right (take n xs) (drop n xs) x member)

-- ---- what both lists share

missing_from-append : (those xs ys : List Interval) → missing_from those (xs ++ ys) ≡ missing_from those xs ++ missing_from those ys
unfolding missing_from
missing_from-append those xs ys = filter-append (λ i. not (list_any (interval_eq i) those)) xs ys

-- nothing is missing of what stands there
none-missing : (those zs : List Interval) → ((i : Interval) → IsMember zs i → IsMember those i) → missing_from those zs ≡ []
unfolding missing_from
none-missing those [] in_those = refl
none-missing those (z ∷ zs) in_those =
    ap (λ b. cond (not b) (z ∷ filter (λ i. not (list_any (interval_eq i) those)) zs) (filter (λ i. not (list_any (interval_eq i) those)) zs))
    (member-list_any (interval_eq z) those z (in_those z (inl refl)) ((interval_eq-Decides z z).1 refl))
    ∙ none-missing those zs (λ i member. in_those i (inr member))

-- of the first ones that both have none is missing
missing-behind : (those these : List Interval) (n : ℕ) → take n these ≡ take n those → missing_from those these ≡ missing_from those (drop n these)
missing-behind those these n shared =
    ap (missing_from those) (sym (take-append-drop n these)) ∙ missing_from-append those (take n these) (drop n these)
    ∙ ap (λ xs. xs ++ missing_from those (drop n these)) (none-missing those (take n these) (λ i member. member-take n those i (subst (λ xs. IsMember xs i) shared member)))

-- none of the last ones of a row stands among its first ones
apart : (xs : List Interval) → is_ascending begins_first xs ≡ true → (n : ℕ) (i : Interval) → IsMember (drop n xs) i → list_any (interval_eq i) (take n xs) ≡ false
apart xs ascending zero i member = refl
apart [] ascending (suc n) i member = refl
apart (x ∷ xs) ascending (suc n) i member =
    ap₂ (λ a b. a || b) (earlier-differs i x (list_all-member (begins_first x) xs i (ascending-first begins_first x xs ascending) (member-drop n xs i member)))
    (apart xs (ascending-rest begins_first x xs ascending) n i member)

-- so that the first ones need not be looked at
missing-apart : (those these : List Interval) (n : ℕ) → is_ascending begins_first these ≡ true → take n these ≡ take n those → missing_from those (drop n these) ≡ missing_from (drop n those) (drop n these)
unfolding missing_from
missing-apart those these n ascending shared =
    filter_agree (λ i. not (list_any (interval_eq i) those)) (λ i. not (list_any (interval_eq i) (drop n those))) (drop n these) (λ i member.
    ap not (ap (list_any (interval_eq i)) (sym (take-append-drop n those)) ∙ list_any-append (interval_eq i) (take n those) (drop n those)
    ∙ ap (λ b. b || list_any (interval_eq i) (drop n those)) (ap (list_any (interval_eq i)) (sym shared) ∙ apart these ascending n i member)))

-- ---- texts

joined : (h a b c d e : List ℕ) → ((((h ++ a) ++ b) ++ c) ++ d) ++ e ≡ h ++ ((a ++ b) ++ ((c ++ d) ++ e))
joined h a b c d e =
    ap (λ t. ((t ++ c) ++ d) ++ e) (append_assoc h a b) ∙ ap (λ t. t ++ e) (append_assoc (h ++ (a ++ b)) c d)
    ∙ append_assoc (h ++ (a ++ b)) (c ++ d) e ∙ append_assoc h (a ++ b) ((c ++ d) ++ e)

none-of : {X : Type 0} (xs : List X) → length xs ≡ 0 → xs ≡ []
none-of [] none = refl
none-of (x ∷ xs) none = absurd (omega (arith, none))

-- ---- the note

module _ (theory : Theory) (canon : Canon) (session : ℕ) (p : Ground) (old new : List PlainEvent) (history_old : IsTrue (is_history old)) (history_new : IsTrue (is_history new)) where
  abbrev pub was : List Interval
  was = intervals_of theory old p

  abbrev pub is : List Interval
  is = intervals_of theory new p

  -- nothing lost and nothing gained is nothing changed
  unchanged : missing_from is was ≡ [] → missing_from was is ≡ [] → was ≡ is
  unfolding with_note missing_from
  unchanged lost gained =
      let back = NotesTellTheIntervals-law theory p old new history_old history_new in
      sym (filter-each was) ∙ ap₂ (λ l g. with_note l g was) (sym lost) (sym gained) ∙ back

  pub note-none : missing_from is was ≡ [] → missing_from was is ≡ [] → note_between theory canon session p old new ≡ []
  unfolding note_between
  note-none lost gained = cond-false (has_other_intervals theory old new p) _ _ ((OtherIntervalsDiffer-law theory old new p).1 (unchanged lost gained))

  differs : 0 < length (missing_from is was) + length (missing_from was is) → (b : Bool) → has_other_intervals theory old new p ≡ b → b ≡ true
  differs some true same = refl
  differs some false same =
      let one = (OtherIntervalsDiffer-law theory old new p).0 same in
      let lost = ap length (ap (λ xs. missing_from xs was) (sym one) ∙ none-missing was was (λ i member. member)) in
      let gained = ap length (ap (missing_from was) (sym one) ∙ none-missing was was (λ i member. member)) in
      absurd (omega (arith, some, lost, gained))

  pub note-some : 0 < length (missing_from is was) + length (missing_from was is)
      → note_between theory canon session p old new
      ≡ changes_text canon session p (missing_from is was) (missing_from was is)
  unfolding note_between note_text
  note-some some =
      cond-true (has_other_intervals theory old new p) _ _ (differs some (has_other_intervals theory old new p) refl)
      ∙ joined (((codes "note " ++ decimal session) ++ codes " ") ++ term_text p) (codes " lost ") (counted_text (map (interval_text canon) (missing_from is was))) (codes " gained ")
      (counted_text (map (interval_text canon) (missing_from was is))) (line_feed ∷ [])

  module _ (n : ℕ) (ascending : is_ascending begins_first is ≡ true) (shared : take n was ≡ take n is) where
    -- what is lost and what is gained stands behind the first ones that stayed
    pub lost-behind : missing_from is (drop n was) ≡ missing_from is was
    lost-behind = sym (missing-behind is was n shared)

    pub gained-behind : missing_from (drop n was) (drop n is) ≡ missing_from was is
    gained-behind = sym (missing-behind was is n (sym shared) ∙ missing-apart was is n ascending (sym shared))

    -- the same by other names of what stood behind them and of what stands there now
    module _ (before after : List Interval) (kept : before ≡ drop n was) (present : after ≡ is) where
      pub lost-is : missing_behind 0 after before ≡ missing_from is was
      lost-is = ap₂ (missing_behind 0) present kept ∙ lost-behind

      pub gained-is : missing_behind n before after ≡ missing_from was is
      gained-is = ap₂ (missing_behind n) kept present ∙ gained-behind

      pub note-of_same : (length (missing_behind 0 after before) ≡ 0) × (length (missing_behind n before after) ≡ 0) → note_between theory canon session p old new ≡ []
      note-of_same none = note-none (sym lost-is ∙ none-of (missing_behind 0 after before) none.0) (sym gained-is ∙ none-of (missing_behind n before after) none.1)

      pub note-of_changes : 0 < length (missing_behind 0 after before) + length (missing_behind n before after)
          → changes_text canon session p (missing_behind 0 after before) (missing_behind n before after) ≡ note_between theory canon session p old new
      note-of_changes some =
          let lost = ap length lost-is in
          let gained = ap length gained-is in
          ap₂ (changes_text canon session p) lost-is gained-is ∙ sym (note-some (omega (arith, some, lost, gained)))

-- ---- rows

-- what stands behind a place of a row is a row
pub row-drop : (n : ℕ) (xs : List Interval) → IsIntervalRow xs → IsIntervalRow (drop n xs)
row-drop zero xs row = row
row-drop (suc n) [] row = row
row-drop (suc n) (x ∷ xs) row =
    row-drop n xs (record {
      proper = and-right (is_proper x) (list_all is_proper xs) row.proper;
      ascending = ascending-rest comes_before x xs row.ascending;
    })

-- the present intervals of a property are those under its number, if it has one
pub present-kept : {T : Type 0} (rank : T → ℤ) (theory : Theory) (events : List PlainEvent) (table : List KeptProp) (intervals : IntervalTable T) → AreHeldOf rank theory events table intervals
    → (p : Ground) (id : Option PropId) → option_map (λ (found : PropId). found.0) id ≡ prop_of p table → IfSome id (λ (found : PropId). term_at found.0 table ≡ Some p)
    → plain_intervals rank (present_members id intervals) ≡ intervals_of theory events p
present-kept rank theory events table intervals held p None number kept = sym (intervals_of-unkept rank theory events table intervals held p (sym number))
present-kept rank theory events table intervals held p (Some id) number kept = intervals_of-kept rank theory events table intervals held id.0 p kept
