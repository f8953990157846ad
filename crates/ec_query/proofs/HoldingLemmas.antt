-- Which kept properties hold at a time: the members of a list one after the other, and all of them in term order.
use Rattle.std.proofs.Common.{◌≡◌, ℕ, ℤ, ◌+◌, suc, Bool, true, false, List, [], ◌∷◌, ◌++◌, length, take, drop, map, filter, find, Option, Some, None, option_map, IsTrue, IsSome, All, refl, sym, ap, ap₂, subst, ◌∙◌, inl, inr, take-append-drop, arith}
use Rattle.std.specs.Option.{option_map_or}
use Rattle.std.specs.Prelude.{slice_get, decimal}
use Rattle.std.specs.List.{list_all}
use Rattle.std.proofs.lemmas.Bool.{false≢true, and_parts}
use Rattle.std.proofs.lemmas.List.{length-map, drop-drop}
use Rattle.std.proofs.lemmas.List.Elements.{All-filter, All-head, All-map, All-tail, filter-append}
use Rattle.ec_lists.proofs.Filters.{filter-map}
use Rattle.ec_lists.proofs.Fronts.{drop-slice_get}
use Rattle.ec_lists.proofs.Orderings.{Less-from_is_lt}
use Rattle.ec_terms.specs.declared.ground.Ground.{Ground}
use Rattle.ec_terms.specs.declared.ids.PropId.{PropId}
use Rattle.ec_terms.specs.declared.theory.Theory.{Theory}
use Rattle.ec_terms.specs.Term.{term_cmp, term_eq, term_text}
use Rattle.ec_terms.proofs.OrderLemmas.{term_eq-Decides}
use Rattle.ec_axioms.specs.Calculus.{PlainEvent, holds_at}
use Rattle.ec_axioms.specs.Links.{initial_properties, is_live, live_properties, mentions_of}
use Rattle.ec_commands.specs.QueryTexts.{at_reply, counted_text, holding_at}
use Rattle.ec_axioms.specs.Timeline.{is_held_at}
use Rattle.ec_axioms.proofs.Members.{IsMember, IsMember-filter, IsMember-from_filter, IsMember-from_map, IsMember-map, IsPairwise, IsPairwise-filter, IsPairwise-map, list_all-member, find-Some}
use Rattle.ec_changes.specs.LiveLaws.{ListsInitials}
use Rattle.ec_changes.proofs.KeptEvents.{same_from_members}
use Rattle.ec_changes.proofs.LiveLists.{LiveIsListed-law}
use Rattle.ec_changes.proofs.LiveMarks.{NotLiveIsUnknown-law}
use Rattle.ec_changes.proofs.TermOrder.{IsBelow, IsBelow-itself, IsMember-from_test, IsPairwise-in_term_order, IsBelow-one_way}
use Rattle.ec_store.specs.Table.{KeptProp, is_in_order, number_of, prop_at, prop_before, term_at}
use Rattle.ec_rows.specs.Ordered.{is_ascending}
use Rattle.ec_intervals.specs.Table.{IntervalTable, members_at, plain_intervals}
use Rattle.ec_query.specs.Held.{AreHeldOf}
use Rattle.ec_query.specs.Holding.{held_numbers, number_text}
use Rattle.ec_query.specs.Members.{members_text}
use Rattle.ec_query.proofs.HeldLemmas.{holds_at-kept, holds_at-unkept}
use Rattle.ec_query.proofs.WritingLemmas.{counted_text-map}

-- ---- one after the other

-- the member at a place and those behind it, as far as they pass
pub filter-next_place : {X : Type 0} (p : X → Bool) (xs : List X) (i : ℕ) (x : X) → slice_get xs i ≡ Some x
    → filter p (drop i xs) ≡ filter p (x ∷ []) ++ filter p (drop (i + 1) xs)
filter-next_place p xs i x is =
    let next : suc i ≡ i + 1 = omega arith in
    ap (filter p) (drop-slice_get xs i x is) ∙ filter-append p (x ∷ []) (drop (suc i) xs) ∙ ap (λ n. filter p (x ∷ []) ++ filter p (drop n xs)) next

-- a run and what stands behind it, as far as they pass
pub filter-next_run : {X : Type 0} (p : X → Bool) (xs run : List X) (i : ℕ) → run ≡ take (length run) (drop i xs)
    → filter p (drop i xs) ≡ filter p run ++ filter p (drop (i + length run) xs)
filter-next_run p xs run i is =
    ap (filter p) (sym (take-append-drop (length run) (drop i xs)))
    ∙ filter-append p (take (length run) (drop i xs)) (drop (length run) (drop i xs))
    ∙ ap₂ (λ ys zs. filter p ys ++ filter p zs) (sym is) (drop-drop (length run) i xs)

-- what holds is kept
pub held_numbers-kept : {T : Type 0} (rank : T → ℤ) (table : List KeptProp) (intervals : IntervalTable T) (t : ℤ) → All (λ kept. prop_at kept.id table ≡ Some kept) table
    → All (λ (p : PropId). IsSome (prop_at p.0 table)) (held_numbers rank intervals t (map number_of table))
held_numbers-kept rank table intervals t numbers =
    All-filter (λ (p : PropId). is_held_at (plain_intervals rank (members_at p.0 intervals)) t) (λ (p : PropId). IsSome (prop_at p.0 table)) (map number_of table)
    (All-map (λ (p : PropId). IsSome (prop_at p.0 table)) number_of table (λ k d within. subst (λ (o : Option KeptProp). IsSome o) (sym (numbers k d within)) refl))

-- ---- in term order

-- each member stands before those behind it
IsPairwise-from_order : (table : List KeptProp) → IsTrue (is_in_order table) → IsPairwise (λ a b. IsBelow a.term b.term) table
unfolding is_ascending
IsPairwise-from_order [] order = tt
IsPairwise-from_order (k ∷ table) order =
    let parts = and_parts (list_all (prop_before k) table) (is_ascending prop_before table) order in
    (λ b member. Less-from_is_lt (term_cmp k.term b.term) (list_all-member (prop_before k) table b parts.0 member), IsPairwise-from_order table parts.1)

-- what all members are, each is
pub All-member : {X : Type 0} (P : X → Type 0) (xs : List X) (x : X) → All P xs → IsMember xs x → P x
All-member P [] x all member = absurd member
All-member P (y ∷ ys) x all (inl same) = subst P same (All-head P y ys all)
All-member P (y ∷ ys) x all (inr later) = All-member P ys x (All-tail P y ys all) later

module _ {T : Type 0} (rank : T → ℤ) (theory : Theory) (events : List PlainEvent) (table : List KeptProp) (intervals : IntervalTable T) (held : AreHeldOf rank theory events table intervals)
    (numbers : All (λ kept. prop_at kept.id table ≡ Some kept) table) (t : ℤ) where
  -- a kept property holds by its number
  abbrev holds : KeptProp → Bool
  holds kept = is_held_at (plain_intervals rank (members_at kept.id intervals)) t

  term_at-member : (kept : KeptProp) → IsMember table kept → term_at kept.id table ≡ Some kept.term
  term_at-member kept member = ap (option_map (λ (k : KeptProp). k.term)) (All-member (λ (k : KeptProp). prop_at k.id table ≡ Some k) table kept numbers member)

  holds-is : (kept : KeptProp) → IsMember table kept → holds kept ≡ holds_at theory events kept.term t
  holds-is kept member = holds_at-kept rank theory events table intervals held kept.id kept.term t (term_at-member kept member)

  -- what holds is kept
  kept-holding : (p : Ground) → holds_at theory events p t ≡ true → (kept : KeptProp) × IsMember table kept × (kept.term ≡ p)
  kept-holding p holding = by_found (find (λ (k : KeptProp). term_eq k.term p) table) refl
    where
      by_found : (o : Option KeptProp) → find (λ (k : KeptProp). term_eq k.term p) table ≡ o → (kept : KeptProp) × IsMember table kept × (kept.term ≡ p)
      by_found None none = absurd (false≢true (sym (holds_at-unkept rank theory events table intervals held p t (ap (option_map (λ (k : KeptProp). k.id)) none)) ∙ holding))
      by_found (Some kept) some =
          let found = find-Some (λ (k : KeptProp). term_eq k.term p) table kept some in (kept, found.0, (term_eq-Decides kept.term p).0 found.1)

  -- and live
  live-holding : (p : Ground) → holds_at theory events p t ≡ true → is_live theory events p ≡ true
  unfolding holds_at
  live-holding p holding =
      by_case (is_live theory events p) refl
    where
      by_case : (b : Bool) → is_live theory events p ≡ b → b ≡ true
      by_case true live = refl
      by_case false dead = absurd (false≢true (sym (ap (λ is. is_held_at is t) (NotLiveIsUnknown-law theory events p dead).no_interval) ∙ holding))

  -- what holds, in term order
  holding-terms : IsTrue (is_in_order table) → ListsInitials theory → holding_at theory events t ≡ map (λ kept. kept.term) (filter holds table)
  unfolding holding_at live_properties
  holding-terms order lists =
      same_from_members IsBelow IsBelow-itself IsBelow-one_way (filter (λ p. holds_at theory events p t) (live_properties theory events)) (map (λ kept. kept.term) (filter holds table))
      (IsPairwise-filter IsBelow (λ p. holds_at theory events p t) (live_properties theory events) (IsPairwise-in_term_order (initial_properties theory ++ mentions_of theory events)))
      (IsPairwise-map IsBelow (λ (kept : KeptProp). kept.term) (filter holds table) (IsPairwise-filter (λ a b. IsBelow a.term b.term) holds table (IsPairwise-from_order table order)))
      into back
    where
      into : (p : Ground) → IsMember (filter (λ q. holds_at theory events q t) (live_properties theory events)) p → IsMember (map (λ (kept : KeptProp). kept.term) (filter holds table)) p
      into p member =
          let holding = (IsMember-from_filter (λ q. holds_at theory events q t) (live_properties theory events) p member).1 in
          let found = kept-holding p holding in
          subst (IsMember (map (λ (kept : KeptProp). kept.term) (filter holds table))) found.2
          (IsMember-map (λ (kept : KeptProp). kept.term) (filter holds table) found.0
          (IsMember-filter holds table found.0 found.1 (holds-is found.0 found.1 ∙ ap (λ q. holds_at theory events q t) found.2 ∙ holding)))

      back : (p : Ground) → IsMember (map (λ (kept : KeptProp). kept.term) (filter holds table)) p → IsMember (filter (λ q. holds_at theory events q t) (live_properties theory events)) p
      back p member =
          let found = IsMember-from_map (λ (kept : KeptProp). kept.term) (filter holds table) p member in
          let kept = IsMember-from_filter holds table found.0 found.1 in
          let holding : holds_at theory events p t ≡ true = ap (λ q. holds_at theory events q t) (sym found.2) ∙ sym (holds-is found.0 kept.0) ∙ kept.1 in
          IsMember-filter (λ q. holds_at theory events q t) (live_properties theory events) p
          (IsMember-from_test (live_properties theory events) p (sym ((LiveIsListed-law theory events lists).1 p) ∙ live-holding p holding)) holding

  -- the texts of kept properties, by their numbers
  texts-kept : (ks : List KeptProp) → ((kept : KeptProp) → IsMember ks kept → IsMember table kept)
      → members_text (number_text table) (map number_of ks) ≡ members_text (λ (kept : KeptProp). term_text kept.term) ks
  texts-kept [] within = refl
  texts-kept (k ∷ ks) within =
      ap₂ (λ a b. (32 ∷ a) ++ b) (ap (λ o. option_map_or term_text o []) (term_at-member k (within k (inl refl))))
      (texts-kept ks (λ kept member. within kept (inr member)))

  -- the whole reply
  pub at_reply-held : IsTrue (is_in_order table) → ListsInitials theory
      → decimal (length (held_numbers rank intervals t (map number_of table))) ++ members_text (number_text table) (held_numbers rank intervals t (map number_of table)) ≡ at_reply theory events t
  unfolding at_reply
  at_reply-held order lists =
      ap (λ ns. decimal (length ns) ++ members_text (number_text table) ns) (filter-map (λ (p : PropId). is_held_at (plain_intervals rank (members_at p.0 intervals)) t) number_of table)
      ∙ ap₂ (λ n text. decimal n ++ text) (length-map (filter holds table) number_of) (texts-kept (filter holds table) (λ kept member. (IsMember-from_filter holds table kept member).0))
      ∙ sym (ap (λ ps. counted_text (map term_text ps)) (holding-terms order lists) ∙ counted_text-map term_text (λ (kept : KeptProp). kept.term) (filter holds table))
