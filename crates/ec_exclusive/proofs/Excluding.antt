-- Lists of what a symmetric test passes: they are mutual, and what a property more or less leaves of them.
use Rattle.std.proofs.Common.{◌≡◌, Bool, true, false, cond, ◌&&◌, ◌||◌, All, IsTrue, List, get_or, filter, Option, Some, None, is_some, refl, sym, ap, subst, ◌∙◌, ◌⊎◌, inl, inr, ⊎_elim, arith}
use Rattle.std.specs.Prelude.{◌==◌, option_map}
use Rattle.std.proofs.lemmas.Bool.{cases_Bool}
use Rattle.std.proofs.lemmas.List.Elements.{All-weaker}
use Rattle.ec_terms.specs.declared.ids.PropId.{PropId}
use Rattle.ec_rows.proofs.OrderedLemmas.{is_ascending-filter}
use Rattle.ec_numbered.specs.PropSet.{has_number, comes_before, are_ascending, with_number}
use Rattle.ec_exclusive.specs.Added.{Added, added_props, is_added, neighbours_of, stands_in_list, AreMutual, added_of}
use Rattle.ec_numbered.proofs.Numbers.{same_prop, same_members, are_ascending-with_number, has_number-filter, has_number-with_number}
use Rattle.ec_exclusive.proofs.KeptLists.{is_added-neighbours_of, All-neighbours_of, are_ascending-added_of, is_added-added_of, All-added_of, All-at}

-- ---- tests

-- a list that ascends still does without the members that fail a test
pub are_ascending-filter : (test : PropId → Bool) (ps : List PropId) → are_ascending ps ≡ true → are_ascending (filter test ps) ≡ true
are_ascending-filter test ps ascending = is_ascending-filter comes_before test ps ascending

module _ (test : PropId → PropId → Bool) where
  -- each list is of the added properties that the test passes with its own
  abbrev pub AreListed : List Added → List PropId → Type 0
  AreListed rows props = All (λ (row : Added). row.neighbours ≡ filter (test row.prop) props) rows

  -- ---- lists by the test are mutual

  module _ (comm : (p q : PropId) → test p q ≡ test q p) (never_itself : (p : PropId) → test p p ≡ false) where
    stands_in_list-listed : (p q : PropId) (rows : List Added) (o : Option (List PropId)) → AreListed rows (added_props rows) → neighbours_of p rows ≡ o →
        stands_in_list q o ≡ (is_some o && (test p q && is_added q rows))
    stands_in_list-listed p q rows None listed is = refl
    stands_in_list-listed p q rows (Some ps) listed is =
        ap (has_number q.0) (All-neighbours_of (λ (row : Added). row.neighbours ≡ filter (test row.prop) (added_props rows)) p ps rows listed is)
        ∙ has_number-filter q (test p) (added_props rows)

    stands_in_list-rows : (p q : PropId) (rows : List Added) → AreListed rows (added_props rows) →
        stands_in_list q (neighbours_of p rows) ≡ (is_added p rows && (test p q && is_added q rows))
    stands_in_list-rows p q rows listed =
        stands_in_list-listed p q rows (neighbours_of p rows) listed refl
        ∙ ap (λ b. b && (test p q && is_added q rows)) (sym (is_added-neighbours_of p rows))

    pub AreMutual-listed : (rows : List Added) → are_ascending (added_props rows) ≡ true → AreListed rows (added_props rows) → AreMutual rows
    AreMutual-listed rows ascending listed = record {
      by_number =
          All-weaker (λ (row : Added). row.neighbours ≡ filter (test row.prop) (added_props rows)) (λ (row : Added). IsTrue (are_ascending row.neighbours))
          (λ row is. ap are_ascending is ∙ are_ascending-filter (test row.prop) (added_props rows) ascending) rows listed;
      not_itself = λ p. let there = stands_in_list-rows p p rows listed in
          let never = never_itself p in
          grind arith;
      both_ways = λ p q. let there = stands_in_list-rows p q rows listed in
          let back = stands_in_list-rows q p rows listed in
          let same = comm p q in
          grind arith;
    }

    -- ---- a property more

    module _ (p : PropId) (lists new : List (Option (List PropId))) (found : List PropId)
        (absent : get_or lists p.0 None ≡ None) (listed : AreListed (added_of lists) (added_props (added_of lists)))
        (found_is : found ≡ filter (test p) (added_props (added_of lists)))
        (after : (q : PropId) → get_or new q.0 None
        ≡ cond (p.0 == q.0) (Some found) (cond (has_number q.0 found) (option_map (with_number p) (get_or lists q.0 None)) (get_or lists q.0 None))) where
      -- the properties that were added
      abbrev before : List PropId
      before = added_props (added_of lists)

      is_some-after : (o : Option (List PropId)) (b c : Bool) → is_some (cond b (Some found) (cond c (option_map (with_number p) o) o)) ≡ (b || is_some o)
      is_some-after None true c = refl
      is_some-after None false true = refl
      is_some-after None false false = refl
      is_some-after (Some ps) true c = refl
      is_some-after (Some ps) false true = refl
      is_some-after (Some ps) false false = refl

      pub added_props-more : added_props (added_of new) ≡ with_number p before
      added_props-more =
          same_members (added_props (added_of new)) (with_number p before) (are_ascending-added_of new)
          (are_ascending-with_number p before (are_ascending-added_of lists))
          (λ q. is_added-added_of q new ∙ ap is_some (after q) ∙ is_some-after (get_or lists q.0 None) (p.0 == q.0) (has_number q.0 found)
          ∙ ap (λ b. (p.0 == q.0) || b) (sym (is_added-added_of q lists)) ∙ sym (has_number-with_number q p before))

      -- the neighbours of a property, with the new one among those that are added
      with-passing : (q : PropId) → test q p ≡ true → with_number p (filter (test q) before) ≡ filter (test q) (with_number p before)
      with-passing q passes =
          same_members (with_number p (filter (test q) before)) (filter (test q) (with_number p before))
          (are_ascending-with_number p (filter (test q) before) (are_ascending-filter (test q) before (are_ascending-added_of lists)))
          (are_ascending-filter (test q) (with_number p before) (are_ascending-with_number p before (are_ascending-added_of lists)))
          (λ r. has_number-with_number r p (filter (test q) before) ∙ ap (λ b. (p.0 == r.0) || b) (has_number-filter r (test q) before)
          ∙ member r (cases_Bool (p.0 == r.0)) ∙ ap (λ b. test q r && b) (sym (has_number-with_number r p before))
          ∙ sym (has_number-filter r (test q) (with_number p before)))
        where
          member : (r : PropId) → ((p.0 == r.0) ≡ true) ⊎ ((p.0 == r.0) ≡ false) →
              ((p.0 == r.0) || (test q r && has_number r.0 before)) ≡ (test q r && ((p.0 == r.0) || has_number r.0 before))
          member r (inl e) = let there : test q r ≡ true = subst (λ s. test q s ≡ true) (same_prop p r e) passes in grind arith
          member r (inr e) = rw e

      with-failing : (q : PropId) → test q p ≡ false → filter (test q) before ≡ filter (test q) (with_number p before)
      with-failing q fails =
          same_members (filter (test q) before) (filter (test q) (with_number p before))
          (are_ascending-filter (test q) before (are_ascending-added_of lists))
          (are_ascending-filter (test q) (with_number p before) (are_ascending-with_number p before (are_ascending-added_of lists)))
          (λ r. has_number-filter r (test q) before ∙ member r (cases_Bool (p.0 == r.0)) ∙ ap (λ b. test q r && b) (sym (has_number-with_number r p before))
          ∙ sym (has_number-filter r (test q) (with_number p before)))
        where
          member : (r : PropId) → ((p.0 == r.0) ≡ true) ⊎ ((p.0 == r.0) ≡ false) → (test q r && has_number r.0 before) ≡ (test q r && ((p.0 == r.0) || has_number r.0 before))
          member r (inl e) = let there : test q r ≡ false = subst (λ s. test q s ≡ false) (same_prop p r e) fails in grind arith
          member r (inr e) = rw e

      -- a list that was there
      old_list : (q : PropId) (ps : List PropId) → get_or lists q.0 None ≡ Some ps → ps ≡ filter (test q) before
      old_list q ps is = All-at (λ (row : Added). row.neighbours ≡ filter (test row.prop) before) lists q ps listed is

      is_found : (q : PropId) → has_number q.0 found ≡ (test p q && has_number q.0 before)
      is_found q = ap (has_number q.0) found_is ∙ has_number-filter q (test p) before

      -- each list after it, by cases: the new one's, one that the new property entered, and one that stays
      list-of_new : (q : PropId) (ps : List PropId) → (p.0 == q.0) ≡ true → get_or new q.0 None ≡ Some ps → ps ≡ filter (test q) (with_number p before)
      list-of_new q ps e is =
          let own : Some found ≡ Some ps = rw e at (sym (after q) ∙ is) in
          let list : found ≡ ps = cc in
          let same : p ≡ q = same_prop p q e in
          sym list ∙ found_is ∙ ap (λ r. filter (test r) before) same
          ∙ with-failing q (subst (λ r. test r p ≡ false) same (never_itself p))

      list-of_other : (q : PropId) (ps : List PropId) (o : Option (List PropId)) (b : Bool) → get_or lists q.0 None ≡ o → has_number q.0 found ≡ b →
          cond b (option_map (with_number p) o) o ≡ Some ps → ps ≡ filter (test q) (with_number p before)
      list-of_other q ps None true was entered is = cc
      list-of_other q ps None false was entered is = cc
      list-of_other q ps (Some old) true was entered is =
          let list : with_number p old ≡ ps = cc in
          let both : (test p q && has_number q.0 before) ≡ true = sym (is_found q) ∙ entered in
          let there : test p q ≡ true = grind arith in
          sym list ∙ ap (with_number p) (old_list q old was) ∙ with-passing q (comm q p ∙ there)
      list-of_other q ps (Some old) false was entered is =
          let list : old ≡ ps = cc in
          let both : (test p q && has_number q.0 before) ≡ false = sym (is_found q) ∙ entered in
          let added : has_number q.0 before ≡ true = is_added-added_of q lists ∙ ap is_some was in
          let not_there : test p q ≡ false = grind arith in
          sym list ∙ old_list q old was ∙ with-failing q (comm q p ∙ not_there)

      list-after : (q : PropId) (ps : List PropId) → get_or new q.0 None ≡ Some ps → ps ≡ filter (test q) (with_number p before)
      list-after q ps is =
          ⊎_elim (λ e. list-of_new q ps e is)
          (λ e. let rest : cond (has_number q.0 found) (option_map (with_number p) (get_or lists q.0 None)) (get_or lists q.0 None) ≡ Some ps = rw e at (sym (after q) ∙ is) in
          list-of_other q ps (get_or lists q.0 None) (has_number q.0 found) refl refl rest) (cases_Bool (p.0 == q.0))

      pub AreListed-more : AreListed (added_of new) (added_props (added_of new))
      AreListed-more =
          All-added_of (λ (row : Added). row.neighbours ≡ filter (test row.prop) (added_props (added_of new))) new
          (λ q ps is. list-after q ps is ∙ ap (filter (test q)) (sym added_props-more))

      pub AreMutual-more : AreMutual (added_of new)
      AreMutual-more = AreMutual-listed (added_of new) (are_ascending-added_of new) AreListed-more
