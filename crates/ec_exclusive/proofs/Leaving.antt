-- What a property leaves that goes: the others without it, and in their lists all but it.
use Rattle.std.proofs.Common.{◌≡◌, ℕ, ◌+◌, Bool, true, false, not, cond, ◌&&◌, All, IsTrue, List, [], ◌∷◌, get_or, length, filter, Option, Some, None, refl, sym, ap, subst, ◌∙◌, ⊎_elim, zero, suc, arith}
use Rattle.std.specs.Prelude.{◌==◌, option_map}
use Rattle.std.proofs.lemmas.Bool.{cases_Bool}
use Rattle.std.proofs.lemmas.List.Elements.{All-weaker, All-map, All-filter}
use Rattle.ec_terms.specs.declared.ids.PropId.{PropId}
use Rattle.ec_numbered.specs.PropSet.{has_number, are_ascending, without_number}
use Rattle.ec_exclusive.specs.Added.{Added, added_props, neighbours_of, stands_in_list, AreMutual, without_neighbour, without_added, added_from, added_of}
use Rattle.ec_numbered.proofs.Numbers.{has_number-filter, without_number-absent}
use Rattle.ec_exclusive.proofs.KeptLists.{numbered, neighbours_of-added_of}
use Rattle.ec_exclusive.proofs.Excluding.{AreListed, are_ascending-filter}
use Rattle.ec_lists.proofs.Filters.{filter_comm}

-- ---- rows without a property

-- the properties that stay
pub added_props-less : (p : PropId) (rows : List Added) → added_props (without_added p rows) ≡ without_number p (added_props rows)
added_props-less p [] = refl
added_props-less p (row ∷ rows) = let ih = added_props-less p rows in grind arith

-- the list without a property, if the list is not its own
abbrev pub list_without : PropId → PropId → Option (List PropId) → Option (List PropId)
list_without p q list = cond (q.0 == p.0) None (option_map (without_number p) list)

-- their lists
pub neighbours_of-less : (p q : PropId) (rows : List Added) → neighbours_of q (without_added p rows) ≡ list_without p q (neighbours_of q rows)
neighbours_of-less p q [] = ⊎_elim (λ e. rw e) (λ e. rw e) (cases_Bool (q.0 == p.0))
neighbours_of-less p q (row ∷ rows) = let ih = neighbours_of-less p q rows in grind arith

-- lists by a test stay lists by it
pub AreListed-less : (test : PropId → PropId → Bool) (p : PropId) (rows : List Added) → AreListed test rows (added_props rows) →
    AreListed test (without_added p rows) (added_props (without_added p rows))
AreListed-less test p rows listed =
    let by_test : Added → Type 0 = λ (row : Added). row.neighbours ≡ filter (test row.prop) (added_props (without_added p rows)) in
    All-map by_test (without_neighbour p) (filter (λ (row : Added). not (row.prop.0 == p.0)) rows)
    (All-filter (λ (row : Added). not (row.prop.0 == p.0)) (λ (row : Added). by_test (without_neighbour p row)) rows
    (All-weaker (λ (row : Added). row.neighbours ≡ filter (test row.prop) (added_props rows)) (λ (row : Added). by_test (without_neighbour p row))
    (λ row is. ap (without_number p) is ∙ filter_comm (λ (q : PropId). not (q.0 == p.0)) (test row.prop) (added_props rows)
    ∙ ap (filter (test row.prop)) (sym (added_props-less p rows))) rows listed))

-- what holds of the lists and numbers of all rows holds of those that stay, if it holds without the property
pub All-less : (P : Added → Type 0) (p : PropId) (rows : List Added) → ((row : Added) → P row → P (without_neighbour p row)) → All P rows → All P (without_added p rows)
All-less P p rows keeps all =
    All-map P (without_neighbour p) (filter (λ (row : Added). not (row.prop.0 == p.0)) rows)
    (All-filter (λ (row : Added). not (row.prop.0 == p.0)) (λ (row : Added). P (without_neighbour p row)) rows (All-weaker P (λ (row : Added). P (without_neighbour p row)) keeps rows all))

-- mutual lists stay mutual
stands_in_list-without : (p q r : PropId) (o : Option (List PropId)) →
    stands_in_list r (list_without p q o) ≡ ((not (q.0 == p.0) && not (r.0 == p.0)) && stands_in_list r o)
stands_in_list-without p q r None = grind arith
stands_in_list-without p q r (Some ps) =
    let kept = has_number-filter r (λ (s : PropId). not (s.0 == p.0)) ps in grind arith

pub AreMutual-less : (p : PropId) (rows : List Added) → AreMutual rows → AreMutual (without_added p rows)
AreMutual-less p rows are = record {
  by_number = All-less (λ (row : Added). IsTrue (are_ascending row.neighbours)) p rows
      (λ row ascending. are_ascending-filter (λ (s : PropId). not (s.0 == p.0)) row.neighbours ascending) are.by_number;
  not_itself = λ q. let there = ap (stands_in_list q) (neighbours_of-less p q rows) ∙ stands_in_list-without p q q (neighbours_of q rows) in
      let never = are.not_itself q in
      grind arith;
  both_ways = λ q r. let there = ap (stands_in_list r) (neighbours_of-less p q rows) ∙ stands_in_list-without p q r (neighbours_of q rows) in
      let back = ap (stands_in_list q) (neighbours_of-less p r rows) ∙ stands_in_list-without p r q (neighbours_of r rows) in
      let same = are.both_ways q r in
      grind arith;
}

-- ---- lists by number without a property

added_from-less : (p : PropId) (k : ℕ) (lists new : List (Option (List PropId))) → length new ≡ length lists →
    ((n : ℕ) → get_or new n None ≡ list_without p (numbered (k + n)) (get_or lists n None)) → added_from k new ≡ without_added p (added_from k lists)
unfolding added_from
added_from-less p k [] [] same each = refl
added_from-less p k [] (x ∷ new) same each = cc
added_from-less p k (list ∷ lists) [] same each = cc
added_from-less p k (list ∷ lists) (x ∷ new) same each =
    first list x (subst (λ m. x ≡ list_without p (numbered m) list) (omega arith) (each zero))
    (added_from-less p (k + 1) lists new (omega (arith, same))
    (λ n. subst (λ m. get_or new n None ≡ list_without p (numbered m) (get_or lists n None)) (omega arith) (each (suc n))))
  where
    first : (list x : Option (List PropId)) → x ≡ list_without p (numbered k) list → added_from (k + 1) new ≡ without_added p (added_from (k + 1) lists) →
        added_from k (x ∷ new) ≡ without_added p (added_from k (list ∷ lists))
    first None None is rest = rest
    first None (Some ps) is rest = absurd (none_there (k == p.0) ps is)
      where
        none_there : (b : Bool) (ps : List PropId) → Some ps ≡ cond b None None → ⊥
        none_there true ps is = cc
        none_there false ps is = cc
    first (Some ps) x is rest = grind arith

pub added_of-less : (p : PropId) (lists new : List (Option (List PropId))) (own : List PropId) → AreMutual (added_of lists) → get_or lists p.0 None ≡ Some own →
    length new ≡ length lists →
    ((q : PropId) → get_or new q.0 None ≡ cond (q.0 == p.0) None (cond (has_number q.0 own) (option_map (without_number p) (get_or lists q.0 None)) (get_or lists q.0 None))) →
    added_of new ≡ without_added p (added_of lists)
added_of-less p lists new own are is same each =
    added_from-less p 0 lists new same
    (λ n. subst (λ m. get_or new n None ≡ list_without p (numbered m) (get_or lists n None)) (omega arith) (each (numbered n) ∙ other (numbered n) (get_or lists n None) refl))
  where
    other : (q : PropId) (o : Option (List PropId)) → get_or lists q.0 None ≡ o →
        cond (q.0 == p.0) None (cond (has_number q.0 own) (option_map (without_number p) o) o) ≡ list_without p q o
    other q None was = ⊎_elim (λ e. rw e) (λ e. rw e) (cases_Bool (has_number q.0 own))
    other q (Some ps) was =
        let there : stands_in_list q (Some own) ≡ stands_in_list p (Some ps) =
        ap (stands_in_list q) (sym (neighbours_of-added_of p lists ∙ is)) ∙ are.both_ways p q ∙ ap (stands_in_list p) (neighbours_of-added_of q lists ∙ was) in
        let stays = without_number-absent p ps in
        grind arith
