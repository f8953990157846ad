-- Lists that are kept by number: what is found in them.
use Rattle.std.proofs.Common.{◌≡◌, ℕ, ◌+◌, ◌<◌, zero, suc, true, false, ◌&&◌, All, List, [], ◌∷◌, get_or, Option, Some, None, is_some, refl, sym, ap, ap₂, subst, ◌∙◌, ⊎_elim, arith}
use Rattle.std.specs.Prelude.{◌==◌, nat_lt}
use Rattle.std.specs.List.{list_all}
use Rattle.std.proofs.lemmas.Bool.{cases_Bool}
use Rattle.std.proofs.lemmas.List.{get_or_past}
use Rattle.std.proofs.lemmas.List.Elements.{All-nil, All-cons, All-head, All-tail}
use Rattle.ec_terms.specs.declared.ids.PropId.{PropId}
use Rattle.ec_rows.specs.Ordered.{is_ascending}
use Rattle.ec_numbered.specs.PropSet.{comes_before, are_ascending}
use Rattle.ec_exclusive.specs.Added.{Added, added_props, is_added, neighbours_of, added_from, added_of}
use Rattle.ec_numbered.proofs.Numbers.{same_prop}

-- the property of a number
abbrev pub numbered : ℕ → PropId
numbered n = record { 0 = n }

-- an added property and its list
abbrev pub added_as : PropId → List PropId → Added
added_as p ps = record { prop = p; neighbours = ps }

-- ---- rows

-- a property that stands before all added ones has no list
neighbours_of-before : (p : PropId) (rows : List Added) → list_all (comes_before p) (added_props rows) ≡ true → neighbours_of p rows ≡ None
neighbours_of-before p [] before = refl
neighbours_of-before p (row ∷ rows) before =
    let here : nat_lt p.0 row.prop.0 ≡ true = grind arith in
    let rest : list_all (comes_before p) (added_props rows) ≡ true = grind arith in
    let other : (row.prop.0 == p.0) ≡ false = grind arith in
    rw other (neighbours_of-before p rows rest)

-- a property is added where it has a list
pub is_added-neighbours_of : (p : PropId) (rows : List Added) → is_added p rows ≡ is_some (neighbours_of p rows)
is_added-neighbours_of p [] = refl
is_added-neighbours_of p (row ∷ rows) =
    ⊎_elim (λ e. rw e) (λ e. rw e (is_added-neighbours_of p rows)) (cases_Bool (row.prop.0 == p.0))

-- what holds of all rows holds of the list that is found
pub All-neighbours_of : (P : Added → Type 0) (p : PropId) (ps : List PropId) (rows : List Added) → All P rows → neighbours_of p rows ≡ Some ps → P (added_as p ps)
All-neighbours_of P p ps [] all is = cc
All-neighbours_of P p ps (row ∷ rows) all is =
    ⊎_elim (λ e. let found : Some row.neighbours ≡ Some ps = rw e at is in
    let list : row.neighbours ≡ ps = cc in
    subst P (ap₂ added_as (same_prop row.prop p e) list) (All-head P row rows all))
    (λ e. let rest : neighbours_of p rows ≡ Some ps = rw e at is in All-neighbours_of P p ps rows (All-tail P row rows all) rest)
    (cases_Bool (row.prop.0 == p.0))

-- ---- lists by number

-- a number less than the first stands before all
before-added_from : (k m : ℕ) (lists : List (Option (List PropId))) → m < k → list_all (comes_before (numbered m)) (added_props (added_from k lists)) ≡ true
unfolding added_from
before-added_from k m [] less = refl
before-added_from k m (None ∷ lists) less = before-added_from (k + 1) m lists (omega arith)
before-added_from k m (Some ps ∷ lists) less =
    let here : nat_lt m k ≡ true = grind arith in
    rw here (before-added_from (k + 1) m lists (omega arith))

are_ascending-added_from : (k : ℕ) (lists : List (Option (List PropId))) → are_ascending (added_props (added_from k lists)) ≡ true
unfolding added_from is_ascending
are_ascending-added_from k [] = refl
are_ascending-added_from k (None ∷ lists) = are_ascending-added_from (k + 1) lists
are_ascending-added_from k (Some ps ∷ lists) =
    ap₂ (λ a b. a && b) (before-added_from (k + 1) k lists (omega arith)) (are_ascending-added_from (k + 1) lists)

-- the list of a number
neighbours_of-added_from : (k n : ℕ) (lists : List (Option (List PropId))) → neighbours_of (numbered (k + n)) (added_from k lists) ≡ get_or lists n None
unfolding added_from
neighbours_of-added_from k n [] = sym (get_or_past [] n None (omega arith))
neighbours_of-added_from k zero (None ∷ lists) =
    neighbours_of-before (numbered (k + 0)) (added_from (k + 1) lists) (before-added_from (k + 1) (k + 0) lists (omega arith))
neighbours_of-added_from k (suc n) (None ∷ lists) =
    let further : k + suc n ≡ (k + 1) + n = omega arith in
    ap (λ m. neighbours_of (numbered m) (added_from (k + 1) lists)) further ∙ neighbours_of-added_from (k + 1) n lists
neighbours_of-added_from k zero (Some ps ∷ lists) = let here : (k == (k + 0)) ≡ true = grind arith in rw here
neighbours_of-added_from k (suc n) (Some ps ∷ lists) =
    let other : (k == (k + suc n)) ≡ false = grind arith in
    let further : k + suc n ≡ (k + 1) + n = omega arith in
    rw other (ap (λ m. neighbours_of (numbered m) (added_from (k + 1) lists)) further ∙ neighbours_of-added_from (k + 1) n lists)

-- what holds of each list and its number holds of all rows
All-added_from : (P : Added → Type 0) (k : ℕ) (lists : List (Option (List PropId))) →
    ((n : ℕ) (ps : List PropId) → get_or lists n None ≡ Some ps → P (added_as (numbered (k + n)) ps)) → All P (added_from k lists)
unfolding added_from
All-added_from P k [] each = All-nil P
All-added_from P k (None ∷ lists) each =
    All-added_from P (k + 1) lists (λ n ps is. subst (λ m. P (added_as (numbered m) ps)) (omega arith) (each (suc n) ps is))
All-added_from P k (Some ps ∷ lists) each =
    All-cons P (added_as (numbered k) ps) (added_from (k + 1) lists)
    (subst (λ m. P (added_as (numbered m) ps)) (omega arith) (each zero ps refl))
    (All-added_from P (k + 1) lists (λ n qs is. subst (λ m. P (added_as (numbered m) qs)) (omega arith) (each (suc n) qs is)))

-- ---- all lists, from 0 on

pub are_ascending-added_of : (lists : List (Option (List PropId))) → are_ascending (added_props (added_of lists)) ≡ true
are_ascending-added_of lists = are_ascending-added_from 0 lists

pub neighbours_of-added_of : (p : PropId) (lists : List (Option (List PropId))) → neighbours_of p (added_of lists) ≡ get_or lists p.0 None
neighbours_of-added_of p lists =
    let start : p.0 ≡ 0 + p.0 = omega arith in
    ap (λ m. neighbours_of (numbered m) (added_of lists)) start ∙ neighbours_of-added_from 0 p.0 lists

pub is_added-added_of : (p : PropId) (lists : List (Option (List PropId))) → is_added p (added_of lists) ≡ is_some (get_or lists p.0 None)
is_added-added_of p lists = is_added-neighbours_of p (added_of lists) ∙ ap is_some (neighbours_of-added_of p lists)

pub All-added_of : (P : Added → Type 0) (lists : List (Option (List PropId))) →
    ((p : PropId) (ps : List PropId) → get_or lists p.0 None ≡ Some ps → P (added_as p ps)) → All P (added_of lists)
All-added_of P lists each =
    All-added_from P 0 lists (λ n ps is. subst (λ m. P (added_as (numbered m) ps)) (omega arith) (each (numbered n) ps is))

-- a list that is there at a number, from what holds of all rows
pub All-at : (P : Added → Type 0) (lists : List (Option (List PropId))) (p : PropId) (ps : List PropId) → All P (added_of lists) → get_or lists p.0 None ≡ Some ps →
    P (added_as p ps)
All-at P lists p ps all is = All-neighbours_of P p ps (added_of lists) all (neighbours_of-added_of p lists ∙ is)

-- lists that are the same at each number are the same rows
added_from-same : (k : ℕ) (lists other : List (Option (List PropId))) → ((n : ℕ) → get_or other n None ≡ get_or lists n None) → added_from k other ≡ added_from k lists
unfolding added_from
added_from-same k [] [] same = refl
added_from-same k [] (x ∷ other) same =
    let none : x ≡ None = same zero in
    subst (λ o. added_from k (o ∷ other) ≡ []) (sym none) (added_from-same (k + 1) [] other (λ n. same (suc n) ∙ get_or_past [] (suc n) None (omega arith) ∙ sym (get_or_past [] n None (omega arith))))
added_from-same k (list ∷ lists) [] same =
    let none : list ≡ None = sym (same zero) in
    subst (λ o. [] ≡ added_from k (o ∷ lists)) (sym none) (added_from-same (k + 1) lists [] (λ n. get_or_past [] n None (omega arith) ∙ sym (get_or_past [] (suc n) None (omega arith)) ∙ same (suc n)))
added_from-same k (list ∷ lists) (x ∷ other) same = first list x (same zero) (added_from-same (k + 1) lists other (λ n. same (suc n)))
  where
    first : (list x : Option (List PropId)) → x ≡ list → added_from (k + 1) other ≡ added_from (k + 1) lists → added_from k (x ∷ other) ≡ added_from k (list ∷ lists)
    first None x is rest = subst (λ o. added_from k (o ∷ other) ≡ added_from k (None ∷ lists)) (sym is) rest
    first (Some ps) x is rest = subst (λ o. added_from k (o ∷ other) ≡ added_from k (Some ps ∷ lists)) (sym is) (ap (λ rows. added_as (numbered k) ps ∷ rows) rest)

pub added_of-same : (lists other : List (Option (List PropId))) → ((n : ℕ) → get_or other n None ≡ get_or lists n None) → added_of other ≡ added_of lists
added_of-same lists other same = added_from-same 0 lists other same
