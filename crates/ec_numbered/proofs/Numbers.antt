-- Lists of numbers that ascend: two with the same members are the same, and what an edit leaves.
use Rattle.std.proofs.Common.{◌≡◌, ℕ, ◌<◌, ◌≤◌, Bool, true, false, not, ◌&&◌, ◌||◌, List, [], ◌∷◌, get_or, length, filter, refl, sym, ap, ap₂, ◌∙◌, ◌⊎◌, ⊎_elim, arith}
use Rattle.std.specs.Prelude.{◌==◌, nat_lt}
use Rattle.std.specs.List.{list_all, list_any, insert, remove}
use Rattle.std.specs.List.Sorted.{IsPartitionedBy, IsPartitionPoint}
use Rattle.std.proofs.lemmas.Bool.{cases_Bool, false≢true}
use Rattle.std.proofs.lemmas.List.Folds.{list_any-append}
use Rattle.std.proofs.lemmas.List.{get_or_default}
use Rattle.std.proofs.lemmas.List.Elements.{filter_agree}
use Rattle.ec_terms.specs.declared.ids.PropId.{PropId}
use Rattle.ec_rows.proofs.OrderedLemmas.{IsOrder, IsPlace, is_at, ascending-first, ascending-rest, IsPartitionedBy-ascending, take-partition, filter-behind_free, free-from_none, with_member-free, at-from_any, filter-not_at, list_any-at, list_any-free, is_ascending-with_member, is_ascending-filter}
use Rattle.ec_numbered.specs.PropSet.{has_number, comes_before, are_ascending, with_number, without_number}
use Rattle.ec_lists.proofs.Tests.{list_any-same}

-- ---- numbers

-- properties of the same number are the same
pub same_prop : (p q : PropId) → (p.0 == q.0) ≡ true → p ≡ q
same_prop p q e = let number : p.0 ≡ q.0 = grind arith in ap (λ (n : ℕ). let r : PropId = record { 0 = n } in r) number

pub itself : (p : PropId) → (p.0 == p.0) ≡ true
itself p = grind arith

pub IsOrder-number : IsOrder comes_before
IsOrder-number = record { transitive = λ x y z h k. grind arith; one_way = λ x y h. grind arith }

-- ---- members

-- what is less than all members is none of them
less-none : (p q : PropId) (ps : List PropId) → list_all (comes_before q) ps ≡ true → nat_lt q.0 p.0 ≡ false → has_number p.0 ps ≡ false
less-none p q [] all less = refl
less-none p q (r ∷ ps) all less = let ih = less-none p q ps in grind arith

-- two lists that ascend and have the same members are the same
pub same_members : (xs ys : List PropId) → are_ascending xs ≡ true → are_ascending ys ≡ true → ((p : PropId) → has_number p.0 xs ≡ has_number p.0 ys) → xs ≡ ys
same_members [] [] left right same = refl
same_members [] (y ∷ ys) left right same = let there = same y in absurd (false≢true (grind arith))
same_members (x ∷ xs) [] left right same = let there = same x in absurd (false≢true (grind arith))
same_members (x ∷ xs) (y ∷ ys) left right same =
    let above_x : list_all (comes_before x) xs ≡ true = ascending-first comes_before x xs left in
    let above_y : list_all (comes_before y) ys ≡ true = ascending-first comes_before y ys right in
    let first : x ≡ y = same_prop x y (same_first x y xs ys above_x above_y (same x) (same y)) in
    let rest : xs ≡ ys =
    same_members xs ys (ascending-rest comes_before x xs left) (ascending-rest comes_before y ys right) (same_rest x y xs ys above_x above_y first same) in
    ap₂ (λ z zs. z ∷ zs) first rest
  where
    same_first : (x y : PropId) (xs ys : List PropId) → list_all (comes_before x) xs ≡ true → list_all (comes_before y) ys ≡ true →
        has_number x.0 (x ∷ xs) ≡ has_number x.0 (y ∷ ys) → has_number y.0 (x ∷ xs) ≡ has_number y.0 (y ∷ ys) → (x.0 == y.0) ≡ true
    same_first x y xs ys above_x above_y at_x at_y =
        let y_in_xs = less-none y x xs above_x in
        let x_in_ys = less-none x y ys above_y in
        grind arith

    same_rest : (x y : PropId) (xs ys : List PropId) → list_all (comes_before x) xs ≡ true → list_all (comes_before y) ys ≡ true → x ≡ y →
        ((p : PropId) → has_number p.0 (x ∷ xs) ≡ has_number p.0 (y ∷ ys)) → (p : PropId) → has_number p.0 xs ≡ has_number p.0 ys
    same_rest x y xs ys above_x above_y first same p =
        let number : x.0 ≡ y.0 = ap (λ (r : PropId). r.0) first in
        let at_p = same p in
        let in_xs = less-none p x xs above_x in
        let in_ys = less-none p y ys above_y in
        grind arith

-- ---- edits

-- the members that pass a test
pub has_number-filter : (p : PropId) (test : PropId → Bool) (ps : List PropId) → has_number p.0 (filter test ps) ≡ (test p && has_number p.0 ps)
has_number-filter p test [] = ⊎_elim (λ e. rw e) (λ e. rw e) (cases_Bool (test p))
has_number-filter p test (q ∷ ps) =
    let ih = has_number-filter p test ps in
    ⊎_elim (λ e. let same = ap test (same_prop q p e) in grind arith) (λ e. grind arith) (cases_Bool (q.0 == p.0))

-- the members of a list with one more
pub has_number-with_number : (p q : PropId) (ps : List PropId) → has_number p.0 (with_number q ps) ≡ ((q.0 == p.0) || has_number p.0 ps)
has_number-with_number p q ps =
    let before = has_number-filter p (λ r. nat_lt r.0 q.0) ps in
    let behind = has_number-filter p (λ r. nat_lt q.0 r.0) ps in
    list_any-append (λ (r : PropId). r.0 == p.0) (filter (λ r. nat_lt r.0 q.0) ps) (q ∷ filter (λ r. nat_lt q.0 r.0) ps)
    ∙ ap₂ (λ a b. a || ((q.0 == p.0) || b)) before behind ∙ grind arith

-- ---- the place of a number

pub IsPlace-number : (p : PropId) → IsPlace comes_before (λ q. comes_before q p) (λ q. comes_before p q)
IsPlace-number p = record { keeps = λ x y less before. grind arith; rises = λ x y less not_before. grind arith; apart = λ x before. grind arith }

-- where a search for a number cuts a list
abbrev pub IsCutAt : PropId → List PropId → ℕ → Type 0
IsCutAt p ps i = IsPartitionPoint (λ q. comes_before q p ≡ true) (λ q. comes_before q p ≡ false) ps i

pub IsPartitionedBy-number : (p : PropId) (ps : List PropId) → are_ascending ps ≡ true → IsPartitionedBy (λ q. comes_before q p) ps
IsPartitionedBy-number p ps ascending = IsPartitionedBy-ascending comes_before (λ q. comes_before q p) (IsPlace-number p).keeps ps ascending

-- a number at a place
abbrev pub is_at_number : PropId → PropId → Bool
is_at_number p q = is_at (λ r. comes_before r p) (λ r. comes_before p r) q

same-is_at : (p q : PropId) → (q.0 == p.0) ≡ is_at_number p q
same-is_at p q = grind arith

any-is_at : (p : PropId) (ps : List PropId) → has_number p.0 ps ≡ list_any (is_at_number p) ps
any-is_at p ps = list_any-same (λ q. q.0 == p.0) (is_at_number p) (same-is_at p) ps

-- a number stands at the cut, and then it is there
pub has_number-at : (p : PropId) (ps : List PropId) (i : ℕ) (d : PropId) → are_ascending ps ≡ true → IsCutAt p ps i → i < length ps →
    ((get_or ps i d).0 == p.0) ≡ has_number p.0 ps
has_number-at p ps i d ascending cut within = ⊎_elim same other (cases_Bool ((get_or ps i d).0 == p.0))
  where
    same : ((get_or ps i d).0 == p.0) ≡ true → ((get_or ps i d).0 == p.0) ≡ has_number p.0 ps
    same e =
        let there : nat_lt p.0 (get_or ps i d).0 ≡ false = grind arith in
        e ∙ sym (any-is_at p ps ∙ list_any-at comes_before (λ r. comes_before r p) (λ r. comes_before p r) (IsPlace-number p) ps i d cut within there)

    behind : ((get_or ps i d).0 == p.0) ≡ false → (o : PropId) → i < length ps → nat_lt p.0 (get_or ps i o).0 ≡ true
    behind e o lt =
        let not_before : nat_lt (get_or ps i o).0 p.0 ≡ false = cut.1 i o (omega arith) within in
        let number : (get_or ps i o).0 ≡ (get_or ps i d).0 = ap (λ (r : PropId). r.0) (get_or_default ps i o d within) in
        grind arith

    other : ((get_or ps i d).0 == p.0) ≡ false → ((get_or ps i d).0 == p.0) ≡ has_number p.0 ps
    other e = e ∙ sym (any-is_at p ps ∙ list_any-free comes_before (λ r. comes_before r p) (λ r. comes_before p r) (IsPlace-number p) ps i ascending cut (behind e))

-- it is not there where the list ends at the cut
pub has_number-end : (p : PropId) (ps : List PropId) (i : ℕ) → are_ascending ps ≡ true → IsCutAt p ps i → length ps ≤ i → has_number p.0 ps ≡ false
has_number-end p ps i ascending cut end =
    any-is_at p ps ∙ list_any-free comes_before (λ r. comes_before r p) (λ r. comes_before p r) (IsPlace-number p) ps i ascending cut (λ d lt. absurd (omega arith))

-- a number that is new goes in at the cut
pub insert-with_number : (p : PropId) (ps : List PropId) (i : ℕ) → are_ascending ps ≡ true → IsCutAt p ps i → has_number p.0 ps ≡ false →
    insert ps i p ≡ with_number p ps
insert-with_number p ps i ascending cut absent =
    let free : (d : PropId) → i < length ps → comes_before p (get_or ps i d) ≡ true =
    free-from_none (λ q. comes_before q p) (λ q. comes_before p q) ps i cut (sym (any-is_at p ps) ∙ absent) in
    with_member-free comes_before p ps i (take-partition (λ q. comes_before q p) ps i cut)
    (sym (filter-behind_free comes_before (λ q. comes_before q p) (λ q. comes_before p q) (IsPlace-number p) ps i ascending cut free))

-- and one that is there is taken out at the cut
pub remove-without_number : (p : PropId) (ps : List PropId) (i : ℕ) → are_ascending ps ≡ true → IsCutAt p ps i → has_number p.0 ps ≡ true →
    remove ps i ≡ without_number p ps
remove-without_number p ps i ascending cut present =
    let there = at-from_any comes_before (λ q. comes_before q p) (λ q. comes_before p q) (IsPlace-number p) ps i ascending cut (sym (any-is_at p ps) ∙ present) in
    sym (filter-not_at comes_before (λ q. comes_before q p) (λ q. comes_before p q) (IsPlace-number p) ps i p ascending cut there.0 (there.1 p))
    ∙ sym (filter_agree (λ (q : PropId). not (q.0 == p.0)) (λ q. not (is_at_number p q)) (λ q. ap not (same-is_at p q)) ps)

-- ---- what ascends stays ascending

pub are_ascending-with_number : (p : PropId) (ps : List PropId) → are_ascending ps ≡ true → are_ascending (with_number p ps) ≡ true
are_ascending-with_number p ps ascending = is_ascending-with_member comes_before IsOrder-number p ps ascending

pub are_ascending-without_number : (p : PropId) (ps : List PropId) → are_ascending ps ≡ true → are_ascending (without_number p ps) ≡ true
are_ascending-without_number p ps ascending = is_ascending-filter comes_before (λ q. not (q.0 == p.0)) ps ascending

-- ---- edits that change nothing

-- a number that is there goes in
pub with_number-there : (p : PropId) (ps : List PropId) → are_ascending ps ≡ true → has_number p.0 ps ≡ true → with_number p ps ≡ ps
with_number-there p ps ascending there =
    same_members (with_number p ps) ps (are_ascending-with_number p ps ascending) ascending (λ q. has_number-with_number q p ps ∙ at q (cases_Bool (p.0 == q.0)))
  where
    at : (q : PropId) → ((p.0 == q.0) ≡ true) ⊎ ((p.0 == q.0) ≡ false) → ((p.0 == q.0) || has_number q.0 ps) ≡ has_number q.0 ps
    at q = ⊎_elim (λ e. let same = ap (λ (r : PropId). has_number r.0 ps) (same_prop p q e) in grind arith) (λ e. grind arith)

-- a number that is not there goes out
pub without_number-absent : (p : PropId) (ps : List PropId) → has_number p.0 ps ≡ false → without_number p ps ≡ ps
without_number-absent p [] absent = refl
without_number-absent p (q ∷ ps) absent =
    let rest : has_number p.0 ps ≡ false = grind arith in
    let ih = without_number-absent p ps rest in grind arith
