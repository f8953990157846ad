-- The next visit is the earliest of the first times of three lists in order.
use Rattle.std.proofs.Common.{suc, ◌≡◌, ℕ, ℤ, Bool, true, false, List, [], ◌∷◌, Option, Some, None, IsTrue, option_map, refl, sym, ap, subst, ◌∙◌, ⊎_elim, arith, ◌||◌}
use Rattle.std.specs.Prelude.{◌⊎◌, ◌≤ℤ◌, int_le, int_lt, slice_get, drop, IfSome, IfNone}
use Rattle.std.specs.List.{list_all, list_any}
use Rattle.std.specs.Ordering.{int_eq}
use Rattle.std.proofs.lemmas.Int.{ints}
use Rattle.std.proofs.lemmas.Bool.{cases_Bool}
use Rattle.std.proofs.lemmas.List.{drop_all}
use Rattle.std.proofs.lemmas.Option.{slice_get_cases}
use Rattle.ec_lists.proofs.Fronts.{drop-slice_get}
use Rattle.ec_lists.proofs.Booleans.{or_second}
use Rattle.ec_lists.proofs.Integers.{int_eq-is, int_eq-same, int_le-is, int_le-from, int_le-from_lt, int_le-same}
use Rattle.ec_lists.proofs.Booleans.{and-left}
use Rattle.ec_lists.proofs.Tests.{list_all-weaker}
use Rattle.ec_rows.specs.Ordered.{is_ascending}
use Rattle.ec_lists.proofs.Options.{None-from_option_map}
use Rattle.ec_points.proofs.Lists.{is_ascending-drop}
use Rattle.ec_axioms.specs.declared.event.Event.{Event}
use Rattle.ec_numbered.specs.Due.{Due, are_in_order, comes_before}
use Rattle.ec_revise.specs.declared.change.Change.{Change}
use Rattle.ec_revise.specs.declared.change.Removal.{Removal}
use Rattle.ec_revise.specs.Change.{removal_before}
use Rattle.ec_sweep.specs.declared.progress.Progress.{Progress}
use Rattle.ec_sweep.specs.Sweeping.{IsInOrder, NothingLeft, NothingLeftBefore, has_visit_at}
use Rattle.ec_sweep.proofs.Dues.{comes_before-le}
use Rattle.ec_sweep.proofs.Firsts.{list_all-from_first}

-- ---- one list

-- where the time at a place of a list in order is no earlier than t, none from there on is
pub list_all-from_place : {X : Type 0} (before : X → X → Bool) (key : X → ℤ) → ((x y : X) → before x y ≡ true → int_le (key x) (key y) ≡ true)
    → (xs : List X) (i : ℕ) (t : ℤ) → is_ascending before xs ≡ true → ((x : X) → slice_get xs i ≡ Some x → t ≤ℤ key x)
    → list_all (λ y. int_le t (key y)) (drop i xs) ≡ true
list_all-from_place {X} before key grows xs i t ascending bound =
    ⊎_elim
    (λ within.
    let x = within.0 in
    let is : slice_get xs i ≡ Some x = within.2 in
    let rest : drop i xs ≡ x ∷ drop (suc i) xs = drop-slice_get xs i x is in
    subst (λ ys. list_all (λ y. int_le t (key y)) ys ≡ true) (sym rest)
    (list_all-weaker (λ y. int_le (key x) (key y)) (λ y. int_le t (key y)) (later x (bound x is)) (x ∷ drop (suc i) xs)
    (list_all-from_first before key grows x (drop (suc i) xs) (subst (λ ys. is_ascending before ys ≡ true) rest (is_ascending-drop before i xs ascending)))))
    (λ past. subst (λ ys. list_all (λ y. int_le t (key y)) ys ≡ true) (sym (drop_all i xs past.0)) refl)
    (slice_get_cases xs i).1
  where
    later : (x : X) → t ≤ℤ key x → (y : X) → int_le (key x) (key y) ≡ true → int_le t (key y) ≡ true
    later x first y next = let second = int_le-is (key x) (key y) next in int_le-from t (key y) (omega (arith, ints, first, second))

-- where no member stands at a place, none is left from there on
pub drop-none : {X : Type 0} (xs : List X) (i : ℕ) → slice_get xs i ≡ None → drop i xs ≡ []
drop-none xs i none = ⊎_elim (λ within. let is = within.2 in cc) (λ past. drop_all i xs past.0) (slice_get_cases xs i).1

-- ---- times that may be absent

-- what is no later than a time that may be absent is no later than that time
pub late : {T : Type 0} (rank : T → ℤ) (o one : Option T) → IfSome one (λ a. IfSome o (λ at. rank at ≤ℤ rank a)) → (at a : T) → o ≡ Some at → one ≡ Some a → rank at ≤ℤ rank a
late rank None one le at a is one_is = cc
late rank (Some b) None le at a is one_is = cc
late rank (Some b) (Some c) le at a is one_is =
    let first : b ≡ at = cc in
    let second : c ≡ a = cc in
    subst (λ x. rank x ≤ℤ rank a) first (subst (λ y. rank b ≤ℤ rank y) second le)

-- and so over a time between the two
pub late-over : {T : Type 0} (rank : T → ℤ) (o between one : Option T) → IfSome between (λ a. IfSome o (λ at. rank at ≤ℤ rank a))
    → IfSome one (λ a. IfSome between (λ at. rank at ≤ℤ rank a)) → IfNone between (one ≡ None) → (at a : T) → o ≡ Some at → one ≡ Some a → rank at ≤ℤ rank a
late-over rank o None one first second none at a is one_is = cc
late-over rank o (Some b) one first second none at a is one_is =
    let early = late rank o (Some b) first at b is refl in
    let later = late rank (Some b) one second b a refl one_is in
    omega (arith, ints, early, later)

-- what is said of the time at a place, if there is one
pub from_place : {T X : Type 0} (rank : T → ℤ) (time : X → T) (xs : List X) (i : ℕ) (t : ℤ) (o : Option T) → o ≡ option_map time (slice_get xs i)
    → ((a : T) → o ≡ Some a → t ≤ℤ rank a) → (x : X) → slice_get xs i ≡ Some x → t ≤ℤ rank (time x)
from_place rank time xs i t o is bound x at = bound (time x) (is ∙ ap (option_map time) at)

-- the time at a place is that of a member from there on
pub at_place : {T X : Type 0} (rank : T → ℤ) (time : X → T) (xs : List X) (i : ℕ) (o : Option T) (at : T) → o ≡ option_map time (slice_get xs i) → o ≡ Some at
    → list_any (λ x. int_eq (rank (time x)) (rank at)) (drop i xs) ≡ true
at_place {T} {X} rank time xs i o at is there = each (slice_get xs i) refl
  where
    each : (m : Option X) → slice_get xs i ≡ m → list_any (λ x. int_eq (rank (time x)) (rank at)) (drop i xs) ≡ true
    each None none = let gone : o ≡ None = is ∙ ap (option_map time) none in cc
    each (Some x) some =
        let same : time x ≡ at = let found : o ≡ Some (time x) = is ∙ ap (option_map time) some in cc in
        ap (list_any (λ y. int_eq (rank (time y)) (rank at))) (drop-slice_get xs i x some)
        ∙ ap (λ b. b || list_any (λ y. int_eq (rank (time y)) (rank at)) (drop (suc i) xs)) (subst (λ u. int_eq (rank (time x)) (rank u) ≡ true) same (int_eq-same (rank (time x))))

-- ---- clauses on options

-- what holds where there is none
pub if_none : {A : Type 0} (o : Option A) (P : Type 0) → (o ≡ None → P) → IfNone o P
if_none None P each = each refl
if_none (Some x) P each = tt

-- and it holds there
pub from_none : {A : Type 0} (o : Option A) (P : Type 0) → IfNone o P → o ≡ None → P
from_none None P holds none = holds
from_none (Some x) P holds none = cc

-- the first time of an agenda is that of its first member
pub first_time-is : {T : Type 0} (o : Option T) (agenda : List (Due T)) → IfSome o (λ at. option_map (λ (due : Due T). due.0) (slice_get agenda 0) ≡ Some at)
    → IfNone o (agenda ≡ []) → o ≡ option_map (λ (due : Due T). due.0) (slice_get agenda 0)
first_time-is None agenda some none = sym (ap (λ (dues : List (Due _)). option_map (λ (due : Due _). due.0) (slice_get dues 0)) none)
first_time-is (Some at) agenda some none = sym some

-- one removal comes no later than another that it comes before
pub removal_before-le : {T : Type 0} (rank : T → ℤ) (r s : Removal T) → removal_before rank r s ≡ true → int_le (rank r.at) (rank s.at) ≡ true
removal_before-le rank r s before =
    ⊎_elim
    (λ less. int_le-from_lt (rank r.at) (rank s.at) less)
    (λ not_less.
    subst (λ t. int_le (rank r.at) t ≡ true) (int_eq-is (rank r.at) (rank s.at) (and-left _ _ (or_second (int_lt (rank r.at) (rank s.at)) _ not_less before))) (int_le-same (rank r.at)))
    (cases_Bool (int_lt (rank r.at) (rank s.at)))

-- ---- the next visit

module _ {T : Type 0} (rank : T → ℤ) (change : Change T) (progress : Progress) (agenda : List (Due T)) (due single removed added next : Option T)
    (due_is : due ≡ option_map (λ (due : Due T). due.0) (slice_get agenda 0))
    (removed_is : removed ≡ option_map (λ (removal : Removal T). removal.at) (slice_get change.remove progress.removed))
    (added_is : added ≡ option_map (λ (event : Event T). event.at) (slice_get change.add progress.added))
    (next_due : IfSome due (λ a. IfSome next (λ at. rank at ≤ℤ rank a))) (next_single : IfSome single (λ a. IfSome next (λ at. rank at ≤ℤ rank a)))
    (single_removed : IfSome removed (λ a. IfSome single (λ at. rank at ≤ℤ rank a))) (single_added : IfSome added (λ a. IfSome single (λ at. rank at ≤ℤ rank a)))
    (next_either : (next ≡ due) ⊎ (next ≡ single)) (single_either : (single ≡ removed) ⊎ (single ≡ added))
    (next_none : IfNone next ((due ≡ None) × (single ≡ None))) (single_none : IfNone single ((removed ≡ None) × (added ≡ None))) where
  -- nothing that is left is earlier
  pub NothingLeftBefore-next : IsTrue (are_in_order rank agenda) → IsInOrder rank change → (at : T) → next ≡ Some at → NothingLeftBefore rank change progress agenda (rank at)
  NothingLeftBefore-next order in_order at is = record {
    due = list_all-from_place (comes_before rank) (λ (d : Due T). rank d.0) (comes_before-le rank) agenda 0 (rank at) order
        (from_place rank (λ (d : Due T). d.0) agenda 0 (rank at) due due_is (λ a found. late rank next due next_due at a is found));
    removed = list_all-from_place (removal_before rank) (λ (r : Removal T). rank r.at) (removal_before-le rank) change.remove progress.removed (rank at) in_order.removed
        (from_place rank (λ (r : Removal T). r.at) change.remove progress.removed (rank at) removed removed_is
        (λ a found. late-over rank next single removed next_single single_removed (if_none single (removed ≡ None) (λ none. (from_none single _ single_none none).0)) at a is found));
    added = list_all-from_place (λ (e f : Event T). int_le (rank e.at) (rank f.at)) (λ (e : Event T). rank e.at) (λ e f le. le) change.add progress.added (rank at) in_order.added
        (from_place rank (λ (e : Event T). e.at) change.add progress.added (rank at) added added_is
        (λ a found. late-over rank next single added next_single single_added (if_none single (added ≡ None) (λ none. (from_none single _ single_none none).1)) at a is found));
  }

  -- whether something of each of the three is at a time
  abbrev is_due_there : T → Bool
  is_due_there at = list_any (λ (d : Due T). int_eq (rank d.0) (rank at)) agenda

  abbrev is_removed_there : T → Bool
  is_removed_there at = list_any (λ (r : Removal T). int_eq (rank r.at) (rank at)) (drop progress.removed change.remove)

  abbrev is_added_there : T → Bool
  is_added_there at = list_any (λ (e : Event T). int_eq (rank e.at) (rank at)) (drop progress.added change.add)

  -- something is there
  pub has_visit_at-next : (at : T) → next ≡ Some at → has_visit_at rank change progress agenda (rank at) ≡ true
  has_visit_at-next at is =
      ⊎_elim
      (λ of_due. in_first (is_due_there at) (is_removed_there at) (is_added_there at) (at_place rank (λ (d : Due T). d.0) agenda 0 due at due_is (sym of_due ∙ is)))
      (λ of_single.
      ⊎_elim
      (λ of_removed. in_second (is_due_there at) (is_removed_there at) (is_added_there at) (at_place rank (λ (r : Removal T). r.at) change.remove progress.removed removed at removed_is (sym of_removed ∙ sym of_single ∙ is)))
      (λ of_added. in_third (is_due_there at) (is_removed_there at) (is_added_there at) (at_place rank (λ (e : Event T). e.at) change.add progress.added added at added_is (sym of_added ∙ sym of_single ∙ is)))
      single_either)
      next_either
    where
      in_first : (a b c : Bool) → a ≡ true → (a || b || c) ≡ true
      in_first a b c is = ap (λ d. d || b || c) is

      in_second : (a b c : Bool) → b ≡ true → (a || b || c) ≡ true
      in_second true b c is = refl
      in_second false b c is = ap (λ d. d || c) is

      in_third : (a b c : Bool) → c ≡ true → (a || b || c) ≡ true
      in_third true b c is = refl
      in_third false true c is = refl
      in_third false false c is = is

  -- where there is no next visit, nothing is left
  pub NothingLeft-none : (agenda_none : IfNone due (agenda ≡ [])) → next ≡ None → NothingLeft change progress agenda
  NothingLeft-none agenda_none none =
      let both = from_none next _ next_none none in
      let others = from_none single _ single_none both.1 in
      record {
        due = from_none due _ agenda_none both.0;
        removed = drop-none change.remove progress.removed (None-from_option_map _ _ (sym removed_is ∙ others.0));
        added = drop-none change.add progress.added (None-from_option_map _ _ (sym added_is ∙ others.1));
      }
