-- Two rows of marks that agree outside a window: which of their intervals are the same, and what is between those.
use Rattle.std.proofs.Common.{◌≡◌, ◌≢◌, ℕ, ℤ, Bool, true, false, cond, not, ◌&&◌, List, [], ◌∷◌, ◌++◌, filter, find, take, drop, Option, Some, None, option_map, is_some, refl, ap, ap₂, sym, subst, ◌∙◌, inl, inr, ◌⊎◌, ⊎_elim, arith}
use Rattle.std.specs.Prelude.{int_lt, int_le}
use Rattle.std.specs.List.{list_all, last_or}
use Rattle.std.specs.Option.{option_map_or, option_and_then, option_to_list}
use Rattle.std.proofs.lemmas.Bool.{not-true, false≢true, cases_Bool}
use Rattle.std.proofs.lemmas.Int.{ints}
use Rattle.std.proofs.lemmas.List.{append-nil, append_assoc, take-append-drop}
use Rattle.std.proofs.lemmas.List.Folds.{list_all-append}
use Rattle.std.proofs.lemmas.List.Elements.{filter-append}
use Rattle.ec_axioms.specs.Timeline.{Begin, before_all, begin_at, Interval}
use Rattle.ec_axioms.specs.Marks.{PlainMark, is_marked, mark_initiates, mark_terminates, mark_breaks}
use Rattle.ec_axioms.proofs.Members.{IsMember, IsMember-append_cases, list_all-member, list_all-from_members, find-Some, IsMember-append_left}
use Rattle.ec_axioms.proofs.Ranks.{int_le-not_before}
use Rattle.ec_lists.proofs.Booleans.{and-left, and-right}
use Rattle.ec_intervals.specs.Steps.{first_open, begins_where, ends_where, ends_before, begins_behind, lasting, open_through, ended_through, ends_by, end_behind}
use Rattle.ec_intervals.proofs.Pass.{IsPlainRow, pass, interval_by}
use Rattle.ec_intervals.proofs.Cut.{filter-front, cut-front, cut-behind, IsPlainRow-behind, pass-append, pass-spelt_through, is_some-open_through, fate, lasting-other, later, pass-later, pass-behind, ended_through-ends, later-begins, ended_through-begins, open_through-begins, ended_through-before_all, open_through-append, ended_through-append}
use Rattle.ec_lists.proofs.Filters.{filter-all}
use Rattle.ec_lists.proofs.Tests.{list_all-weaker}

-- ---- lists

pub list_all-both : {X : Type 0} (p : X → Bool) (xs ys : List X) → list_all p xs ≡ true → list_all p ys ≡ true → list_all p (xs ++ ys) ≡ true
list_all-both p xs ys front back = list_all-append p xs ys ∙ ap₂ (λ a b. a && b) front back

last_or-all : {X : Type 0} (p : X → Bool) (o : Option X) (xs : List X) → option_map_or p o true ≡ true → list_all p xs ≡ true → option_map_or p (last_or o xs) true ≡ true
last_or-all p o [] first all = first
last_or-all p o (x ∷ xs) first all = last_or-all p (Some x) xs (and-left (p x) (list_all p xs) all) (and-right (p x) (list_all p xs) all)

pub last_or-one_more : {X : Type 0} (o : Option X) (xs : List X) (x : X) → last_or o (xs ++ x ∷ []) ≡ Some x
last_or-one_more o [] x = refl
last_or-one_more o (y ∷ xs) x = last_or-one_more (Some y) xs x

-- the end of the last interval, where all but one last one end by t
end_behind-last : (t : ℤ) (xs : List Interval) (o : Option Interval) → list_all (ends_by t) xs ≡ true → option_map_or (λ i. not (ends_by t i)) o true ≡ true →
    end_behind t (xs ++ option_to_list o) ≡ option_map (λ (i : Interval). i.until) o
end_behind-last t xs None front last =
    ap (end_behind t) (append-nil xs) ∙ none (last_or None xs) (last_or-all (ends_by t) None xs refl front)
  where
    none : (o : Option Interval) → option_map_or (ends_by t) o true ≡ true → option_and_then (λ (i : Interval). cond (ends_by t i) None (Some i.until)) o ≡ None
    none None ends = refl
    none (Some i) ends = ap (λ b. cond b None (Some i.until)) ends
end_behind-last t xs (Some i) front last =
    ap (option_and_then (λ (j : Interval). cond (ends_by t j) None (Some j.until))) (last_or-one_more None xs i) ∙ here (ends_by t i) last
  where
    here : (b : Bool) → not b ≡ true → cond b None (Some i.until) ≡ Some i.until
    here true n = absurd (false≢true n)
    here false n = refl

-- ---- tests

-- the begin is an instant
abbrev pub is_start : Begin → Bool
is_start begin = begins_where (λ s. true) begin

not-start : (begin : Begin) → is_start begin ≡ false → begin ≡ before_all
not-start before_all is = refl
not-start (begin_at s) is = absurd (false≢true (sym is))

later-start : (p : ℤ → Bool) (i : Interval) → begins_where p i.from ≡ true → is_start i.from ≡ true
later-start p i is = by_cases i.from is
  where
    by_cases : (b : Begin) → begins_where p b ≡ true → is_start b ≡ true
    by_cases before_all is = is
    by_cases (begin_at s) is = refl

-- ---- what ends before an instant

-- what marks from an instant on spell does not end before it
later-ends : (a : ℤ) (strong : Bool) (begun : Option Begin) (marks : List PlainMark) → list_all (λ (m : PlainMark). not (int_lt m.instant a)) marks ≡ true
    → list_all (λ i. not (ends_before a i)) (pass interval_by strong begun marks) ≡ true
later-ends a strong begun marks from_a =
    ap (list_all (λ i. not (ends_before a i))) (pass-spelt_through strong begun marks)
    ∙ list_all-both (λ i. not (ends_before a i)) (ended_through strong begun marks) (option_to_list (lasting (Some None) (open_through strong begun marks)))
    (list_all-weaker (ends_where (λ e. not (int_lt e a))) (λ i. not (ends_before a i)) (λ i ends. other i.until ends) (ended_through strong begun marks)
    (ended_through-ends (λ e. not (int_lt e a)) strong begun marks from_a))
    (last (open_through strong begun marks))
  where
    other : (until : Option ℤ) → option_map_or (λ e. not (int_lt e a)) until false ≡ true → not (option_map_or (λ e. int_lt e a) until false) ≡ true
    other None ends = refl
    other (Some e) ends = ends

    last : (left : Option Begin) → list_all (λ i. not (ends_before a i)) (option_to_list (lasting (Some None) left)) ≡ true
    last None = refl
    last (Some begin) = refl

-- So what a row spells that ends before an instant is what its marks before it end.
pub ends_before-pass : (a : ℤ) (strong : Bool) (begun : Option Begin) (before marks : List PlainMark) → list_all (λ (m : PlainMark). int_lt m.instant a) before ≡ true
    → list_all (λ (m : PlainMark). not (int_lt m.instant a)) marks ≡ true
    → filter (ends_before a) (pass interval_by strong begun (before ++ marks)) ≡ ended_through strong begun before
ends_before-pass a strong begun before marks before_a from_a =
    filter-front (ends_before a) (ended_through strong begun before) (pass interval_by strong (open_through strong begun before) marks) (pass interval_by strong begun (before ++ marks))
    (sym (pass-append strong begun before marks))
    (ended_through-ends (λ e. int_lt e a) strong begun before before_a) (later-ends a strong (open_through strong begun before) marks from_a)

-- ---- the window

module _ (strong initial : Bool) (a b : ℤ) (before : List PlainMark) (front starts : List Interval)
    (before_a : list_all (λ (m : PlainMark). int_lt m.instant a) before ≡ true)
    (in_front : list_all (λ (i : Interval). not (is_start i.from)) front ≡ true) (starting : list_all (λ (i : Interval). is_start i.from) starts ≡ true) where
  -- what is ended before the window, and what is open in front of it
  abbrev pub kept : List Interval
  kept = ended_through strong (first_open initial) before

  abbrev pub opened : Option Begin
  opened = open_through strong (first_open initial) before

  module _ (old : List PlainMark) (from_a : list_all (λ (m : PlainMark). not (int_lt m.instant a)) old ≡ true)
      (row : IsPlainRow (before ++ old)) (is : front ++ starts ≡ pass interval_by strong (first_open initial) (before ++ old)) where
    whole : front ++ starts ≡ kept ++ pass interval_by strong opened old
    whole = is ∙ pass-append strong (first_open initial) before old

    kept-ends : list_all (ends_before a) kept ≡ true
    kept-ends = ended_through-ends (λ e. int_lt e a) strong (first_open initial) before before_a

    -- what ends before the window is what stays
    pub kept-filter : filter (ends_before a) (front ++ starts) ≡ kept
    kept-filter = ap (filter (ends_before a)) is ∙ ends_before-pass a strong (first_open initial) before old before_a from_a

    pub kept-taken : (lo : ℕ) → list_all (ends_before a) (take lo starts) ≡ true → list_all (λ i. not (ends_before a i)) (drop lo starts) ≡ true →
        filter (ends_before a) front ++ take lo starts ≡ kept
    kept-taken lo taken dropped =
        ap (λ xs. filter (ends_before a) front ++ xs) (sym (filter-front (ends_before a) (take lo starts) (drop lo starts) starts (take-append-drop lo starts) taken dropped))
        ∙ sym (filter-append (ends_before a) front starts) ∙ kept-filter

    -- one that begins before the window and does not end before it begins where the open begin is
    pub opened-by : (i : Interval) → IsMember (front ++ starts) i → ends_before a i ≡ false → begins_where (λ s. not (int_lt s a)) i.from ≡ false → opened ≡ Some i.from
    opened-by i member not_ended not_later =
        ⊎_elim (λ here. absurd (false≢true (sym not_ended ∙ list_all-member (ends_before a) kept i kept-ends here)))
        (λ there. ⊎_elim (λ lasts. from_open (fate (find (mark_breaks strong) old)) opened lasts)
        (λ later_on. absurd (false≢true (sym not_later ∙ list_all-member (λ (j : Interval). begins_where (λ s. not (int_lt s a)) j.from) (later strong (is_some opened) old) i
        (later-begins (λ s. not (int_lt s a)) strong (is_some opened) old from_a) later_on)))
        (IsMember-append_cases (option_to_list (lasting (fate (find (mark_breaks strong) old)) opened)) (later strong (is_some opened) old) i
        (subst (λ xs. IsMember xs i) (pass-later strong opened old (IsPlainRow-behind before old row)) there)))
        (IsMember-append_cases kept (pass interval_by strong opened old) i (subst (λ xs. IsMember xs i) whole member))
      where
        from_open : (end : Option (Option ℤ)) (begun : Option Begin) → IsMember (option_to_list (lasting end begun)) i → begun ≡ Some i.from
        from_open None begun member = absurd member
        from_open (Some until) None member = absurd member
        from_open (Some until) (Some begin) (inl same) = ap (λ (j : Interval). Some j.from) same
        from_open (Some until) (Some begin) (inr none) = absurd none

    -- where the open begin is that before all events, nothing stays
    pub kept-before_all : opened ≡ Some before_all → kept ≡ []
    kept-before_all is = (ended_through-before_all strong (first_open initial) before is).1

    -- and else the front does
    pub front-kept : opened ≢ Some before_all → filter (ends_before a) front ≡ front
    front-kept other = filter-all (ends_before a) front (list_all-from_members (ends_before a) front (λ i member. each i member (cases_Bool (ends_before a i))))
      where
        each : (i : Interval) → IsMember front i → (ends_before a i ≡ true) ⊎ (ends_before a i ≡ false) → ends_before a i ≡ true
        each i member (inl ends) = ends
        each i member (inr goes_on) =
            let begin : i.from ≡ before_all = not-start i.from (not-true (is_start i.from) (list_all-member (λ (j : Interval). not (is_start j.from)) front i in_front member)) in
            absurd (other (opened-by i (IsMember-append_left front starts i member) goes_on (ap (begins_where (λ s. not (int_lt s a))) begin) ∙ ap Some begin))

  -- ---- the marks up to the window's end and the first one behind it, m, with those that follow

  module _ (old new : List PlainMark) (m : PlainMark) (ms : List PlainMark) (row : IsPlainRow (before ++ (old ++ m ∷ ms))) (new_row : IsPlainRow (before ++ (new ++ m ∷ ms)))
      (before_m : list_all (λ (n : PlainMark). not (int_lt m.instant n.instant)) (before ++ (old ++ m ∷ [])) ≡ true)
      (behind_m : list_all (λ (n : PlainMark). int_lt m.instant n.instant) ms ≡ true)
      (is : front ++ starts ≡ pass interval_by strong (first_open initial) (before ++ (old ++ m ∷ ms))) where
    -- the end that the begin which is open behind m gets, and what begins later
    abbrev end : Option (Option ℤ)
    end = fate (find (mark_breaks strong) ms)

    abbrev old_open : Option Begin
    old_open = open_through strong opened (old ++ m ∷ [])

    abbrev new_open : Option Begin
    new_open = open_through strong opened (new ++ m ∷ [])

    -- a begin is not behind m
    abbrev up_to_m : Begin → Bool
    up_to_m begin = not (begins_where (λ s. int_lt m.instant s) begin)

    abbrev ended : List Interval
    ended = kept ++ ended_through strong opened (old ++ m ∷ [])

    ended-whole : ended ≡ ended_through strong (first_open initial) (before ++ (old ++ m ∷ []))
    ended-whole = sym (ended_through-append strong (first_open initial) before (old ++ m ∷ []))

    parts : front ++ starts ≡ (ended ++ option_to_list (lasting end old_open)) ++ later strong (mark_initiates m) ms
    parts =
        is ∙ pass-append strong (first_open initial) before (old ++ m ∷ ms)
        ∙ ap (λ xs. kept ++ xs) (pass-behind strong opened old m ms (IsPlainRow-behind before (old ++ m ∷ ms) row))
        ∙ sym (append_assoc kept (ended_through strong opened (old ++ m ∷ [])) (option_to_list (lasting end old_open) ++ later strong (mark_initiates m) ms))
        ∙ sym (append_assoc ended (option_to_list (lasting end old_open)) (later strong (mark_initiates m) ms))

    first_up_to : option_map_or up_to_m (first_open initial) true ≡ true
    first_up_to = by_cases initial
      where
        by_cases : (b : Bool) → option_map_or up_to_m (first_open b) true ≡ true
        by_cases true = refl
        by_cases false = refl

    parts-up_to : list_all (λ (i : Interval). up_to_m i.from) (ended ++ option_to_list (lasting end old_open)) ≡ true
    parts-up_to =
        list_all-both (λ (i : Interval). up_to_m i.from) ended (option_to_list (lasting end old_open))
        (ap (list_all (λ (i : Interval). up_to_m i.from)) ended-whole ∙ ended_through-begins up_to_m strong (first_open initial) (before ++ (old ++ m ∷ [])) first_up_to before_m)
        (one end old_open
        (ap (λ o. option_map_or up_to_m o true) (sym (open_through-append strong (first_open initial) before (old ++ m ∷ [])))
        ∙ open_through-begins up_to_m strong (first_open initial) (before ++ (old ++ m ∷ [])) first_up_to before_m))
      where
        one : (until : Option (Option ℤ)) (begun : Option Begin) → option_map_or up_to_m begun true ≡ true → list_all (λ (i : Interval). up_to_m i.from) (option_to_list (lasting until begun)) ≡ true
        one None begun opens = refl
        one (Some until) None opens = refl
        one (Some until) (Some begin) opens = ap (λ b. b && true) opens

    later-behind : list_all (λ (i : Interval). not (up_to_m i.from)) (later strong (mark_initiates m) ms) ≡ true
    later-behind =
        list_all-weaker (λ (i : Interval). begins_where (λ s. int_lt m.instant s) i.from) (λ (i : Interval). not (up_to_m i.from)) (λ i behind. ap (λ b. not (not b)) behind)
        (later strong (mark_initiates m) ms) (later-begins (λ s. int_lt m.instant s) strong (mark_initiates m) ms behind_m)

    front-up_to : list_all (λ (i : Interval). up_to_m i.from) front ≡ true
    front-up_to = list_all-weaker (λ (i : Interval). not (is_start i.from)) (λ (i : Interval). up_to_m i.from) (λ i. one i.from) front in_front
      where
        one : (begin : Begin) → not (is_start begin) ≡ true → up_to_m begin ≡ true
        one before_all is = refl
        one (begin_at s) is = absurd (false≢true is)

    ended-by_m : list_all (ends_by m.instant) ended ≡ true
    ended-by_m =
        ap (list_all (ends_by m.instant)) ended-whole
        ∙ ended_through-ends (λ e. int_le e m.instant) strong (first_open initial) (before ++ (old ++ m ∷ []))
        (list_all-weaker (λ (n : PlainMark). not (int_lt m.instant n.instant)) (λ (n : PlainMark). int_le n.instant m.instant) (λ n. up_to m.instant n.instant) (before ++ (old ++ m ∷ [])) before_m)
      where
        up_to : (s t : ℤ) → not (int_lt s t) ≡ true → int_le t s ≡ true
        up_to s t is = let not_after : int_lt s t ≡ false = not-true (int_lt s t) is in grind (arith, ints)

    lasts-behind : (next : Option PlainMark) (begun : Option Begin) → ((n : PlainMark) → next ≡ Some n → int_lt m.instant n.instant ≡ true) →
        option_map_or (λ i. not (ends_by m.instant i)) (lasting (fate next) begun) true ≡ true
    lasts-behind None None behind = refl
    lasts-behind None (Some begin) behind = refl
    lasts-behind (Some n) begun behind = by_cases (mark_terminates n) begun
      where
        later_than : (s t : ℤ) → int_lt s t ≡ true → not (int_le t s) ≡ true
        later_than s t is = ap not (int_le-not_before s t is)

        by_cases : (terminates : Bool) (begun : Option Begin) → option_map_or (λ i. not (ends_by m.instant i)) (lasting (cond terminates (Some (Some n.instant)) None) begun) true ≡ true
        by_cases true None = refl
        by_cases true (Some begin) = later_than m.instant n.instant (behind n refl)
        by_cases false begun = refl

    module _ (hi : ℕ) (taken : list_all (λ (i : Interval). not (begins_behind m.instant i)) (take hi starts) ≡ true) (dropped : list_all (begins_behind m.instant) (drop hi starts) ≡ true) where
      dropped_not : list_all (λ (i : Interval). not (up_to_m i.from)) (drop hi starts) ≡ true
      dropped_not = list_all-weaker (begins_behind m.instant) (λ (i : Interval). not (up_to_m i.from)) (λ i behind. ap (λ b. not (not b)) behind) (drop hi starts) dropped

      cut : (front ++ take hi starts) ++ drop hi starts ≡ (ended ++ option_to_list (lasting end old_open)) ++ later strong (mark_initiates m) ms
      cut = append_assoc front (take hi starts) (drop hi starts) ∙ ap (λ xs. front ++ xs) (take-append-drop hi starts) ∙ parts

      taken-up_to : list_all (λ (i : Interval). up_to_m i.from) (front ++ take hi starts) ≡ true
      taken-up_to = list_all-both (λ (i : Interval). up_to_m i.from) front (take hi starts) front-up_to taken

      -- the end that the begin which is open behind m gets is read off the last interval up to m
      end_behind-old : end_behind m.instant (front ++ take hi starts) ≡ option_map (λ (i : Interval). i.until) (lasting end old_open)
      end_behind-old =
          ap (end_behind m.instant)
          (cut-front (λ (i : Interval). up_to_m i.from) (front ++ take hi starts) (drop hi starts) (ended ++ option_to_list (lasting end old_open)) (later strong (mark_initiates m) ms) cut
          taken-up_to dropped_not parts-up_to later-behind)
          ∙ end_behind-last m.instant ended (lasting end old_open) ended-by_m
          (lasts-behind (find (mark_breaks strong) ms) old_open
          (λ n found. list_all-member (λ (k : PlainMark). int_lt m.instant k.instant) ms n behind_m (find-Some (mark_breaks strong) ms n found).0))

      same_open : is_some new_open ≡ is_some old_open
      same_open =
          let some : is_marked m ≡ true = and-left (is_marked m) (list_all is_marked ms) (IsPlainRow-behind old (m ∷ ms) (IsPlainRow-behind before (old ++ m ∷ ms) row)).counted in
          is_some-open_through strong opened new m some ∙ sym (is_some-open_through strong opened old m some)

      -- the new intervals from the window on: those that the marks up to m end, that of the begin which is open behind m, and those that begin behind m
      pub new-spelt :
          pass interval_by strong opened (new ++ m ∷ ms)
          ≡ ended_through strong opened (new ++ m ∷ []) ++ (option_to_list (lasting (end_behind m.instant (front ++ take hi starts)) new_open) ++ drop hi starts)
      new-spelt =
          pass-behind strong opened new m ms (IsPlainRow-behind before (new ++ m ∷ ms) new_row)
          ∙ ap₂ (λ o xs. ended_through strong opened (new ++ m ∷ []) ++ (option_to_list o ++ xs))
          (sym (lasting-other end new_open old_open same_open) ∙ ap (λ e. lasting e new_open) (sym end_behind-old))
          (sym (cut-behind (λ (i : Interval). up_to_m i.from) (front ++ take hi starts) (drop hi starts) (ended ++ option_to_list (lasting end old_open)) (later strong (mark_initiates m) ms) cut
          taken-up_to dropped_not parts-up_to later-behind))
