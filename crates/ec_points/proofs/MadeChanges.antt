-- What stands at one time after changes.
use Rattle.std.proofs.Common.{◌≡◌, ℕ, ℤ, Bool, true, false, cond, not, ◌&&◌, List, [], ◌∷◌, filter, find, Some, None, refl, sym, ap, ap₂, ◌∙◌, ⊎_elim, arith}
use Rattle.std.specs.Prelude.{◌==◌, int_lt}
use Rattle.std.specs.List.{list_all}
use Rattle.std.specs.Option.{option_or}
use Rattle.std.specs.Ordering.{int_eq}
use Rattle.std.proofs.lemmas.Int.{ints}
use Rattle.std.proofs.lemmas.List.{append-nil}
use Rattle.std.proofs.lemmas.List.Folds.{find-append}
use Rattle.ec_lists.proofs.Finds.{find-filter, find_agree}
use Rattle.ec_rows.specs.declared.mark.Mark.{Mark}
use Rattle.ec_rows.specs.Marks.{is_counted, mark_at, with_mark}
use Rattle.std.proofs.lemmas.Bool.{and_parts, cases_Bool, not-true}
use Rattle.ec_rows.proofs.OrderedLemmas.{ascending-first, ascending-rest}
use Rattle.ec_points.specs.Changes.{Change, are_apart, are_all_apart, without_mark, with_change, changed, change_at, made, ChangesAreMade}

-- ---- the first that passes a test, in what a filter keeps

pub find-never : {X : Type 0} (xs : List X) → find (λ x. false) xs ≡ None
find-never [] = refl
find-never (x ∷ xs) = find-never xs

find-filtered_none : {X : Type 0} (p q : X → Bool) → ((x : X) → (q x && p x) ≡ false) → (xs : List X) → find p (filter q xs) ≡ None
find-filtered_none p q never xs = find-filter p q xs ∙ find_agree (λ x. q x && p x) (λ x. false) never xs ∙ find-never xs

find-filtered_all : {X : Type 0} (p q : X → Bool) → ((x : X) → (q x && p x) ≡ p x) → (xs : List X) → find p (filter q xs) ≡ find p xs
find-filtered_all p q always xs = find-filter p q xs ∙ find_agree (λ x. q x && p x) p always xs

-- ---- facts on whole numbers

before-not_same : (a b t : ℤ) → int_eq b t ≡ true → (int_lt a b && int_eq a t) ≡ false
before-not_same a b t = grind (arith, ints)

pub before-all_same : (a b t : ℤ) → int_lt t b ≡ true → (int_lt a b && int_eq a t) ≡ int_eq a t
before-all_same a b t = grind (arith, ints)

behind-none_earlier : (a b t : ℤ) → int_lt t b ≡ true → (int_lt b a && int_eq a t) ≡ false
behind-none_earlier a b t = grind (arith, ints)

pub before-none_later : (a b t : ℤ) → int_lt t b ≡ false → (int_lt a b && int_eq a t) ≡ false
before-none_later a b t = grind (arith, ints)

behind-all_later : (a b t : ℤ) → int_eq b t ≡ false → int_lt t b ≡ false → (int_lt b a && int_eq a t) ≡ int_eq a t
behind-all_later a b t = grind (arith, ints)

other-not_same : (a b t : ℤ) → int_eq b t ≡ true → (not (int_eq a b) && int_eq a t) ≡ false
other-not_same a b t = grind (arith, ints)

other-all_same : (a b t : ℤ) → int_eq b t ≡ false → (not (int_eq a b) && int_eq a t) ≡ int_eq a t
other-all_same a b t = grind (arith, ints)

same-as_either : (a b t : ℤ) → int_eq b t ≡ true → int_eq a t ≡ int_eq b a
same-as_either a b t = grind (arith, ints)

same_number-as_either : (m n k : ℕ) → (m == n) ≡ true → (k == n) ≡ (m == k)
same_number-as_either m n k e = grind arith

module _ {T : Type 0} (rank : T → ℤ) (t : ℤ) where
  -- a mark is at t
  abbrev is_at : Mark T → Bool
  is_at mark = int_eq (rank mark.at) t

  -- ---- one change

  module _ (mark : Mark T) (marks : List (Mark T)) where
    -- the marks before the new one, and those behind it
    abbrev before : List (Mark T)
    before = filter (λ m. int_lt (rank m.at) (rank mark.at)) marks

    abbrev behind : List (Mark T)
    behind = filter (λ m. int_lt (rank mark.at) (rank m.at)) marks

    parts : mark_at rank t (with_mark rank mark marks) ≡ option_or (find is_at before) (cond (is_at mark) (Some mark) (find is_at behind))
    parts = find-append is_at before (mark ∷ behind)

    -- at its own time a mark is found
    put-here : is_at mark ≡ true → mark_at rank t (with_mark rank mark marks) ≡ Some mark
    put-here e =
        parts
        ∙ ap₂ option_or
        (find-filtered_none is_at (λ m. int_lt (rank m.at) (rank mark.at)) (λ m. before-not_same (rank m.at) (rank mark.at) t e) marks)
        (ap (λ b. cond b (Some mark) (find is_at behind)) e)

    -- and at other times what was there
    put-other : is_at mark ≡ false → mark_at rank t (with_mark rank mark marks) ≡ mark_at rank t marks
    put-other e =
        parts ∙ ap (λ b. option_or (find is_at before) (cond b (Some mark) (find is_at behind))) e
        ∙ ⊎_elim
        (λ earlier. ap₂ option_or
        (find-filtered_all is_at (λ m. int_lt (rank m.at) (rank mark.at)) (λ m. before-all_same (rank m.at) (rank mark.at) t earlier) marks)
        (find-filtered_none is_at (λ m. int_lt (rank mark.at) (rank m.at)) (λ m. behind-none_earlier (rank m.at) (rank mark.at) t earlier) marks)
        ∙ sym (find-append is_at marks []) ∙ ap (find is_at) (append-nil marks))
        (λ later. ap₂ option_or
        (find-filtered_none is_at (λ m. int_lt (rank m.at) (rank mark.at)) (λ m. before-none_later (rank m.at) (rank mark.at) t later) marks)
        (find-filtered_all is_at (λ m. int_lt (rank mark.at) (rank m.at)) (λ m. behind-all_later (rank m.at) (rank mark.at) t e later) marks))
        (cases_Bool (int_lt t (rank mark.at)))

    -- a change decides at its time
    change-here : is_at mark ≡ true → mark_at rank t (with_change rank mark marks) ≡ cond (is_counted mark) (Some mark) None
    change-here e =
        ⊎_elim
        (λ counts. ap (λ b. mark_at rank t (cond b (with_mark rank mark marks) (without_mark rank (rank mark.at) marks))) counts
        ∙ put-here e ∙ sym (ap (λ b. cond b (Some mark) None) counts))
        (λ zeros. ap (λ b. mark_at rank t (cond b (with_mark rank mark marks) (without_mark rank (rank mark.at) marks))) zeros
        ∙ find-filtered_none is_at (λ m. not (int_eq (rank m.at) (rank mark.at))) (λ m. other-not_same (rank m.at) (rank mark.at) t e) marks
        ∙ sym (ap (λ b. cond b (Some mark) None) zeros))
        (cases_Bool (is_counted mark))

    -- and nowhere else
    pub change-other : is_at mark ≡ false → mark_at rank t (with_change rank mark marks) ≡ mark_at rank t marks
    change-other e =
        ⊎_elim
        (λ counts. ap (λ b. mark_at rank t (cond b (with_mark rank mark marks) (without_mark rank (rank mark.at) marks))) counts ∙ put-other e)
        (λ zeros. ap (λ b. mark_at rank t (cond b (with_mark rank mark marks) (without_mark rank (rank mark.at) marks))) zeros
        ∙ find-filtered_all is_at (λ m. not (int_eq (rank m.at) (rank mark.at))) (λ m. other-all_same (rank m.at) (rank mark.at) t e) marks)
        (cases_Bool (is_counted mark))

  -- ---- all changes

  module _ (n : ℕ) where
    -- a change is of the property at t
    abbrev is_here : Change T → Bool
    is_here change = change.0.0 == n && is_at change.1

    -- what is apart from a change at a place is not at that place
    pub change_at-apart : (change : Change T) (changes : List (Change T)) → (change.0.0 == n) ≡ true → is_at change.1 ≡ true →
        list_all (are_apart rank change) changes ≡ true → change_at rank n t changes ≡ None
    change_at-apart change [] number time apart = refl
    change_at-apart change (c ∷ changes) number time apart =
        let here : are_apart rank change c ≡ true = (and_parts _ _ apart).0 in
        let same : is_here c ≡ (change.0.0 == c.0.0 && int_eq (rank change.1.at) (rank c.1.at)) =
        ap₂ (λ a b. a && b) (same_number-as_either change.0.0 n c.0.0 number) (same-as_either (rank c.1.at) (rank change.1.at) t time) in
        let ih : find is_here changes ≡ None = change_at-apart change changes number time (and_parts _ _ apart).1 in
        let not_here : is_here c ≡ false = same ∙ not-true _ here in
        ap (λ b. cond b (Some c) (find is_here changes)) not_here ∙ ih

    -- one change more, in front of others that are made
    module _ (change : Change T) (changes : List (Change T)) (apart : are_all_apart rank (change ∷ changes) ≡ true) (marks : List (Mark T))
        (again : (new : List (Mark T)) → mark_at rank t (changed rank n changes new) ≡ made (change_at rank n t changes) (mark_at rank t new)) where
      -- where it is of another property or time, the others decide
      later : (new : List (Mark T)) → is_here change ≡ false → mark_at rank t new ≡ mark_at rank t marks →
          mark_at rank t (changed rank n changes new) ≡ made (change_at rank n t (change ∷ changes)) (mark_at rank t marks)
      later new not_here same =
          again new ∙ ap (made (change_at rank n t changes)) same
          ∙ sym (ap (λ b. made (cond b (Some change) (find is_here changes)) (mark_at rank t marks)) not_here)

      others : (change.0.0 == n) ≡ false → mark_at rank t (changed rank n (change ∷ changes) marks) ≡ made (change_at rank n t (change ∷ changes)) (mark_at rank t marks)
      unfolding changed
      others e =
          ap (λ b. mark_at rank t (changed rank n changes (cond b (with_change rank change.1 marks) marks))) e
          ∙ later marks (ap (λ b. b && is_at change.1) e) refl

      mine : (change.0.0 == n) ≡ true → mark_at rank t (changed rank n (change ∷ changes) marks) ≡ made (change_at rank n t (change ∷ changes)) (mark_at rank t marks)
      unfolding changed
      mine e =
          ap (λ b. mark_at rank t (changed rank n changes (cond b (with_change rank change.1 marks) marks))) e
          ∙ ⊎_elim
          (λ here.
          again (with_change rank change.1 marks)
          ∙ ap (λ o. made o (mark_at rank t (with_change rank change.1 marks)))
          (change_at-apart change changes e here (ascending-first (are_apart rank) change changes apart))
          ∙ change-here change.1 marks here
          ∙ sym (ap₂ (λ a b. made (cond (a && b) (Some change) (find is_here changes)) (mark_at rank t marks)) e here))
          (λ elsewhere. later (with_change rank change.1 marks) (ap₂ (λ a b. a && b) e elsewhere) (change-other change.1 marks elsewhere))
          (cases_Bool (is_at change.1))

    pub changes_made : (changes : List (Change T)) (marks : List (Mark T)) → are_all_apart rank changes ≡ true →
        mark_at rank t (changed rank n changes marks) ≡ made (change_at rank n t changes) (mark_at rank t marks)
    unfolding changed
    changes_made [] marks apart = refl
    changes_made (change ∷ changes) marks apart =
        let again : (new : List (Mark T)) → mark_at rank t (changed rank n changes new) ≡ made (change_at rank n t changes) (mark_at rank t new) =
        λ new. changes_made changes new (ascending-rest (are_apart rank) change changes apart) in
        ⊎_elim (mine change changes apart marks again) (others change changes apart marks again) (cases_Bool (change.0.0 == n))

-- each change decides at its time
pub changes_are_made : {T : Type 0} (rank : T → ℤ) → ChangesAreMade rank
changes_are_made rank = λ n t changes marks apart. changes_made rank t n changes marks apart
