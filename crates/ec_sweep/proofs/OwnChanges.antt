-- The changes of one property among those of all.
use Rattle.std.proofs.Common.{◌≡◌, ℕ, ◌+◌, ℤ, Bool, true, false, ◌&&◌, List, [], ◌∷◌, ◌++◌, length, filter, Option, Some, None, IsTrue, refl, sym, ap, ◌∙◌, arith}
use Rattle.std.specs.Prelude.{◌==◌, ◌||◌, find, if◌then◌else◌}
use Rattle.std.specs.List.{list_any}
use Rattle.std.specs.Option.{option_or}
use Rattle.std.specs.Ordering.{int_eq}
use Rattle.std.proofs.lemmas.List.Folds.{list_any-append, find-append}
use Rattle.std.proofs.lemmas.List.{length_push}
use Rattle.ec_lists.proofs.Filters.{filter-filter, length-filter_le}
use Rattle.ec_lists.proofs.Integers.{int_eq-same}
use Rattle.ec_lists.proofs.Finds.{find-filter, is_some-find}
use Rattle.ec_lists.proofs.Options.{None-from_is_some}
use Rattle.ec_lists.proofs.Tests.{list_any-filter}
use Rattle.ec_points.specs.Changes.{Change as MarkChange, change_at, count_of, growth_of, has_change, is_new}
use Rattle.ec_rows.specs.declared.mark.Mark.{Mark}
use Rattle.ec_sweep.specs.Settling.{own_changes, with_if}

-- nothing in the second place adds nothing
pub option_or-idle : {X : Type 0} (o other : Option X) → other ≡ None → option_or o other ≡ o
option_or-idle None other none = none
option_or-idle (Some x) other none = refl

-- what stands behind all others passes a test, or it does not
filter-push : {X : Type 0} (test : X → Bool) (xs : List X) (x : X) → filter test (xs ++ x ∷ []) ≡ (if test x then filter test xs ++ x ∷ [] else filter test xs)
filter-push test [] x = grind arith
filter-push test (y ∷ xs) x = let rest = filter-push test xs x in grind arith

-- the changes of a property with a change more, if so
pub own_changes-with_if : {T : Type 0} (so : Bool) (change : MarkChange T) (changes : List (MarkChange T)) (n : ℕ)
    → own_changes n (with_if so change changes) ≡ with_if (so && (change.0.0 == n)) change (own_changes n changes)
own_changes-with_if true change changes n = filter-push (λ (c : MarkChange _). c.0.0 == n) changes change
own_changes-with_if false change changes n = refl

-- the change at a time is among those of its property
pub change_at-own : {T : Type 0} (rank : T → ℤ) (n : ℕ) (t : ℤ) (changes : List (MarkChange T))
    → change_at rank n t changes ≡ find (λ c. int_eq (rank c.1.at) t) (own_changes n changes)
change_at-own rank n t changes = sym (find-filter (λ (c : MarkChange _). int_eq (rank c.1.at) t) (λ c. c.0.0 == n) changes)

-- and so is whether there is one
pub has_change-own : {T : Type 0} (rank : T → ℤ) (n : ℕ) (t : ℤ) (changes : List (MarkChange T))
    → has_change rank n t changes ≡ list_any (λ c. int_eq (rank c.1.at) t) (own_changes n changes)
has_change-own rank n t changes = sym (list_any-filter (λ (c : MarkChange _). int_eq (rank c.1.at) t) (λ c. c.0.0 == n) changes)

-- and how many are new
pub growth_of-own : {T : Type 0} (rank : T → ℤ) (n : ℕ) (changes : List (MarkChange T)) (marks : List (Mark T))
    → growth_of rank n changes marks ≡ length (filter (λ c. is_new rank marks c.1) (own_changes n changes))
growth_of-own rank n changes marks =
    ap length (sym (filter-filter (λ (c : MarkChange _). is_new rank marks c.1) (λ c. c.0.0 == n) (λ c. c.0.0 == n && is_new rank marks c.1) changes (λ c. refl)))

-- properties with the same changes have the same one at each time
pub change_at-same : {T : Type 0} (rank : T → ℤ) (n : ℕ) (t : ℤ) (changes more : List (MarkChange T)) → own_changes n more ≡ own_changes n changes
    → change_at rank n t more ≡ change_at rank n t changes
change_at-same rank n t changes more same =
    change_at-own rank n t more ∙ ap (find (λ (c : MarkChange _). int_eq (rank c.1.at) t)) same ∙ sym (change_at-own rank n t changes)

pub has_change-same : {T : Type 0} (rank : T → ℤ) (n : ℕ) (t : ℤ) (changes more : List (MarkChange T)) → own_changes n more ≡ own_changes n changes
    → has_change rank n t more ≡ has_change rank n t changes
has_change-same rank n t changes more same =
    has_change-own rank n t more ∙ ap (list_any (λ (c : MarkChange _). int_eq (rank c.1.at) t)) same ∙ sym (has_change-own rank n t changes)

-- where a property has no change at a time, it has none there
pub change_at-none : {T : Type 0} (rank : T → ℤ) (n : ℕ) (t : ℤ) (changes : List (MarkChange T)) → has_change rank n t changes ≡ false → change_at rank n t changes ≡ None
change_at-none rank n t changes none = None-from_is_some (change_at rank n t changes) (is_some-find (λ (c : MarkChange _). c.0.0 == n && int_eq (rank c.1.at) t) changes ∙ none)

module _ {T : Type 0} (rank : T → ℤ) (n : ℕ) (so : Bool) (change : MarkChange T) (changes more : List (MarkChange T))
    (with_it : own_changes n more ≡ with_if so change (own_changes n changes)) where
  -- with a change more, if so, a property has it at its time, if it had none there
  pub change_at-more : (t : ℤ) → int_eq (rank change.1.at) t ≡ true → has_change rank n t changes ≡ false → change_at rank n t more ≡ (if so then Some change else None)
  change_at-more t here free =
      change_at-own rank n t more ∙ ap (find (λ (c : MarkChange T). int_eq (rank c.1.at) t)) with_it
      ∙ found so (own_changes n changes) (sym (change_at-own rank n t changes) ∙ change_at-none rank n t changes free)
    where
      found : (b : Bool) (cs : List (MarkChange T)) → find (λ (c : MarkChange T). int_eq (rank c.1.at) t) cs ≡ None
          → find (λ (c : MarkChange T). int_eq (rank c.1.at) t) (with_if b change cs) ≡ (if b then Some change else None)
      found true cs none = find-append (λ (c : MarkChange T). int_eq (rank c.1.at) t) cs (change ∷ []) ∙ rw (none, here) refl
      found false cs none = none

  -- and at other times what it had
  pub change_at-elsewhere : (t : ℤ) → int_eq (rank change.1.at) t ≡ false → change_at rank n t more ≡ change_at rank n t changes
  change_at-elsewhere t apart =
      change_at-own rank n t more ∙ ap (find (λ (c : MarkChange T). int_eq (rank c.1.at) t)) with_it
      ∙ found so (own_changes n changes) ∙ sym (change_at-own rank n t changes)
    where
      found : (b : Bool) (cs : List (MarkChange T)) → find (λ (c : MarkChange T). int_eq (rank c.1.at) t) (with_if b change cs) ≡ find (λ (c : MarkChange T). int_eq (rank c.1.at) t) cs
      found true cs = find-append (λ (c : MarkChange T). int_eq (rank c.1.at) t) cs (change ∷ []) ∙ rw apart (option_or-idle (find (λ (c : MarkChange T). int_eq (rank c.1.at) t) cs) None refl)
      found false cs = refl

  -- it has a change where it had one, and the one more
  pub has_change-more : (t : ℤ) → has_change rank n t more ≡ (has_change rank n t changes || (so && int_eq (rank change.1.at) t))
  has_change-more t =
      has_change-own rank n t more ∙ ap (list_any (λ (c : MarkChange T). int_eq (rank c.1.at) t)) with_it
      ∙ any so (own_changes n changes) ∙ ap (λ b. b || (so && int_eq (rank change.1.at) t)) (sym (has_change-own rank n t changes))
    where
      either : (b c : Bool) → (b || (c || false)) ≡ (b || (true && c))
      either b c = grind arith

      alone : (b c : Bool) → b ≡ (b || (false && c))
      alone b c = grind arith

      any : (b : Bool) (cs : List (MarkChange T)) → list_any (λ (c : MarkChange T). int_eq (rank c.1.at) t) (with_if b change cs)
          ≡ (list_any (λ (c : MarkChange T). int_eq (rank c.1.at) t) cs || (b && int_eq (rank change.1.at) t))
      any true cs = list_any-append (λ (c : MarkChange T). int_eq (rank c.1.at) t) cs (change ∷ []) ∙ either _ (int_eq (rank change.1.at) t)
      any false cs = alone _ (int_eq (rank change.1.at) t)

  -- and one more that is new, if it is
  pub growth_of-more : (marks : List (Mark T)) → growth_of rank n more marks ≡ growth_of rank n changes marks + (if so && is_new rank marks change.1 then 1 else 0)
  growth_of-more marks =
      growth_of-own rank n more marks ∙ ap (λ cs. length (filter (λ (c : MarkChange T). is_new rank marks c.1) cs)) with_it
      ∙ counted so (own_changes n changes) ∙ ap (λ k. k + (if so && is_new rank marks change.1 then 1 else 0)) (sym (growth_of-own rank n changes marks))
    where
      pushed : {X : Type 0} (b : Bool) (xs : List X) (x : X) → length (if b then xs ++ x ∷ [] else xs) ≡ length xs + (if b then 1 else 0)
      pushed true xs x = length_push xs x
      pushed false xs x = omega arith

      none : (k : ℕ) → k ≡ k + 0
      none k = omega arith

      counted : (b : Bool) (cs : List (MarkChange T)) → length (filter (λ (c : MarkChange T). is_new rank marks c.1) (with_if b change cs))
          ≡ length (filter (λ (c : MarkChange T). is_new rank marks c.1) cs) + (if b && is_new rank marks change.1 then 1 else 0)
      counted true cs = ap length (filter-push (λ (c : MarkChange T). is_new rank marks c.1) cs change) ∙ pushed (is_new rank marks change.1) _ change
      counted false cs = none _

  -- and one more in all
  pub count_of-more : count_of n more ≡ count_of n changes + (if so then 1 else 0)
  count_of-more = ap length with_it ∙ counted so (own_changes n changes)
    where
      counted : (b : Bool) (cs : List (MarkChange T)) → length (with_if b change cs) ≡ length cs + (if b then 1 else 0)
      counted true cs = length_push cs change
      counted false cs = omega arith

-- a property without a change at any time has none
pub has_change-first : {T : Type 0} (rank : T → ℤ) (n : ℕ) (changes : List (MarkChange T)) → ((t : ℤ) → IsTrue (has_change rank n t changes) → ⊥) → count_of n changes ≡ 0
has_change-first {T} rank n changes never = by (own_changes n changes) refl
  where
    by : (cs : List (MarkChange T)) → own_changes n changes ≡ cs → length (own_changes n changes) ≡ 0
    by [] none = ap length none
    by (c ∷ cs) some =
        absurd (never (rank c.1.at)
        (has_change-own rank n (rank c.1.at) changes ∙ ap (list_any (λ (d : MarkChange T). int_eq (rank d.1.at) (rank c.1.at))) some
        ∙ ap (λ b. b || list_any (λ (d : MarkChange T). int_eq (rank d.1.at) (rank c.1.at)) cs) (int_eq-same (rank c.1.at))))

-- and none that is new
pub growth_of-within : {T : Type 0} (rank : T → ℤ) (n : ℕ) (changes : List (MarkChange T)) (marks : List (Mark T)) → count_of n changes ≡ 0 → growth_of rank n changes marks ≡ 0
growth_of-within rank n changes marks none =
    let within = length-filter_le (λ (c : MarkChange _). is_new rank marks c.1) (own_changes n changes) in
    let is = growth_of-own rank n changes marks in omega arith
