-- The entries of one event that are noted, or taken out, with one entry more.
use Rattle.std.proofs.Common.{◌≡◌, ◌≢◌, ◌+◌, ◌<◌, ◌≤◌, ℕ, ℤ, zero, suc, Bool, true, false, cond, ◌&&◌, List, [], ◌∷◌, length, take, get_or, Option, None, refl, sym, ap, subst, ◌∙◌, ⊎_elim, arith}
use Rattle.std.specs.Prelude.{◌==◌, option_and_then, slice_get}
use Rattle.std.specs.Option.{option_to_list}
use Rattle.std.proofs.lemmas.Bool.{cases_Bool, cases_eq, cases_lt}
use Rattle.std.proofs.lemmas.List.Sums.{count_by_more_no, count_by_more_yes, sum_by_more_le}
use Rattle.std.proofs.lemmas.Option.{slice_get_read}
use Rattle.ec_lists.proofs.Places.{slice_get-take}
use Rattle.ec_context.specs.declared.entry.Entry.{Entry}
use Rattle.ec_entries.specs.declared.event_entries.Dependent.{Dependent}
use Rattle.ec_entries.specs.Dependents.{Rows, any_on, count_on, dependent_if, dependents_of, from_place}
use Rattle.ec_entries.specs.Noting.{AreNoted, AreTakenOut, IsNoted, IsTakenOut}

-- a beginning of a list has nothing behind its end
slice_get-take_past : {X : Type 0} (xs : List X) (n k : ℕ) → n ≤ k → slice_get (take n xs) k ≡ None
slice_get-take_past [] zero k past = refl
slice_get-take_past [] (suc n) k past = refl
slice_get-take_past (x ∷ xs) zero k past = refl
slice_get-take_past (x ∷ xs) (suc n) zero past = absurd (omega arith)
slice_get-take_past (x ∷ xs) (suc n) (suc k) past = slice_get-take_past xs n k (omega arith)

-- one place more changes nothing at another
slice_get-take_other : {X : Type 0} (xs : List X) (n k : ℕ) → k ≢ n → slice_get (take (n + 1) xs) k ≡ slice_get (take n xs) k
slice_get-take_other xs n k other =
    ⊎_elim (λ below. slice_get-take xs (n + 1) k (omega (arith, below)) ∙ sym (slice_get-take xs n k below))
    (λ above. slice_get-take_past xs (n + 1) k (omega (arith, above, other)) ∙ sym (slice_get-take_past xs n k above)) (cases_lt k n)

other_place : (slot i place : ℕ) → place ≢ i → ((slot == slot) && (i == place)) ≡ false
other_place slot i place other = grind arith

other_slot : (slot i s p : ℕ) → s ≢ slot → ((slot == s) && (i == p)) ≡ false
other_slot slot i s p other = grind arith

-- one entry more is counted
count_on-more : (q : ℕ) (list : List Entry) (i : ℕ) (entry : Entry) → i < length list → entry ≡ get_or list i entry →
    count_on q (take (i + 1) list) ≡ count_on q (take i list) + cond (any_on q entry.literals) 1 0
count_on-more q list i entry within here =
    ⊎_elim
    (λ yes. count_by_more_yes (λ (e : Entry). any_on q e.literals) list i entry within (sym (ap (λ (e : Entry). any_on q e.literals) here) ∙ yes)
    ∙ sym (ap (λ b. count_on q (take i list) + cond b 1 0) yes))
    (λ no. count_by_more_no (λ (e : Entry). any_on q e.literals) list i entry within (sym (ap (λ (e : Entry). any_on q e.literals) here) ∙ no)
    ∙ sym (ap (λ b. count_on q (take i list) + cond b 1 0) no ∙ omega arith))
    (cases_Bool (any_on q entry.literals))

-- where there was room for all entries there is room for the next one
pub room-next : (q : ℕ) (list : List Entry) (i : ℕ) (entry : Entry) → i < length list → entry ≡ get_or list i entry → (all left : ℕ) →
    count_on q list ≤ all → all ≤ left + count_on q (take i list) → cond (any_on q entry.literals) 1 0 ≤ left
room-next q list i entry within here all left enough so_far =
    let next = subst (λ (e : Entry). count_on q (take i list) + cond (any_on q e.literals) 1 0 ≤ count_on q list) (sym here)
    (sum_by_more_le (λ (e : Entry). cond (any_on q e.literals) 1 0) list i entry within) in
    omega (arith, next, enough, so_far)

-- what the entry found at a place makes
abbrev made : {T : Type 0} → T → ℕ → ℕ → ℕ → Option Entry → List (Dependent T)
made at slot q place found = option_to_list (option_and_then (λ (e : Entry). dependent_if (any_on q e.literals) at slot place) found)

-- nothing of the next entry is noted yet
pub AreNoted-next : {T : Type 0} (rank : T → ℤ) (at : T) (slot : ℕ) (list : List Entry) (i : ℕ) (old mid : Rows T) → AreNoted rank at slot (take i list) old mid →
    (q : ℕ) → from_place slot i (dependents_of q mid) ≡ []
AreNoted-next rank at slot list i old mid noted q = noted.here q i ∙ ap (made at slot q i) (slice_get-take_past list i i (omega arith))

-- the next entry is noted too
pub AreNoted-more : {T : Type 0} (rank : T → ℤ) (at : T) (slot : ℕ) (list : List Entry) (i : ℕ) (entry : Entry) → i < length list → entry ≡ get_or list i entry →
    (old mid new : Rows T) → AreNoted rank at slot (take i list) old mid → IsNoted rank at slot i (λ q. any_on q entry.literals) mid new →
    AreNoted rank at slot (take (i + 1) list) old new
AreNoted-more {T} rank at slot list i entry within here old mid new noted step = record {
  order = step.order;
  here = λ q place. ⊎_elim (at_place q place) (at_other q place) (cases_eq place i);
  others = λ q s p other. step.others q s p (other_slot slot i s p other) ∙ noted.others q s p other;
  room = λ q. let first = noted.room q in let second = step.room q in let counted = count_on-more q list i entry within here in omega (arith, first, second, counted);
}
  where
    at_place : (q place : ℕ) → place ≡ i → from_place slot place (dependents_of q new) ≡ made at slot q place (slice_get (take (i + 1) list) place)
    at_place q place same =
        subst (λ n. from_place slot n (dependents_of q new) ≡ made at slot q n (slice_get (take (i + 1) list) n)) (sym same)
        (step.here q ∙ sym (ap (made at slot q i) (slice_get-take list (i + 1) i (omega arith) ∙ slice_get_read list (length list) i entry refl within here)))

    at_other : (q place : ℕ) → place ≢ i → from_place slot place (dependents_of q new) ≡ made at slot q place (slice_get (take (i + 1) list) place)
    at_other q place other =
        step.others q slot place (other_place slot i place other) ∙ noted.here q place ∙ sym (ap (made at slot q place) (slice_get-take_other list i place other))

module _ {T : Type 0} (rank : T → ℤ) (at : T) (slot : ℕ) (list : List Entry) (i : ℕ) (entry : Entry) (within : i < length list) (here : entry ≡ get_or list i entry)
    (old mid : Rows T) (present : (q place : ℕ) → from_place slot place (dependents_of q old) ≡ made at slot q place (slice_get list place))
    (out : AreTakenOut rank slot i old mid) where
  -- the next entry is noted still
  pub AreTakenOut-next : (q : ℕ) → from_place slot i (dependents_of q mid) ≡ option_to_list (dependent_if (any_on q entry.literals) at slot i)
  AreTakenOut-next q = out.left q i (omega arith) ∙ present q i ∙ ap (made at slot q i) (slice_get_read list (length list) i entry refl within here)

  -- the next entry is taken out too
  pub AreTakenOut-more : (new : Rows T) → IsTakenOut rank slot i (λ q. any_on q entry.literals) mid new → AreTakenOut rank slot (i + 1) old new
  AreTakenOut-more new step = record {
    order = step.order;
    gone = λ q place below.
        ⊎_elim (λ same. subst (λ n. from_place slot n (dependents_of q new) ≡ []) (sym same) (gone_here q))
        (λ other. step.others q slot place (other_place slot i place other) ∙ out.gone q place (omega (arith, below, other))) (cases_eq place i);
    left = λ q place past. step.others q slot place (other_place slot i place (λ same. omega (arith, past, same))) ∙ out.left q place (omega (arith, past));
    others = λ q s p other. step.others q s p (other_slot slot i s p other) ∙ out.others q s p other;
    room = λ q. let first = out.room q in let second = step.room q in omega (arith, first, second);
  }
    where
      either : (b : Bool) → cond b [] (option_to_list (dependent_if b at slot i)) ≡ []
      either true = refl
      either false = refl

      gone_here : (q : ℕ) → from_place slot i (dependents_of q new) ≡ []
      gone_here q = step.here q ∙ ap (cond (any_on q entry.literals) []) (AreTakenOut-next q) ∙ either (any_on q entry.literals)
