-- The laws of a theory's declarations and entries.
use Rattle.std.proofs.Common.{◌≡◌, ℕ, ◌+◌, ◌<◌, ◌≤◌, true, List, [], ◌∷◌, map, Option, Some, None, refl, ap, sym, subst, inl, inr, arith}
use Rattle.std.specs.List.{list_any, cons_option, AllByRecursion}
use Rattle.std.specs.List.Sorted.{IsStrictlySortedBy}
use Rattle.std.specs.Ordering.{nat_cmp}
use Rattle.std.specs.declared.cmp.Ordering.TheVariants.{Less}
use Rattle.std.proofs.Math.Bool.{or_comm}
use Rattle.std.proofs.lemmas.Bool.Decides.{same_from_decides}
use Rattle.std.proofs.lemmas.Bool.{cases_Bool, lt-ltb}
use Rattle.std.proofs.lemmas.Map.Keys.{IsStrictlyIncreasing-from_sorted}
use Rattle.ec_terms.specs.declared.ground.Ground.{Ground}
use Rattle.ec_terms.specs.declared.theory.Rule.{Rule}
use Rattle.ec_terms.specs.declared.theory.Exclusive.{Exclusive}
use Rattle.ec_terms.specs.declared.theory.Theory.{Theory}
use Rattle.ec_terms.specs.Term.{term_eq}
use Rattle.ec_terms.specs.Domain.{GroundEntry, both_fit, excludes, are_exclusive, meets, entry_of, entries_from}
use Rattle.ec_terms.specs.DomainLaws.{ExcludesBothWays, NeverExcludesItself, EntriesAscend}
use Rattle.ec_terms.proofs.OrderLemmas.{term_eq-Decides}

-- ---- exclusive properties

-- equality of terms goes both ways
pub term_eq-comm : (p q : Ground) → term_eq p q ≡ term_eq q p
term_eq-comm p q =
    same_from_decides (term_eq p q) (term_eq q p) (term_eq-Decides p q) ((λ h. sym ((term_eq-Decides q p).0 h)), (λ e. (term_eq-Decides q p).1 (sym e)))

-- a term is itself
pub term_eq-refl : (p : Ground) → term_eq p p ≡ true
term_eq-refl p = (term_eq-Decides p p).1 refl

-- a declaration speaks of two properties in either order
pub excludes-comm : (p q : Ground) (declaration : Exclusive) → excludes p q declaration ≡ excludes q p declaration
unfolding excludes
excludes-comm p q declaration =
    or_comm (both_fit declaration.left declaration.right p q) (both_fit declaration.left declaration.right q p)

list_any-excludes : (p q : Ground) (declarations : List Exclusive) → list_any (excludes p q) declarations ≡ list_any (excludes q p) declarations
list_any-excludes p q [] = refl
list_any-excludes p q (d ∷ declarations) = rw (excludes-comm p q d, list_any-excludes p q declarations)

-- to be exclusive goes both ways
pub are_exclusive-comm : (theory : Theory) → ExcludesBothWays theory
unfolding are_exclusive
are_exclusive-comm theory p q = rw (term_eq-comm p q, list_any-excludes p q theory.exclusives)

-- no property is exclusive to itself
pub are_exclusive-itself : (theory : Theory) → NeverExcludesItself theory
unfolding are_exclusive
are_exclusive-itself theory p = rw (term_eq-refl p)

-- ---- entries

-- the number of an entry is that of its rule
entry_of-number : (n : ℕ) (rule : Rule) (event : Ground) (e : GroundEntry) → entry_of n rule event ≡ Some e → e.rule ≡ n
unfolding entry_of
entry_of-number n rule event e h =
    elim (cases_Bool (meets rule event)) [
      | inl met ↦ let is = rw met at h in sym (ap (λ (o : Option GroundEntry). number_in o n) is)
      | inr not_met ↦ let none : None ≡ Some e = rw not_met at h in cc
    ]
  where
    number_in : Option GroundEntry → ℕ → ℕ
    number_in None n = n
    number_in (Some e) n = e.rule

-- every number is at least this one
AllFrom : ℕ → List ℕ → Type 0
AllFrom n [] = Unit {0}
AllFrom n (k ∷ ks) = (n ≤ k) × AllFrom n ks

AllFrom-le : (m n : ℕ) (ks : List ℕ) → m ≤ n → AllFrom n ks → AllFrom m ks
unfolding AllFrom
AllFrom-le m n [] h all = tt
AllFrom-le m n (k ∷ ks) h all = (omega (arith, all.0), AllFrom-le m n ks h all.1)

nat_cmp-Less : (x y : ℕ) → x < y → nat_cmp x y ≡ Less
nat_cmp-Less x y h = let below = lt-ltb x y h in rw below

Below-from_AllFrom : (n : ℕ) (ks : List ℕ) → AllFrom (n + 1) ks → AllByRecursion (λ k. nat_cmp n k ≡ Less) ks
unfolding AllFrom
Below-from_AllFrom n [] all = tt
Below-from_AllFrom n (k ∷ ks) all = (nat_cmp-Less n k (omega (arith, all.0)), Below-from_AllFrom n ks all.1)

-- the numbers of entries
numbers_of : List GroundEntry → List ℕ
numbers_of es = map (λ (e : GroundEntry). e.rule) es

-- the entries have ascending numbers, all from this one on
record Ascends (n : ℕ) (es : List GroundEntry) : Type 0 where
  from : AllFrom n (numbers_of es)
  sorted : IsStrictlySortedBy nat_cmp (numbers_of es)

Ascends-cons_option : (n : ℕ) (o : Option GroundEntry) (es : List GroundEntry) → ((e : GroundEntry) → o ≡ Some e → e.rule ≡ n) → Ascends (n + 1) es → Ascends n (cons_option o es)
unfolding AllFrom numbers_of IsStrictlySortedBy
Ascends-cons_option n None es numbered rest =
    record { from = AllFrom-le n (n + 1) (numbers_of es) (omega arith) rest.from; sorted = rest.sorted }
Ascends-cons_option n (Some e) es numbered rest =
    let number : e.rule ≡ n = numbered e refl in
    record {
      from = (omega (arith, number), AllFrom-le n (n + 1) (numbers_of es) (omega arith) rest.from);
      sorted =
          (subst (λ (m : ℕ). AllByRecursion (λ k. nat_cmp m k ≡ Less) (numbers_of es)) (sym number) (Below-from_AllFrom n (numbers_of es) rest.from), rest.sorted);
    }

Ascends-entries_from : (n : ℕ) (rules : List Rule) (event : Ground) → Ascends n (entries_from n rules event)
unfolding entries_from AllFrom numbers_of IsStrictlySortedBy
Ascends-entries_from n [] event = record { from = tt; sorted = tt }
Ascends-entries_from n (rule ∷ rules) event =
    Ascends-cons_option n (entry_of n rule event) (entries_from (n + 1) rules event) (λ e h. entry_of-number n rule event e h) (Ascends-entries_from (n + 1) rules event)

-- the entries of an event have strictly ascending numbers
pub entries_of-ascend : (theory : Theory) (event : Ground) → EntriesAscend theory event
unfolding numbers_of
entries_of-ascend theory event =
    IsStrictlyIncreasing-from_sorted (map (λ (e : GroundEntry). e.rule) (entries_from 1 theory.rules event)) (Ascends-entries_from 1 theory.rules event).sorted
