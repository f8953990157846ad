-- The first fault that is found is that of the clause with the least number among those that have one.
use Rattle.std.proofs.Common.{◌≡◌, ℕ, ◌+◌, ◌<◌, ◌≤◌, suc, Bool, true, false, List, [], ◌∷◌, ◌++◌, length, map, get_or, Option, Some, None, refl, sym, ap, ◌∙◌, subst, arith, ◌⊎◌, inl, inr, ⊎_elim, append_assoc, append-nil}
use Rattle.std.specs.Prelude.{if◌then◌else◌, ◌&&◌, not, nat_le, nat_lt, count_by, pos, int_le, option_map}
use Rattle.std.specs.List.{All, list_all}
use Rattle.std.specs.List.Sorted.{IsStrictlyIncreasing}
use Rattle.std.proofs.lemmas.Bool.{ltb-true, lt-ltb, cases_lt, false≢true}
use Rattle.std.proofs.lemmas.List.Elements.{All-head, All-tail}
use Rattle.std.proofs.lemmas.List.Kept.{AllPairs-from_increasing}
use Rattle.ec_terms.specs.declared.theory.Rule.{Rule}
use Rattle.ec_terms.specs.declared.theory.Exclusive.{Exclusive}
use Rattle.ec_terms.specs.declared.theory.Strong.{Strong}
use Rattle.ec_terms.specs.declared.theory.Initial.{Initial}
use Rattle.ec_terms.specs.declared.theory.TimeDecl.{TimeDecl}
use Rattle.ec_terms.specs.declared.theory.Theory.{Theory}
use Rattle.ec_check.specs.declared.fault.CheckFault.{CheckFault}
use Rattle.ec_check.specs.declared.fault.CheckFault.TheVariants.{Arity, TooMany, AnyInHead, Unbound}
use Rattle.ec_check.specs.declared.fault.Many.TheVariants.{Rules, EventRules, Tests, Literals, Variables, Exclusives, Strongs, Initials, Times}
use Rattle.ec_check.specs.declared.limits.TheConstants.{MOST_RULES, MOST_EVENT_RULES, MOST_TESTS, MOST_LITERALS, MOST_EXCLUSIVES, MOST_STRONGS, MOST_INITIALS, MOST_TIMES}
use Rattle.ec_check.specs.Faults.{each_open, exclusive_places, has_few_variables, is_narrow, is_narrow_rule, is_no_any, least_unbound, least_variable, rule_places, same_event, clause_of, earlier_fault, exclusive_fault, first_fault, first_of, first_wrong, initial_fault, rule_fault, strong_fault, time_fault, IsClauseFault, in_clause, IsFaultOf, of_rule, of_exclusive, of_strong, of_initial, of_time, IsFirstFault}
use Rattle.ec_check.specs.Numbering.{IsNumbered}

-- ---- the clause of a fault

-- a fault, if there is one, is in the clause n
abbrev IsIn : ℕ → Option CheckFault → Type 0
IsIn n o = (fault : CheckFault) → o ≡ Some fault → clause_of fault ≡ n

IsIn-none : (n : ℕ) → IsIn n None
IsIn-none n fault is = cc

IsIn-some : (n : ℕ) (first : CheckFault) → clause_of first ≡ n → IsIn n (Some first)
IsIn-some n first is fault same = let e : first ≡ fault = cc in ap clause_of (sym e) ∙ is

IsIn-else : (n : ℕ) (test : Bool) (first : CheckFault) (rest : Option CheckFault) → clause_of first ≡ n → IsIn n rest → IsIn n (if test then Some first else rest)
IsIn-else n true first rest is later = IsIn-some n first is
IsIn-else n false first rest is later = later

IsIn-unbound : (n : ℕ) (o : Option ℕ) → IsIn n (option_map (λ v. Unbound n v) o)
unfolding clause_of
IsIn-unbound n None = IsIn-none n
IsIn-unbound n (Some v) = IsIn-some n (Unbound n v) refl

rule_fault-clause : (earlier : List Rule) (r : Rule) → IsIn r.clause (rule_fault earlier r)
unfolding rule_fault clause_of
rule_fault-clause earlier r =
    IsIn-else r.clause (nat_le MOST_RULES (length earlier)) (TooMany Rules r.clause) _ refl
    (IsIn-else r.clause (not (is_narrow_rule r)) (Arity r.clause) _ refl
    (IsIn-else r.clause (nat_le MOST_EVENT_RULES (count_by (same_event r) earlier)) (TooMany EventRules r.clause) _ refl
    (IsIn-else r.clause (nat_lt MOST_TESTS (length r.tests)) (TooMany Tests r.clause) _ refl
    (IsIn-else r.clause (nat_lt MOST_LITERALS (length r.literals)) (TooMany Literals r.clause) _ refl
    (IsIn-else r.clause (not (has_few_variables (rule_places r))) (TooMany Variables r.clause) _ refl
    (IsIn-else r.clause (not (each_open is_no_any r)) (AnyInHead r.clause) _ refl
    (IsIn-unbound r.clause (least_unbound r))))))))

exclusive_fault-clause : (earlier : List Exclusive) (e : Exclusive) → IsIn e.clause (exclusive_fault earlier e)
unfolding exclusive_fault clause_of
exclusive_fault-clause earlier e =
    IsIn-else e.clause (nat_le MOST_EXCLUSIVES (length earlier)) (TooMany Exclusives e.clause) _ refl
    (IsIn-else e.clause (not (is_narrow e.left && is_narrow e.right)) (Arity e.clause) _ refl
    (IsIn-else e.clause (not (has_few_variables (exclusive_places e))) (TooMany Variables e.clause) _ refl
    (IsIn-none e.clause)))

strong_fault-clause : (earlier : List Strong) (s : Strong) → IsIn s.clause (strong_fault earlier s)
unfolding strong_fault clause_of
strong_fault-clause earlier s =
    IsIn-else s.clause (nat_le MOST_STRONGS (length earlier)) (TooMany Strongs s.clause) _ refl
    (IsIn-else s.clause (not (int_le (pos 0) s.arity && int_le s.arity (pos 8))) (Arity s.clause) _ refl
    (IsIn-none s.clause))

initial_fault-clause : (earlier : List Initial) (i : Initial) → IsIn i.clause (initial_fault earlier i)
unfolding initial_fault clause_of
initial_fault-clause earlier i =
    IsIn-else i.clause (nat_le MOST_INITIALS (length earlier)) (TooMany Initials i.clause) _ refl
    (IsIn-else i.clause (not (is_narrow i.prop)) (Arity i.clause) _ refl
    (IsIn-else i.clause (not (has_few_variables i.prop.args)) (TooMany Variables i.clause) _ refl
    (IsIn-else i.clause (not (list_all is_no_any i.prop.args)) (AnyInHead i.clause) _ refl
    (IsIn-unbound i.clause (least_variable i.prop)))))

time_fault-clause : (earlier : List TimeDecl) (t : TimeDecl) → IsIn t.clause (time_fault earlier t)
unfolding time_fault clause_of
time_fault-clause earlier t = IsIn-else t.clause (nat_le MOST_TIMES (length earlier)) (TooMany Times t.clause) _ refl (IsIn-none t.clause)

-- ---- numbers that ascend

increasing-head : (x : ℕ) (xs : List ℕ) → IsStrictlyIncreasing (x ∷ xs) → All (λ y. x < y) xs
increasing-head x xs ascend k d below = AllPairs-from_increasing (x ∷ xs) ascend 0 (suc k) d (omega arith) (omega arith)

increasing-tail : (x : ℕ) (xs : List ℕ) → IsStrictlyIncreasing (x ∷ xs) → IsStrictlyIncreasing xs
increasing-tail x xs ascend k below =
    let e : suc k + 1 ≡ suc (k + 1) = omega arith in
    subst (λ m. get_or xs k 0 < get_or (x ∷ xs) m 0) e (ascend (suc k) (omega arith))

-- ---- what is told of some faults

-- none of them is there; or this one is, and none of a lower clause
Tells : (CheckFault → Type 0) → Option CheckFault → Type 0
Tells P None = (g : CheckFault) → P g → ⊥
Tells P (Some f) = P f × ((g : CheckFault) → P g → clause_of f ≤ clause_of g)

-- ---- clauses of one kind

module _ {A : Type 0} (fault : List A → A → Option CheckFault) where
  -- every fault of a clause that stands behind others
  Each : (CheckFault → Type 0) → List A → List A → Type 0
  Each P earlier [] = Unit {0}
  Each P earlier (a ∷ list) = ((g : CheckFault) → fault earlier a ≡ Some g → P g) × Each P (earlier ++ a ∷ []) list

  Each-at : (P : CheckFault → Type 0) (before earlier after : List A) (b : A) (g : CheckFault) → Each P earlier (before ++ b ∷ after) → fault (earlier ++ before) b ≡ Some g → P g
  unfolding Each
  Each-at P [] earlier after b g each has = each.0 g (ap (λ x. fault x b) (sym (append-nil earlier)) ∙ has)
  Each-at P (a ∷ before) earlier after b g each has = Each-at P before (earlier ++ a ∷ []) after b g each.1 (ap (λ x. fault x b) (append_assoc earlier (a ∷ []) before) ∙ has)

  Each-clause : (P : CheckFault → Type 0) (list : List A) → Each P [] list → (g : CheckFault) → IsClauseFault fault list g → P g
  Each-clause P list each g (in_clause before after b cut has) = Each-at P before [] after b g (subst (λ l. Each P [] l) cut each) has

  Each-none : (earlier list : List A) → first_fault fault earlier list ≡ None → Each (λ g. ⊥) earlier list
  unfolding Each first_fault
  Each-none earlier [] none = tt
  Each-none earlier (a ∷ list) none = by_first (fault earlier a) refl none (λ later. Each-none (earlier ++ a ∷ []) list later)
    where
      by_first : (o : Option CheckFault) → fault earlier a ≡ o → first_of o (first_fault fault (earlier ++ a ∷ []) list) ≡ None → (first_fault fault (earlier ++ a ∷ []) list ≡ None → Each (λ g. ⊥) (earlier ++ a ∷ []) list) → Each (λ g. ⊥) earlier (a ∷ list)
      by_first None is none rest = ((λ g has. let both : None ≡ Some g = sym is ∙ has in cc), rest none)
      by_first (Some f) is none rest = cc

  -- what is found is the fault of a clause
  found-in : (earlier list : List A) (f : CheckFault) → first_fault fault earlier list ≡ Some f → (before after : List A) × (a : A) × (list ≡ before ++ a ∷ after) × (fault (earlier ++ before) a ≡ Some f)
  unfolding first_fault
  found-in earlier [] f found = cc
  found-in earlier (a ∷ list) f found = by_first (fault earlier a) refl found (λ later. found-in (earlier ++ a ∷ []) list f later)
    where
      by_first : (o : Option CheckFault) → fault earlier a ≡ o → first_of o (first_fault fault (earlier ++ a ∷ []) list) ≡ Some f →
          (first_fault fault (earlier ++ a ∷ []) list ≡ Some f → (before after : List A) × (b : A) × (list ≡ before ++ b ∷ after) × (fault ((earlier ++ a ∷ []) ++ before) b ≡ Some f)) →
          (before after : List A) × (b : A) × (a ∷ list ≡ before ++ b ∷ after) × (fault (earlier ++ before) b ≡ Some f)
      by_first None none found rest =
          let l = rest found in
          (a ∷ l.0, l.1, l.2, ap (λ x. a ∷ x) l.3, ap (λ x. fault x l.2) (sym (append_assoc earlier (a ∷ []) l.0)) ∙ l.4)
      by_first (Some g) some found rest = ([], list, a, refl, ap (λ x. fault x a) (append-nil earlier) ∙ some ∙ found)

  module _ (number : A → ℕ) (in_own : (earlier : List A) (a : A) → IsIn (number a) (fault earlier a)) where
    Each-above : (n : ℕ) (earlier list : List A) → All (λ m. n < m) (map number list) → Each (λ g. n ≤ clause_of g) earlier list
    unfolding Each
    Each-above n earlier [] above = tt
    Each-above n earlier (a ∷ list) above = (
      (λ g has. let is = in_own earlier a g has in let less = All-head (λ m. n < m) (number a) (map number list) above in omega (arith, is, less)),
      Each-above n (earlier ++ a ∷ []) list (All-tail (λ m. n < m) (number a) (map number list) above),
    )

    Each-least : (earlier list : List A) (f : CheckFault) → IsStrictlyIncreasing (map number list) → first_fault fault earlier list ≡ Some f → Each (λ g. clause_of f ≤ clause_of g) earlier list
    unfolding Each first_fault
    Each-least earlier [] f ascend found = tt
    Each-least earlier (a ∷ list) f ascend found =
        by_first (fault earlier a) refl found (λ later. Each-least (earlier ++ a ∷ []) list f (increasing-tail (number a) (map number list) ascend) later)
      where
        by_first : (o : Option CheckFault) → fault earlier a ≡ o → first_of o (first_fault fault (earlier ++ a ∷ []) list) ≡ Some f →
            (first_fault fault (earlier ++ a ∷ []) list ≡ Some f → Each (λ g. clause_of f ≤ clause_of g) (earlier ++ a ∷ []) list) → Each (λ g. clause_of f ≤ clause_of g) earlier (a ∷ list)
        by_first None is found rest = ((λ g has. let both : None ≡ Some g = sym is ∙ has in cc), rest found)
        by_first (Some h) is found rest =
            let first : fault earlier a ≡ Some f = is ∙ found in
            let own = in_own earlier a f first in (
              (λ g has. let same = in_own earlier a g has in omega (arith, own, same)),
              subst (λ n. Each (λ g. n ≤ clause_of g) (earlier ++ a ∷ []) list) (sym own) (Each-above (number a) (earlier ++ a ∷ []) list (increasing-head (number a) (map number list) ascend)),
            )

    first_fault-tells : (list : List A) → IsStrictlyIncreasing (map number list) → Tells (IsClauseFault fault list) (first_fault fault [] list)
    unfolding Tells
    first_fault-tells list ascend = by_found (first_fault fault [] list) refl
      where
        by_found : (o : Option CheckFault) → first_fault fault [] list ≡ o → Tells (IsClauseFault fault list) o
        by_found None none = Each-clause (λ g. ⊥) list (Each-none [] list none)
        by_found (Some f) some =
            let l = found-in [] list f some in
            (in_clause l.0 l.1 l.2 l.3 l.4, Each-clause (λ g. clause_of f ≤ clause_of g) list (Each-least [] list f ascend some))

-- ---- a theory

earlier-tells : (P Q : CheckFault → Type 0) (a b : Option CheckFault) → Tells P a → Tells Q b → Tells (λ g. P g ⊎ Q g) (earlier_fault a b)
unfolding Tells earlier_fault
earlier-tells P Q None None first second = λ g either. ⊎_elim (first g) (second g) either
earlier-tells P Q None (Some b) first second = (inr second.0, λ g either. ⊎_elim (λ p. absurd (first g p)) (second.1 g) either)
earlier-tells P Q (Some a) None first second = (inl first.0, λ g either. ⊎_elim (first.1 g) (λ q. absurd (second g q)) either)
earlier-tells P Q (Some a) (Some b) first second = by_test (nat_lt (clause_of b) (clause_of a)) refl
  where
    by_test : (t : Bool) → nat_lt (clause_of b) (clause_of a) ≡ t → Tells (λ g. P g ⊎ Q g) (if t then Some b else Some a)
    by_test true is =
        let less = ltb-true (clause_of b) (clause_of a) is in
        (inr second.0, λ g either. ⊎_elim (λ p. let le = first.1 g p in omega (arith, le, less)) (second.1 g) either)
    by_test false is =
        let le : clause_of a ≤ clause_of b = ⊎_elim (λ l. absurd (false≢true (sym is ∙ lt-ltb (clause_of b) (clause_of a) l))) (λ g. g) (cases_lt (clause_of b) (clause_of a)) in
        (inl first.0, λ g either. ⊎_elim (first.1 g) (λ q. let later = second.1 g q in omega (arith, le, later)) either)

-- the faults of each kind
abbrev OfEachKind : Theory → CheckFault → Type 0
OfEachKind theory g =
    IsClauseFault rule_fault theory.rules g ⊎ (IsClauseFault exclusive_fault theory.exclusives g ⊎ (IsClauseFault strong_fault theory.strongs g
    ⊎ (IsClauseFault initial_fault theory.initials g ⊎ IsClauseFault time_fault theory.times g)))

to_each_kind : (theory : Theory) (g : CheckFault) → IsFaultOf theory g → OfEachKind theory g
to_each_kind theory g (of_rule f) = inl f
to_each_kind theory g (of_exclusive f) = inr (inl f)
to_each_kind theory g (of_strong f) = inr (inr (inl f))
to_each_kind theory g (of_initial f) = inr (inr (inr (inl f)))
to_each_kind theory g (of_time f) = inr (inr (inr (inr f)))

from_each_kind : (theory : Theory) (g : CheckFault) → OfEachKind theory g → IsFaultOf theory g
from_each_kind theory g is =
    ⊎_elim (λ f. of_rule f)
    (λ a. ⊎_elim (λ f. of_exclusive f) (λ b. ⊎_elim (λ f. of_strong f) (λ c. ⊎_elim (λ f. of_initial f) (λ f. of_time f) c) b) a) is

first_wrong-tells : (theory : Theory) → IsNumbered theory → Tells (OfEachKind theory) (first_wrong theory)
unfolding first_wrong
first_wrong-tells theory numbered =
    earlier-tells _ _ _ _ (first_fault-tells rule_fault (λ (r : Rule). r.clause) rule_fault-clause theory.rules numbered.rules_ascend)
    (earlier-tells _ _ _ _ (first_fault-tells exclusive_fault (λ (e : Exclusive). e.clause) exclusive_fault-clause theory.exclusives numbered.exclusives_ascend)
    (earlier-tells _ _ _ _ (first_fault-tells strong_fault (λ (s : Strong). s.clause) strong_fault-clause theory.strongs numbered.strongs_ascend)
    (earlier-tells _ _ _ _ (first_fault-tells initial_fault (λ (i : Initial). i.clause) initial_fault-clause theory.initials numbered.initials_ascend)
    (first_fault-tells time_fault (λ (t : TimeDecl). t.clause) time_fault-clause theory.times numbered.times_ascend))))

-- the fault that is found is in the clause with the least number among those that have one
pub found_is_first : (theory : Theory) (fault : CheckFault) → IsNumbered theory → first_wrong theory ≡ Some fault → IsFirstFault theory fault
unfolding Tells
found_is_first theory fault numbered found =
    let tells : Tells (OfEachKind theory) (Some fault) = subst (Tells (OfEachKind theory)) found (first_wrong-tells theory numbered) in
    record { is_fault = from_each_kind theory fault tells.0; least = λ other is. tells.1 other (to_each_kind theory other is) }

-- where none is found, no clause has one
pub none_is_sound : (theory : Theory) → IsNumbered theory → first_wrong theory ≡ None → (fault : CheckFault) → IsFaultOf theory fault → ⊥
unfolding Tells
none_is_sound theory numbered none fault is =
    let tells : Tells (OfEachKind theory) None = subst (Tells (OfEachKind theory)) none (first_wrong-tells theory numbered) in
    tells fault (to_each_kind theory fault is)
