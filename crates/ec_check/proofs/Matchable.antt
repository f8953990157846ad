-- A theory without a fault can be matched: its patterns are small, and the event of a rule gives every place of its head, tests and literals.
use Rattle.std.proofs.Common.{◌≡◌, ℕ, ◌+◌, ◌<◌, ◌≤◌, suc, zero, Bool, true, false, ◌&&◌, not, List, [], ◌∷◌, ◌++◌, length, Option, Some, None, refl, subst, ◌∙◌, ◌⊎◌, inl, inr, ⊎_elim, arith}
use Rattle.std.specs.Prelude.{count_by, nat_le, nat_lt}
use Rattle.std.specs.List.{All, list_all}
use Rattle.std.proofs.lemmas.Bool.{and_parts, and_from, and_cases, cases_eq, eq-eqb, leb-true, ltb-true, not-false}
use Rattle.std.proofs.lemmas.List.Elements.{All-nil, All-cons, All-head, All-tail}
use Rattle.ec_lists.proofs.Booleans.{cond-None}
use Rattle.ec_lists.proofs.Options.{None-from_option_map}
use Rattle.ec_terms.specs.declared.pattern.PatArg.{PatArg}
use Rattle.ec_terms.specs.declared.pattern.PatArg.TheVariants.{Var, Any, Fixed}
use Rattle.ec_terms.specs.declared.pattern.Pattern.{Pattern}
use Rattle.ec_terms.specs.declared.theory.Literal.{Literal}
use Rattle.ec_terms.specs.declared.theory.Rule.{Rule}
use Rattle.ec_terms.specs.declared.theory.Exclusive.{Exclusive}
use Rattle.ec_terms.specs.declared.theory.Initial.{Initial}
use Rattle.ec_terms.specs.declared.theory.Theory.{Theory}
use Rattle.ec_terms.specs.Binding.{IsSmall, is_small_place, stands_in}
use Rattle.ec_terms.specs.Matchable.{IsGiven, IsMatchable, IsMatchableExclusive, IsMatchableRule, is_given_place}
use Rattle.ec_check.specs.declared.fault.CheckFault.{CheckFault}
use Rattle.ec_check.specs.declared.fault.CheckFault.TheVariants.{Arity, TooMany, AnyInHead, Unbound}
use Rattle.ec_check.specs.declared.fault.Many.TheVariants.{Rules, EventRules, Tests, Literals, Variables}
use Rattle.ec_check.specs.declared.limits.TheConstants.{MOST_RULES, MOST_EVENT_RULES, MOST_TESTS, MOST_LITERALS}
use Rattle.ec_check.specs.Faults.{each_open, earlier_fault, exclusive_fault, exclusive_places, first_fault, first_from, first_of, first_wrong, has_few_variables, initial_fault, is_narrow, is_narrow_rule, is_no_any, is_other, is_unbound, least_unbound, rule_fault, rule_places, same_event}
use Rattle.ec_check.specs.Numbering.{AreWithoutGap}
use Rattle.ec_check.specs.WellFormed.{IsWellFormed}
use Rattle.ec_check.proofs.FewVariables.{few_in_places, few_in_exclusive, few_in_rule}

-- ---- no first one

-- where there is no first number that passes, none passes
pub first_from-none : (test : ℕ → Bool) (n v w : ℕ) → first_from test n v ≡ None → v ≤ w → w < v + n → test w ≡ false
unfolding first_from
first_from-none test zero v w none low high = absurd (omega arith)
first_from-none test (suc n) v w none low high =
    let parts = cond-None (test v) v (first_from test n (v + 1)) none in
    ⊎_elim (λ same. subst (λ u. test u ≡ false) same parts.0)
    (λ other. first_from-none test n (v + 1) w parts.1 (omega arith) (omega arith))
    (cases_eq v w)

pub first_of-none : (first later : Option CheckFault) → first_of first later ≡ None → (first ≡ None) × (later ≡ None)
first_of-none None later none = (refl, none)
first_of-none (Some fault) later none = cc

pub earlier_fault-none : (first second : Option CheckFault) → earlier_fault first second ≡ None → (first ≡ None) × (second ≡ None)
unfolding earlier_fault
earlier_fault-none None second none = (refl, none)
earlier_fault-none (Some a) None none = cc
earlier_fault-none (Some a) (Some b) none = let parts = cond-None _ b (Some a) none in cc

-- ---- the event gives the places of a rule

-- The event gives each place of a part, which is known by its tests of places: where each place is small and no `_`, and
-- each variable below 16 is not in the part or stands in the event.
abbrev Gives : Pattern → ((PatArg → Bool) → Bool) → Type 0
Gives event each =
    each is_small_place ≡ true → each is_no_any ≡ true →
    ((v : ℕ) → v < 16 → (each (is_other v) ≡ true) ⊎ (stands_in v event ≡ true)) → each (is_given_place event) ≡ true

Gives-place : (event : Pattern) (place : PatArg) → Gives event (λ test. test place)
Gives-place event (Var v) small known bound =
    ⊎_elim (λ other. let same = eq-eqb v v refl in cc) (λ there. there) (bound v (ltb-true v 16 small))
Gives-place event Any small known bound = cc
Gives-place event (Fixed a) small known bound = refl

Gives-both : (event : Pattern) (front back : (PatArg → Bool) → Bool) → Gives event front → Gives event back → Gives event (λ test. front test && back test)
Gives-both event front back first second small known bound =
    let smalls = and_parts _ _ small in
    let knowns = and_parts _ _ known in
    and_from _ _
    (first smalls.0 knowns.0 (λ v low. ⊎_elim (λ all. inl (and_parts _ _ all).0) (λ there. inr there) (bound v low)))
    (second smalls.1 knowns.1 (λ v low. ⊎_elim (λ all. inl (and_parts _ _ all).1) (λ there. inr there) (bound v low)))

Gives-each : {A : Type 0} (event : Pattern) (part : A → (PatArg → Bool) → Bool) → ((a : A) → Gives event (part a)) → (list : List A) →
    Gives event (λ test. list_all (λ a. part a test) list)
Gives-each event part one [] small known bound = refl
Gives-each event part one (a ∷ list) small known bound =
    Gives-both event (part a) (λ test. list_all (λ b. part b test) list) (one a) (Gives-each event part one list) small known bound

Gives-places : (event : Pattern) (places : List PatArg) → Gives event (λ test. list_all test places)
Gives-places event places small known bound = Gives-each event (λ place test. test place) (Gives-place event) places small known bound

Gives-each_open : (event : Pattern) (r : Rule) → Gives event (λ test. each_open test r)
unfolding each_open
Gives-each_open event r small known bound =
    Gives-both event (λ test. list_all test r.head.args && list_all (λ t. test t.left && test t.right) r.tests)
    (λ test. list_all (λ l. list_all test l.prop.args) r.literals)
    (Gives-both event (λ test. list_all test r.head.args) (λ test. list_all (λ t. test t.left && test t.right) r.tests) (Gives-places event r.head.args)
    (Gives-each event (λ t test. test t.left && test t.right)
    (λ t. Gives-both event (λ test. test t.left) (λ test. test t.right) (Gives-place event t.left) (Gives-place event t.right)) r.tests))
    (Gives-each event (λ l test. list_all test l.prop.args) (λ l. Gives-places event l.prop.args) r.literals)
    small known bound

-- ---- a rule

-- what the faults of a rule leave, where there is none
record IsBound (r : Rule) : Type 0 where
  narrow : is_narrow_rule r ≡ true
  small : (list_all is_small_place r.event.args && each_open is_small_place r) ≡ true
  known : each_open is_no_any r ≡ true
  bound : least_unbound r ≡ None

IsBound-no_fault : (earlier : List Rule) (r : Rule) → AreWithoutGap (rule_places r) → rule_fault earlier r ≡ None → IsBound r
unfolding rule_fault
IsBound-no_fault earlier r full none =
    let rules = cond-None (nat_le MOST_RULES (length earlier)) (TooMany Rules r.clause) _ none in
    let arity = cond-None (not (is_narrow_rule r)) (Arity r.clause) _ rules.1 in
    let event_rules = cond-None (nat_le MOST_EVENT_RULES (count_by (same_event r) earlier)) (TooMany EventRules r.clause) _ arity.1 in
    let tests = cond-None (nat_lt MOST_TESTS (length r.tests)) (TooMany Tests r.clause) _ event_rules.1 in
    let literals = cond-None (nat_lt MOST_LITERALS (length r.literals)) (TooMany Literals r.clause) _ tests.1 in
    let variables = cond-None (not (has_few_variables (rule_places r))) (TooMany Variables r.clause) _ literals.1 in
    let any = cond-None (not (each_open is_no_any r)) (AnyInHead r.clause) _ variables.1 in
    record {
      narrow = not-false _ arity.0;
      small = few_in_rule r full ∙ not-false _ variables.0;
      known = not-false _ any.0;
      bound = None-from_option_map (λ v. Unbound r.clause v) (least_unbound r) any.1;
    }

-- each variable below 16 is in the event, or in no part of the rule but the event
bound_or_other : (r : Rule) → least_unbound r ≡ None → (v : ℕ) → v < 16 → (each_open (is_other v) r ≡ true) ⊎ (stands_in v r.event ≡ true)
unfolding least_unbound is_unbound
bound_or_other r none v low =
    ⊎_elim (λ other. inl (not-false _ other)) (λ there. inr (not-false _ there))
    (and_cases _ _ (first_from-none (is_unbound r) 16 0 v none (omega arith) (omega arith)))

IsSmall-from : (pattern : Pattern) → is_narrow pattern ≡ true → list_all is_small_place pattern.args ≡ true → IsSmall pattern
IsSmall-from pattern narrow small = record { few = leb-true _ 8 narrow; variables = small }

literals_given : (event : Pattern) (list : List Literal) → list_all (λ l. is_narrow l.prop) list ≡ true → list_all (λ l. list_all is_small_place l.prop.args) list ≡ true →
    list_all (λ l. list_all (is_given_place event) l.prop.args) list ≡ true → All (λ (l : Literal). IsGiven event l.prop) list
literals_given event [] narrow small given = All-nil (λ (l : Literal). IsGiven event l.prop)
literals_given event (l ∷ list) narrow small given =
    let narrows = and_parts _ _ narrow in
    let smalls = and_parts _ _ small in
    let givens = and_parts _ _ given in
    All-cons (λ (l : Literal). IsGiven event l.prop) l list (record { small = IsSmall-from l.prop narrows.0 smalls.0; places = givens.0 }) (literals_given event list narrows.1 smalls.1 givens.1)

IsMatchableRule-bound : (r : Rule) → IsBound r → IsMatchableRule r
unfolding is_narrow_rule each_open
IsMatchableRule-bound r is_bound =
    let narrow = and_parts _ _ is_bound.narrow in
    let narrows = and_parts _ _ narrow.0 in
    let small = and_parts _ _ is_bound.small in
    let small_open = and_parts _ _ small.1 in
    let smalls = and_parts _ _ small_open.0 in
    let given = and_parts _ _ (Gives-each_open r.event r small.1 is_bound.known (bound_or_other r is_bound.bound)) in
    let givens = and_parts _ _ given.0 in
    record {
      event = IsSmall-from r.event narrows.0 small.0;
      head = record { small = IsSmall-from r.head narrows.1 smalls.0; places = givens.0 };
      tests = givens.1;
      literals = literals_given r.event r.literals narrow.1 small_open.1 given.1;
    }

-- where no clause of a kind has a fault, each is as that says
All-first_fault : {A : Type 0} (fault : List A → A → Option CheckFault) (Numbered P : A → Type 0) → ((earlier : List A) (a : A) → Numbered a → fault earlier a ≡ None → P a) →
    (earlier list : List A) → All Numbered list → first_fault fault earlier list ≡ None → All P list
unfolding first_fault
All-first_fault fault Numbered P one earlier [] numbered none = All-nil P
All-first_fault fault Numbered P one earlier (a ∷ list) numbered none =
    let parts = first_of-none _ _ none in
    All-cons P a list (one earlier a (All-head Numbered a list numbered) parts.0) (All-first_fault fault Numbered P one (earlier ++ a ∷ []) list (All-tail Numbered a list numbered) parts.1)

-- ---- declarations

IsMatchableExclusive-no_fault : (earlier : List Exclusive) (declaration : Exclusive) → AreWithoutGap (exclusive_places declaration) → exclusive_fault earlier declaration ≡ None → IsMatchableExclusive declaration
unfolding exclusive_fault
IsMatchableExclusive-no_fault earlier declaration full none =
    let many = cond-None _ _ _ none in
    let arity = cond-None _ _ _ many.1 in
    let variables = cond-None _ _ _ arity.1 in
    let narrows = and_parts _ _ (not-false _ arity.0) in
    let smalls = and_parts _ _ (few_in_exclusive declaration full ∙ not-false _ variables.0) in
    record { left = IsSmall-from declaration.left narrows.0 smalls.0; right = IsSmall-from declaration.right narrows.1 smalls.1 }

IsSmall-no_fault : (earlier : List Initial) (declaration : Initial) → AreWithoutGap declaration.prop.args → initial_fault earlier declaration ≡ None → IsSmall declaration.prop
unfolding initial_fault
IsSmall-no_fault earlier declaration full none =
    let many = cond-None _ _ _ none in
    let arity = cond-None _ _ _ many.1 in
    let variables = cond-None _ _ _ arity.1 in
    IsSmall-from declaration.prop (not-false _ arity.0) (few_in_places declaration.prop.args full ∙ not-false _ variables.0)

-- ---- a theory

-- every well-formed theory can be matched
pub IsMatchable-well_formed : (theory : Theory) → IsWellFormed theory → IsMatchable theory
unfolding first_wrong
IsMatchable-well_formed theory well_formed =
    let numbered = well_formed.numbered in
    let rules = earlier_fault-none _ _ well_formed.no_fault in
    let exclusives = earlier_fault-none _ _ rules.1 in
    let strongs = earlier_fault-none _ _ exclusives.1 in
    let initials = earlier_fault-none _ _ strongs.1 in
    record {
      rules = All-first_fault rule_fault (λ (r : Rule). AreWithoutGap (rule_places r)) IsMatchableRule (λ earlier r full none. IsMatchableRule-bound r (IsBound-no_fault earlier r full none)) [] theory.rules numbered.rules rules.0;
      exclusives = All-first_fault exclusive_fault (λ (e : Exclusive). AreWithoutGap (exclusive_places e)) IsMatchableExclusive IsMatchableExclusive-no_fault [] theory.exclusives numbered.exclusives exclusives.0;
      initials = All-first_fault initial_fault (λ (i : Initial). AreWithoutGap i.prop.args) (λ (initial : Initial). IsSmall initial.prop) IsSmall-no_fault [] theory.initials numbered.initials initials.0;
    }
