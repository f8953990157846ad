-- What is wrong with a clause of a theory: its first fault in the order of the table; and the first clause of a theory with a fault.
use Rattle.std.specs.Prelude.{◌≡◌, ◌≤◌, ℕ, ◌+◌, suc, zero, Bool, true, false, ◌&&◌, ◌==◌, not, nat_eq, nat_lt, nat_le, if◌then◌else◌, List, [], ◌∷◌, ◌++◌, length, count_by, pos, int_le, Option, Some, None, option_map, bytes_eq}
use Rattle.std.specs.List.{list_all, flat_map}
use Rattle.std.specs.Set.{distinct_count}
use Rattle.ec_terms.specs.declared.pattern.PatArg.{PatArg}
use Rattle.ec_terms.specs.declared.pattern.PatArg.TheVariants.{Var, Any, Fixed}
use Rattle.ec_terms.specs.declared.pattern.Pattern.{Pattern}
use Rattle.ec_terms.specs.declared.theory.Rule.{Rule}
use Rattle.ec_terms.specs.declared.theory.Exclusive.{Exclusive}
use Rattle.ec_terms.specs.declared.theory.Strong.{Strong}
use Rattle.ec_terms.specs.declared.theory.Initial.{Initial}
use Rattle.ec_terms.specs.declared.theory.TimeDecl.{TimeDecl}
use Rattle.ec_terms.specs.declared.theory.Theory.{Theory}
use Rattle.ec_terms.specs.Binding.{stands_in}
use Rattle.ec_terms.specs.declared.limits.TheConstants.{MOST_ARGS, MOST_VARIABLES}
use Rattle.ec_check.specs.declared.limits.TheConstants.{MOST_RULES, MOST_EVENT_RULES, MOST_TESTS, MOST_LITERALS, MOST_EXCLUSIVES, MOST_STRONGS, MOST_INITIALS, MOST_TIMES}
use Rattle.ec_check.specs.declared.fault.CheckFault.{CheckFault}
use Rattle.ec_check.specs.declared.fault.CheckFault.TheVariants.{Arity, TooMany, AnyInHead, Unbound}
use Rattle.ec_check.specs.declared.fault.Many.TheVariants.{Rules, EventRules, Tests, Literals, Variables, Exclusives, Strongs, Initials, Times}

-- ---- parts of a rule

-- every place of the head, the tests and the literals passes
unfoldable pub each_open : (PatArg → Bool) → Rule → Bool
each_open test r =
    list_all test r.head.args && list_all (λ t. test t.left && test t.right) r.tests && list_all (λ l. list_all test l.prop.args) r.literals

-- at most 8 arguments
abbrev pub is_narrow : Pattern → Bool
is_narrow p = nat_le (length p.args) MOST_ARGS

-- every pattern of the rule has at most 8 arguments
unfoldable pub is_narrow_rule : Rule → Bool
is_narrow_rule r = is_narrow r.event && is_narrow r.head && list_all (λ l. is_narrow l.prop) r.literals

-- the events have the same name and number of arguments
unfoldable pub same_event : Rule → Rule → Bool
same_event r s = bytes_eq r.event.name s.event.name && length r.event.args == length s.event.args

-- the places of a rule: those of its event, its head, its tests and its literals
unfoldable pub rule_places : Rule → List PatArg
rule_places r = r.event.args ++ (r.head.args ++ (flat_map (λ t. t.left ∷ t.right ∷ []) r.tests ++ flat_map (λ l. l.prop.args) r.literals))

-- the places of an exclusive declaration
abbrev pub exclusive_places : Exclusive → List PatArg
exclusive_places e = e.left.args ++ e.right.args

-- the variables that stand at places, in their order
unfoldable pub variables_in : List PatArg → List ℕ
variables_in [] = []
variables_in (Var v ∷ places) = v ∷ variables_in places
variables_in (Any ∷ places) = variables_in places
variables_in (Fixed a ∷ places) = variables_in places

-- at most 16 different variables stand at the places
unfoldable pub has_few_variables : List PatArg → Bool
has_few_variables places = nat_le (distinct_count nat_eq (variables_in places)) MOST_VARIABLES

-- no `_`
abbrev pub is_no_any : PatArg → Bool
is_no_any (Var v) = true
is_no_any Any = false
is_no_any (Fixed a) = true

-- not the variable v
abbrev pub is_other : ℕ → PatArg → Bool
is_other v (Var w) = not (v == w)
is_other v Any = true
is_other v (Fixed a) = true

-- the variable stands in the head, a test or a literal, and not in the event
unfoldable pub is_unbound : Rule → ℕ → Bool
is_unbound r v = not (each_open (is_other v) r) && not (stands_in v r.event)

-- the first of n numbers from v on that passes
unfoldable pub first_from : (ℕ → Bool) → ℕ → ℕ → Option ℕ
first_from test zero v = None
first_from test (suc n) v = if test v then Some v else first_from test n (v + 1)

-- the least unbound variable, where the variables are below 16
unfoldable pub least_unbound : Rule → Option ℕ
least_unbound r = first_from (is_unbound r) MOST_VARIABLES 0

-- ---- the table

-- the first fault of a rule that stands behind other rules
unfoldable pub rule_fault : List Rule → Rule → Option CheckFault
rule_fault earlier r =
    if nat_le MOST_RULES (length earlier) then Some (TooMany Rules r.clause)
    else (if not (is_narrow_rule r) then Some (Arity r.clause)
    else (if nat_le MOST_EVENT_RULES (count_by (same_event r) earlier) then Some (TooMany EventRules r.clause)
    else (if nat_lt MOST_TESTS (length r.tests) then Some (TooMany Tests r.clause)
    else (if nat_lt MOST_LITERALS (length r.literals) then Some (TooMany Literals r.clause)
    else (if not (has_few_variables (rule_places r)) then Some (TooMany Variables r.clause)
    else (if not (each_open is_no_any r) then Some (AnyInHead r.clause)
    else option_map (λ v. Unbound r.clause v) (least_unbound r)))))))

-- the first fault of an exclusive declaration that stands behind others
unfoldable pub exclusive_fault : List Exclusive → Exclusive → Option CheckFault
exclusive_fault earlier e =
    if nat_le MOST_EXCLUSIVES (length earlier) then Some (TooMany Exclusives e.clause)
    else (if not (is_narrow e.left && is_narrow e.right) then Some (Arity e.clause)
    else (if not (has_few_variables (exclusive_places e)) then Some (TooMany Variables e.clause)
    else None))

-- the first fault of a strong declaration that stands behind others
unfoldable pub strong_fault : List Strong → Strong → Option CheckFault
strong_fault earlier s =
    if nat_le MOST_STRONGS (length earlier) then Some (TooMany Strongs s.clause)
    else (if not (int_le (pos 0) s.arity && int_le s.arity (pos MOST_ARGS)) then Some (Arity s.clause)
    else None)

-- the least variable of a pattern, where its variables are below 16
unfoldable pub least_variable : Pattern → Option ℕ
least_variable p = first_from (λ v. stands_in v p) MOST_VARIABLES 0

-- the first fault of an initial property that stands behind others
unfoldable pub initial_fault : List Initial → Initial → Option CheckFault
initial_fault earlier i =
    if nat_le MOST_INITIALS (length earlier) then Some (TooMany Initials i.clause)
    else (if not (is_narrow i.prop) then Some (Arity i.clause)
    else (if not (has_few_variables i.prop.args) then Some (TooMany Variables i.clause)
    else (if not (list_all is_no_any i.prop.args) then Some (AnyInHead i.clause)
    else option_map (λ v. Unbound i.clause v) (least_variable i.prop))))

-- the fault of a time declaration that stands behind others
unfoldable pub time_fault : List TimeDecl → TimeDecl → Option CheckFault
time_fault earlier t = if nat_le MOST_TIMES (length earlier) then Some (TooMany Times t.clause) else None

-- ---- a theory

-- the first of two, if there is one
abbrev pub first_of : Option CheckFault → Option CheckFault → Option CheckFault
first_of (Some fault) later = Some fault
first_of None later = later

-- the first fault of clauses of one kind that stand behind others
unfoldable pub first_fault : {A : Type 0} → (List A → A → Option CheckFault) → List A → List A → Option CheckFault
first_fault fault earlier [] = None
first_fault fault earlier (a ∷ list) = first_of (fault earlier a) (first_fault fault (earlier ++ a ∷ []) list)

-- the number of the clause that a fault is in
unfoldable pub clause_of : CheckFault → ℕ
clause_of (Arity clause) = clause
clause_of (TooMany many clause) = clause
clause_of (AnyInHead clause) = clause
clause_of (Unbound clause v) = clause

-- the one in the earlier clause
unfoldable pub earlier_fault : Option CheckFault → Option CheckFault → Option CheckFault
earlier_fault None second = second
earlier_fault (Some a) None = Some a
earlier_fault (Some a) (Some b) = if nat_lt (clause_of b) (clause_of a) then Some b else Some a

-- The first clause with a fault, and its first fault. The clauses of each kind stand in the order of the text, so the
-- first fault of a theory is the earliest of the first faults of its kinds.
unfoldable pub first_wrong : Theory → Option CheckFault
first_wrong theory =
    earlier_fault (first_fault rule_fault [] theory.rules)
    (earlier_fault (first_fault exclusive_fault [] theory.exclusives)
    (earlier_fault (first_fault strong_fault [] theory.strongs)
    (earlier_fault (first_fault initial_fault [] theory.initials) (first_fault time_fault [] theory.times))))

-- the fault is the first of one of the clauses
pub data IsClauseFault {A : Type 0} (first : List A → A → Option CheckFault) (list : List A) (fault : CheckFault) : Type 0 where
  in_clause : (earlier later : List A) (a : A) → list ≡ earlier ++ a ∷ later → first earlier a ≡ Some fault → IsClauseFault first list fault

-- the fault is the first of one clause of the theory
pub data IsFaultOf (theory : Theory) (fault : CheckFault) : Type 0 where
  of_rule : IsClauseFault rule_fault theory.rules fault → IsFaultOf theory fault
  of_exclusive : IsClauseFault exclusive_fault theory.exclusives fault → IsFaultOf theory fault
  of_strong : IsClauseFault strong_fault theory.strongs fault → IsFaultOf theory fault
  of_initial : IsClauseFault initial_fault theory.initials fault → IsFaultOf theory fault
  of_time : IsClauseFault time_fault theory.times fault → IsFaultOf theory fault

-- the fault is the first of the clause with the least number among those that have one
pub record IsFirstFault (theory : Theory) (fault : CheckFault) : Type 0 where
  pub is_fault : IsFaultOf theory fault
  pub least : (other : CheckFault) → IsFaultOf theory other → clause_of fault ≤ clause_of other
