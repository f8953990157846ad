-- What a well-formed theory keeps within limits: its rules, and the literals of each.
use Rattle.std.proofs.Common.{◌≡◌, ◌<◌, ◌≤◌, ◌+◌, ℕ, Bool, suc, true, cond, not, List, [], ◌∷◌, ◌++◌, length, None, refl, sym, ap, subst, ◌∙◌, ⊎_elim, arith}
use Rattle.std.specs.Prelude.{nat_le, nat_lt, count_by, filter}
use Rattle.std.specs.List.{All}
use Rattle.std.proofs.lemmas.Bool.{and_parts, and_from, cases_Bool, eqb-true, false≢true}
use Rattle.std.proofs.lemmas.Bool.Decides.{Decides-eqb}
use Rattle.std.proofs.lemmas.Slice.Eq.{bytes_eq-Decides}
use Rattle.std.proofs.lemmas.List.{append_assoc, append-nil, length-append}
use Rattle.std.proofs.lemmas.List.Elements.{All-nil, All-cons, filter-append}
use Rattle.std.proofs.lemmas.List.Sums.{length-filter}
use Rattle.ec_terms.specs.declared.ground.Ground.{Ground}
use Rattle.ec_terms.specs.declared.theory.Rule.{Rule}
use Rattle.ec_terms.specs.declared.theory.Theory.{Theory}
use Rattle.ec_terms.specs.Domain.{entries_from, entries_of, entry_of, meets}
use Rattle.ec_check.specs.Faults.{first_wrong, rule_fault, first_fault, is_narrow_rule, same_event}
use Rattle.ec_check.proofs.Matchable.{earlier_fault-none, first_of-none}
use Rattle.ec_lists.proofs.Booleans.{cond-None}
use Rattle.ec_lists.proofs.Filters.{length-filter_wider}
use Rattle.ec_check.specs.WellFormed.{IsWellFormed}
use Rattle.ec_context.specs.RulePlaces.{is_for, places_for}
use Rattle.ec_context.proofs.PlaceLemmas.{fits_some-not_for, length-places_from}
use Rattle.ec_check.specs.declared.limits.TheConstants.{MOST_LITERALS}

-- the rule has no more literals than a rule may have
abbrev pub HasFewLiterals : Rule → Type 0
HasFewLiterals rule = length rule.literals ≤ MOST_LITERALS

-- what a rule without a fault keeps to
record IsWithin (earlier : List Rule) (rule : Rule) : Type 0 where
  rules : length earlier < 1024
  literals : length rule.literals ≤ 16
  event_rules : count_by (same_event rule) earlier < 64

IsWithin-no_fault : (earlier : List Rule) (rule : Rule) → rule_fault earlier rule ≡ None → IsWithin earlier rule
unfolding rule_fault
IsWithin-no_fault earlier rule none =
    let rules = cond-None (nat_le 1024 (length earlier)) _ _ none in
    let arity = cond-None (not (is_narrow_rule rule)) _ _ rules.1 in
    let event_rules = cond-None (nat_le 64 (count_by (same_event rule) earlier)) _ _ arity.1 in
    let tests = cond-None (nat_lt 16 (length rule.tests)) _ _ event_rules.1 in
    let literals = cond-None (nat_lt 16 (length rule.literals)) _ _ tests.1 in
    record { rules = grind (arith, rules.0); literals = grind (arith, literals.0); event_rules = grind (arith, event_rules.0) }

rules_within : (earlier rules : List Rule) → first_fault rule_fault earlier rules ≡ None → length earlier ≤ 1024 → length earlier + length rules ≤ 1024
unfolding first_fault
rules_within earlier [] none few = omega (arith, few)
rules_within earlier (rule ∷ rules) none few =
    let parts = first_of-none _ _ none in
    let within = IsWithin-no_fault earlier rule parts.0 in
    let one_more = length-append earlier (rule ∷ []) in
    let rest = rules_within (earlier ++ rule ∷ []) rules parts.1 (omega (arith, within.rules, one_more)) in omega (arith, rest, one_more)

literals_within : (earlier rules : List Rule) → first_fault rule_fault earlier rules ≡ None → All HasFewLiterals rules
unfolding first_fault
literals_within earlier [] none = All-nil HasFewLiterals
literals_within earlier (rule ∷ rules) none =
    let parts = first_of-none _ _ none in
    All-cons HasFewLiterals rule rules (IsWithin-no_fault earlier rule parts.0).literals (literals_within (earlier ++ rule ∷ []) rules parts.1)

-- a well-formed theory has at most 1024 rules
pub few_rules : (theory : Theory) → IsWellFormed theory → length theory.rules ≤ 1024
unfolding first_wrong
few_rules theory well_formed =
    let within = rules_within [] theory.rules (earlier_fault-none _ _ well_formed.no_fault).0 (omega arith) in omega (arith, within)

-- and few literals in each
pub few_literals : (theory : Theory) → IsWellFormed theory → All HasFewLiterals theory.rules
unfolding first_wrong
few_literals theory well_formed = literals_within [] theory.rules (earlier_fault-none _ _ well_formed.no_fault).0

-- ---- the entries of one event

-- the rules that an event meets
met_rules : Ground → List Rule → List Rule
met_rules event rules = filter (λ (r : Rule). meets r event) rules

-- a rule that an event meets is for its name and number of arguments
is_for-met : (rule : Rule) (event : Ground) → meets rule event ≡ true → is_for event.name (length event.args) rule ≡ true
unfolding meets
is_for-met rule event met =
    ⊎_elim (λ same. same) (λ other. absurd (false≢true (sym (fits_some-not_for rule event other) ∙ (and_parts _ _ met).0)))
    (cases_Bool (is_for event.name (length event.args) rule))

-- two rules for one name and number of arguments are for the same events
same_event-for : (name : List ℕ) (arity : ℕ) (r s : Rule) → is_for name arity r ≡ true → is_for name arity s ≡ true → same_event r s ≡ true
unfolding same_event
same_event-for name arity r s first second =
    let a = and_parts _ _ first in
    let b = and_parts _ _ second in
    and_from _ _
    ((bytes_eq-Decides r.event.name s.event.name).1 ((bytes_eq-Decides r.event.name name).0 a.0 ∙ sym ((bytes_eq-Decides s.event.name name).0 b.0)))
    ((Decides-eqb (length r.event.args) (length s.event.args)).1 (eqb-true (length r.event.args) arity a.1 ∙ sym (eqb-true (length s.event.args) arity b.1)))

-- where the rules that pass a test are for the same events, few pass it
module _ (test : Rule → Bool) (same : (r s : Rule) → test r ≡ true → test s ≡ true → same_event r s ≡ true) where
  one_more : (earlier : List Rule) (rule : Rule) → rule_fault earlier rule ≡ None → length (filter test earlier) ≤ 64 → length (filter test (earlier ++ rule ∷ [])) ≤ 64
  one_more earlier rule none few =
      let all = ap length (filter-append test earlier (rule ∷ [])) ∙ length-append (filter test earlier) (filter test (rule ∷ [])) in
      ⊎_elim
      (λ passes. let fewer = length-filter_wider test (same_event rule) (λ s is. same rule s passes is) earlier in
      let counted = length-filter (same_event rule) earlier in
      let within = (IsWithin-no_fault earlier rule none).event_rules in
      let last = ap (λ b. length (cond b (rule ∷ []) [])) passes in omega (arith, all, fewer, counted, within, last))
      (λ fails. let last = ap (λ b. length (cond b (rule ∷ []) [])) fails in omega (arith, all, few, last))
      (cases_Bool (test rule))

  few_pass : (earlier rules : List Rule) → first_fault rule_fault earlier rules ≡ None → length (filter test earlier) ≤ 64 → length (filter test (earlier ++ rules)) ≤ 64
  unfolding first_fault
  few_pass earlier [] none few = subst (λ rs. length (filter test rs) ≤ 64) (sym (append-nil earlier)) few
  few_pass earlier (rule ∷ rules) none few =
      let parts = first_of-none _ _ none in
      subst (λ rs. length (filter test rs) ≤ 64) (append_assoc earlier (rule ∷ []) rules)
      (few_pass (earlier ++ rule ∷ []) rules parts.1 (one_more earlier rule parts.0 few))

-- a well-formed theory has at most 64 rules for one name and number of arguments
pub few_places : (theory : Theory) → IsWellFormed theory → (name : List ℕ) (arity : ℕ) → length (places_for name arity theory.rules) ≤ 64
unfolding first_wrong
few_places theory well_formed name arity =
    let few = few_pass (is_for name arity) (same_event-for name arity) [] theory.rules (earlier_fault-none _ _ well_formed.no_fault).0 (omega arith) in
    let same = length-places_from 0 name arity theory.rules in omega (arith, few, same)

-- an event has an entry for each rule that it meets
length-entries_from : (number : ℕ) (rules : List Rule) (event : Ground) → length (entries_from number rules event) ≡ length (met_rules event rules)
unfolding entries_from entry_of met_rules
length-entries_from number [] event = refl
length-entries_from number (rule ∷ rules) event =
    let ih = length-entries_from (number + 1) rules event in
    ⊎_elim (λ met. rw met (ap suc ih)) (λ not_met. rw not_met ih) (cases_Bool (meets rule event))

-- an event has at most 64 entries by a well-formed theory
pub few_entries : (theory : Theory) (event : Ground) → IsWellFormed theory → length (entries_of theory event) ≤ 64
unfolding first_wrong met_rules
few_entries theory event well_formed =
    let few = few_pass (λ (r : Rule). meets r event)
    (λ r s first second. same_event-for event.name (length event.args) r s (is_for-met r event first) (is_for-met s event second)) [] theory.rules
    (earlier_fault-none _ _ well_formed.no_fault).0 (omega arith) in
    let same = length-entries_from 1 theory.rules event in omega (arith, few, same)
