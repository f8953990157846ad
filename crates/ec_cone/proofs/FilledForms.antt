-- What a rule gives an event has the forms of the rule's patterns, and exclusive properties have those of a declaration's sides.
use Rattle.std.proofs.Common.{◌≡◌, ℕ, suc, ◌+◌, Bool, true, false, cond, List, [], ◌∷◌, length, filter_map, map, Option, Some, None, is_some, IsTrue, refl, sym, ap, ap₂, subst, ◌∙◌, inl, inr, arith}
use Rattle.std.specs.Prelude.{slice_get}
use Rattle.std.specs.List.{Contains, list_any, cons_option}
use Rattle.std.proofs.lemmas.Bool.{and_parts, or_parts, not-true, not-false}
use Rattle.std.proofs.lemmas.Slice.Eq.{bytes_eq-Decides}
use Rattle.std.proofs.lemmas.List.Elements.{All-contains}
use Rattle.ec_terms.specs.declared.ground.Arg.{Arg}
use Rattle.ec_terms.specs.declared.ground.Ground.{Ground}
use Rattle.ec_terms.specs.declared.pattern.PatArg.{PatArg}
use Rattle.ec_terms.specs.declared.pattern.PatArg.TheVariants.{Var, Any, Fixed}
use Rattle.ec_terms.specs.declared.pattern.Pattern.{Pattern}
use Rattle.ec_terms.specs.declared.theory.Literal.{Literal}
use Rattle.ec_terms.specs.declared.theory.Rule.{Rule}
use Rattle.ec_terms.specs.declared.theory.Theory.{Theory}
use Rattle.ec_terms.specs.Binding.{fills, is_open_place}
use Rattle.ec_terms.specs.Domain.{GroundLiteral, GroundEntry, ground_literal_of, meets, entry_of, entries_from, entries_of}
use Rattle.ec_terms.specs.Matchable.{IsGiven, IsMatchable, IsMatchableRule}
use Rattle.ec_terms.specs.Matching.{Values, binding_of, value_of, filled, fits, places_fit}
use Rattle.ec_axioms.proofs.Givens.{is_some-fits, fills-given}
use Rattle.ec_axioms.proofs.Members.{IsMember, IsMember-from_map, IsMember-slice_get, IsMember-from_contains, Contains-from_member}
use Rattle.ec_cone.specs.Forms.{Form, form_of, pattern_form}

-- ---- filled patterns

-- a value that there is stands in front
length-value : {X : Type 0} (o : Option X) (xs : List X) → is_some o ≡ true → length (cons_option o xs) ≡ suc (length xs)
length-value None xs there = cc
length-value (Some x) xs there = refl

-- a place that is not open has a value
is_some-place : (values : Values) (place : PatArg) → is_open_place values place ≡ false → is_some (value_of values place) ≡ true
unfolding value_of
is_some-place values (Var v) closed = not-false _ closed
is_some-place values Any closed = cc
is_some-place values (Fixed a) closed = refl

length-filled : (values : Values) (places : List PatArg) → list_any (is_open_place values) places ≡ false
    → length (filter_map (value_of values) places) ≡ length places
length-filled values [] none = refl
length-filled values (place ∷ places) none =
    let parts = or_parts _ _ none in
    length-value (value_of values place) (filter_map (value_of values) places) (is_some-place values place parts.0)
    ∙ ap suc (length-filled values places parts.1)

-- a pattern that is filled keeps its form
form_of-filled : (values : Values) (pattern : Pattern) → IsTrue (fills values pattern) → form_of (filled values pattern) ≡ pattern_form pattern
unfolding filled
form_of-filled values pattern full =
    let of_arity : ℕ → Form = λ n. record { name = pattern.name; arity = n } in
    ap of_arity (length-filled values pattern.args (not-true _ full))

-- ---- entries

-- a rule of the list that gives the entry, with its number
pub record IsOfRule (rules : List Rule) (number : ℕ) (event : Ground) (entry : GroundEntry) : Type 0 where
  pub place : ℕ
  pub rule : Rule
  pub there : slice_get rules place ≡ Some rule
  pub counted : entry.rule ≡ number + place
  pub met : IsTrue (meets rule event)
  pub head : entry.head ≡ filled (binding_of rule.event event) rule.head
  pub literals : entry.literals ≡ map (ground_literal_of (binding_of rule.event event)) rule.literals

-- the entry of one rule
IsOfRule-entry_of : (rule : Rule) (rules : List Rule) (number : ℕ) (event : Ground) (entry : GroundEntry) → entry_of number rule event ≡ Some entry
    → IsOfRule (rule ∷ rules) number event entry
unfolding entry_of
IsOfRule-entry_of rule rules number event entry is =
    by_test (meets rule event) refl is
  where
    made : GroundEntry
    made = record {
      rule = number;
      kind = rule.kind;
      head = filled (binding_of rule.event event) rule.head;
      literals = map (ground_literal_of (binding_of rule.event event)) rule.literals;
    }

    by_test : (met : Bool) → meets rule event ≡ met → cond met (Some made) None ≡ Some entry → IsOfRule (rule ∷ rules) number event entry
    by_test true met gives =
        let same : made ≡ entry = cc in
        record {
          place = 0;
          rule = rule;
          there = refl;
          counted = ap (λ (e : GroundEntry). e.rule) (sym same) ∙ omega arith;
          met = met;
          head = ap (λ (e : GroundEntry). e.head) (sym same);
          literals = ap (λ (e : GroundEntry). e.literals) (sym same);
        }
    by_test false met gives = cc

-- each entry is that of a rule
IsOfRule-entries_from : (rules : List Rule) (number : ℕ) (event : Ground) (entry : GroundEntry) → IsMember (entries_from number rules event) entry
    → IsOfRule rules number event entry
unfolding entries_from
IsOfRule-entries_from [] number event entry member = absurd member
IsOfRule-entries_from (rule ∷ rules) number event entry member =
    by_first (entry_of number rule event) refl (λ there. later (IsOfRule-entries_from rules (number + 1) event entry there)) member
  where
    later : IsOfRule rules (number + 1) event entry → IsOfRule (rule ∷ rules) number event entry
    later found =
        let counted = found.counted in
        record {
          place = suc found.place;
          rule = found.rule;
          there = found.there;
          counted = omega (arith, counted);
          met = found.met;
          head = found.head;
          literals = found.literals;
        }

    by_first : (o : Option GroundEntry) → entry_of number rule event ≡ o
        → (IsMember (entries_from (number + 1) rules event) entry → IsOfRule (rule ∷ rules) number event entry)
        → IsMember (cons_option o (entries_from (number + 1) rules event)) entry → IsOfRule (rule ∷ rules) number event entry
    by_first None is behind there = behind there
    by_first (Some e) is behind (inl same) = IsOfRule-entry_of rule rules number event entry (is ∙ ap Some same)
    by_first (Some e) is behind (inr there) = behind there

pub IsOfRule-entries_of : (theory : Theory) (event : Ground) (entry : GroundEntry) → Contains (entries_of theory event) entry
    → IsOfRule theory.rules 1 event entry
IsOfRule-entries_of theory event entry member =
    IsOfRule-entries_from theory.rules 1 event entry (IsMember-from_contains (entries_of theory event) entry member)

-- ---- forms of entries

-- what an event that fits gives a pattern has the pattern's form
form_of-given : (rule : Rule) (event : Ground) (pattern : Pattern) → IsTrue (meets rule event) → IsGiven rule.event pattern
    → form_of (filled (binding_of rule.event event) pattern) ≡ pattern_form pattern
unfolding meets
form_of-given rule event pattern met given =
    let values = binding_of rule.event event in
    form_of-filled values pattern
    (fills-given rule.event pattern values (λ v there. is_some-fits rule.event event values v (and_parts _ _ met).0 refl there) given.places)

-- the head of an entry has the form of its rule's head
pub form_of-head : (theory : Theory) (event : Ground) (entry : GroundEntry) → IsMatchable theory → (of_rule : IsOfRule theory.rules 1 event entry)
    → form_of entry.head ≡ pattern_form of_rule.rule.head
form_of-head theory event entry matchable of_rule =
    let rule = of_rule.rule in
    let ready = All-contains IsMatchableRule theory.rules rule matchable.rules
    (Contains-from_member theory.rules rule (IsMember-slice_get theory.rules of_rule.place rule of_rule.there)) in
    ap form_of of_rule.head ∙ form_of-given rule event rule.head of_rule.met ready.head

-- and each of its literals that of a literal of the rule
pub form_of-literal : (theory : Theory) (event : Ground) (entry : GroundEntry) (literal : GroundLiteral) → IsMatchable theory
    → (of_rule : IsOfRule theory.rules 1 event entry) → IsMember entry.literals literal
    → (own : Literal) × IsMember of_rule.rule.literals own × (form_of literal.prop ≡ pattern_form own.prop)
form_of-literal theory event entry literal matchable of_rule member =
    let rule = of_rule.rule in
    let ready = All-contains IsMatchableRule theory.rules rule matchable.rules
    (Contains-from_member theory.rules rule (IsMember-slice_get theory.rules of_rule.place rule of_rule.there)) in
    let found = IsMember-from_map (ground_literal_of (binding_of rule.event event)) rule.literals literal
    (subst (λ literals. IsMember literals literal) of_rule.literals member) in
    let given = All-contains (λ (l : Literal). IsGiven rule.event l.prop) rule.literals found.0 ready.literals (Contains-from_member rule.literals found.0 found.1) in
    (found.0, found.1, ap (λ (l : GroundLiteral). form_of l.prop) (sym found.2) ∙ form_of-given rule event found.0.prop of_rule.met given)

-- ---- forms of what a pattern fits

-- there are as many arguments as places
length-places_fit : (values : Values) (places : List PatArg) (args : List Arg) → places_fit values places args ≡ true → length args ≡ length places
unfolding places_fit
length-places_fit values [] [] fit = refl
length-places_fit values [] (a ∷ args) fit = cc
length-places_fit values (place ∷ places) [] fit = cc
length-places_fit values (place ∷ places) (a ∷ args) fit = ap suc (length-places_fit values places args (and_parts _ _ fit).1)

-- a property that a pattern fits has its form
pub form_of-fits : (values : Values) (pattern : Pattern) (term : Ground) → IsTrue (fits values pattern term) → form_of term ≡ pattern_form pattern
unfolding fits
form_of-fits values pattern term fit =
    let parts = and_parts _ _ fit in
    let made : List ℕ → ℕ → Form = λ name arity. record { name = name; arity = arity } in
    ap₂ made (sym ((bytes_eq-Decides pattern.name term.name).0 parts.0)) (length-places_fit values pattern.args term.args parts.1)
