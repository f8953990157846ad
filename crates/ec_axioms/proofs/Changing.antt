-- What the events at an instant do to a property, rule by rule.
use Rattle.std.proofs.Common.{◌≡◌, ℕ, ◌+◌, ◌<◌, ◌≤◌, ◌∷◌, [], Bool, List, ℤ, Option, Some, None, true, false, not, ◌&&◌, ◌||◌, length, get_or, take, filter, flat_map, map, IsTrue, inl, inr, refl, sym, ap, ap₂, ◌∙◌, arith}
use mathlib.Core.Path.{fun_ext}
use Rattle.std.specs.List.{list_any, list_all, cons_option}
use Rattle.std.specs.Option.{option_map_or}
use Rattle.std.specs.Ordering.{int_eq}
use Rattle.std.specs.Bool.{beq}
use Rattle.ec_terms.specs.declared.ground.Ground.{Ground}
use Rattle.ec_terms.specs.declared.theory.Kind.{Kind}
use Rattle.ec_terms.specs.declared.theory.Kind.TheVariants.{Initiates, Terminates}
use Rattle.ec_terms.specs.declared.theory.Literal.{Literal}
use Rattle.ec_terms.specs.declared.theory.Rule.{Rule}
use Rattle.ec_terms.specs.declared.theory.Theory.{Theory}
use Rattle.ec_terms.specs.Domain.{GroundEntry, GroundLiteral, entry_of, entries_from, entries_of, ground_literal_of, is_strong, meets}
use Rattle.ec_terms.specs.Matching.{Values, binding_of, filled, fits_some, test_holds}
use Rattle.ec_terms.specs.Term.{term_eq, is_argument, names_are_names}
use Rattle.ec_terms.proofs.DomainLemmas.{term_eq-refl}
use Rattle.std.proofs.lemmas.Bool.{cases_Bool, and_parts, and_from, or_from, not-true, not-false}
use Rattle.std.proofs.lemmas.List.{length-map, take_all}
use Rattle.std.proofs.lemmas.List.Folds.{list_any_at, list_any_more, list_all_at, list_all_more, list_all-map}
use Rattle.std.proofs.Math.ListN.{get_or-map}
use Rattle.ec_terms.specs.declared.ground.Arg.{Arg}
use Rattle.ec_terms.specs.declared.ground.Arg.TheVariants.{Int, Word}
use Rattle.ec_terms.specs.Term.{is_argument, names_are_names}
use Rattle.ec_lists.proofs.Tests.{nat_lt-filter, list_any-filter, list_any-flat_map, list_any-map, list_any-or, list_any-and, list_any-same}
use Rattle.ec_axioms.specs.declared.currency.Change.{Change}
use Rattle.ec_axioms.specs.declared.currency.Change.TheVariants.{Initiation, Termination, Break}
use Rattle.ec_axioms.specs.Calculus.{PlainEvent, Currency, effects_of, effects_at, agrees, is_active, is_current, has_effect, has_break, is_initiating, is_terminating, is_clashing}
use Rattle.ec_axioms.specs.Plain.{events_at, would_change, does_change, does_change_by, changes_at}
use Rattle.ec_lists.proofs.Integers.{int_eq-is}

-- tests that agree on events at t
list_any-at : (f g : PlainEvent → Bool) (t : ℤ) (events : List PlainEvent) → ((e : PlainEvent) → e.rank ≡ t → f e ≡ g e) →
    list_any f (events_at t events) ≡ list_any g (events_at t events)
list_any-at f g t [] same = refl
list_any-at f g t (e ∷ events) same =
    let ih = list_any-at f g t events same in
    let here : int_eq e.rank t ≡ true → f e ≡ g e = λ there. same e (int_eq-is e.rank t there) in grind arith

-- ---- the entries of the events at t

-- some entry of an event at t passes a test and agrees with the currency there
some_effect : Theory → List PlainEvent → Currency → ℤ → (GroundEntry → Bool) → Bool
some_effect theory events current t wanted =
    list_any (λ (e : PlainEvent). list_any (λ entry. wanted entry && list_all (agrees current t) entry.literals) (entries_of theory e.term)) (events_at t events)

has_effect-some : (theory : Theory) (events : List PlainEvent) (current : Currency) (wanted : GroundEntry → Bool) (t : ℤ) →
    has_effect theory events current wanted t ≡ some_effect theory events current t wanted
unfolding has_effect effects_at effects_of is_active some_effect
has_effect-some theory events current wanted t =
    nat_lt-filter (is_active current) (filter (λ effect. wanted effect.entry) (flat_map (effects_of theory) (events_at t events)))
    ∙ list_any-filter (is_active current) (λ effect. wanted effect.entry) (flat_map (effects_of theory) (events_at t events))
    ∙ list_any-flat_map (λ effect. wanted effect.entry && is_active current effect) (effects_of theory) (events_at t events)
    ∙ list_any-at _ _ t events each
  where
    each : (e : PlainEvent) → e.rank ≡ t →
        list_any (λ effect. wanted effect.entry && is_active current effect) (effects_of theory e)
        ≡ list_any (λ entry. wanted entry && list_all (agrees current t) entry.literals) (entries_of theory e.term)
    each e there =
        list_any-map (λ effect. wanted effect.entry && is_active current effect) (λ entry. record { event = e; entry = entry }) (entries_of theory e.term)
        ∙ ap (λ s. list_any (λ entry. wanted entry && list_all (agrees current s) entry.literals) (entries_of theory e.term)) there

-- two tests of which one passes
some_effect-or : (theory : Theory) (events : List PlainEvent) (current : Currency) (t : ℤ) (v w : GroundEntry → Bool) →
    (some_effect theory events current t v || some_effect theory events current t w) ≡ some_effect theory events current t (λ entry. v entry || w entry)
unfolding some_effect
some_effect-or theory events current t v w =
    list_any-or _ _ (events_at t events)
    ∙ list_any-same _ _
    (λ e. list_any-or _ _ (entries_of theory e.term) ∙ list_any-same _ _ (λ entry. split (v entry) (w entry) (list_all (agrees current t) entry.literals)) (entries_of theory e.term))
    (events_at t events)
  where
    split : (x y z : Bool) → ((x && z) || (y && z)) ≡ ((x || y) && z)
    split x y z = grind arith

-- a fixed condition and a test
some_effect-and : (theory : Theory) (events : List PlainEvent) (current : Currency) (t : ℤ) (b : Bool) (w : GroundEntry → Bool) →
    (b && some_effect theory events current t w) ≡ some_effect theory events current t (λ entry. b && w entry)
unfolding some_effect
some_effect-and theory events current t b w =
    list_any-and b _ (events_at t events)
    ∙ list_any-same _ _
    (λ e. list_any-and b _ (entries_of theory e.term) ∙ list_any-same _ _ (λ entry. regroup b (w entry) (list_all (agrees current t) entry.literals)) (entries_of theory e.term))
    (events_at t events)
  where
    regroup : (x y z : Bool) → (x && (y && z)) ≡ ((x && y) && z)
    regroup x y z = grind arith

some_effect-same : (theory : Theory) (events : List PlainEvent) (current : Currency) (t : ℤ) (v w : GroundEntry → Bool) → ((entry : GroundEntry) → v entry ≡ w entry) →
    some_effect theory events current t v ≡ some_effect theory events current t w
some_effect-same theory events current t v w same = ap (some_effect theory events current t) (fun_ext same)

-- ---- the changes by kind and head

would-Initiation : (theory : Theory) (p : Ground) (entry : GroundEntry) → is_initiating p entry ≡ would_change theory p Initiation entry.kind entry.head
unfolding is_initiating
would-Initiation theory p entry = by_kind entry.kind refl
  where
    by_kind : (kind : Kind) → entry.kind ≡ kind → is_initiating p entry ≡ would_change theory p Initiation kind entry.head
    by_kind Initiates is = rw is refl
    by_kind Terminates is = rw is refl

would-Termination : (theory : Theory) (p : Ground) (entry : GroundEntry) → is_terminating p entry ≡ would_change theory p Termination entry.kind entry.head
unfolding is_terminating
would-Termination theory p entry = by_kind entry.kind refl
  where
    by_kind : (kind : Kind) → entry.kind ≡ kind → is_terminating p entry ≡ would_change theory p Termination kind entry.head
    by_kind Initiates is = rw is refl
    by_kind Terminates is = rw is refl

would-Break : (theory : Theory) (p : Ground) (entry : GroundEntry) →
    ((is_terminating p entry || is_clashing theory p entry) || (is_strong theory p && is_initiating p entry)) ≡ would_change theory p Break entry.kind entry.head
unfolding is_terminating is_initiating is_clashing
would-Break theory p entry = by_kind entry.kind refl
  where
    by_kind : (kind : Kind) → entry.kind ≡ kind →
        ((is_terminating p entry || is_clashing theory p entry) || (is_strong theory p && is_initiating p entry)) ≡ would_change theory p Break kind entry.head
    by_kind Initiates is = rw (is, term_eq-refl entry.head) refl
    by_kind Terminates is = rw is (drop_rest (term_eq entry.head p) (is_strong theory p))
      where
        drop_rest : (x y : Bool) → ((x || false) || (y && false)) ≡ x
        drop_rest x y = grind arith

-- a change is that some entry of an event there would make it and is active
changes_at-some : (theory : Theory) (events : List PlainEvent) (p : Ground) (change : Change) (t : ℤ) →
    changes_at theory events p change t ≡ some_effect theory events (is_current theory events) t (λ entry. would_change theory p change entry.kind entry.head)
unfolding has_break
changes_at-some theory events p Initiation t =
    has_effect-some theory events (is_current theory events) (is_initiating p) t
    ∙ some_effect-same theory events (is_current theory events) t _ _ (would-Initiation theory p)
changes_at-some theory events p Termination t =
    has_effect-some theory events (is_current theory events) (is_terminating p) t
    ∙ some_effect-same theory events (is_current theory events) t _ _ (would-Termination theory p)
changes_at-some theory events p Break t =
    let c : Currency = is_current theory events in
    ap₂ (λ x y. x || y)
    (ap₂ (λ x y. x || y) (has_effect-some theory events c (is_terminating p) t) (has_effect-some theory events c (is_clashing theory p) t)
    ∙ some_effect-or theory events c t (is_terminating p) (is_clashing theory p))
    (ap (λ x. is_strong theory p && x) (has_effect-some theory events c (is_initiating p) t)
    ∙ some_effect-and theory events c t (is_strong theory p) (is_initiating p))
    ∙ some_effect-or theory events c t (λ entry. is_terminating p entry || is_clashing theory p entry) (λ entry. is_strong theory p && is_initiating p entry)
    ∙ some_effect-same theory events c t _ _ (would-Break theory p)

-- ---- rule by rule

-- an event meets a rule, and the entry makes the change
changing_by : Theory → List PlainEvent → Ground → Change → ℤ → Ground → Rule → Values → Bool
changing_by theory events p change t event rule values =
    (fits_some rule.event event && list_all (test_holds values) rule.tests)
    && (would_change theory p change rule.kind (filled values rule.head)
    && list_all (agrees (is_current theory events) t) (map (ground_literal_of values) rule.literals))

-- what a rule does under whatever number
option_entry-changing : (theory : Theory) (events : List PlainEvent) (p : Ground) (change : Change) (t : ℤ) (event : Ground) (rule : Rule) (n : ℕ) →
    option_map_or (does_change theory events p change t) (entry_of n rule event) false ≡ changing_by theory events p change t event rule (binding_of rule.event event)
unfolding entry_of changing_by meets
option_entry-changing theory events p change t event rule n =
    elim (cases_Bool (fits_some rule.event event && list_all (test_holds (binding_of rule.event event)) rule.tests)) [
      | inl meeting ↦ rw meeting refl
      | inr other ↦ rw other refl
    ]

-- a test of the entries is a test of the rules
list_any-entries_from : (theory : Theory) (events : List PlainEvent) (p : Ground) (change : Change) (t : ℤ) (event : Ground) (n : ℕ) (rules : List Rule) →
    list_any (does_change theory events p change t) (entries_from n rules event) ≡ list_any (does_change_by theory events p change t event) rules
unfolding entries_from
list_any-entries_from theory events p change t event n [] = refl
list_any-entries_from theory events p change t event n (rule ∷ rules) =
    list_any-cons_option (does_change theory events p change t) (entry_of n rule event) (entries_from (n + 1) rules event)
    ∙ ap₂ (λ x y. x || y)
    (option_entry-changing theory events p change t event rule n ∙ sym (option_entry-changing theory events p change t event rule 0))
    (list_any-entries_from theory events p change t event (n + 1) rules)
  where
    list_any-cons_option : {A : Type 0} (f : A → Bool) (o : Option A) (xs : List A) → list_any f (cons_option o xs) ≡ (option_map_or f o false || list_any f xs)
    list_any-cons_option f None xs = refl
    list_any-cons_option f (Some x) xs = refl

-- a change at t is that some event there makes it by some rule
pub changes_at-events : (theory : Theory) (events : List PlainEvent) (p : Ground) (change : Change) (t : ℤ) →
    list_any (λ (e : PlainEvent). list_any (does_change_by theory events p change t e.term) theory.rules) (events_at t events) ≡ changes_at theory events p change t
unfolding some_effect
changes_at-events theory events p change t =
    list_any-same _ _ (λ e. sym (list_any-entries_from theory events p change t e.term 1 theory.rules)) (events_at t events)
    ∙ sym (changes_at-some theory events p change t)

-- ---- one rule

-- the event does not fit the rule
pub does_change_by-no_fit : (theory : Theory) (events : List PlainEvent) (p : Ground) (change : Change) (t : ℤ) (event : Ground) (rule : Rule) →
    fits_some rule.event event ≡ false → does_change_by theory events p change t event rule ≡ false
unfolding changing_by
does_change_by-no_fit theory events p change t event rule none =
    option_entry-changing theory events p change t event rule 0
    ∙ ap (λ fit. (fit && list_all (test_holds (binding_of rule.event event)) rule.tests)
    && (would_change theory p change rule.kind (filled (binding_of rule.event event) rule.head)
    && list_all (agrees (is_current theory events) t) (map (ground_literal_of (binding_of rule.event event)) rule.literals))) none

-- The event fits the rule under a binding, and the three tests that are left decide.
pub does_change_by-fit : (theory : Theory) (events : List PlainEvent) (p : Ground) (change : Change) (t : ℤ) (event : Ground) (rule : Rule) (values : Values) →
    values ≡ binding_of rule.event event → fits_some rule.event event ≡ true →
    does_change_by theory events p change t event rule
    ≡ (list_all (test_holds values) rule.tests
    && (would_change theory p change rule.kind (filled values rule.head) && list_all (agrees (is_current theory events) t) (map (ground_literal_of values) rule.literals)))
unfolding changing_by
does_change_by-fit theory events p change t event rule values same fit =
    option_entry-changing theory events p change t event rule 0
    ∙ ap (changing_by theory events p change t event rule) (sym same)
    ∙ ap (λ fit. (fit && list_all (test_holds values) rule.tests)
    && (would_change theory p change rule.kind (filled values rule.head)
    && list_all (agrees (is_current theory events) t) (map (ground_literal_of values) rule.literals))) fit

-- ---- the answers of a program that asks one after another

module _ {E : Type 0} (f : E → PlainEvent) (items : List E) (theory : Theory) (events : List PlainEvent) (p : Ground) (change : Change) (t : ℤ)
    (i : ℕ) (item : E) (term : Ground) (asked : Bool) where
  -- the event at i makes the change
  pub change_found : map f items ≡ events_at t events → i < length items → item ≡ get_or items i item → term ≡ (f item).term →
      asked ≡ list_any (does_change_by theory events p change t term) theory.rules → asked ≡ true → true ≡ changes_at theory events p change t
  change_found all within there same says is =
      let test : PlainEvent → Bool = λ e. list_any (does_change_by theory events p change t e.term) theory.rules in
      let inside : i < length (map f items) = omega (arith, length-map items f) in
      let at : get_or (map f items) i (f item) ≡ f item = get_or-map f items i item ∙ ap f (sym there) in
      let made : test (get_or (map f items) i (f item)) ≡ true =
      ap test at ∙ ap (λ x. list_any (does_change_by theory events p change t x) theory.rules) (sym same) ∙ sym says ∙ is in
      sym (list_any_at test (map f items) i (f item) inside made) ∙ ap (list_any test) all ∙ changes_at-events theory events p change t

  -- it does not, and neither did those before it
  pub change_not_yet : i < length items → item ≡ get_or items i item → term ≡ (f item).term →
      asked ≡ list_any (does_change_by theory events p change t term) theory.rules → asked ≡ false →
      list_any (λ (e : PlainEvent). list_any (does_change_by theory events p change t e.term) theory.rules) (take i (map f items)) ≡ false →
      list_any (λ (e : PlainEvent). list_any (does_change_by theory events p change t e.term) theory.rules) (take (i + 1) (map f items)) ≡ false
  change_not_yet within there same says is so_far =
      let test : PlainEvent → Bool = λ e. list_any (does_change_by theory events p change t e.term) theory.rules in
      let inside : i < length (map f items) = omega (arith, length-map items f) in
      let at : get_or (map f items) i (f item) ≡ f item = get_or-map f items i item ∙ ap f (sym there) in
      let no : test (get_or (map f items) i (f item)) ≡ false =
      ap test at ∙ ap (λ x. list_any (does_change_by theory events p change t x) theory.rules) (sym same) ∙ sym says ∙ is in
      list_any_more test (map f items) i (f item) inside ∙ or_from _ _ so_far no

-- none makes the change
pub change_absent : {E : Type 0} (f : E → PlainEvent) (items : List E) (theory : Theory) (events : List PlainEvent) (p : Ground) (change : Change) (t : ℤ) (i : ℕ) →
    map f items ≡ events_at t events → length items ≤ i →
    list_any (λ (e : PlainEvent). list_any (does_change_by theory events p change t e.term) theory.rules) (take i (map f items)) ≡ false →
    false ≡ changes_at theory events p change t
change_absent f items theory events p change t i all past none =
    let test : PlainEvent → Bool = λ e. list_any (does_change_by theory events p change t e.term) theory.rules in
    let whole : take i (map f items) ≡ map f items = take_all i (map f items) (omega (arith, length-map items f)) in
    sym none ∙ ap (list_any test) (whole ∙ all) ∙ changes_at-events theory events p change t

-- of rules asked in turn one passes
pub rule_found : {X : Type 0} (p : X → Bool) (items rules : List X) (i : ℕ) (item : X) (answer : Bool) → items ≡ rules → i < length items →
    item ≡ get_or items i item → answer ≡ p item → answer ≡ true → true ≡ list_any p rules
rule_found p items rules i item answer same within there says is =
    let inside : i < length rules = omega (arith, ap length same) in
    let at : get_or rules i item ≡ item = ap (λ xs. get_or xs i item) (sym same) ∙ sym there in
    sym (list_any_at p rules i item inside (ap p at ∙ sym says ∙ is))

-- it does not pass, and neither did those before it
pub rule_not_yet : {X : Type 0} (p : X → Bool) (items rules : List X) (i : ℕ) (item : X) (answer : Bool) → items ≡ rules → i < length items →
    item ≡ get_or items i item → answer ≡ p item → answer ≡ false → list_any p (take i rules) ≡ false → list_any p (take (i + 1) rules) ≡ false
rule_not_yet p items rules i item answer same within there says is so_far =
    let inside : i < length rules = omega (arith, ap length same) in
    let at : get_or rules i item ≡ item = ap (λ xs. get_or xs i item) (sym same) ∙ sym there in
    list_any_more p rules i item inside ∙ or_from _ _ so_far (ap p at ∙ sym says ∙ is)

-- a rule is asked whether its tests hold, whether it would make the change, and whether its literals agree
pub does_change_by-no_tests : (theory : Theory) (events : List PlainEvent) (p : Ground) (change : Change) (t : ℤ) (event : Ground) (rule : Rule) (values : Values) →
    values ≡ binding_of rule.event event → fits_some rule.event event ≡ true → list_all (test_holds values) rule.tests ≡ false →
    false ≡ does_change_by theory events p change t event rule
does_change_by-no_tests theory events p change t event rule values same fit none =
    sym
    (does_change_by-fit theory events p change t event rule values same fit
    ∙ ap
    (λ b. b
    && (would_change theory p change rule.kind (filled values rule.head) && list_all (agrees (is_current theory events) t) (map (ground_literal_of values) rule.literals)))
    none)

pub would_not : (does tests would agree asked asked_would : Bool) → does ≡ (tests && (would && agree)) → asked ≡ tests → asked ≡ true →
    asked_would ≡ would → asked_would ≡ false → asked_would ≡ does
would_not does tests would agree asked asked_would is a b c d = grind arith

pub would_do : (does tests would agree asked asked_would asked_agree : Bool) → does ≡ (tests && (would && agree)) → asked ≡ tests → asked ≡ true →
    asked_would ≡ would → asked_would ≡ true → asked_agree ≡ agree → asked_agree ≡ does
would_do does tests would agree asked asked_would asked_agree is a b c d e = grind arith

-- terms whose names are names, by both words
pub is_argument-from_names : (g : Ground) → IsTrue (names_are_names g) → IsTrue (names_are_names g)
unfolding names_are_names is_argument
is_argument-from_names g names = let parts = and_parts _ _ names in and_from _ _ parts.0 (each g.args parts.1)
  where
    one : (a : Arg) → is_argument a ≡ is_argument a
    one (Int z) = refl
    one (Word w) = refl

    each : (args : List Arg) → list_all is_argument args ≡ true → list_all is_argument args ≡ true
    each [] all = refl
    each (a ∷ args) all = let parts = and_parts _ _ all in and_from _ _ (sym (one a) ∙ parts.0) (each args parts.1)

-- one literal
pub agrees-asked : (current : Currency) (t : ℤ) (values : Values) (literal : Literal) (prop : Ground) (asked : Bool) → asked ≡ current prop t →
    prop ≡ filled values literal.prop → beq asked literal.positive ≡ agrees current t (ground_literal_of values literal)
unfolding agrees
agrees-asked current t values literal prop asked says same =
    ap (λ b. beq b literal.positive) (says ∙ ap (λ q. current q t) same)

module _ (p : GroundLiteral → Bool) (h : Literal → GroundLiteral) (items literals : List Literal) (i : ℕ) (item : Literal) (answer : Bool) where
  -- the literal at i fails
  pub literal_fails : items ≡ literals → i < length items → item ≡ get_or items i item → answer ≡ p (h item) → not answer ≡ true → false ≡ list_all p (map h literals)
  literal_fails same within there is fails =
      let inside : i < length literals = omega (arith, ap length same) in
      let at : get_or literals i item ≡ item = ap (λ xs. get_or xs i item) (sym same) ∙ sym there in
      let no : p (h (get_or literals i item)) ≡ false = ap (λ x. p (h x)) at ∙ sym is ∙ not-true _ fails in
      sym (list_all_at (λ x. p (h x)) literals i item inside no) ∙ sym (list_all-map p h literals)

  -- it passes, and so did those before it
  pub literal_passes : items ≡ literals → i < length items → item ≡ get_or items i item → answer ≡ p (h item) → not answer ≡ false →
      list_all (λ x. p (h x)) (take i literals) ≡ true → list_all (λ x. p (h x)) (take (i + 1) literals) ≡ true
  literal_passes same within there is passes so_far =
      let inside : i < length literals = omega (arith, ap length same) in
      let at : get_or literals i item ≡ item = ap (λ xs. get_or xs i item) (sym same) ∙ sym there in
      let holds : p (h (get_or literals i item)) ≡ true = ap (λ x. p (h x)) at ∙ sym is ∙ not-false _ passes in
      list_all_more (λ x. p (h x)) literals i item inside ∙ and_from _ _ so_far holds

-- all literals pass
pub literals_pass : (p : GroundLiteral → Bool) (h : Literal → GroundLiteral) (items literals : List Literal) (i : ℕ) → items ≡ literals → length items ≤ i →
    list_all (λ x. p (h x)) (take i literals) ≡ true → true ≡ list_all p (map h literals)
literals_pass p h items literals i same past passed =
    let whole : take i literals ≡ literals = take_all i literals (omega (arith, ap length same)) in
    sym passed ∙ ap (list_all (λ x. p (h x))) whole ∙ sym (list_all-map p h literals)
