-- Numbers that stand for terms: none, those of either of two tests, and in a table that keeps more.
use Rattle.std.proofs.Common.{◌≡◌, ℕ, Bool, true, false, ◌&&◌, ◌||◌, List, Option, Some, None, is_some, refl, sym, ap, ap₂, subst, ◌∙◌, ⊎_elim}
use Rattle.std.specs.Prelude.{◌==◌, option_map}
use Rattle.std.proofs.lemmas.Bool.{eq-eqb, eqb-true, false≢true, false_from_ne_true, or_cases}
use Rattle.std.proofs.lemmas.Option.{same_Some}
use Rattle.ec_lists.proofs.Booleans.{Bool-from_both}
use Rattle.ec_lists.proofs.Options.{is_some-option_map, Some-from_is_some}
use Rattle.ec_terms.specs.declared.ground.Ground.{Ground}
use Rattle.ec_terms.specs.declared.theory.Theory.{Theory}
use Rattle.ec_terms.specs.Term.{term_eq}
use Rattle.ec_terms.proofs.DomainLemmas.{term_eq-refl}
use Rattle.ec_terms.proofs.OrderLemmas.{term_eq-Decides}
use Rattle.ec_store.specs.Table.{KeptProp, is_in_order, prop_at, term_at}
use Rattle.ec_store.proofs.PropLemmas.{place-prop_at, prop_at-id, same-places}
use Rattle.ec_context.specs.Widened.{KeepsAll}
use Rattle.ec_context.proofs.Shown.{term_at-kept}
use Rattle.ec_exclusive.specs.CurrentProps.{HasForms, MemberForms}
use Rattle.ec_exclusive.specs.Forms.{form_of}
use Rattle.ec_pass.specs.Numbers.{AreNumbersOf}

-- ---- a number and its term

-- no term stands under two numbers
pub same_number : (table : List KeptProp) (m n : ℕ) (q : Ground) → is_in_order table ≡ true → term_at m table ≡ Some q → term_at n table ≡ Some q → m ≡ n
same_number table m n q order first second = of (prop_at m table) (prop_at n table) refl refl first second
  where
    of : (a b : Option KeptProp) → prop_at m table ≡ a → prop_at n table ≡ b → option_map (λ (k : KeptProp). k.term) a ≡ Some q
        → option_map (λ (k : KeptProp). k.term) b ≡ Some q → m ≡ n
    of None b at_m at_n is too = cc
    of (Some k) None at_m at_n is too = cc
    of (Some k) (Some l) at_m at_n is too =
        let first_place = place-prop_at m table k at_m in
        let second_place = place-prop_at n table l at_n in
        let terms : k.term ≡ l.term = same_Some k.term q is ∙ sym (same_Some l.term q too) in
        sym (prop_at-id m table k at_m)
        ∙ ap (λ (j : KeptProp). j.id) (same-places table first_place.0 second_place.0 k l order first_place.1 second_place.1 terms)
        ∙ prop_at-id n table l at_n

-- numbers are the same where their terms are
pub number-term : (table : List KeptProp) (m n : ℕ) (p q : Ground) → is_in_order table ≡ true → term_at m table ≡ Some p → term_at n table ≡ Some q → (m == n) ≡ term_eq p q
number-term table m n p q order first second =
    Bool-from_both (m == n) (term_eq p q)
    (λ same. let terms : p ≡ q = same_Some p q (sym first ∙ ap (λ k. term_at k table) (eqb-true m n same) ∙ second) in
    subst (λ t. term_eq p t ≡ true) terms (term_eq-refl p))
    (λ same. eq-eqb m n (same_number table m n p order first (second ∙ ap Some (sym ((term_eq-Decides p q).0 same)))))

-- what has a term is kept
pub is_some-term : (n : ℕ) (table : List KeptProp) → is_some (term_at n table) ≡ is_some (prop_at n table)
is_some-term n table = is_some-option_map (λ (k : KeptProp). k.term) (prop_at n table)

-- ---- tests

module _ {table : List KeptProp} where
  -- tests that say the same
  pub AreNumbersOf-same : {f k : ℕ → Bool} {g h : Ground → Bool} → ((n : ℕ) → k n ≡ f n) → ((q : Ground) → h q ≡ g q) → AreNumbersOf table f g → AreNumbersOf table k h
  AreNumbersOf-same by_number by_term are = record {
    same = λ n q there. by_number n ∙ are.same n q there ∙ sym (by_term q);
    numbers = λ n passes. are.numbers n (sym (by_number n) ∙ passes);
    terms = λ q passes. are.terms q (sym (by_term q) ∙ passes);
  }

  -- no number, and no term
  pub AreNumbersOf-none : AreNumbersOf table (λ n. false) (λ q. false)
  AreNumbersOf-none = record {
    same = λ n q there. refl;
    numbers = λ n passes. absurd (false≢true passes);
    terms = λ q passes. absurd (false≢true passes);
  }

  -- what passes either of two tests
  pub AreNumbersOf-or : {f k : ℕ → Bool} {g h : Ground → Bool} → AreNumbersOf table f g → AreNumbersOf table k h → AreNumbersOf table (λ n. f n || k n) (λ q. g q || h q)
  AreNumbersOf-or {f} {k} {g} {h} first second = record {
    same = λ n q there. ap₂ (λ a b. a || b) (first.same n q there) (second.same n q there);
    numbers = λ n passes. ⊎_elim (first.numbers n) (second.numbers n) (or_cases (f n) (k n) passes);
    terms = λ q passes. ⊎_elim (first.terms q) (second.terms q) (or_cases (g q) (h q) passes);
  }

  -- one number with its term, if it is wanted
  pub AreNumbersOf-one : (wanted : Bool) (m : ℕ) (p : Ground) → is_in_order table ≡ true → term_at m table ≡ Some p
      → AreNumbersOf table (λ n. wanted && (m == n)) (λ q. wanted && term_eq p q)
  AreNumbersOf-one false m p order kept = AreNumbersOf-none
  AreNumbersOf-one true m p order kept = record {
    same = λ n q there. number-term table m n p q order kept there;
    numbers = λ n passes. ap (λ k. is_some (term_at k table)) (sym (eqb-true m n passes)) ∙ ap is_some kept;
    terms = λ q passes. (m, kept ∙ ap Some ((term_eq-Decides p q).0 passes));
  }

-- ---- a table that keeps more

module _ (before after : List KeptProp) (kept : KeepsAll before after) where
  pub AreNumbersOf-widened : {f : ℕ → Bool} {g : Ground → Bool} → is_in_order after ≡ true → AreNumbersOf before f g → AreNumbersOf after f g
  AreNumbersOf-widened {f} {g} order are = record {
    same = λ n q there. of n q there (term_at n before) refl;
    numbers = λ n passes. let some = Some-from_is_some (term_at n before) (are.numbers n passes) in ap is_some (term_at-kept before after kept n some.0 some.1);
    terms = λ q passes. let old = are.terms q passes in (old.0, term_at-kept before after kept old.0 q old.1);
  }
    where
      of : (n : ℕ) (q : Ground) → term_at n after ≡ Some q → (o : Option Ground) → term_at n before ≡ o → f n ≡ g q
      of n q there (Some p) is = are.same n q (is ∙ sym (term_at-kept before after kept n p is) ∙ there)
      of n q there None is =
          false_from_ne_true (f n) (λ yes. false≢true (sym (ap is_some is) ∙ are.numbers n yes))
          ∙ sym (false_from_ne_true (g q)
          (λ yes. let old = are.terms q yes in
          let same = same_number after old.0 n q order (term_at-kept before after kept old.0 q old.1) there in
          false≢true (sym (ap is_some is) ∙ ap (λ m. is_some (term_at m before)) (sym same) ∙ ap is_some old.1)))

  pub HasForms-widened : (theory : Theory) (set : MemberForms) → HasForms theory before set → HasForms theory after set
  HasForms-widened theory set has p there =
      let some = Some-from_is_some (term_at p.0 before) (sym (is_some-option_map (form_of theory) (term_at p.0 before)) ∙ ap is_some (sym (has p there)) ∙ there) in
      has p there ∙ ap (option_map (form_of theory)) (some.1 ∙ sym (term_at-kept before after kept p.0 some.0 some.1))
