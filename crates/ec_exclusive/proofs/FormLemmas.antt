-- The forms of added properties, when one is read and when a property comes or goes.
use Rattle.std.proofs.Common.{◌≡◌, ◌≢◌, ℕ, Bool, true, false, not, ◌&&◌, ◌||◌, List, [], ◌∷◌, map, length, Vec, Option, Some, None, refl, sym, ap, ap₂, subst, ◌∙◌, ⊎_elim, arith}
use Rattle.std.specs.Prelude.{◌==◌, option_map}
use Rattle.std.proofs.Math.Path.{fun_ext}
use Rattle.std.proofs.lemmas.Bool.{cases_Bool, false≢true}
use Rattle.ec_lists.proofs.Booleans.{and-left, and-right}
use Rattle.ec_terms.specs.declared.ids.PropId.{PropId}
use Rattle.ec_terms.specs.declared.ground.Ground.{Ground}
use Rattle.ec_terms.specs.declared.theory.Theory.{Theory}
use Rattle.ec_terms.specs.Domain.{is_strong}
use Rattle.ec_store.specs.Table.{KeptProp, term_at}
use Rattle.ec_numbered.specs.ByNumber.{kept_at}
use Rattle.ec_numbered.specs.PropSet.{has_number, with_number, without_number}
use Rattle.ec_numbered.proofs.Numbers.{same_prop, itself, has_number-filter, has_number-with_number}
use Rattle.ec_exclusive.specs.declared.forms.Form.{Form}
use Rattle.ec_exclusive.specs.Forms.{TermForm, breaks_by_initiation, has_form, form_of, forms_of, form_in, form_kept, has_key, texts_of}
use Rattle.ec_exclusive.proofs.KeyLemmas.{has_form-keys}
use Rattle.ec_exclusive.specs.Neighbours.{form_at}

-- ---- functions of the members of a list

module _ {Y : Type 0} where
  -- what gives the same for each member gives the same list
  map-on_members : (f g : PropId → Y) (ps : List PropId) → ((q : PropId) → has_number q.0 ps ≡ true → f q ≡ g q) → map f ps ≡ map g ps
  map-on_members f g [] same = refl
  map-on_members f g (p ∷ ps) same =
      ap₂ (λ y ys. y ∷ ys) (same p (first (itself p)))
      (map-on_members f g ps (λ q there. same q (further (p.0 == q.0) there)))
    where
      first : (p.0 == p.0) ≡ true → ((p.0 == p.0) || has_number p.0 ps) ≡ true
      first e = rw e refl

      further : (b : Bool) {n : Bool} → n ≡ true → (b || n) ≡ true
      further true is = refl
      further false is = is

  -- and the other way
  members-on_map : (f g : PropId → Y) (ps : List PropId) → map f ps ≡ map g ps → (q : PropId) → has_number q.0 ps ≡ true → f q ≡ g q
  members-on_map f g [] same q there = absurd (false≢true there)
  members-on_map f g (p ∷ ps) same q there =
      ⊎_elim (λ e. let here : f p ≡ g p = cc in subst (λ r. f r ≡ g r) (same_prop p q e) here)
      (λ e. let rest : map f ps ≡ map g ps = cc in
      let further : has_number q.0 ps ≡ true = rw e at there in
      members-on_map f g ps rest q further)
      (cases_Bool (p.0 == q.0))

-- ---- forms

-- forms that are kept alike are the same
pub forms_of-same : (forms other : List (Option Form)) (ps : List PropId) → ((n : ℕ) → kept_at n other ≡ kept_at n forms) → forms_of other ps ≡ forms_of forms ps
forms_of-same forms other ps same = ap (λ (f : PropId → Option TermForm). map f ps) (fun_ext (λ p. ap (option_map form_in) (same p.0)))

module _ (test : PropId → Option TermForm) (forms : List (Option Form)) (ps : List PropId) (are : forms_of forms ps ≡ map test ps) where
  -- the form of a member
  pub form-read : (q : PropId) → has_number q.0 ps ≡ true → form_kept q.0 forms ≡ test q
  form-read = members-on_map (λ q. form_kept q.0 forms) test ps are

  -- a property more
  pub forms-with : (p : PropId) (new : List (Option Form)) → form_kept p.0 new ≡ test p → ((n : ℕ) → n ≢ p.0 → kept_at n new ≡ kept_at n forms) →
      forms_of new (with_number p ps) ≡ map test (with_number p ps)
  forms-with p new own others =
      map-on_members (λ q. form_kept q.0 new) test (with_number p ps)
      (λ q there. ⊎_elim (λ e. subst (λ r. form_kept r.0 new ≡ test r) (same_prop p q e) own)
      (λ e. ap (option_map form_in) (others q.0 (λ is. apart q e is)) ∙ form-read q (further q e (sym (has_number-with_number q p ps) ∙ there)))
      (cases_Bool (p.0 == q.0)))
    where
      apart : (q : PropId) → (p.0 == q.0) ≡ false → q.0 ≢ p.0
      apart q e is = let yes : (p.0 == q.0) ≡ true = grind arith in false≢true (sym e ∙ yes)

      further : (q : PropId) → (p.0 == q.0) ≡ false → ((p.0 == q.0) || has_number q.0 ps) ≡ true → has_number q.0 ps ≡ true
      further q e is = rw e at is

  -- a property less
  pub forms-without : (p : PropId) (new : List (Option Form)) → ((n : ℕ) → n ≢ p.0 → kept_at n new ≡ kept_at n forms) →
      forms_of new (without_number p ps) ≡ map test (without_number p ps)
  forms-without p new others =
      map-on_members (λ q. form_kept q.0 new) test (without_number p ps)
      (λ q there. let both : (not (q.0 == p.0) && has_number q.0 ps) ≡ true = sym (has_number-filter q (λ (s : PropId). not (s.0 == p.0)) ps) ∙ there in
      ap (option_map form_in) (others q.0 (λ is. apart q (and-left _ _ both) is)) ∙ form-read q (and-right _ _ both))
    where
      apart : (q : PropId) → not (q.0 == p.0) ≡ true → q.0 ≢ p.0
      apart q e is = let yes : (q.0 == p.0) ≡ true = grind arith in let no : not true ≡ true = rw yes at e in false≢true no

-- ---- what is read off a form

module _ (theory : Theory) (table : List KeptProp) (p : PropId) where
  fits-form : (o : Option Ground) (form : TermForm) → option_map (form_of theory) o ≡ Some form → option_map (has_form theory) o ≡ Some (has_key form.keys)
  fits-form None form is = cc
  fits-form (Some term) form is =
      let same : form_of theory term ≡ form = cc in ap Some (has_form-keys theory term) ∙ ap (λ (f : TermForm). Some (has_key f.keys)) same

  strong-form : (o : Option Ground) (form : TermForm) → option_map (form_of theory) o ≡ Some form → option_map (is_strong theory) o ≡ Some form.strong
  strong-form None form is = cc
  strong-form (Some term) form is = let same : form_of theory term ≡ form = cc in ap (λ (f : TermForm). Some f.strong) same

  has_key-texts : {Z : Type 0} (keys : List (Vec ℕ Z)) → has_key (texts_of keys) ≡ not (length keys == 0)
  has_key-texts [] = refl
  has_key-texts (key ∷ keys) = let no : (length (key ∷ keys) == 0) ≡ false = grind arith in sym (ap not no)

  pub has_form-read : (form : Form) → form_at theory table p ≡ Some (form_in form) → option_map (has_form theory) (term_at p.0 table) ≡ Some (not (length form.keys.items == 0))
  has_form-read form is = fits-form (term_at p.0 table) (form_in form) is ∙ ap Some (has_key-texts form.keys.items)

  pub is_strong-read : (form : Form) → form_at theory table p ≡ Some (form_in form) → option_map (is_strong theory) (term_at p.0 table) ≡ Some form.strong
  is_strong-read form is = strong-form (term_at p.0 table) (form_in form) is

  -- what both say together
  either : (o : Option Ground) (strong fits : Bool) → option_map (has_form theory) o ≡ Some fits → option_map (is_strong theory) o ≡ Some strong
      → option_map (breaks_by_initiation theory) o ≡ Some (strong || fits)
  either None strong fits fit is = cc
  either (Some term) strong fits fit is =
      let one : has_form theory term ≡ fits = cc in
      let other : is_strong theory term ≡ strong = cc in
      ap Some (ap₂ (λ a b. a || b) one other ∙ turned fits strong)
    where
      turned : (a b : Bool) → (a || b) ≡ (b || a)
      turned a b = grind arith

  pub breaks_by_initiation-read : (form : Form) → form_at theory table p ≡ Some (form_in form)
      → option_map (breaks_by_initiation theory) (term_at p.0 table) ≡ Some (form.strong || not (length form.keys.items == 0))
  breaks_by_initiation-read form is = either (term_at p.0 table) form.strong (not (length form.keys.items == 0)) (has_form-read form is) (is_strong-read form is)

  pub form_at-term : (term : Ground) → term_at p.0 table ≡ Some term → form_at theory table p ≡ Some (form_of theory term)
  form_at-term term is = ap (option_map (form_of theory)) is
