-- The form of a term under a theory: the groups in which it stands, and whether it is strong.
use Rattle.std.specs.Prelude.{ℕ, Bool, true, false, ◌||◌, List, [], ◌∷◌, map, Option, None, Some, option_map, Vec}
use Rattle.std.specs.List.{list_any}
use Rattle.ec_terms.specs.declared.ids.PropId.{PropId}
use Rattle.ec_terms.specs.declared.ground.Ground.{Ground}
use Rattle.ec_terms.specs.declared.theory.Exclusive.{Exclusive}
use Rattle.ec_terms.specs.declared.theory.Theory.{Theory}
use Rattle.ec_terms.specs.Domain.{is_strong}
use Rattle.ec_terms.specs.Matching.{fits_some}
use Rattle.ec_numbered.specs.ByNumber.{kept_at}
use Rattle.ec_exclusive.specs.declared.forms.Form.{Form}
use Rattle.ec_exclusive.specs.Keys.{own_keys, is_key}

-- one side of a declaration, or both, fit the term
abbrev pub fits_side : Ground → Exclusive → Bool
fits_side term d = fits_some d.left term || fits_some d.right term

-- some side of some declaration fits the term
abbrev pub has_form : Theory → Ground → Bool
has_form theory term = list_any (fits_side term) theory.exclusives

-- an initiation may break the term: one of a term that excludes it, as some side of some declaration fits it, or its own, as it is strong
abbrev pub breaks_by_initiation : Theory → Ground → Bool
breaks_by_initiation theory term = has_form theory term || is_strong theory term

-- what a theory says of a term by itself: the keys of the groups in which it stands, and whether it is strong
pub record TermForm : Type 0 where
  pub keys : List (List ℕ)
  pub strong : Bool

-- the form of a term
abbrev pub form_of : Theory → Ground → TermForm
form_of theory term = record { keys = own_keys theory.exclusives term; strong = is_strong theory term }

-- there is a key
abbrev pub has_key : List (List ℕ) → Bool
has_key [] = false
has_key (key ∷ keys) = true

-- a term of this form, if there is one, stands in the group of a key
abbrev pub stands_under : List ℕ → Option TermForm → Bool
stands_under key None = false
stands_under key (Some form) = is_key form.keys key

-- the bytes of texts
abbrev pub texts_of : {Z : Type 0} → List (Vec ℕ Z) → List (List ℕ)
texts_of texts = map (λ text. text.items) texts

-- a form that is kept
abbrev pub form_in : Form → TermForm
form_in form = record { keys = texts_of form.keys.items; strong = form.strong }

-- the form that is kept under a number
abbrev pub form_kept : ℕ → List (Option Form) → Option TermForm
form_kept n forms = option_map form_in (kept_at n forms)

-- the forms of properties, of which the forms are kept by number
abbrev pub forms_of : List (Option Form) → List PropId → List (Option TermForm)
forms_of forms props = map (λ p. form_kept p.0 forms) props
