-- A set of properties by their numbers, with the form of each member's term.
use Rattle.std.specs.Prelude.{◌≡◌, ℕ, Bool, is_some, List, map, Option, option_map, IsTrue}
use Rattle.ec_terms.specs.declared.ids.PropId.{PropId}
use Rattle.ec_terms.specs.declared.theory.Theory.{Theory}
use Rattle.ec_store.specs.Table.{KeptProp}
use Rattle.ec_numbered.specs.ByNumber.{kept_at}
use Rattle.ec_exclusive.specs.declared.forms.Form.{Form}
use Rattle.ec_exclusive.specs.Forms.{TermForm, form_in, form_kept, stands_under}
use Rattle.ec_exclusive.specs.Groups.{Grouped, in_group}
use Rattle.ec_exclusive.specs.Neighbours.{form_at}

-- the forms of the members, by number; there is none for what is no member
abbrev pub MemberForms : Type 0
MemberForms = List (Option TermForm)

-- a number is that of a member
abbrev pub is_in : ℕ → MemberForms → Bool
is_in n set = is_some (kept_at n set)

-- each member's form is that of the term that the table keeps under its number
abbrev pub HasForms : Theory → List KeptProp → MemberForms → Type 0
HasForms theory table set = (p : PropId) → IsTrue (is_in p.0 set) → kept_at p.0 set ≡ form_at theory table p

-- the forms that are kept by number
abbrev pub forms_in : List (Option Form) → MemberForms
forms_in forms = map (option_map form_in) forms

-- each member stands in the groups of the keys of its form, and in no other
abbrev pub AreGrouped : List (Option Form) → List Grouped → Type 0
AreGrouped forms groups = (key : List ℕ) (n : ℕ) → in_group groups key n ≡ stands_under key (form_kept n forms)
