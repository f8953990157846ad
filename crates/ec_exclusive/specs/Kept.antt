-- Rows that are kept by number: the neighbours in them, and when one takes a number more.
use Rattle.std.specs.Prelude.{◌≡◌, ℕ, is_some, ◌≤◌, ◌==◌, List, map, Option, Some, None, if◌then◌else◌, option_map}
use Rattle.ec_terms.specs.declared.ids.PropId.{PropId}
use Rattle.ec_numbered.specs.ByNumber.{kept_at}
use Rattle.ec_numbered.specs.PropSet.{has_number, with_number, without_number}
use Rattle.ec_exclusive.specs.declared.forms.Form.{Form}
use Rattle.ec_exclusive.specs.declared.rows.Row.{Row}
use Rattle.ec_exclusive.specs.Added.{AreMutual, added_of, added_props}
use Rattle.ec_exclusive.specs.Forms.{forms_of, form_kept, stands_under}
use Rattle.ec_exclusive.specs.Groups.{Grouped, in_group}
use Rattle.ec_exclusive.specs.Neighbours.{Neighbourhoods}

-- the neighbours in a row
abbrev pub numbers_in : Option Row → Option (List PropId)
numbers_in row = option_map (λ row. row.neighbours.items) row

-- the neighbours of a property, if it has a row
abbrev pub list_at : PropId → List (Option Row) → Option (List PropId)
list_at p rows = numbers_in (kept_at p.0 rows)

-- the neighbours in all rows, by number
abbrev pub lists_of : List (Option Row) → List (Option (List PropId))
lists_of rows = map numbers_in rows

-- what rows and forms that are kept by number show
abbrev pub view_of : List (Option Row) → List (Option Form) → Neighbourhoods
view_of rows forms = let added = added_of (lists_of rows) in record { rows = added; forms = forms_of forms (added_props added) }

-- there is a row, and its neighbours have room for one more
abbrev pub HasRoom : Option Row → Type 0
HasRoom None = ⊥
HasRoom (Some row) = 1 ≤ row.neighbours.spare

-- What is kept of added properties: the neighbours are mutual, each added property has a form, and it stands in the groups
-- of the keys of its form and in no other.
pub record AreKept (rows : List (Option Row)) (forms : List (Option Form)) (groups : List Grouped) : Type 0 where
  pub lists : AreMutual (added_of (lists_of rows))
  pub both : (q : PropId) → is_some (kept_at q.0 forms) ≡ is_some (list_at q rows)
  pub grouped : (key : List ℕ) (n : ℕ) → in_group groups key n ≡ stands_under key (form_kept n forms)

-- the neighbours of q once p is added with its own: p's own, with p among them if q stands in p's, and what they were
abbrev pub list_with : PropId → List PropId → PropId → Option (List PropId) → Option (List PropId)
list_with p own q list = if p.0 == q.0 then Some own else if has_number q.0 own then option_map (with_number p) list else list

-- the neighbours of q once p is gone with its own: none of p, without p if q stood in p's, and what they were
abbrev pub list_left : PropId → List PropId → PropId → Option (List PropId) → Option (List PropId)
list_left p own q list = if q.0 == p.0 then None else if has_number q.0 own then option_map (without_number p) list else list
