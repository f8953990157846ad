-- The neighbours of a theory and a table: which of the added properties are exclusive to which.
use Rattle.std.specs.Prelude.{◌≡◌, Bool, false, IsTrue, List, map, filter, Option, Some, None, IsSome, option_map}
use Rattle.std.specs.List.{All, list_any}
use Rattle.ec_terms.specs.declared.ids.PropId.{PropId}
use Rattle.ec_terms.specs.declared.ground.Ground.{Ground}
use Rattle.ec_terms.specs.declared.theory.Theory.{Theory}
use Rattle.ec_terms.specs.declared.pattern.Pattern.{Pattern}
use Rattle.ec_terms.specs.Binding.{Extends}
use Rattle.ec_terms.specs.Domain.{are_exclusive, excludes}
use Rattle.ec_terms.specs.Matching.{Values, fits}
use Rattle.ec_store.specs.Table.{KeptProp, prop_at, term_at}
use Rattle.ec_exclusive.specs.Added.{Added, added_props}
use Rattle.ec_exclusive.specs.Forms.{TermForm, form_of}

-- two terms are there, and they are exclusive
abbrev pub both_exclusive : Theory → Option Ground → Option Ground → Bool
both_exclusive theory None q = false
both_exclusive theory (Some p) None = false
both_exclusive theory (Some p) (Some q) = are_exclusive theory p q

-- the terms that a table keeps under two numbers are exclusive
abbrev pub exclusive_at : Theory → List KeptProp → PropId → PropId → Bool
exclusive_at theory table p q = both_exclusive theory (term_at p.0 table) (term_at q.0 table)

-- added properties with their neighbours, and the form of each, in the same order
pub record Neighbourhoods : Type 0 where
  pub rows : List Added
  pub forms : List (Option TermForm)

-- the form of the term that a table keeps under a number
abbrev pub form_at : Theory → List KeptProp → PropId → Option TermForm
form_at theory table p = option_map (form_of theory) (term_at p.0 table)

-- The neighbours of a theory and a table: each added property is kept in the table, its list is of those added
-- properties, in the order of their numbers, that are exclusive to it, and its form is that of its term.
pub record AreNeighbours (theory : Theory) (table : List KeptProp) (added : Neighbourhoods) : Type 0 where
  pub kept : All (λ (row : Added). IsSome (prop_at row.prop.0 table)) added.rows
  pub lists : All (λ (row : Added). row.neighbours ≡ filter (exclusive_at theory table row.prop) (added_props added.rows)) added.rows
  pub forms : added.forms ≡ map (form_at theory table) (added_props added.rows)

-- a second table keeps each added property under the same number and with the same term
abbrev pub KeepsTerms : List Added → List KeptProp → List KeptProp → Type 0
KeepsTerms rows table other = All (λ (row : Added). term_at row.prop.0 other ≡ term_at row.prop.0 table) rows

-- what the neighbours of one table are, they are of every table that keeps the added properties with the same terms
abbrev pub ReadTermsAlone : Theory → Type 0
ReadTermsAlone theory =
    (table other : List KeptProp) (added : Neighbourhoods) → KeepsTerms added.rows table other → AreNeighbours theory table added → AreNeighbours theory other added

-- ---- where the neighbours of a new property are looked for

-- a kept property is exclusive to a term
abbrev pub excludes_at : Theory → List KeptProp → Ground → PropId → Bool
excludes_at theory table term q = both_exclusive theory (Some term) (term_at q.0 table)

-- whatever a pattern fits under values that go on from these, some declaration speaks of the term and of it
abbrev pub AreJoined : Theory → Ground → Pattern → Values → Type 0
AreJoined theory term other values =
    (second : Ground) (found : Values) → Extends values found → IsTrue (fits found other second) → IsTrue (list_any (excludes term second) theory.exclusives)
