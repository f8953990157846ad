-- Properties that are added, each with a list of others, all by their numbers; and how such lists are kept by number.
use Rattle.std.specs.Prelude.{◌≡◌, ℕ, ◌+◌, Bool, false, not, ◌==◌, List, [], ◌∷◌, map, filter, find, Option, Some, None, option_map, IsTrue}
use Rattle.std.specs.List.{All}
use Rattle.ec_terms.specs.declared.ids.PropId.{PropId}
use Rattle.ec_numbered.specs.PropSet.{has_number, are_ascending, without_number}

-- ---- added properties

-- an added property, and its neighbours among the added properties
pub record Added : Type 0 where
  pub prop : PropId
  pub neighbours : List PropId

-- the added properties
abbrev pub added_props : List Added → List PropId
added_props rows = map (λ row. row.prop) rows

-- a property is added
abbrev pub is_added : PropId → List Added → Bool
is_added p rows = has_number p.0 (added_props rows)

-- the neighbours of a property, if it is added
abbrev pub neighbours_of : PropId → List Added → Option (List PropId)
neighbours_of p rows = option_map (λ row. row.neighbours) (find (λ row. row.prop.0 == p.0) rows)

-- a property stands in a list, if there is one
abbrev pub stands_in_list : PropId → Option (List PropId) → Bool
stands_in_list p None = false
stands_in_list p (Some ps) = has_number p.0 ps

-- Each list ascends, no property is its own neighbour, and of two either both have the other as a neighbour or neither has.
pub record AreMutual (rows : List Added) : Type 0 where
  pub by_number : All (λ (row : Added). IsTrue (are_ascending row.neighbours)) rows
  pub not_itself : (p : PropId) → stands_in_list p (neighbours_of p rows) ≡ false
  pub both_ways : (p q : PropId) → stands_in_list q (neighbours_of p rows) ≡ stands_in_list p (neighbours_of q rows)

-- an added property that has lost a neighbour
abbrev pub without_neighbour : PropId → Added → Added
without_neighbour p row = record { prop = row.prop; neighbours = without_number p row.neighbours }

-- the added properties without one, which goes from the lists of the others
abbrev pub without_added : PropId → List Added → List Added
without_added p rows = map (without_neighbour p) (filter (λ row. not (row.prop.0 == p.0)) rows)

-- ---- how they are kept

-- the added properties of which the lists are kept by number, from this number on
unfoldable pub added_from : ℕ → List (Option (List PropId)) → List Added
added_from n [] = []
added_from n (None ∷ lists) = added_from (n + 1) lists
added_from n (Some ps ∷ lists) = record { prop = record { 0 = n }; neighbours = ps } ∷ added_from (n + 1) lists

-- the added properties of which the lists are kept by number
abbrev pub added_of : List (Option (List PropId)) → List Added
added_of lists = added_from 0 lists
