-- How many of some properties there are, with the first of them by number.
use Rattle.std.specs.Prelude.{◌≡◌, ℕ, List, length, take}
use Rattle.ec_terms.specs.declared.ids.PropId.{PropId}
use Rattle.ec_query.specs.declared.held_list.TheConstants.{MOST_LISTED}

-- a count, and a list that ends where it has no more room
pub record Listed : Type 0 where
  pub count : ℕ
  pub first : List PropId

-- these properties were listed: all of them count, and the first of them stand in the list
pub record Lists (listed : Listed) (ps : List PropId) : Type 0 where
  pub count : listed.count ≡ length ps
  pub first : listed.first ≡ take MOST_LISTED ps
