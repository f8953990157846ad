-- Ascending lists of properties by their numbers, and such a list with a number more or less.
use Rattle.std.specs.Prelude.{ℕ, Bool, not, ◌==◌, nat_lt, List, filter}
use Rattle.std.specs.List.{list_any}
use Rattle.ec_terms.specs.declared.ids.PropId.{PropId}
use Rattle.ec_rows.specs.Ordered.{is_ascending, with_member}

-- a number stands in a list
abbrev pub has_number : ℕ → List PropId → Bool
has_number n props = list_any (λ p. p.0 == n) props

-- a property comes before another where its number is less
abbrev pub comes_before : PropId → PropId → Bool
comes_before p q = nat_lt p.0 q.0

-- the numbers ascend, and none stands there twice
abbrev pub are_ascending : List PropId → Bool
are_ascending props = is_ascending comes_before props

-- the list with a property in its place
abbrev pub with_number : PropId → List PropId → List PropId
with_number p props = with_member comes_before p props

-- the list without a property
abbrev pub without_number : PropId → List PropId → List PropId
without_number p props = filter (λ q. not (q.0 == p.0)) props
