-- What stays current behind an instant, by number.
use Rattle.std.specs.Prelude.{Bool, not, ◌&&◌, ◌||◌, List}
use Rattle.std.specs.List.{list_any}
use Rattle.ec_terms.specs.declared.ids.PropId.{PropId}
use Rattle.ec_terms.specs.declared.theory.Theory.{Theory}
use Rattle.ec_store.specs.Table.{KeptProp}
use Rattle.ec_numbered.specs.PropSet.{has_number}
use Rattle.ec_exclusive.specs.Neighbours.{exclusive_at}
use Rattle.ec_exclusive.specs.CurrentProps.{MemberForms, is_in}

-- some of these properties is exclusive to one
abbrev pub excludes_any : Theory → List KeptProp → List PropId → PropId → Bool
excludes_any theory table props q = list_any (λ p. exclusive_at theory table p q) props

-- Behind an instant a property is current that started there, or that was current, did not end, and is exclusive to none
-- that started.
abbrev pub is_settled : Theory → List KeptProp → MemberForms → List PropId → List PropId → PropId → Bool
is_settled theory table now started ended q =
    ((is_in q.0 now && not (has_number q.0 ended)) && not (excludes_any theory table started q)) || has_number q.0 started
