-- Properties that the table keeps newly become part of the parts, one after the other.
use Rattle.std.proofs.Common.{List, [], refl, sym}
use Rattle.std.proofs.lemmas.List.{append-nil}
use Rattle.ec_terms.specs.declared.ids.PropId.{PropId}
use Rattle.ec_context.specs.Widened.{AreUnmentioned}
use Rattle.ec_context.proofs.Keepings.{HasKept-same}
use Rattle.ec_store.specs.Table.{KeptProp}
use Rattle.ec_parts.specs.Adoption.{HasEntered}

-- nothing is kept besides
pub HasEntered-none : (table : List KeptProp) (ids : List PropId) → HasEntered table ids table ids
unfolding AreUnmentioned
HasEntered-none table ids = record { fresh = []; behind = sym (append-nil ids); kept = HasKept-same table table [] [] tt refl refl }
