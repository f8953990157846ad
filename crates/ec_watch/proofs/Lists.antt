-- What the answers of a call say where its rows are those of a property.
use Rattle.std.proofs.Common.{◌≡◌, ℕ, Bool, true, false, List, Result, Ok, Err, OnOk, IfErr, refl, sym}
use Rattle.ec_terms.specs.declared.ground.Ground.{Ground}
use Rattle.ec_watch.specs.declared.row.Row.{Row}
use Rattle.ec_watch.specs.Watched.{HasUnwatched, has_property, watched_by}

-- what holds of each property whose row is at a place holds of the one whose row it is
pub told_of : {X E : Type 0} (r : Result X E) (A B : Ground → Type 0) (p : Ground) → A p → OnOk r ((q : Ground) → A q → B q) → OnOk r (B p)
told_of (Ok x) A B p here ok = ok p here
told_of (Err e) A B p here ok = tt

pub refused_of : {X E : Type 0} (r : Result X E) (A : Ground → Type 0) (B : E → Ground → Type 0) (p : Ground) → A p → IfErr r (λ e. (q : Ground) → A q → B e q) → IfErr r (λ e. B e p)
refused_of (Ok x) A B p here err = tt
refused_of (Err e) A B p here err = err p here

-- a call that answers whether a session watched answers what the rows say
pub told_watched : (b : Bool) (p : Ground) (session : ℕ) (old new : List Row) → (b ≡ true → HasUnwatched p session old new) → (b ≡ false → has_property p (watched_by session old) ≡ false)
    → b ≡ has_property p (watched_by session old)
told_watched true p session old new left unwatched = sym (left refl).was_watched
told_watched false p session old new left unwatched = sym (unwatched refl)
