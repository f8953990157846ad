-- What a pass knows between two events.
use Rattle.std.specs.Prelude.{◌≡◌, ◌⊎◌, List, [], ◌++◌, ℤ, int_lt, int_le, Some, IsTrue, IsFalse}
use Rattle.std.specs.List.{list_all, list_any}
use Rattle.std.specs.Ordering.{int_eq}
use Rattle.ec_terms.specs.declared.ground.Ground.{Ground}
use Rattle.ec_terms.specs.declared.theory.Theory.{Theory}
use Rattle.ec_axioms.specs.Calculus.{PlainEvent}
use Rattle.ec_axioms.specs.Changes.{is_history}
use Rattle.ec_store.specs.Table.{term_at}
use Rattle.ec_pass.specs.declared.pass.Pass.{Pass}
use Rattle.ec_pass.specs.Holdings.{IsKnown}
use Rattle.ec_pass.specs.Present.{IsAt}

-- an event is at the instant
abbrev pub is_instant : List PlainEvent → ℤ → Type 0
is_instant events s = IsTrue (list_any (λ e. int_eq e.rank s) events)

-- A pass over a history for a property q stands behind the events done, at an instant with no event done behind it and none left
-- before it; an event is there, or no event is left and the time asked for is not behind it.
pub record IsPassing {T : Type 0} (rank : T → ℤ) (theory : Theory) (events done left : List PlainEvent) (q : Ground) (pass : Pass T) : Type 0 where
  pub history : IsTrue (is_history events)
  pub parts : events ≡ done ++ left
  pub at : IsAt theory events done (rank pass.instant) pass.present
  pub before : IsTrue (list_all (λ e. int_le e.rank (rank pass.instant)) done)
  pub behind : IsTrue (list_all (λ e. int_le (rank pass.instant) e.rank) left)
  pub place : is_instant events (rank pass.instant) ⊎ ((left ≡ []) × IsFalse (int_lt (rank pass.instant) (rank pass.at)))
  pub number : term_at pass.p.0 pass.present.props ≡ Some q
  pub known : IsKnown theory events q (rank pass.at) (rank pass.instant) pass.holding

-- A time may be the next instant: no event is left before it; where it is later than the present one, an event is there; and an
-- event is at it, or no event is left and it is the time asked for.
pub record IsComing (events left : List PlainEvent) (asked s t : ℤ) : Type 0 where
  pub behind : IsTrue (list_all (λ e. int_le t e.rank) left)
  pub leaves : IsTrue (int_lt s t) → is_instant events s
  pub place : is_instant events t ⊎ ((left ≡ []) × IsFalse (int_lt t asked))
