-- What a pass over the events of a history knows at an instant.
use Rattle.std.specs.Prelude.{◌≡◌, ℕ, ℤ, List, [], IsSome, IsTrue}
use Rattle.std.specs.List.{list_any}
use Rattle.ec_terms.specs.declared.ground.Ground.{Ground}
use Rattle.ec_terms.specs.declared.ids.PropId.{PropId}
use Rattle.ec_terms.specs.declared.theory.Theory.{Theory}
use Rattle.ec_terms.specs.Term.{term_eq}
use Rattle.ec_axioms.specs.Calculus.{PlainEvent, is_current, is_initiated, is_terminated}
use Rattle.ec_store.specs.Table.{prop_at}
use Rattle.ec_numbered.specs.PropSet.{has_number}
use Rattle.ec_exclusive.specs.CurrentProps.{HasForms, is_in}
use Rattle.ec_pass.specs.declared.present.Present.{Present}
use Rattle.ec_pass.specs.Numbers.{AreNumbersOf}

-- The present at an instant, behind the events that are done: which properties are current there by the whole history, and which
-- of them the events done initiate and terminate there.
pub record IsAt (theory : Theory) (events done : List PlainEvent) (t : ℤ) (present : Present) : Type 0 where
  pub forms : HasForms theory present.props present.current
  pub current : AreNumbersOf present.props (λ n. is_in n present.current) (λ q. is_current theory events q t)
  pub started : AreNumbersOf present.props (λ n. has_number n present.started.items) (λ q. is_initiated theory done (is_current theory events) q t)
  pub ended : AreNumbersOf present.props (λ n. has_number n present.ended.items) (λ q. is_terminated theory done (is_current theory events) q t)

-- The present before all events: these terms are current, and nothing was started or ended yet.
pub record IsFirst (theory : Theory) (terms : List Ground) (present : Present) : Type 0 where
  pub forms : HasForms theory present.props present.current
  pub current : AreNumbersOf present.props (λ n. is_in n present.current) (λ q. list_any (term_eq q) terms)
  pub started : present.started.items ≡ []
  pub ended : present.ended.items ≡ []

-- The present can be gone on from: what started is kept, and so is the property p that is asked for.
pub record IsReady (theory : Theory) (present : Present) (p : PropId) : Type 0 where
  pub kept : IsSome (prop_at p.0 present.props)
  pub started : (n : ℕ) → IsTrue (has_number n present.started.items) → IsSome (prop_at n present.props)
  pub forms : HasForms theory present.props present.current
