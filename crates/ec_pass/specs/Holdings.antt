-- What a pass knows of whether a property holds at a time t, and what it learns at an instant.
use Rattle.std.specs.Prelude.{◌≡◌, Bool, true, false, ◌&&◌, if◌then◌else◌, List, ℤ, int_lt, int_le, IsTrue, IsFalse}
use Rattle.std.specs.List.{list_any}
use Rattle.ec_terms.specs.declared.ground.Ground.{Ground}
use Rattle.ec_terms.specs.declared.theory.Theory.{Theory}
use Rattle.ec_axioms.specs.Calculus.{PlainEvent, has_break, holds_at, is_current}
use Rattle.ec_pass.specs.declared.holding.Holding.{Holding}
use Rattle.ec_pass.specs.declared.holding.Holding.TheVariants.{Before, Waits, Known}
use Rattle.ec_pass.specs.declared.outcome.Outcome.{Outcome}
use Rattle.ec_pass.specs.declared.outcome.Outcome.TheVariants.{Terminated, Broken, Unbroken}

-- an event is from t on and before s, and its instant breaks the property
abbrev pub breaks_within : Theory → List PlainEvent → Ground → ℤ → ℤ → PlainEvent → Bool
breaks_within theory events q t s e = (int_le t e.rank && int_lt e.rank s) && has_break theory events (is_current theory events) q e.rank

-- what is known at the instant s, of which nothing was looked at yet
abbrev pub IsKnown : Theory → List PlainEvent → Ground → ℤ → ℤ → Holding → Type 0
IsKnown theory events q t s Before = IsTrue (int_lt s t)
IsKnown theory events q t s Waits =
    IsTrue (int_le t s) × IsTrue (is_current theory events q t) × IsFalse (list_any (breaks_within theory events q t s) events)
IsKnown theory events q t s (Known holds) = holds ≡ holds_at theory events q t

-- what follows from what the instant does to the property
abbrev pub judged : Holding → Outcome → Holding
judged Before outcome = Before
judged Waits Terminated = Known true
judged Waits Broken = Known false
judged Waits Unbroken = Waits
judged (Known holds) outcome = Known holds

-- what follows once the instant is from t on, by whether the property is current there
abbrev pub looked_up : Holding → Bool → Bool → Holding
looked_up Before reached current = if reached then (if current then Waits else Known false) else Before
looked_up Waits reached current = Waits
looked_up (Known holds) reached current = Known holds

-- what it comes to once no event is left and the time is reached
abbrev pub held_at_end : Holding → Bool
held_at_end Before = false
held_at_end Waits = true
held_at_end (Known holds) = holds
