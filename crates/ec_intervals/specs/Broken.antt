-- The first broken begin behind a begin.
use Rattle.std.specs.Prelude.{Bool, true, false, ℤ, int_lt, List, find, Option, Some, None}
use Rattle.ec_axioms.specs.Timeline.{Begin, before_all, begin_at}

-- a begin comes after another: that before all events comes first, and the others go by their instants
abbrev pub begins_after : Begin → Begin → Bool
begins_after c before_all = false
begins_after before_all (begin_at t) = true
begins_after (begin_at s) (begin_at t) = int_lt s t

-- a begin comes after the given one, if one is given
abbrev pub passes_after : Option Begin → Begin → Bool
passes_after None begin = true
passes_after (Some c) begin = begins_after c begin

-- the first of some broken begins that comes after the given one
abbrev pub first_after : Option Begin → List (Begin × ℤ) → Option (Begin × ℤ)
first_after after broken = find (λ b. passes_after after b.0) broken
