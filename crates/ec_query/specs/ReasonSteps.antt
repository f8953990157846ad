-- How many steps it may take to find a reason with its causes: two for each event at the instants of the reason.
use Rattle.std.specs.Prelude.{ℕ, ◌+◌, ◌*◌, ℤ, List, length, Option, Some, None}
use Rattle.ec_terms.specs.declared.ground.Ground.{Ground}
use Rattle.ec_terms.specs.declared.theory.Theory.{Theory}
use Rattle.ec_axioms.specs.Calculus.{PlainEvent, reason_of}
use Rattle.ec_axioms.specs.Plain.{events_at}
use Rattle.ec_axioms.specs.Timeline.{Begin, before_all, begin_at, Reason, reason_yes, reason_never, reason_ended, reason_broken}

-- how many events are at t
abbrev pub count_at : List PlainEvent → ℤ → ℕ
count_at events t = length (events_at t events)

-- how many events are at a begin; before all events there is none
abbrev pub begin_count : List PlainEvent → Begin → ℕ
begin_count events before_all = 0
begin_count events (begin_at s) = count_at events s

-- how many events are at an end, if there is one
abbrev pub end_count : List PlainEvent → Option ℤ → ℕ
end_count events None = 0
end_count events (Some x) = count_at events x

-- how many events are at the instants of a reason
abbrev pub reason_count : List PlainEvent → Reason → ℕ
reason_count events (reason_yes from until) = begin_count events from + end_count events until
reason_count events reason_never = 0
reason_count events (reason_ended from x) = begin_count events from + count_at events x
reason_count events (reason_broken from x) = begin_count events from + count_at events x

-- two steps for each event at the instants of the reason for a property at t
unfoldable pub why_steps : Theory → List PlainEvent → Ground → ℤ → ℕ
why_steps theory events p t = 2 * reason_count events (reason_of theory events p t)
