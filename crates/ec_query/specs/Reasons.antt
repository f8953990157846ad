-- What a reason with its causes says, and what it is for it to be the reason for a property at a time.
use Rattle.std.specs.Prelude.{◌≡◌, ℤ, Bool, List, Option, Some, None}
use Rattle.ec_terms.specs.declared.ground.Ground.{Ground}
use Rattle.ec_terms.specs.declared.theory.Theory.{Theory}
use Rattle.ec_terms.specs.Domain.{GroundEntry}
use Rattle.ec_axioms.specs.Calculus.{PlainCause, PlainEvent, first_cause, is_breaking, is_initiating, is_terminating, reason_of}
use Rattle.ec_axioms.specs.Timeline.{Begin, before_all, begin_at, Reason as PlainReason, reason_yes, reason_never, reason_ended, reason_broken}
use Rattle.ec_intervals.specs.Table.{plain_begin}
use Rattle.ec_query.specs.declared.reason.Cause.{Cause}
use Rattle.ec_query.specs.declared.reason.Origin.{Origin}
use Rattle.ec_query.specs.declared.reason.Origin.TheVariants.{Initial, At}
use Rattle.ec_query.specs.declared.reason.Reason.{Reason}
use Rattle.ec_query.specs.declared.reason.Reason.TheVariants.{Yes, Never, Ended, Broken}

-- ---- times as whole numbers

-- a cause, as the calculus has it
abbrev pub plain_cause : Cause → PlainCause
plain_cause cause = record { id = cause.id; rule = cause.rule }

-- an origin, as the begin that it is
abbrev pub plain_origin : {T : Type 0} → (T → ℤ) → Origin T → Begin
plain_origin rank Initial = before_all
plain_origin rank (At t cause) = begin_at (rank t)

-- the end of an interval, if it has one
abbrev pub plain_until : {T : Type 0} → (T → ℤ) → Option (T × Cause) → Option ℤ
plain_until rank None = None
plain_until rank (Some until) = Some (rank until.0)

-- a reason without its causes
abbrev pub plain_reason : {T : Type 0} → (T → ℤ) → Reason T → PlainReason
plain_reason rank (Yes from until) = reason_yes (plain_origin rank from) (plain_until rank until)
plain_reason rank Never = reason_never
plain_reason rank (Ended from until by) = reason_ended (plain_begin rank from) (rank until)
plain_reason rank (Broken from until by) = reason_broken (plain_begin rank from) (rank until)

-- ---- causes

-- the cause is the first at t among the active entries that pass the test
abbrev pub IsFirstCause : Theory → List PlainEvent → (GroundEntry → Bool) → ℤ → Cause → Type 0
IsFirstCause theory events wanted t cause = first_cause theory events wanted t ≡ Some (plain_cause cause)

-- an origin at a time has the first cause of the initiation there
abbrev pub HasOriginCause : {T : Type 0} → (T → ℤ) → Theory → List PlainEvent → Ground → Origin T → Type 0
HasOriginCause rank theory events p Initial = Unit {0}
HasOriginCause rank theory events p (At t cause) = IsFirstCause theory events (is_initiating p) (rank t) cause

-- an end has the first cause of the termination there
abbrev pub HasEndCause : {T : Type 0} → (T → ℤ) → Theory → List PlainEvent → Ground → Option (T × Cause) → Type 0
HasEndCause rank theory events p None = Unit {0}
HasEndCause rank theory events p (Some until) = IsFirstCause theory events (is_terminating p) (rank until.0) until.1

-- each cause of a reason is the first one of what it caused
abbrev pub HasFirstCauses : {T : Type 0} → (T → ℤ) → Theory → List PlainEvent → Ground → Reason T → Type 0
HasFirstCauses rank theory events p (Yes from until) = HasOriginCause rank theory events p from × HasEndCause rank theory events p until
HasFirstCauses rank theory events p Never = Unit {0}
HasFirstCauses rank theory events p (Ended from until by) = IsFirstCause theory events (is_terminating p) (rank until) by
HasFirstCauses rank theory events p (Broken from until by) = IsFirstCause theory events (is_breaking theory p) (rank until) by

-- the reason is that for the property at t, and each of its causes is the first
pub record IsReasonFor {T : Type 0} (rank : T → ℤ) (theory : Theory) (events : List PlainEvent) (p : Ground) (t : ℤ) (reason : Reason T) : Type 0 where
  pub same : plain_reason rank reason ≡ reason_of theory events p t
  pub causes : HasFirstCauses rank theory events p reason
