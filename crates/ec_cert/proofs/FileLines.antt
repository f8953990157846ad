-- How the reading of an event file goes on by a line.
use Rattle.std.proofs.Common.{◌≡◌, ℕ, ◌+◌, ◌<◌, ◌≤◌, Bool, true, false, List, [], ◌∷◌, length, refl, sym, ap, subst, ◌∙◌, arith}
use Rattle.std.specs.Prelude.{nat_le, Result, Ok, Err}
use Rattle.std.proofs.lemmas.Bool.{cond-true, cond-false}
use Rattle.ec_terms.specs.declared.theory.Theory.{Theory}
use Rattle.ec_axioms.specs.Calculus.{PlainEvent}
use Rattle.ec_axioms.specs.Changes.{has_id, with_event}
use Rattle.ec_axioms.specs.Links.{most_events}
use Rattle.ec_commands.specs.Lines.{cut_of, whole_lines, last_line, lines_of}
use Rattle.ec_replies.specs.Replies.{Language}
use Rattle.ec_cert.specs.declared.event_fault.EventName.{EventName}
use Rattle.ec_cert.specs.declared.event_fault.EventName.TheVariants.{Duplicate, FullEvents}
use Rattle.ec_cert.specs.EventFile.{admitted, after_line, file_line_of, going_on, read_from, within_limits}
use Rattle.ec_cert.specs.declared.event_fault.EventFault.{EventFault}
use Rattle.ec_cert.specs.declared.event_fault.EventFault.TheVariants.{At, Memory}
use Rattle.ec_cert.specs.Reading.{EventsSoFar, IsFileFault, IsRefusal}

-- ---- lines

-- a line that leaves a list
pub read_from-ok : (language : Language) (all : Bool) (number : ℕ) (events after : List PlainEvent) (line : List ℕ) (lines : List (List ℕ))
    → after_line language.theory all events (file_line_of language.spelt line) ≡ Ok after → read_from language all number events (line ∷ lines) ≡ read_from language all (number + 1) after lines
unfolding read_from
read_from-ok language all number events after line lines is = ap (λ (made : Result (List PlainEvent) EventName). going_on number made (λ more. read_from language all (number + 1) more lines)) is

-- a line that is refused
pub read_from-err : (language : Language) (all : Bool) (number : ℕ) (events : List PlainEvent) (name : EventName) (line : List ℕ) (lines : List (List ℕ))
    → after_line language.theory all events (file_line_of language.spelt line) ≡ Err name → read_from language all number events (line ∷ lines) ≡ Err (number, name)
unfolding read_from
read_from-err language all number events name line lines is = ap (λ (made : Result (List PlainEvent) EventName). going_on number made (λ more. read_from language all (number + 1) more lines)) is

-- the fault of a file is that of its first line that is refused
pub file_fault : (language : Language) (all : Bool) (number : ℕ) (events : List PlainEvent) (line : List ℕ) (lines : List (List ℕ)) (fault : EventFault)
    → IsRefusal number (after_line language.theory all events (file_line_of language.spelt line)) fault → IsFileFault (read_from language all number events (line ∷ lines)) fault
file_fault language all number events line lines (At place name) refused = read_from-err language all number events name line lines refused.1 ∙ ap (λ (n : ℕ). Err (n, name)) (sym refused.0)
file_fault language all number events line lines Memory refused = tt

-- no line is left
pub read_from-nil : (language : Language) (all : Bool) (number : ℕ) (events : List PlainEvent) → read_from language all number events (lines_of []) ≡ Ok events
unfolding read_from lines_of whole_lines last_line cut_of
read_from-nil language all number events = refl

-- ---- events

module _ (theory : Theory) (all : Bool) (events : List PlainEvent) (e : PlainEvent) where
  -- an identity that is present
  pub admitted-duplicate : has_id e.id events ≡ true → admitted theory all events e ≡ Err Duplicate
  unfolding admitted
  admitted-duplicate there = cond-true _ _ _ there

  -- as many events as there may be
  pub admitted-full : has_id e.id events ≡ false → nat_le most_events (length events) ≡ true → admitted theory all events e ≡ Err FullEvents
  unfolding admitted
  admitted-full absent full = cond-false _ _ _ absent ∙ cond-true _ _ _ full

  -- else the limits on mentions and links decide
  pub admitted-limits : has_id e.id events ≡ false → nat_le most_events (length events) ≡ false → admitted theory all events e ≡ within_limits theory all (with_event e events)
  unfolding admitted
  admitted-limits absent room = cond-false _ _ _ absent ∙ cond-false _ _ _ room

-- an event that is neither present nor one too many, where the file is read so far
pub admitted-by : (before read : EventsSoFar) (e f : PlainEvent) → read ≡ before → f ≡ e → has_id e.id read.events ≡ false → length read.events < most_events
    → admitted before.theory before.all before.events e ≡ within_limits read.theory read.all (with_event f read.events)
admitted-by before read e f same is absent few =
    let room : nat_le most_events (length read.events) ≡ false = grind (arith, few) in
    subst (λ (r : EventsSoFar). admitted r.theory r.all r.events e ≡ within_limits read.theory read.all (with_event f read.events)) same
    (subst (λ (h : PlainEvent). admitted read.theory read.all read.events e ≡ within_limits read.theory read.all (with_event h read.events)) (sym is) (admitted-limits read.theory read.all read.events e absent room))

-- one too many
pub admitted-too_many : (before : EventsSoFar) (e : PlainEvent) → has_id e.id before.events ≡ false → most_events ≤ length before.events
    → admitted before.theory before.all before.events e ≡ Err FullEvents
admitted-too_many before e absent many = admitted-full before.theory before.all before.events e absent (let full : nat_le most_events (length before.events) ≡ true = grind (arith, many) in full)
