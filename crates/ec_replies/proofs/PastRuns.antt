-- What runs leave of the past: each accepted update is counted, and the lists before those that are kept are remembered.
use Rattle.std.proofs.Common.{◌≡◌, ℕ, ◌+◌, ◌-◌, ◌≤◌, ◌⊎◌, ◌==◌, inl, inr, Bool, true, false, cond, leb, length, List, [], ◌∷◌, Option, refl, sym, ap, subst, ◌∙◌, arith}
use Rattle.std.proofs.lemmas.Bool.{cond-false, eq-eqb, ne_eqb, false≢true}
use Rattle.ec_axioms.specs.Calculus.{PlainEvent}
use Rattle.ec_commands.specs.declared.limits.TheConstants.{MOST_PAST}
use Rattle.ec_commands.specs.Lines.{is_long}
use Rattle.ec_commands.specs.Commands.{PlainCommand, parsed_of}
use Rattle.ec_commands.specs.Answers.{answer_drafted, answer_text}
use Rattle.ec_replies.specs.Past.{Accepted, Past, empty_past, commit_weight, list_back, with_accepted, within_window}
use Rattle.ec_replies.specs.State.{State, empty_state}
use Rattle.ec_replies.specs.Replies.{Language, Reply, session_of}
use Rattle.ec_replies.specs.Runs.{Step, Run, RunsOn, is_quit}
use Rattle.ec_replies.specs.Laws.{BeginsWithOk, line_command, line_prefix, may_change}
use Rattle.ec_replies.specs.RunLaws.{Answered, GoesOn, RunOf}
use Rattle.ec_replies.specs.PastLaws.{AcceptedUpdatesAreCounted, AreAccepted, IsAcceptedBy, IsAcceptedUpdate, IsRestAccepted, IsWidestWindow, ThePastIsRemembered, TheWindowIsWidest}
use Rattle.ec_replies.proofs.Apart.{not_ok}
use Rattle.ec_replies.proofs.Outcomes.{Outcome, is_kept, is_updated, is_held, is_begun, is_committed, is_dropped, is_watching, is_unwatched, LineOutcome, step_outcome}
use Rattle.ec_replies.proofs.Windows.{WindowsAreWidest-law, WindowsNeedNoMore-law, length-within_window}

-- ---- how many

-- what a reply says of the past
abbrev IsCounted : Option ℕ → State → PlainCommand → Reply → Type 0
IsCounted prefix state command reply =
    (may_change command ≡ true → BeginsWithOk prefix reply.text → reply.after.past.count ≡ state.past.count + 1)
    × ((may_change command ≡ true → BeginsWithOk prefix reply.text → ⊥) → (reply.after.past ≡ state.past) × (reply.after.events ≡ state.events))

Outcome-counted : (language : Language) (prefix : Option ℕ) (session : ℕ) (state : State) (command : PlainCommand) (reply : Reply)
    → Outcome language prefix session state command reply → IsCounted prefix state command reply
unfolding with_accepted answer_text
Outcome-counted language prefix session state command reply (is_kept text none) = (λ changes ok. absurd (none changes ok), λ not_accepted. (refl, refl))
Outcome-counted language prefix session state command reply (is_updated update events changes closed is) = (λ may ok. refl, λ not_accepted. absurd (not_accepted changes (_, refl)))
Outcome-counted language prefix session state command reply (is_held held update opened room) =
    (λ may ok. absurd (not_ok prefix (answer_text (answer_drafted (length held + 1))) (λ same. omega arith) ok), λ not_accepted. (refl, refl))
Outcome-counted language prefix session state command reply (is_begun keeps closed) = (λ may ok. absurd (false≢true (sym keeps ∙ may)), λ not_accepted. (refl, refl))
Outcome-counted language prefix session state command reply (is_committed held events changes opened is) =
    (λ may ok. refl, λ not_accepted. absurd (not_accepted changes (_, refl)))
Outcome-counted language prefix session state command reply (is_dropped held keeps opened) =
    (λ may ok. absurd (false≢true (sym keeps ∙ may)), λ not_accepted. (refl, refl))
Outcome-counted language prefix session state command reply (is_watching p asks new room) =
    (λ may ok. absurd (false≢true (sym (ap may_change asks) ∙ may)), λ not_accepted. (refl, refl))
Outcome-counted language prefix session state command reply (is_unwatched p asks was) =
    (λ may ok. absurd (false≢true (sym (ap may_change asks) ∙ may)), λ not_accepted. (refl, refl))

pub AcceptedUpdatesAreCounted-law : AcceptedUpdatesAreCounted
AcceptedUpdatesAreCounted-law language state after line text step = by_length (step_outcome language state after line text step)
  where
    by_length : ((is_long line ≡ true) × (after ≡ state)) ⊎ ((is_long line ≡ false) × LineOutcome language state line text after)
        → (IsAcceptedUpdate language line text → after.past.count ≡ state.past.count + 1)
        × ((IsAcceptedUpdate language line text → ⊥) → (after.past ≡ state.past) × (after.events ≡ state.events))
    by_length (inl long) = (
      λ accepted. absurd (false≢true (sym accepted.short ∙ long.0)),
      λ not_accepted. (ap (λ (s : State). s.past) long.1, ap (λ (s : State). s.events) long.1),
    )
    by_length (inr short) =
        let counted = Outcome-counted language (line_prefix language line) (session_of (parsed_of language.spelt line)) state (line_command language line)
        (record { text = text; after = after }) short.1 in (
          λ accepted. counted.0 accepted.changes accepted.ok,
          λ not_accepted. counted.1 (λ changes ok. not_accepted (record { short = short.0; changes = changes; ok = ok })),
        )

-- ---- lists that are kept

-- no update back is the present list
list_back-none : (events : List PlainEvent) (kept : List Accepted) → list_back 0 events kept ≡ events
unfolding list_back
list_back-none events [] = refl
list_back-none events (update ∷ earlier) = refl

-- and one update more is one further back
list_back-next : (n : ℕ) (events : List PlainEvent) (update : Accepted) (earlier : List Accepted)
    → list_back (n + 1) events (update ∷ earlier) ≡ list_back n update.before earlier
unfolding list_back
list_back-next n events update earlier =
    cond-false (n + 1 == 0) _ _ (ne_eqb (n + 1) 0 (λ same. omega (arith, same))) ∙ ap (λ (m : ℕ). list_back m update.before earlier) (omega arith)

-- a window reads as far as it goes what all updates read
list_back-window : (room n : ℕ) (events : List PlainEvent) (all : List Accepted) → n ≤ length (within_window room all)
    → list_back n events (within_window room all) ≡ list_back n events all
unfolding list_back within_window
list_back-window room n events [] far = refl
list_back-window room n events (update ∷ earlier) far =
    by_test (leb update.weight room) far (λ less. list_back-window (room - update.weight) (n - 1) update.before earlier less)
  where
    by_test : (fits : Bool) → n ≤ length (cond fits (update ∷ within_window (room - update.weight) earlier) [])
        → (n - 1 ≤ length (within_window (room - update.weight) earlier)
        → list_back (n - 1) update.before (within_window (room - update.weight) earlier) ≡ list_back (n - 1) update.before earlier)
        → list_back n events (cond fits (update ∷ within_window (room - update.weight) earlier) []) ≡ list_back n events (update ∷ earlier)
    by_test true far rest = ap (λ (list : List PlainEvent). cond (n == 0) events list) (rest (omega (arith, far)))
    by_test false far rest = rw (eq-eqb n 0 (omega (arith, far))) refl

-- a state remembers another: so many updates were accepted since, and as many back is its list, where that is kept
record Remembers (middle state : State) : Type 0 where
  since : ℕ
  count : state.past.count ≡ middle.past.count + since
  list : since ≤ length state.past.kept → list_back since state.events state.past.kept ≡ middle.events

-- each state remembers itself
Remembers-itself : (state : State) → Remembers state state
Remembers-itself state = record { since = 0; count = omega arith; list = λ far. list_back-none state.events state.past.kept }

-- what a reply does to the past: nothing, or it has one update more
abbrev MovesOn : State → State → Type 0
MovesOn state after =
    ((after.past ≡ state.past) × (after.events ≡ state.events))
    ⊎ ((weight : ℕ) × (after.past ≡ with_accepted (record { before = state.events; weight = weight }) state.past))

Outcome-moves : (language : Language) (prefix : Option ℕ) (session : ℕ) (state : State) (command : PlainCommand) (reply : Reply)
    → Outcome language prefix session state command reply → MovesOn state reply.after
Outcome-moves language prefix session state command reply (is_kept text none) = inl (refl, refl)
Outcome-moves language prefix session state command reply (is_updated update events changes closed is) = inr (1, refl)
Outcome-moves language prefix session state command reply (is_held held update opened room) = inl (refl, refl)
Outcome-moves language prefix session state command reply (is_begun keeps closed) = inl (refl, refl)
Outcome-moves language prefix session state command reply (is_committed held events changes opened is) = inr (commit_weight held, refl)
Outcome-moves language prefix session state command reply (is_dropped held keeps opened) = inl (refl, refl)
Outcome-moves language prefix session state command reply (is_watching p asks new room) = inl (refl, refl)
Outcome-moves language prefix session state command reply (is_unwatched p asks was) = inl (refl, refl)

pub step-moves : (language : Language) (state after : State) (line text : List ℕ) → Step language state line text after → MovesOn state after
step-moves language state after line text step = by_length (step_outcome language state after line text step)
  where
    by_length : ((is_long line ≡ true) × (after ≡ state)) ⊎ ((is_long line ≡ false) × LineOutcome language state line text after) → MovesOn state after
    by_length (inl long) = inl (ap (λ (s : State). s.past) long.1, ap (λ (s : State). s.events) long.1)
    by_length (inr short) =
        Outcome-moves language (line_prefix language line) (session_of (parsed_of language.spelt line)) state (line_command language line)
        (record { text = text; after = after }) short.1

-- and what it does to what is remembered
Remembers-step : (middle state after : State) → Remembers middle state → MovesOn state after → Remembers middle after
unfolding with_accepted
Remembers-step middle state after was (inl same) = record {
  since = was.since;
  count = ap (λ (past : Past). past.count) same.0 ∙ was.count;
  list = λ far. ap (λ (past : Past). list_back was.since after.events past.kept) same.0 ∙ ap (λ (events : List PlainEvent). list_back was.since events state.past.kept) same.1
      ∙ was.list (subst (λ (past : Past). was.since ≤ length past.kept) same.0 far);
}
Remembers-step middle state after was (inr accepted) = remembers
  where
    update : Accepted
    update = record { before = state.events; weight = accepted.0 }

    more : List Accepted
    more = within_window MOST_PAST (update ∷ state.past.kept)

    counted : after.past.count ≡ state.past.count + 1
    counted = ap (λ (past : Past). past.count) accepted.1

    kept : after.past.kept ≡ more
    kept = ap (λ (past : Past). past.kept) accepted.1

    before : was.since + 1 ≤ length more → was.since ≤ length state.past.kept
    before far = let fewer = length-within_window MOST_PAST (update ∷ state.past.kept) in omega (arith, far, fewer)

    back : was.since + 1 ≤ length more → list_back (was.since + 1) after.events more ≡ middle.events
    back far =
        list_back-window MOST_PAST (was.since + 1) after.events (update ∷ state.past.kept) far
        ∙ list_back-next was.since after.events update state.past.kept ∙ was.list (before far)

    remembers : Remembers middle after
    remembers = record {
      since = was.since + 1;
      count = let first = was.count in omega (arith, counted, first);
      list = λ far. ap (λ (k : List Accepted). list_back (was.since + 1) after.events k) kept ∙ back (subst (λ (k : List Accepted). was.since + 1 ≤ length k) kept far);
    }

run-remembers : (language : Language) (middle state after : State) (lines : List (List ℕ)) (out : List ℕ) → Remembers middle state → Run language state lines out after
    → Remembers middle after
run-remembers language middle state after [] out was run = subst (Remembers middle) (sym run.1) was
run-remembers language middle state after (line ∷ lines) out was run =
    by_quit (is_quit language line) run.3 (Remembers-step middle state run.1 was (step-moves language state run.1 line run.0 run.2))
    (λ rest next. run-remembers language middle run.1 after lines rest next)
  where
    by_quit : (quits : Bool) → RunsOn quits run.0 run.1 out after (λ rest. Run language run.1 lines rest after) → Remembers middle run.1
        → ((rest : List ℕ) → Remembers middle run.1 → Run language run.1 lines rest after → Remembers middle after)
        → Remembers middle after
    by_quit true on next later = subst (Remembers middle) (sym on.1) next
    by_quit false on next later = later on.0 next on.2

pub ThePastIsRemembered-law : ThePastIsRemembered
ThePastIsRemembered-law language middle after lines out run kept =
    let remembered = run-remembers language middle middle after lines out (Remembers-itself middle) run in
    let count = remembered.count in
    ap (λ (n : ℕ). list_back n after.events after.past.kept) (omega (arith, count)) ∙ remembered.list (omega (arith, count, kept))

-- ---- all accepted updates

-- so many are counted, and the past is the window over them
record IsPastOf (state : State) (all : List Accepted) : Type 0 where
  counted : length all ≡ state.past.count
  kept : state.past.kept ≡ within_window MOST_PAST all

-- a step has an update more, or leaves them
IsPastOf-step : (state next : State) (all : List Accepted) → IsPastOf state all → MovesOn state next → (more : List Accepted) × IsAcceptedBy state next all more × IsPastOf next more
unfolding with_accepted
IsPastOf-step state next all was (inl same) = (
  all,
  inl (same.0, refl),
  record { counted = was.counted ∙ sym (ap (λ (past : Past). past.count) same.0); kept = ap (λ (past : Past). past.kept) same.0 ∙ was.kept },
)
IsPastOf-step state next all was (inr accepted) =
    let update : Accepted = record { before = state.events; weight = accepted.0 } in
    let count = ap (λ (past : Past). past.count) accepted.1 in
    let first = was.counted in (
      update ∷ all,
      inr (accepted.0, accepted.1, refl),
      record {
        counted = omega (arith, count, first);
        kept = ap (λ (past : Past). past.kept) accepted.1 ∙ ap (λ (kept : List Accepted). within_window MOST_PAST (update ∷ kept)) was.kept
            ∙ WindowsNeedNoMore-law MOST_PAST update all;
      },
    )

run-accepts : (language : Language) (state after : State) (answered : List Answered) (earlier : List Accepted) → IsPastOf state earlier → RunOf language state answered after
    → (all : List Accepted) × AreAccepted language state answered after earlier all × IsPastOf after all
run-accepts language state after [] earlier was run = (earlier, (run, refl), subst (λ (s : State). IsPastOf s earlier) (sym run) was)
run-accepts language state after (one ∷ rest) earlier was run =
    by_quit (is_quit language one.line) run.2 (IsPastOf-step state run.0 earlier was (step-moves language state run.0 one.line one.text run.1))
    (λ more past further. run-accepts language run.0 after rest more past further)
  where
    by_quit : (quits : Bool) → GoesOn quits rest run.0 after (RunOf language run.0 rest after)
        → ((more : List Accepted) × IsAcceptedBy state run.0 earlier more × IsPastOf run.0 more)
        → ((more : List Accepted) → IsPastOf run.0 more → RunOf language run.0 rest after → (all : List Accepted) × AreAccepted language run.0 rest after more all × IsPastOf after all)
        → (all : List Accepted)
        × ((next : State) × (more : List Accepted) × Step language state one.line one.text next × IsAcceptedBy state next earlier more
        × IsRestAccepted quits next after more all (AreAccepted language next rest after more all))
        × IsPastOf after all
    by_quit true goes step later =
        (step.0, (run.0, step.0, run.1, step.1, (goes.1, refl)), subst (λ (s : State). IsPastOf s step.0) (sym goes.1) step.2)
    by_quit false goes step later =
        let whole = later step.0 step.2 goes in (whole.0, (run.0, step.0, run.1, step.1, whole.1), whole.2)

pub TheWindowIsWidest-law : TheWindowIsWidest
unfolding empty_state empty_past within_window
TheWindowIsWidest-law language answered after run =
    let whole = run-accepts language empty_state after answered [] (record { counted = refl; kept = refl }) run in
    let past = whole.2 in
    (whole.0, whole.1, past.counted, subst (IsWidestWindow MOST_PAST whole.0) (sym past.kept) (WindowsAreWidest-law MOST_PAST whole.0))
