-- The laws of the steps that lines may take.
use Rattle.std.proofs.Common.{◌≡◌, ℕ, ◌+◌, ◌||◌, Bool, true, false, List, Option, Some, IsTrue, cond, eqb, refl, sym, ap, ap₂, ◌∙◌, subst, zero-add, arith}
use Rattle.std.proofs.lemmas.Bool.{cond-false, eq-eqb, true≢false}
use Rattle.ec_terms.specs.declared.theory.Theory.{Theory}
use Rattle.ec_axioms.specs.Calculus.{PlainEvent}
use Rattle.ec_axioms.specs.Changes.{PlainUpdate, asserting, retracting}
use Rattle.ec_commands.specs.Commands.{PlainQuery, ask_events, ask_why}
use Rattle.ec_commands.specs.Commands.{PlainCommand, silent, bad, assert_event, retract_event, begin_draft, commit_draft, abort_draft, ask, ask_past, ask_pairs, ask_related, watch_prop, unwatch_prop, ask_last, quit, parsed_of}
use Rattle.ec_commands.specs.Lines.{is_long}
use Rattle.ec_past.specs.Viewing.{way_steps}
use Rattle.ec_replies.specs.Past.{Past, list_after}
use Rattle.ec_replies.specs.Runs.{past_may_want_memory}
use Rattle.ec_replies.specs.State.{State}
use Rattle.ec_replies.specs.Replies.{Language, session_of}
use Rattle.ec_replies.specs.Laws.{IsOpen, asked_update, line_command}
use Rattle.ec_sessions.specs.LineSteps.{Reading, reads_none, reads_each, reads_reason, reading_of, reading_steps, most_change_steps, most_query_steps, most_asked_steps, most_line_steps, unless_refused}
use Rattle.ec_sessions.specs.StepLaws.{CommitsTakeTheirBatch, EventsTakeAStepEach, HeldUpdatesTakeNoStep, OtherLinesTakeNoStep, PastQuestionsTakeTheirWay, ReasonsTakeTheirSteps, is_none, reads_no_event}
use Rattle.ec_sessions.proofs.PastQuestions.{unless_refused-asked}
use Rattle.ec_sessions.proofs.StepCounts.{most_commit_steps-open, most_line_steps-long, most_line_steps-short, most_update_steps-open}

-- the steps of a command of a session
abbrev command_steps : Theory → ℕ → Option ℕ → State → PlainCommand → ℕ
command_steps theory session viewed state command = most_change_steps theory session viewed state command + most_asked_steps theory state command

-- a line that is not long takes those of its command
module _ (language : Language) (viewed : Option ℕ) (state : State) (line : List ℕ) where
  abbrev session : ℕ
  session = session_of (parsed_of language.spelt line)

  told_steps : (command : PlainCommand) → is_long line ≡ false → line_command language line ≡ command → most_line_steps language viewed state line ≡ command_steps language.theory session viewed state command
  told_steps command short is = most_line_steps-short language viewed state line short ∙ ap (command_steps language.theory session viewed state) is

no_query_steps : (theory : Theory) (events : List PlainEvent) (reading : Reading) → IsTrue (is_none reading) → reading_steps theory events reading ≡ 0
no_query_steps theory events reads_none none = refl
no_query_steps theory events reads_each none = absurd (true≢false (sym none))
no_query_steps theory events (reads_reason p t) none = absurd (true≢false (sym none))

no_steps : (theory : Theory) (session : ℕ) (viewed : Option ℕ) (state : State) (command : PlainCommand) → IsTrue (reads_no_event command) → command_steps theory session viewed state command ≡ 0
unfolding most_change_steps most_query_steps most_asked_steps
no_steps theory session viewed state silent none = refl
no_steps theory session viewed state bad none = refl
no_steps theory session viewed state (assert_event id t term) none = absurd (true≢false (sym none))
no_steps theory session viewed state (retract_event id) none = absurd (true≢false (sym none))
no_steps theory session viewed state begin_draft none = refl
no_steps theory session viewed state commit_draft none = absurd (true≢false (sym none))
no_steps theory session viewed state abort_draft none = refl
no_steps theory session viewed state (ask query) none = zero-add (reading_steps theory state.events (reading_of query)) ∙ no_query_steps theory state.events (reading_of query) none
no_steps theory session viewed state (ask_past k query) none = absurd (true≢false (sym none))
no_steps theory session viewed state (ask_pairs p r q) none = refl
no_steps theory session viewed state (ask_related p t r q) none = refl
no_steps theory session viewed state (watch_prop p) none = refl
no_steps theory session viewed state (unwatch_prop p) none = refl
no_steps theory session viewed state ask_last none = refl
no_steps theory session viewed state quit none = refl

pub OtherLinesTakeNoStep-law : OtherLinesTakeNoStep
OtherLinesTakeNoStep-law language viewed state line none = by_length (is_long line) refl
  where
    by_length : (b : Bool) → is_long line ≡ b → most_line_steps language viewed state line ≡ 0
    by_length true long = most_line_steps-long language viewed state line long
    by_length false short =
        most_line_steps-short language viewed state line short
        ∙ no_steps language.theory (session_of (parsed_of language.spelt line)) viewed state (line_command language line) (subst (λ (b : Bool). IsTrue (b || reads_no_event (line_command language line))) short none)

pub EventsTakeAStepEach-law : EventsTakeAStepEach
unfolding most_change_steps most_query_steps most_asked_steps
EventsTakeAStepEach-law language viewed state line short is = let told = told_steps language viewed state line (ask ask_events) short is in grind (arith, told)

pub ReasonsTakeTheirSteps-law : ReasonsTakeTheirSteps
unfolding most_change_steps most_query_steps most_asked_steps
ReasonsTakeTheirSteps-law language viewed state line p t short is = let told = told_steps language viewed state line (ask (ask_why p t)) short is in grind (arith, told)

held_steps : (theory : Theory) (session : ℕ) (viewed : Option ℕ) (state : State) (update : PlainUpdate) (command : PlainCommand) → IsOpen session state → asked_update command ≡ Some update
    → command_steps theory session viewed state command ≡ 0
unfolding most_change_steps most_asked_steps
held_steps theory session viewed state update (assert_event id t term) opened is =
    ap (λ (n : ℕ). n + 0) (most_update_steps-open theory session state (asserting (record { id = id; rank = t; term = term })) opened.0 opened.1)
held_steps theory session viewed state update (retract_event id) opened is = ap (λ (n : ℕ). n + 0) (most_update_steps-open theory session state (retracting id) opened.0 opened.1)
held_steps theory session viewed state update command opened is = cc

pub HeldUpdatesTakeNoStep-law : HeldUpdatesTakeNoStep
HeldUpdatesTakeNoStep-law language viewed state line update short is opened =
    most_line_steps-short language viewed state line short ∙ held_steps language.theory (session_of (parsed_of language.spelt line)) viewed state update (line_command language line) opened is

pub CommitsTakeTheirBatch-law : CommitsTakeTheirBatch
unfolding most_change_steps most_asked_steps
CommitsTakeTheirBatch-law language viewed state line held short is opened =
    let told = told_steps language viewed state line commit_draft short is in
    let batch = most_commit_steps-open language.theory (session_of (parsed_of language.spelt line)) state held opened in
    grind (arith, told, batch)

-- no step leads to the list that is viewed
way_steps-there : (theory : Theory) (events : List PlainEvent) (past : Past) (k : ℕ) → way_steps theory events past (Some k) k ≡ 0
unfolding way_steps
way_steps-there theory events past k = rw (eq-eqb k k refl) (either (eqb past.count k))
  where
    either : (b : Bool) → ◌≡◌ {A = ℕ} (cond b 0 0) 0
    either true = refl
    either false = refl

past_steps : (language : Language) (viewed : Option ℕ) (state : State) (line : List ℕ) (k : ℕ) (query : PlainQuery) → is_long line ≡ false
    → line_command language line ≡ ask_past k query → IsTrue (past_may_want_memory state k query)
    → most_line_steps language viewed state line
    ≡ way_steps language.theory state.events state.past viewed k + most_query_steps language.theory (list_after k state.events state.past) query
unfolding most_change_steps most_asked_steps
past_steps language viewed state line k query short is asked =
    told_steps language viewed state line (ask_past k query) short is
    ∙ ap₂ (λ (m n : ℕ). m + n) (unless_refused-asked language state k query asked _) (unless_refused-asked language state k query asked _)

unless_refused-refused : (state : State) (k : ℕ) (query : PlainQuery) → past_may_want_memory state k query ≡ false → (steps : ℕ) → unless_refused state k query steps ≡ 0
unfolding unless_refused
unless_refused-refused state k query refused steps = cond-false _ _ _ refused

refused_steps : (language : Language) (viewed : Option ℕ) (state : State) (line : List ℕ) (k : ℕ) (query : PlainQuery) → is_long line ≡ false
    → line_command language line ≡ ask_past k query → past_may_want_memory state k query ≡ false → most_line_steps language viewed state line ≡ 0
unfolding most_change_steps most_asked_steps
refused_steps language viewed state line k query short is refused =
    told_steps language viewed state line (ask_past k query) short is
    ∙ ap₂ (λ (m n : ℕ). m + n) (unless_refused-refused state k query refused _) (unless_refused-refused state k query refused _)

pub PastQuestionsTakeTheirWay-law : PastQuestionsTakeTheirWay
PastQuestionsTakeTheirWay-law = record {
  asked = past_steps;
  again = λ language state line k query short is asked.
      past_steps language (Some k) state line k query short is asked
      ∙ ap (λ (n : ℕ). n + most_query_steps language.theory (list_after k state.events state.past) query) (way_steps-there language.theory state.events state.past k)
      ∙ zero-add (most_query_steps language.theory (list_after k state.events state.past) query);
  refused = refused_steps;
}
