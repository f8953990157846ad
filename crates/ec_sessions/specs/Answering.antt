-- What it is to answer a command: by one of the fixed forms, or by a query, of the present or of the past, or a comparison, whose reply is
-- still to be written.
use Rattle.std.specs.Prelude.{◌≡◌, ◌⊎◌, ℕ, ℤ, Bool, true, false, List, Option, IsTrue}
use Rattle.ec_terms.specs.declared.theory.Theory.{Theory}
use Rattle.ec_terms.specs.Term.{ground_of}
use Rattle.ec_axioms.specs.Calculus.{PlainEvent}
use Rattle.ec_commands.specs.Commands.{PlainCommand, silent, ask, ask_past, ask_pairs, ask_related}
use Rattle.ec_commands.specs.QueryTexts.{Canon, pairs_reply, related_reply}
use Rattle.ec_commands.specs.Answers.{PlainAnswer, answer_bye, refused_memory}
use Rattle.ec_lines.specs.ShownAnswer.{plain_answer}
use Rattle.ec_lines.specs.ShownCommand.{plain_query}
use Rattle.ec_outside.specs.Streams.{Appended, AppendedPart}
use Rattle.ec_replies.specs.State.{State}
use Rattle.ec_replies.specs.Replies.{Language, Reply, answering, command_reply}
use Rattle.ec_replies.specs.Runs.{command_may_want_memory, command_quits, past_may_want_memory}
use Rattle.ec_sessions.specs.declared.handled.Handled.{Handled}
use Rattle.ec_sessions.specs.declared.handled.Handled.TheVariants.{Go, Bye, WriteFault}
use Rattle.ec_sessions.specs.declared.told.Comparison.{Comparison}
use Rattle.ec_sessions.specs.declared.told.Comparison.TheVariants.{Pairs, Related}
use Rattle.ec_sessions.specs.declared.told.Told.{Told}
use Rattle.ec_sessions.specs.declared.told.Told.TheVariants.{Nothing, Answer, Query, Past, Compared}
use Rattle.ec_sessions.specs.SessionsState.{IsReadyAt, SessionsState}

-- The answer is that of a reply, whatever prefix the line has, and the state is the one after the reply; or memory ran out,
-- where it may, and the state is as it was.
abbrev pub IsAnswerBy : (Option ℕ → Reply) → Bool → State → PlainAnswer → State → Type 0
IsAnswerBy reply may before answer after =
    ((prefix : Option ℕ) → reply prefix ≡ answering prefix answer after) ⊎ (IsTrue may × (answer ≡ refused_memory) × (after ≡ before))

-- the answer to `quit`
abbrev pub is_bye : PlainAnswer → Bool
is_bye answer_bye = true
is_bye answer = false

-- the answer is that to a command of a session, and only `quit` is answered by `bye`
pub record IsAnswerTo (language : Language) (session : ℕ) (before : State) (command : PlainCommand) (answer : PlainAnswer) (after : State) : Type 0 where
  pub by : IsAnswerBy (λ prefix. command_reply language prefix session before command) (command_may_want_memory language.theory session before command) before answer after
  pub quits : is_bye answer ≡ command_quits command

-- the plain command that a comparison is
abbrev pub plain_comparison : {T : Type 0} → (T → ℤ) → Comparison T → PlainCommand
plain_comparison rank (Pairs left relation right) = ask_pairs (ground_of left) relation (ground_of right)
plain_comparison rank (Related left at relation right) = ask_related (ground_of left) (rank at) relation (ground_of right)

-- the text of the reply to a comparison
abbrev pub comparison_text : {T : Type 0} → (T → ℤ) → Theory → List PlainEvent → Canon → Comparison T → List ℕ
comparison_text rank theory events canon (Pairs left relation right) = pairs_reply theory events canon (ground_of left) relation (ground_of right)
comparison_text rank theory events canon (Related left at relation right) = related_reply theory events canon (ground_of left) (rank at) relation (ground_of right)

-- A command is silent, or its answer is told, or it asks a query or for a comparison whose reply is still to be written. A query of the past
-- is one that is not refused.
abbrev pub IsTold : {T : Type 0} → (T → ℤ) → Language → ℕ → State → PlainCommand → Told T → State → Type 0
IsTold rank language session before command Nothing after = (command ≡ silent) × (after ≡ before)
IsTold rank language session before command (Answer answer) after = IsAnswerTo language session before command (plain_answer answer) after
IsTold rank language session before command (Query query) after = (command ≡ ask (plain_query rank query)) × (after ≡ before)
IsTold rank language session before command (Past k query) after =
    (command ≡ ask_past k (plain_query rank query)) × IsTrue (past_may_want_memory before k (plain_query rank query)) × (after ≡ before)
IsTold rank language session before command (Compared comparison) after = (command ≡ plain_comparison rank comparison) × (after ≡ before)

-- what the reply that is still to be written is read from is ready
abbrev pub IsReadyFor : {T : Type 0} → Told T → SessionsState → Type 0
IsReadyFor Nothing sessions = Unit {0}
IsReadyFor (Answer answer) sessions = Unit {0}
IsReadyFor (Query query) sessions = Unit {0}
IsReadyFor (Past k query) sessions = IsReadyAt k sessions
IsReadyFor (Compared comparison) sessions = Unit {0}

-- a text was written whole, and how the line was handled says whether it quits; or a first part of the text was written
abbrev pub IsWritten : {K : Type 0} → (K → List ℕ → Type 0) → Handled → Bool → List ℕ → K → K → Type 0
IsWritten stands Go quits text old new = (quits ≡ false) × Appended stands old new text
IsWritten stands Bye quits text old new = (quits ≡ true) × Appended stands old new text
IsWritten stands WriteFault quits text old new = AppendedPart stands old new text
