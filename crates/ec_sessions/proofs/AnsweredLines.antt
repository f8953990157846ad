-- What answers a command is a step of the line that says it.
use Rattle.std.proofs.Common.{◌≡◌, ◌⊎◌, inl, inr, ℕ, Bool, true, false, not, ◌&&◌, List, [], Option, None, IsTrue, refl, sym, ap, ◌∙◌, subst}
use Rattle.std.specs.Prelude.{ℤ}
use Rattle.ec_commands.specs.Commands.{PlainQuery, PlainCommand, silent, bad, quit, assert_event, retract_event, begin_draft, commit_draft, abort_draft, ask, ask_last, PlainParsed, parsed_of}
use Rattle.ec_commands.specs.Answers.{PlainAnswer, answer_bye, answer_last, answer_text, refused_long_line, refused_memory, refused_syntax}
use Rattle.ec_axioms.specs.Changes.{PlainUpdate, asserting, retracting}
use Rattle.ec_commands.specs.declared.limits.TheConstants.{SESSIONS}
use Rattle.ec_commands.specs.Lines.{is_long}
use Rattle.ec_terms.specs.declared.ground.Ground.{Ground}
use Rattle.ec_replies.specs.State.{State}
use Rattle.ec_replies.specs.Replies.{Language, Reply, noted, session_of, answering, reply_line, query_text, command_reply, parsed_reply, reply_of, reply_to_update, reply_to_begin, reply_to_commit, reply_to_abort}
use Rattle.ec_replies.specs.Runs.{Step, is_quit, command_quits, command_may_want_memory, parsed_may_want_memory, may_want_memory, update_may_want_memory, commit_may_want_memory}
use Rattle.ec_replies.proofs.Outcomes.{noted-unwatched}
use Rattle.ec_replies.proofs.OwnDraft.{reply_of-long, reply_of-short}
use Rattle.ec_sessions.specs.declared.handled.Handled.{Handled}
use Rattle.ec_sessions.specs.declared.handled.Handled.TheVariants.{Go, Bye, WriteFault}
use Rattle.ec_sessions.specs.declared.told.Comparison.{Comparison}
use Rattle.ec_sessions.specs.declared.told.Comparison.TheVariants.{Pairs, Related}
use Rattle.ec_sessions.specs.Answering.{IsAnswerBy, IsAnswerTo, IsWritten, comparison_text, is_bye, plain_comparison}
use Rattle.ec_sessions.specs.Handling.{IsHandled}
use Rattle.ec_sessions.specs.SessionsState.{no_watches}

-- ---- commands

-- A command of a session, whose line had this prefix, is answered by its reply, or is refused because memory ran out.
abbrev pub CommandStep : Language → Option ℕ → ℕ → State → PlainCommand → List ℕ → State → Type 0
CommandStep language prefix session before command text after =
    (command_reply language prefix session before command ≡ record { text = text; after = after })
    ⊎ (IsTrue (command_may_want_memory language.theory session before command) × (text ≡ reply_line prefix (answer_text refused_memory)) × (after ≡ before))

pub CommandStep-answer : (language : Language) (prefix : Option ℕ) (session : ℕ) (before after : State) (command : PlainCommand) (answer : PlainAnswer)
    → IsAnswerTo language session before command answer after → CommandStep language prefix session before command (reply_line prefix (answer_text answer)) after
CommandStep-answer language prefix session before after command answer to = by_answer to.by
  where
    by_answer : IsAnswerBy (λ prefix. command_reply language prefix session before command) (command_may_want_memory language.theory session before command) before answer after
        → CommandStep language prefix session before command (reply_line prefix (answer_text answer)) after
    by_answer (inl replies) = inl (replies prefix)
    by_answer (inr wanting) = inr (wanting.0, ap (λ (a : PlainAnswer). reply_line prefix (answer_text a)) wanting.1, wanting.2)

pub CommandStep-silent : (language : Language) (prefix : Option ℕ) (session : ℕ) (before : State) → CommandStep language prefix session before silent [] before
unfolding command_reply
CommandStep-silent language prefix session before = inl refl

-- a query is answered by its text, from the present events
pub CommandStep-query : (query : PlainQuery) (language : Language) (prefix : Option ℕ) (session : ℕ) (before : State)
    → CommandStep language prefix session before (ask query) (reply_line prefix (query_text language before.events query)) before
unfolding command_reply
CommandStep-query query language prefix session before = inl refl

-- a comparison is answered by its text, from the present events
pub CommandStep-compared : {T : Type 0} (rank : T → ℤ) (comparison : Comparison T) (language : Language) (prefix : Option ℕ) (session : ℕ) (before : State)
    → CommandStep language prefix session before (plain_comparison rank comparison)
    (reply_line prefix (comparison_text rank language.theory before.events language.canon comparison)) before
unfolding command_reply
CommandStep-compared rank (Pairs left relation right) language prefix session before = inl refl
CommandStep-compared rank (Related left at relation right) language prefix session before = inl refl

pub command_quits-compared : {T : Type 0} (rank : T → ℤ) (comparison : Comparison T) → command_quits (plain_comparison rank comparison) ≡ false
command_quits-compared rank (Pairs left relation right) = refl
command_quits-compared rank (Related left at relation right) = refl

-- ---- answers

module _ (language : Language) (session : ℕ) (before : State) where
  pub IsAnswerTo-bad : IsAnswerTo language session before bad refused_syntax before
  unfolding command_reply
  IsAnswerTo-bad = record { by = inl (λ prefix. refl); quits = refl }

  pub IsAnswerTo-quit : IsAnswerTo language session before quit answer_bye before
  unfolding command_reply
  IsAnswerTo-quit = record { by = inl (λ prefix. refl); quits = refl }

  pub IsAnswerTo-last : IsAnswerTo language session before ask_last (answer_last before.last) before
  unfolding command_reply
  IsAnswerTo-last = record { by = inl (λ prefix. refl); quits = refl }

  pub IsAnswerTo-begin : (answer : PlainAnswer) (after : State) → ((prefix : Option ℕ) → reply_to_begin prefix session before ≡ answering prefix answer after) → is_bye answer ≡ false
      → IsAnswerTo language session before begin_draft answer after
  unfolding command_reply
  IsAnswerTo-begin answer after replies goes_on = record { by = inl replies; quits = goes_on }

  pub IsAnswerTo-abort : (answer : PlainAnswer) (after : State) → ((prefix : Option ℕ) → reply_to_abort prefix session before ≡ answering prefix answer after) → is_bye answer ≡ false
      → IsAnswerTo language session before abort_draft answer after
  unfolding command_reply
  IsAnswerTo-abort answer after replies goes_on = record { by = inl replies; quits = goes_on }

  -- the answer to a reply is that to the reply with its notes, where nothing is watched
  noted_answer : (reply : Option ℕ → Reply) (may : Bool) (answer : PlainAnswer) (after : State) → before.watches ≡ no_watches → IsAnswerBy reply may before answer after
      → IsAnswerBy (λ prefix. noted language before (reply prefix)) may before answer after
  noted_answer reply may answer after unwatched (inl replies) = inl (λ prefix. noted-unwatched language before (reply prefix) SESSIONS unwatched ∙ replies prefix)
  noted_answer reply may answer after unwatched (inr wanting) = inr wanting

  pub IsAnswerTo-commit : (answer : PlainAnswer) (after : State) → before.watches ≡ no_watches
      → IsAnswerBy (λ prefix. reply_to_commit language.theory prefix session before) (commit_may_want_memory language.theory session before) before answer after → is_bye answer ≡ false
      → IsAnswerTo language session before commit_draft answer after
  unfolding command_reply command_may_want_memory
  IsAnswerTo-commit answer after unwatched by goes_on = record {
    by = noted_answer (λ prefix. reply_to_commit language.theory prefix session before) (commit_may_want_memory language.theory session before) answer after unwatched by;
    quits = goes_on;
  }

  pub IsAnswerTo-assert : (id : List ℕ) (t : ℤ) (term : Ground) (answer : PlainAnswer) (after : State) → before.watches ≡ no_watches
      → IsAnswerBy (λ prefix. reply_to_update language.theory prefix session before (asserting (record { id = id; rank = t; term = term })))
      (update_may_want_memory language.theory session before (asserting (record { id = id; rank = t; term = term }))) before answer after → is_bye answer ≡ false
      → IsAnswerTo language session before (assert_event id t term) answer after
  unfolding command_reply command_may_want_memory
  IsAnswerTo-assert id t term answer after unwatched by goes_on =
      let update : PlainUpdate = asserting (record { id = id; rank = t; term = term }) in record {
        by = noted_answer (λ prefix. reply_to_update language.theory prefix session before update) (update_may_want_memory language.theory session before update) answer after unwatched by;
        quits = goes_on;
      }

  pub IsAnswerTo-retract : (id : List ℕ) (answer : PlainAnswer) (after : State) → before.watches ≡ no_watches
      → IsAnswerBy (λ prefix. reply_to_update language.theory prefix session before (retracting id)) (update_may_want_memory language.theory session before (retracting id)) before answer after
      → is_bye answer ≡ false → IsAnswerTo language session before (retract_event id) answer after
  unfolding command_reply command_may_want_memory
  IsAnswerTo-retract id answer after unwatched by goes_on = record {
    by = noted_answer (λ prefix. reply_to_update language.theory prefix session before (retracting id)) (update_may_want_memory language.theory session before (retracting id)) answer after unwatched by;
    quits = goes_on;
  }

-- an answer to a command that is this one
pub IsAnswerTo-same : (language : Language) (session : ℕ) (before : State) (command told : PlainCommand) (answer : PlainAnswer) (after : State) → command ≡ told
    → IsAnswerTo language session before told answer after → IsAnswerTo language session before command answer after
IsAnswerTo-same language session before command told answer after same to = subst (λ (c : PlainCommand). IsAnswerTo language session before c answer after) (sym same) to

-- ---- lines

-- a line that is not long is answered as its command is
pub Step-parsed : (language : Language) (line text : List ℕ) (parsed : PlainParsed) (before after : State) → is_long line ≡ false → parsed ≡ parsed_of language.spelt line
    → CommandStep language parsed.session (session_of parsed) before parsed.command text after → Step language before line text after
unfolding may_want_memory
Step-parsed language line text parsed before after short is (inl replies) =
    let whole : reply_of language before line ≡ record { text = text; after = after } =
    reply_of-short language before line short ∙ ap (λ (p : PlainParsed). parsed_reply language before p) (sym is) ∙ replies in
    inl (record { text_is = ap (λ (r : Reply). r.text) (sym whole); after_is = ap (λ (r : Reply). r.after) (sym whole) })
Step-parsed language line text parsed before after short is (inr wanting) =
    inr (record {
      may = ap (λ (long : Bool). not long && parsed_may_want_memory language.theory before (parsed_of language.spelt line)) short
          ∙ ap (λ (p : PlainParsed). parsed_may_want_memory language.theory before p) (sym is) ∙ wanting.0;
      text_is = wanting.1 ∙ ap (λ (p : PlainParsed). reply_line p.session (answer_text refused_memory)) is;
      after_is = wanting.2;
    })

pub is_quit-parsed : (language : Language) (line : List ℕ) (parsed : PlainParsed) → is_long line ≡ false → parsed ≡ parsed_of language.spelt line
    → is_quit language line ≡ command_quits parsed.command
unfolding is_quit
is_quit-parsed language line parsed short is =
    ap (λ (long : Bool). not long && command_quits (parsed_of language.spelt line).command) short ∙ ap (λ (p : PlainParsed). command_quits p.command) (sym is)

-- a long line is refused, and is not `quit`
pub Step-long : (language : Language) (line : List ℕ) (state : State) → is_long line ≡ true → Step language state line (reply_line None (answer_text refused_long_line)) state
Step-long language line state long =
    let whole = reply_of-long language state line long in
    inl (record { text_is = ap (λ (r : Reply). r.text) (sym whole); after_is = ap (λ (r : Reply). r.after) (sym whole) })

pub is_quit-long : (language : Language) (line : List ℕ) → is_long line ≡ true → is_quit language line ≡ false
unfolding is_quit
is_quit-long language line long = ap (λ (b : Bool). not b && command_quits (parsed_of language.spelt line).command) long

-- ---- handling

-- a step whose text was written is a line that was handled
pub IsHandled-written : {K : Type 0} (stands : K → List ℕ → Type 0) (language : Language) {line text : List ℕ} {before after : State} (old new : K) (handled : Handled) (quits : Bool)
    → Step language before line text after → is_quit language line ≡ quits → IsWritten stands handled quits text old new
    → IsHandled stands language handled line before after old new
IsHandled-written stands language {text = text} old new Go quits step known written = record { text = text; step = step; quit = known ∙ written.0; appended = written.1 }
IsHandled-written stands language {text = text} old new Bye quits step known written = record { text = text; step = step; quit = known ∙ written.0; appended = written.1 }
IsHandled-written stands language {text = text} old new WriteFault quits step known written = record { text = text; step = step; part = written }
