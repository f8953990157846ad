-- A session that watches nothing, and never begins to, has no watch to end.
use Rattle.std.proofs.Common.{◌≡◌, ◌≢◌, ℕ, ◌⊎◌, inl, inr, Bool, true, false, eqb, eqb-true, length, List, [], ◌∷◌, ◌++◌, Option, IsTrue, refl, sym, ap, ◌∙◌, subst, arith, length-append}
use Rattle.std.specs.List.{All, list_all}
use Rattle.std.proofs.lemmas.Bool.{and_parts, cond-false, false≢true, or_cases}
use Rattle.std.proofs.lemmas.List.{get_or-set_other}
use Rattle.std.proofs.lemmas.List.Elements.{All-cons, All-head, All-nil, All-tail}
use Rattle.ec_lists.proofs.Numbers.{eqb-apart}
use Rattle.ec_terms.specs.declared.ground.Ground.{Ground}
use Rattle.ec_commands.specs.Answers.{answer_ok, answer_text, front_text, refused_not_watched}
use Rattle.ec_commands.specs.Commands.{PlainCommand, unwatch_prop, parsed_of}
use Rattle.ec_commands.specs.Lines.{is_long, line_feed}
use Rattle.ec_replies.specs.State.{State, empty_state, watched_by}
use Rattle.ec_replies.specs.Replies.{Language, Reply, answering, command_reply, is_watched, reply_line, reply_to_unwatch, session_of}
use Rattle.ec_replies.specs.Runs.{Step, is_quit}
use Rattle.ec_replies.specs.Laws.{BeginsWithOk, is_line_of, line_command, line_prefix, may_change}
use Rattle.ec_replies.specs.RunLaws.{Answered, GoesOn, IsWithoutEffect, IsWithoutUpdate, RunOf, SessionsWithoutUpdatesAreUnseen, is_unanswered, is_unwatch, is_watch}
use Rattle.ec_replies.proofs.Apart.{not_ok}
use Rattle.ec_replies.proofs.DraftLaws.{without_memory}
use Rattle.ec_replies.proofs.OtherSessions.{SessionsWithoutEffectAreUnseen-law}
use Rattle.ec_replies.proofs.Outcomes.{Outcome, is_kept, is_updated, is_held, is_begun, is_committed, is_dropped, is_watching, is_unwatched, LineOutcome, step_outcome}
use Rattle.ec_replies.proofs.OwnDraft.{is_line_of-parts, reply_of-short}
use Rattle.ec_replies.proofs.RunParts.{step_without_memory}
use Rattle.ec_replies.proofs.Watched.{none_watched}

-- ---- an unwatch is refused

-- the command that ends a watch names its property
unwatch_of : (command : PlainCommand) → is_unwatch command ≡ true → (p : Ground) × (command ≡ unwatch_prop p)
unwatch_of (unwatch_prop p) is = (p, refl)
unwatch_of command is = cc

-- where nothing is watched its reply does not begin with `ok`
refused-unwatch : (prefix : Option ℕ) (session : ℕ) (state : State) (p : Ground) → watched_by session state ≡ []
    → BeginsWithOk prefix (reply_to_unwatch prefix session state p).text → ⊥
unfolding reply_to_unwatch answer_text
refused-unwatch prefix session state p none begins =
    not_ok prefix (answer_text refused_not_watched) (λ same. omega arith)
    (subst (λ (r : Reply). BeginsWithOk prefix r.text)
    (cond-false (is_watched p (watched_by session state)) _ (answering prefix refused_not_watched state) (ap (is_watched p) none)) begins)

step-unwatch : (language : Language) (state after : State) (line text : List ℕ) → is_long line ≡ false → is_unwatch (line_command language line) ≡ true
    → watched_by (session_of (parsed_of language.spelt line)) state ≡ [] → Step language state line text after → BeginsWithOk (line_prefix language line) text → ⊥
unfolding command_reply
step-unwatch language state after line text short ends none step begins =
    let asks = unwatch_of (line_command language line) ends in
    let prefix = line_prefix language line in
    let session = session_of (parsed_of language.spelt line) in
    let answered = step_without_memory language state after line text (without_memory language line (unwatch_prop asks.0) refl asks.1) step in
    let told : text ≡ (reply_to_unwatch prefix session state asks.0).text =
    answered.text_is ∙ ap (λ (r : Reply). r.text) (reply_of-short language state line short)
    ∙ ap (λ (c : PlainCommand). (command_reply language prefix session state c).text) asks.1 in
    refused-unwatch prefix session state asks.0 none (subst (BeginsWithOk prefix) told begins)

-- ---- nothing is watched on

-- a reply to another session, or one that begins no watch, leaves a session without watches
Outcome-unwatching : (language : Language) (prefix : Option ℕ) (own session : ℕ) (state : State) (command : PlainCommand) (reply : Reply) → watched_by session state ≡ []
    → (session ≢ own) ⊎ (is_watch command ≡ false) → Outcome language prefix own state command reply → watched_by session reply.after ≡ []
Outcome-unwatching language prefix own session state command reply none other (is_kept text not_made) = none
Outcome-unwatching language prefix own session state command reply none other (is_updated update events changes closed is) = none
Outcome-unwatching language prefix own session state command reply none other (is_held held update opened room) = none
Outcome-unwatching language prefix own session state command reply none other (is_begun keeps closed) = none
Outcome-unwatching language prefix own session state command reply none other (is_committed held events changes opened is) = none
Outcome-unwatching language prefix own session state command reply none other (is_dropped held keeps opened) = none
Outcome-unwatching language prefix own session state command reply none (inl apart) (is_watching p asks new room) = get_or-set_other state.watches own session _ [] apart ∙ none
Outcome-unwatching language prefix own session state command reply none (inr no_watch) (is_watching p asks new room) = absurd (false≢true (sym no_watch ∙ ap is_watch asks))
Outcome-unwatching language prefix own session state command reply none other (is_unwatched p asks was) = by_own (eqb own session) refl
  where
    by_own : (b : Bool) → eqb own session ≡ b → watched_by session reply.after ≡ []
    by_own true same =
        absurd (false≢true (ap (is_watched p) (sym (ap (λ (k : ℕ). watched_by k state) (eqb-true own session same) ∙ none)) ∙ was))
    by_own false apart = get_or-set_other state.watches own session _ [] (eqb-apart own session apart) ∙ none

step-unwatching : (language : Language) (session : ℕ) (state after : State) (line text : List ℕ) → watched_by session state ≡ []
    → (is_line_of language session line ≡ true → is_watch (line_command language line) ≡ false) → Step language state line text after → watched_by session after ≡ []
unfolding is_line_of
step-unwatching language session state after line text none no_watch step = by_length (step_outcome language state after line text step)
  where
    own : ℕ
    own = session_of (parsed_of language.spelt line)

    by_own : is_long line ≡ false → (b : Bool) → eqb own session ≡ b → (session ≢ own) ⊎ (is_watch (line_command language line) ≡ false)
    by_own short true same = inr (no_watch (rw short same))
    by_own short false apart = inl (eqb-apart own session apart)

    by_length : ((is_long line ≡ true) × (after ≡ state)) ⊎ ((is_long line ≡ false) × LineOutcome language state line text after) → watched_by session after ≡ []
    by_length (inl long) = ap (watched_by session) long.1 ∙ none
    by_length (inr short) =
        Outcome-unwatching language (line_prefix language line) own session state (line_command language line) (record { text = text; after = after }) none
        (by_own short.0 (eqb own session) refl) short.1

-- ---- lines

-- a text that is empty begins with no line
not_begun : (prefix : Option ℕ) (text : List ℕ) → text ≡ [] → BeginsWithOk prefix text → ⊥
not_begun prefix text none begins =
    let long = ap (λ (t : List ℕ). length t) (sym none ∙ begins.1) in
    let whole = length-append (reply_line prefix (answer_text answer_ok)) begins.0 in
    let line = length-append (front_text prefix ++ answer_text answer_ok) (line_feed ∷ []) in omega (arith, long, whole, line)

no_text : (one : Answered) → is_unanswered one ≡ true → one.text ≡ []
no_text one none = by_text one.text none
  where
    by_text : (text : List ℕ) → is_unanswered (record { line = one.line; text = text }) ≡ true → text ≡ []
    by_text [] none = refl
    by_text (b ∷ text) none = absurd (false≢true none)

module _ (language : Language) (session : ℕ) where
  -- behind a `quit` no line is answered
  unanswered-without : (answered : List Answered) → IsTrue (list_all is_unanswered answered) → All (IsWithoutUpdate language session) answered
      → All (IsWithoutEffect language session) answered
  unanswered-without [] none all = All-nil (IsWithoutEffect language session)
  unanswered-without (one ∷ rest) none all =
      let parts = and_parts (is_unanswered one) (list_all is_unanswered rest) none in
      let first = All-head (IsWithoutUpdate language session) one rest all in
      All-cons (IsWithoutEffect language session) one rest
      (record { no_quit = first.no_quit; no_watch = first.no_watch; no_ok = λ mine shows begins. not_begun (line_prefix language one.line) one.text (no_text one parts.0) begins })
      (unanswered-without rest parts.1 (All-tail (IsWithoutUpdate language session) one rest all))

  all-without : (state after : State) (answered : List Answered) → watched_by session state ≡ [] → All (IsWithoutUpdate language session) answered
      → RunOf language state answered after → All (IsWithoutEffect language session) answered
  all-without state after [] none all run = All-nil (IsWithoutEffect language session)
  all-without state after (one ∷ rest) none all run =
      All-cons (IsWithoutEffect language session) one rest effect
      (by_quit (is_quit language one.line) run.2 (λ goes. all-without run.0 after rest later others goes))
    where
      first : IsWithoutUpdate language session one
      first = All-head (IsWithoutUpdate language session) one rest all

      others : All (IsWithoutUpdate language session) rest
      others = All-tail (IsWithoutUpdate language session) one rest all

      later : watched_by session run.0 ≡ []
      later = step-unwatching language session state run.0 one.line one.text none first.no_watch run.1

      unwatches : IsTrue (is_line_of language session one.line) → is_unwatch (line_command language one.line) ≡ true → BeginsWithOk (line_prefix language one.line) one.text → ⊥
      unwatches mine ends begins =
          let parts = is_line_of-parts language session one.line mine in
          step-unwatch language state run.0 one.line one.text parts.0 ends (ap (λ (k : ℕ). watched_by k state) parts.1 ∙ none) run.1 begins

      by_command : IsTrue (is_line_of language session one.line) → BeginsWithOk (line_prefix language one.line) one.text
          → (may_change (line_command language one.line) ≡ true) ⊎ (is_unwatch (line_command language one.line) ≡ true) → ⊥
      by_command mine begins (inl changes) = first.no_ok mine changes begins
      by_command mine begins (inr ends) = unwatches mine ends begins

      effect : IsWithoutEffect language session one
      effect = record {
        no_quit = first.no_quit;
        no_watch = first.no_watch;
        no_ok = λ mine shows begins. by_command mine begins (or_cases (may_change (line_command language one.line)) (is_unwatch (line_command language one.line)) shows);
      }

      by_quit : (quits : Bool) → GoesOn quits rest run.0 after (RunOf language run.0 rest after)
          → (RunOf language run.0 rest after → All (IsWithoutEffect language session) rest) → All (IsWithoutEffect language session) rest
      by_quit true goes rest_of = unanswered-without rest goes.0 others
      by_quit false goes rest_of = rest_of goes

pub SessionsWithoutUpdatesAreUnseen-law : SessionsWithoutUpdatesAreUnseen
unfolding empty_state
SessionsWithoutUpdatesAreUnseen-law language session after answered all run =
    SessionsWithoutEffectAreUnseen-law language session empty_state after answered
    (all-without language session empty_state after answered (none_watched session) all run) run
