-- What a step leaves as it was.
use Rattle.std.proofs.Common.{◌≡◌, ◌≢◌, ℕ, ◌<◌, ◌+◌, ◌⊎◌, inl, inr, Bool, true, false, not, ◌&&◌, ◌||◌, eqb, get_or, length, List, [], ◌∷◌, ◌++◌, Option, Some, None, Result, Ok, Err, IsTrue, refl, sym, ap, ◌∙◌, subst, arith}
use Rattle.std.proofs.lemmas.List.{append-nil, get_or-set_other}
use Rattle.ec_lists.proofs.Numbers.{eqb-apart}
use Rattle.ec_axioms.specs.Calculus.{PlainEvent}
use Rattle.ec_axioms.specs.Changes.{PlainUpdate, PlacedCut}
use Rattle.ec_commands.specs.Lines.{is_long, line_feed}
use Rattle.ec_commands.specs.Commands.{PlainCommand, silent, bad, assert_event, retract_event, begin_draft, commit_draft, abort_draft, ask, ask_past, ask_pairs, ask_related, watch_prop, unwatch_prop, ask_last, quit, parsed_of}
use Rattle.ec_commands.specs.Answers.{answer_ok, answer_drafted, answer_text}
use Rattle.ec_commands.specs.QueryTexts.{intervals_reply}
use Rattle.ec_replies.specs.Past.{commit_weight}
use Rattle.ec_replies.specs.State.{Draft, State, draft_of}
use Rattle.ec_replies.specs.Updates.{updated_by}
use Rattle.ec_replies.specs.Replies.{Language, Reply, session_of, reply_line, commit_reply, reply_to_commit, command_reply, reply_of}
use Rattle.ec_replies.specs.Laws.{OthersKeepADraft, QueriesChangeNothing, OnlyAcceptedLinesChange, RefusedLinesChangeNothing, CommitsAreWhole, IsCommitted, IsAccepting, IsRefusal, BeginsWithOk, is_line_of, is_query, is_past_query, line_command, line_prefix}
use Rattle.ec_replies.proofs.Apart.{BeginsWithDigit, decimal-first, not_refused}
use Rattle.ec_replies.proofs.Drafts.{draft_of-closed}
use Rattle.ec_replies.proofs.ByDraft.{reply_to_commit-closed, reply_to_commit-open}
use Rattle.ec_replies.proofs.OwnDraft.{reply_of-long, reply_of-short}
use Rattle.ec_replies.proofs.Outcomes.{Outcome, is_kept, is_updated, is_held, is_begun, is_committed, is_dropped, is_watching, is_unwatched, LineOutcome, step_outcome}

-- ---- other sessions

-- a reply to one session leaves the draft of another
Outcome-other : (language : Language) (prefix : Option ℕ) (own session : ℕ) (state : State) (command : PlainCommand) (reply : Reply) → session ≢ own
    → Outcome language prefix own state command reply → draft_of session reply.after ≡ draft_of session state
Outcome-other language prefix own session state command reply apart (is_kept text none) = refl
Outcome-other language prefix own session state command reply apart (is_updated update events changes closed is) = refl
Outcome-other language prefix own session state command reply apart (is_held held update opened room) = get_or-set_other state.drafts own session _ None apart
Outcome-other language prefix own session state command reply apart (is_begun keeps closed) = get_or-set_other state.drafts own session _ None apart
Outcome-other language prefix own session state command reply apart (is_committed held events changes opened is) = get_or-set_other state.drafts own session _ None apart
Outcome-other language prefix own session state command reply apart (is_dropped held keeps opened) = get_or-set_other state.drafts own session _ None apart
Outcome-other language prefix own session state command reply apart (is_watching p asks new room) = refl
Outcome-other language prefix own session state command reply apart (is_unwatched p asks was) = refl

pub OthersKeepADraft-law : OthersKeepADraft
unfolding is_line_of
OthersKeepADraft-law language session state after line text other step = by_length (step_outcome language state after line text step)
  where
    not_own : (b own : Bool) → (not b && own) ≡ false → b ≡ false → own ≡ false
    not_own b own none short = grind arith

    by_length : ((is_long line ≡ true) × (after ≡ state)) ⊎ ((is_long line ≡ false) × LineOutcome language state line text after) → draft_of session after ≡ draft_of session state
    by_length (inl long) = ap (draft_of session) long.1
    by_length (inr short) =
        Outcome-other language (line_prefix language line) (session_of (parsed_of language.spelt line)) session state (line_command language line) (record { text = text; after = after })
        (eqb-apart (session_of (parsed_of language.spelt line)) session (not_own (is_long line) (eqb (session_of (parsed_of language.spelt line)) session) other short.0)) short.1

-- ---- queries

query_after : (language : Language) (prefix : Option ℕ) (session : ℕ) (state : State) (command : PlainCommand) → IsTrue (is_query command || is_past_query command)
    → (command_reply language prefix session state command).after ≡ state
unfolding command_reply
query_after language prefix session state silent query = cc
query_after language prefix session state bad query = cc
query_after language prefix session state (assert_event id t term) query = cc
query_after language prefix session state (retract_event id) query = cc
query_after language prefix session state begin_draft query = cc
query_after language prefix session state commit_draft query = cc
query_after language prefix session state abort_draft query = cc
query_after language prefix session state (ask asked) query = refl
query_after language prefix session state (ask_past k asked) query = refl
query_after language prefix session state (ask_pairs p r q) query = refl
query_after language prefix session state (ask_related p t r q) query = refl
query_after language prefix session state (watch_prop p) query = cc
query_after language prefix session state (unwatch_prop p) query = cc
query_after language prefix session state ask_last query = refl
query_after language prefix session state quit query = cc

pub QueriesChangeNothing-law : QueriesChangeNothing
QueriesChangeNothing-law language state after line text query (inr refused) = refused.after_is
QueriesChangeNothing-law language state after line text query (inl answered) = answered.after_is ∙ by_length (is_long line) refl
  where
    by_length : (b : Bool) → is_long line ≡ b → (reply_of language state line).after ≡ state
    by_length true is = ap (λ (r : Reply). r.after) (reply_of-long language state line is)
    by_length false is =
        ap (λ (r : Reply). r.after) (reply_of-short language state line is)
        ∙ query_after language (line_prefix language line) (session_of (parsed_of language.spelt line)) state (line_command language line) query

-- ---- what is accepted

-- the line `ok` is no refusal
ok_not_refused : (prefix : Option ℕ) → IsRefusal prefix (reply_line prefix (answer_text answer_ok)) → ⊥
unfolding answer_text
ok_not_refused prefix refused =
    not_refused prefix (answer_text answer_ok) [] (λ same. omega arith)
    (subst (IsRefusal prefix) (sym (append-nil (reply_line prefix (answer_text answer_ok)))) refused)

-- the line `ok` begins with itself
pub alone : (prefix : Option ℕ) → BeginsWithOk prefix (reply_line prefix (answer_text answer_ok))
alone prefix = ([], sym (append-nil (reply_line prefix (answer_text answer_ok))))

-- a reply keeps the state, or accepts the line
Outcome-accepting : (language : Language) (prefix : Option ℕ) (session : ℕ) (state : State) (command : PlainCommand) (reply : Reply)
    → Outcome language prefix session state command reply → (reply.after ≡ state) ⊎ IsAccepting language state prefix command reply.text
Outcome-accepting language prefix session state command reply (is_kept text none) = inl refl
Outcome-accepting language prefix session state command reply (is_updated update events changes closed is) = inr (inl (_, refl))
Outcome-accepting language prefix session state command reply (is_held held update opened room) = inr (inr (inl (_, refl)))
Outcome-accepting language prefix session state command reply (is_begun keeps closed) = inr (inl (alone prefix))
Outcome-accepting language prefix session state command reply (is_committed held events changes opened is) = inr (inl (_, refl))
Outcome-accepting language prefix session state command reply (is_dropped held keeps opened) = inr (inl (alone prefix))
Outcome-accepting language prefix session state command reply (is_watching p asks new room) = inr (inr (inr (p, asks, refl)))
Outcome-accepting language prefix session state command reply (is_unwatched p asks was) = inr (inl (alone prefix))

pub OnlyAcceptedLinesChange-law : OnlyAcceptedLinesChange
OnlyAcceptedLinesChange-law language state after line text step = by_length (step_outcome language state after line text step)
  where
    by_length : ((is_long line ≡ true) × (after ≡ state)) ⊎ ((is_long line ≡ false) × LineOutcome language state line text after)
        → (after ≡ state) ⊎ IsAccepting language state (line_prefix language line) (line_command language line) text
    by_length (inl long) = inl long.1
    by_length (inr short) =
        Outcome-accepting language (line_prefix language line) (session_of (parsed_of language.spelt line)) state (line_command language line)
        (record { text = text; after = after }) short.1

-- a refusal keeps the state: what changes it begins with `ok`, `drafted` or a number
Outcome-refused : (language : Language) (prefix : Option ℕ) (session : ℕ) (state : State) (command : PlainCommand) (reply : Reply)
    → Outcome language prefix session state command reply → IsRefusal prefix reply.text → reply.after ≡ state
unfolding answer_text intervals_reply
Outcome-refused language prefix session state command reply (is_kept text none) refused = refl
Outcome-refused language prefix session state command reply (is_updated update events changes closed is) refused =
    absurd (not_refused prefix (answer_text answer_ok) _ (λ same. omega arith) refused)
Outcome-refused language prefix session state command reply (is_held held update opened room) refused =
    absurd (not_refused prefix (answer_text (answer_drafted (length held + 1))) [] (λ same. omega arith)
    (subst (IsRefusal prefix) (sym (append-nil (reply_line prefix (answer_text (answer_drafted (length held + 1)))))) refused))
Outcome-refused language prefix session state command reply (is_begun keeps closed) refused = absurd (ok_not_refused prefix refused)
Outcome-refused language prefix session state command reply (is_committed held events changes opened is) refused =
    absurd (not_refused prefix (answer_text answer_ok) _ (λ same. omega arith) refused)
Outcome-refused language prefix session state command reply (is_dropped held keeps opened) refused = absurd (ok_not_refused prefix refused)
Outcome-refused language prefix session state command reply (is_unwatched p asks was) refused = absurd (ok_not_refused prefix refused)
Outcome-refused language prefix session state command reply (is_watching p asks new room) refused =
    let text : List ℕ = intervals_reply language.theory state.events language.canon p in
    let first : BeginsWithDigit text = decimal-first _ _ in
    absurd (not_refused prefix text []
    (λ same. digit_not_r first.0 first.2 (sym (ap (λ (t : List ℕ). get_or ((t ++ line_feed ∷ []) ++ []) 0 0) first.3) ∙ same))
    (subst (IsRefusal prefix) (sym (append-nil (reply_line prefix text))) refused))
  where
    digit_not_r : (d : ℕ) → d < 10 → 48 + d ≡ 114 → ⊥
    digit_not_r d small same = omega arith

pub RefusedLinesChangeNothing-law : RefusedLinesChangeNothing
RefusedLinesChangeNothing-law language state after line text step refused = by_length (step_outcome language state after line text step)
  where
    by_length : ((is_long line ≡ true) × (after ≡ state)) ⊎ ((is_long line ≡ false) × LineOutcome language state line text after) → after ≡ state
    by_length (inl long) = long.1
    by_length (inr short) =
        Outcome-refused language (line_prefix language line) (session_of (parsed_of language.spelt line)) state (line_command language line)
        (record { text = text; after = after }) short.1 refused

-- ---- commits

-- a commit is made whole, or leaves the state
commit_whole : (language : Language) (prefix : Option ℕ) (session : ℕ) (state : State)
    → IsCommitted language.theory session state (reply_to_commit language.theory prefix session state).after
    ⊎ ((reply_to_commit language.theory prefix session state).after ≡ state)
commit_whole language prefix session state = by_draft (draft_of session state) refl
  where
    by_result : (held : List PlainUpdate) → draft_of session state ≡ Some held → (result : Result (List PlainEvent) PlacedCut)
        → updated_by language.theory state.events held ≡ result
        → IsCommitted language.theory session state (commit_reply language.theory prefix session state (commit_weight held) result).after
        ⊎ ((commit_reply language.theory prefix session state (commit_weight held) result).after ≡ state)
    by_result held opened (Ok events) is = inl (record {
      held = held;
      was_open = opened;
      events = is;
      last = refl;
      drafts = refl;
      is_closed = draft_of-closed session state.drafts;
      past = refl;
      watches = refl;
    })
    by_result held opened (Err placed) is = inr refl

    by_draft : (draft : Draft) → draft_of session state ≡ draft → IsCommitted language.theory session state (reply_to_commit language.theory prefix session state).after
        ⊎ ((reply_to_commit language.theory prefix session state).after ≡ state)
    by_draft None is = inr (ap (λ (r : Reply). r.after) (reply_to_commit-closed prefix session state language.theory is))
    by_draft (Some held) is =
        rw (reply_to_commit-open prefix session state language.theory held is) (by_result held is (updated_by language.theory state.events held) refl)

commit_command : (language : Language) (prefix : Option ℕ) (session : ℕ) (state : State)
    → (command_reply language prefix session state commit_draft).after ≡ (reply_to_commit language.theory prefix session state).after
unfolding command_reply
commit_command language prefix session state = refl

pub CommitsAreWhole-law : CommitsAreWhole
CommitsAreWhole-law language state after line text short commits (inr refused) = inr refused.after_is
CommitsAreWhole-law language state after line text short commits (inl answered) =
    let prefix = line_prefix language line in
    let session = session_of (parsed_of language.spelt line) in
    let is = answered.after_is ∙ ap (λ (r : Reply). r.after) (reply_of-short language state line short)
    ∙ ap (λ (c : PlainCommand). (command_reply language prefix session state c).after) commits ∙ commit_command language prefix session state in
    subst (λ (s : State). IsCommitted language.theory session state s ⊎ (s ≡ state)) (sym is) (commit_whole language prefix session state)
