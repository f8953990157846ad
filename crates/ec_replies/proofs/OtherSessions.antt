-- A run without the lines of a session that leaves the events as they are.
use Rattle.std.proofs.Common.{◌≡◌, ◌≢◌, ℕ, ◌⊎◌, inl, inr, Bool, true, false, not, ◌&&◌, ◌||◌, ◌==◌, cond, eqb, eqb-true, length, List, [], ◌∷◌, ◌++◌, Option, Some, None, IsTrue, IsFalse, refl, sym, ap, ◌∙◌, subst, arith}
use Rattle.std.specs.Prelude.{nat_le}
use Rattle.std.proofs.lemmas.Bool.{false≢true, eq-eqb}
use Rattle.std.proofs.lemmas.List.{length-set}
use Rattle.std.proofs.lemmas.List.Elements.{All-head, All-tail}
use Rattle.std.specs.List.{All}
use Rattle.ec_lists.proofs.Tests.{list_all-filter}
use Rattle.ec_axioms.specs.Calculus.{PlainEvent}
use Rattle.ec_axioms.specs.Changes.{PlainUpdate, asserting, retracting}
use Rattle.ec_commands.specs.Lines.{is_long}
use Rattle.ec_commands.specs.Commands.{PlainCommand, silent, bad, assert_event, retract_event, begin_draft, commit_draft, abort_draft, ask, ask_past, ask_pairs, ask_related, watch_prop, unwatch_prop, ask_last, quit, parsed_of}
use Rattle.ec_replies.specs.Past.{Past, first_kept}
use Rattle.ec_replies.specs.State.{Draft, State, draft_of}
use Rattle.ec_replies.specs.Updates.{updated}
use Rattle.ec_replies.specs.Replies.{Language, Reply, is_backwards, session_of, reply_of}
use Rattle.ec_replies.specs.Runs.{Step, is_quit, may_want_memory, command_may_want_memory, update_may_want_memory, batch_may_want_memory, commit_may_want_memory, may_want_by}
use Rattle.ec_replies.specs.Laws.{BeginsWithOk, IsSameTo, is_line_of, line_command, line_prefix}
use Rattle.ec_replies.specs.RunLaws.{Answered, is_unanswered, GoesOn, RunOf, IsWithoutEffect, is_watch, is_unwatch, may_show, without_session, SessionsWithoutEffectAreUnseen}
use Rattle.ec_replies.proofs.ByDraft.{update_may_want_memory-closed, update_may_want_memory-open, commit_may_want_memory-closed, commit_may_want_memory-open}
use Rattle.ec_replies.proofs.OwnDraft.{reply_of-long, is_line_of-parts, RepliesDependOnOwnDraft-law}
use Rattle.ec_replies.proofs.Outcomes.{Outcome, is_kept, is_updated, is_held, is_begun, is_committed, is_dropped, is_watching, is_unwatched, LineOutcome, step_outcome}
use Rattle.ec_replies.proofs.StepLaws.{OthersKeepADraft-law, alone}
use Rattle.ec_replies.proofs.AnsweredLines.{run-from_answered}

-- two states are the same to each session but one
record AreSameBut (session : ℕ) (state other : State) : Type 0 where
  events : state.events ≡ other.events
  last : state.last ≡ other.last
  drafts : (k : ℕ) → k ≢ session → draft_of k state ≡ draft_of k other
  sessions : length state.drafts ≡ length other.drafts
  past : state.past ≡ other.past
  watches : state.watches ≡ other.watches

same_to : (session k : ℕ) (state other : State) → k ≢ session → AreSameBut session state other → IsSameTo k state other
same_to session k state other apart same = record {
  events = same.events;
  last = same.last;
  draft = same.drafts k apart;
  sessions = same.sessions;
  past = same.past;
  watches = same.watches;
}

-- ---- memory

-- whether memory may be wanting depends on what is the same to the session
update_may_want_memory-same : (language : Language) (session : ℕ) (state other : State) (update : PlainUpdate) → IsSameTo session state other
    → update_may_want_memory language.theory session state update ≡ update_may_want_memory language.theory session other update
update_may_want_memory-same language session state other update same = by_draft (draft_of session state) refl
  where
    by_draft : (draft : Draft) → draft_of session state ≡ draft
        → update_may_want_memory language.theory session state update ≡ update_may_want_memory language.theory session other update
    by_draft None is =
        update_may_want_memory-closed session state language.theory update is
        ∙ ap (λ (events : List PlainEvent). may_want_by (updated language.theory events update)) same.events
        ∙ sym (update_may_want_memory-closed session other language.theory update (sym same.draft ∙ is))
    by_draft (Some held) is =
        update_may_want_memory-open session state language.theory update held is
        ∙ sym (update_may_want_memory-open session other language.theory update held (sym same.draft ∙ is))

commit_may_want_memory-same : (language : Language) (session : ℕ) (state other : State) → IsSameTo session state other
    → commit_may_want_memory language.theory session state ≡ commit_may_want_memory language.theory session other
commit_may_want_memory-same language session state other same = by_draft (draft_of session state) refl
  where
    by_draft : (draft : Draft) → draft_of session state ≡ draft → commit_may_want_memory language.theory session state ≡ commit_may_want_memory language.theory session other
    by_draft None is =
        commit_may_want_memory-closed session state language.theory is ∙ sym (commit_may_want_memory-closed session other language.theory (sym same.draft ∙ is))
    by_draft (Some held) is =
        commit_may_want_memory-open session state language.theory held is
        ∙ ap (λ (events : List PlainEvent). length held == 0 || batch_may_want_memory language.theory events held) same.events
        ∙ sym (commit_may_want_memory-open session other language.theory held (sym same.draft ∙ is))

command_may_want_memory-same : (language : Language) (session : ℕ) (state other : State) (command : PlainCommand) → IsSameTo session state other
    → command_may_want_memory language.theory session state command ≡ command_may_want_memory language.theory session other command
unfolding command_may_want_memory
command_may_want_memory-same language session state other silent same = refl
command_may_want_memory-same language session state other bad same = refl
command_may_want_memory-same language session state other (assert_event id t term) same =
    update_may_want_memory-same language session state other (asserting (record { id = id; rank = t; term = term })) same
command_may_want_memory-same language session state other (retract_event id) same = update_may_want_memory-same language session state other (retracting id) same
command_may_want_memory-same language session state other begin_draft same = refl
command_may_want_memory-same language session state other commit_draft same = commit_may_want_memory-same language session state other same
command_may_want_memory-same language session state other abort_draft same = refl
command_may_want_memory-same language session state other (ask query) same = refl
command_may_want_memory-same language session state other (ask_past k query) same =
    ap (λ (past : Past). not (is_backwards query) && nat_le k past.count && nat_le (first_kept past) k) same.past
command_may_want_memory-same language session state other (ask_pairs p r q) same = refl
command_may_want_memory-same language session state other (ask_related p t r q) same = refl
command_may_want_memory-same language session state other (watch_prop p) same = refl
command_may_want_memory-same language session state other (unwatch_prop p) same = refl
command_may_want_memory-same language session state other ask_last same = refl
command_may_want_memory-same language session state other quit same = refl

may_want_memory-same : (language : Language) (session : ℕ) (state other : State) (line : List ℕ) → IsTrue (is_line_of language session line) → IsSameTo session state other
    → may_want_memory language state line ≡ may_want_memory language other line
unfolding may_want_memory
may_want_memory-same language session state other line own same =
    ap (λ (b : Bool). not (is_long line) && b)
    (command_may_want_memory-same language (session_of (parsed_of language.spelt line)) state other (line_command language line)
    (subst (λ (k : ℕ). IsSameTo k state other) (sym (is_line_of-parts language session line own).1) same))

-- ---- steps

-- a line of one session is of no other
is_line_of-apart : (language : Language) (own session : ℕ) (line : List ℕ) → IsTrue (is_line_of language own line) → session ≢ own → IsFalse (is_line_of language session line)
unfolding is_line_of
is_line_of-apart language own session line mine apart =
    let parts = is_line_of-parts language own line mine in
    none (not (is_long line)) (eqb (session_of (parsed_of language.spelt line)) session)
    (λ same. apart (sym (eqb-true (session_of (parsed_of language.spelt line)) session same) ∙ parts.1))
  where
    none : (a b : Bool) → (b ≡ true → ⊥) → (a && b) ≡ false
    none a false other = grind arith
    none a true other = absurd (other refl)

-- a line that is not long is of its own session
is_line_of-own : (language : Language) (line : List ℕ) → is_long line ≡ false → IsTrue (is_line_of language (session_of (parsed_of language.spelt line)) line)
unfolding is_line_of
is_line_of-own language line short = rw short (eq-eqb (session_of (parsed_of language.spelt line)) (session_of (parsed_of language.spelt line)) refl)

-- memory is wanting for no long line
may_want_memory-long : (language : Language) (state : State) (line : List ℕ) → is_long line ≡ true → may_want_memory language state line ≡ false
unfolding may_want_memory
may_want_memory-long language state line long = rw long refl

-- a line that is not of a session, and not long, is of another session
is_line_of-other : (language : Language) (session : ℕ) (line : List ℕ) → is_long line ≡ false → IsFalse (is_line_of language session line)
    → session_of (parsed_of language.spelt line) ≢ session
is_line_of-other language session line short other same =
    false≢true (sym other ∙ subst (λ (k : ℕ). IsTrue (is_line_of language k line)) same (is_line_of-own language line short))

module _ (language : Language) (session : ℕ) where
  -- the states after two lines are the same to all others where those before were, and to the lines' own session
  after_line : (state other next after : State) (line : List ℕ) (own : ℕ) → IsTrue (is_line_of language own line)
      → (text : List ℕ) → Step language state line text next → Step language other line text after
      → AreSameBut session state other → IsSameTo own next after → AreSameBut session next after
  after_line state other next after line own mine text step further same here = record {
    events = here.events;
    last = here.last;
    drafts = λ k apart. by_own k apart (eqb k own) refl;
    sessions = here.sessions;
    past = here.past;
    watches = here.watches;
  }
    where
      by_own : (k : ℕ) → k ≢ session → (b : Bool) → eqb k own ≡ b → draft_of k next ≡ draft_of k after
      by_own k apart true is = subst (λ (m : ℕ). draft_of m next ≡ draft_of m after) (sym (eqb-true k own is)) here.draft
      by_own k apart false is =
          let none = is_line_of-apart language own k line mine (λ equal. false≢true (sym is ∙ eq-eqb k own equal)) in
          OthersKeepADraft-law language k state next line text none step ∙ same.drafts k apart ∙ sym (OthersKeepADraft-law language k other after line text none further)

  -- a step of a line that is not of the session is made alike from a state that is the same to all others
  step-follows : (state next other : State) (line text : List ℕ) → IsFalse (is_line_of language session line) → AreSameBut session state other
      → Step language state line text next → (after : State) × Step language other line text after × AreSameBut session next after
  step-follows state next other line text none same step = by_length (is_long line) refl step
    where
      kept : next ≡ state → AreSameBut session next other
      kept is = subst (λ (s : State). AreSameBut session s other) (sym is) same

      by_length : (b : Bool) → is_long line ≡ b → Step language state line text next
          → (after : State) × Step language other line text after × AreSameBut session next after
      by_length true long (inl answered) =
          let here = reply_of-long language state line long in
          let there = reply_of-long language other line long in (
            other,
            inl (record {
              text_is = answered.text_is ∙ ap (λ (r : Reply). r.text) here ∙ sym (ap (λ (r : Reply). r.text) there);
              after_is = sym (ap (λ (r : Reply). r.after) there);
            }),
            subst (λ (s : State). AreSameBut session s other) (sym (answered.after_is ∙ ap (λ (r : Reply). r.after) here)) same,
          )
      by_length true long (inr refused) = absurd (false≢true (sym (may_want_memory-long language state line long) ∙ refused.may))
      by_length false short (inl answered) =
          let own = session_of (parsed_of language.spelt line) in
          let mine = is_line_of-own language line short in
          let apart = is_line_of-other language session line short none in
          let replies = RepliesDependOnOwnDraft-law language own state other line mine (same_to session own state other apart same) in
          let further : Step language other line text (reply_of language other line).after = inl (record { text_is = answered.text_is ∙ replies.0; after_is = refl }) in (
            (reply_of language other line).after,
            further,
            after_line state other next (reply_of language other line).after line own mine text (inl answered) further same
                (subst (λ (s : State). IsSameTo own s (reply_of language other line).after) (sym answered.after_is) replies.1),
          )
      by_length false short (inr refused) =
          let own = session_of (parsed_of language.spelt line) in
          let mine = is_line_of-own language line short in
          let apart = is_line_of-other language session line short none in (
            other,
            inr (record {
              may = sym (may_want_memory-same language own state other line mine (same_to session own state other apart same)) ∙ refused.may;
              text_is = refused.text_is;
              after_is = refl;
            }),
            subst (λ (s : State). AreSameBut session s other) (sym refused.after_is) same,
          )

  -- ---- the session's own lines

  -- what another session sees of a state but drafts
  abbrev IsUnseen : State → State → Type 0
  IsUnseen state after =
      (after.events ≡ state.events) × (after.last ≡ state.last) × (length after.drafts ≡ length state.drafts) × (after.past ≡ state.past) × (after.watches ≡ state.watches)

  -- a reply that makes no update, and begins or ends no watch, leaves all but drafts
  Outcome-unseen : (prefix : Option ℕ) (own : ℕ) (state : State) (command : PlainCommand) (reply : Reply) → is_watch command ≡ false
      → (may_show command ≡ true → BeginsWithOk prefix reply.text → ⊥) → Outcome language prefix own state command reply → IsUnseen state reply.after
  Outcome-unseen prefix own state command reply no_watch no_ok (is_kept text none) = (refl, refl, refl, refl, refl)
  Outcome-unseen prefix own state command reply no_watch no_ok (is_updated update events changes closed is) =
      absurd (no_ok (ap (λ (b : Bool). b || is_unwatch command) changes) (_, refl))
  Outcome-unseen prefix own state command reply no_watch no_ok (is_held held update opened room) =
      (refl, refl, length-set state.drafts own (Some (held ++ update ∷ [])), refl, refl)
  Outcome-unseen prefix own state command reply no_watch no_ok (is_begun keeps closed) = (refl, refl, length-set state.drafts own (Some []), refl, refl)
  Outcome-unseen prefix own state command reply no_watch no_ok (is_committed held events changes opened is) =
      absurd (no_ok (ap (λ (b : Bool). b || is_unwatch command) changes) (_, refl))
  Outcome-unseen prefix own state command reply no_watch no_ok (is_dropped held keeps opened) = (refl, refl, length-set state.drafts own None, refl, refl)
  Outcome-unseen prefix own state command reply no_watch no_ok (is_watching p asks new room) = absurd (false≢true (sym no_watch ∙ ap is_watch asks))
  Outcome-unseen prefix own state command reply no_watch no_ok (is_unwatched p asks was) = absurd (no_ok (ap may_show asks) (alone prefix))

  -- a step of the session that makes no update is seen by no other
  step-unseen : (state next other : State) (line text : List ℕ) → IsTrue (is_line_of language session line)
      → is_watch (line_command language line) ≡ false
      → (may_show (line_command language line) ≡ true → BeginsWithOk (line_prefix language line) text → ⊥)
      → AreSameBut session state other → Step language state line text next → AreSameBut session next other
  step-unseen state next other line text mine no_watch no_ok same step = by_length (step_outcome language state next line text step)
    where
      by_length : ((is_long line ≡ true) × (next ≡ state)) ⊎ ((is_long line ≡ false) × LineOutcome language state line text next) → AreSameBut session next other
      by_length (inl long) = subst (λ (s : State). AreSameBut session s other) (sym long.1) same
      by_length (inr short) =
          let unseen = Outcome-unseen (line_prefix language line) (session_of (parsed_of language.spelt line)) state (line_command language line)
          (record { text = text; after = next }) no_watch no_ok short.1 in
          record {
            events = unseen.0 ∙ same.events;
            last = unseen.1 ∙ same.last;
            drafts = λ k apart. OthersKeepADraft-law language k state next line text (is_line_of-apart language session k line mine apart) step ∙ same.drafts k apart;
            sessions = unseen.2 ∙ same.sessions;
            past = unseen.3 ∙ same.past;
            watches = unseen.4 ∙ same.watches;
          }

  -- ---- runs

  -- the others' lines
  abbrev others : List Answered → List Answered
  others answered = without_session language session answered

  run-follows : (state after other : State) (answered : List Answered) → AreSameBut session state other → All (IsWithoutEffect language session) answered
      → RunOf language state answered after → (last : State) × RunOf language other (others answered) last
  run-follows state after other [] same all run = (other, refl)
  run-follows state after other (one ∷ rest) same all run =
      by_own (is_line_of language session one.line) refl
      (λ next reached alike further. run-follows next after reached rest alike (All-tail (IsWithoutEffect language session) one rest all) further)
    where
      effect : IsWithoutEffect language session one
      effect = All-head (IsWithoutEffect language session) one rest all

      by_quit : (quits : Bool) (next reached : State) → AreSameBut session next reached → GoesOn quits rest next after (RunOf language next rest after)
          → ((next reached : State) → AreSameBut session next reached → RunOf language next rest after → (last : State) × RunOf language reached (others rest) last)
          → (last : State) × GoesOn quits (others rest) reached last (RunOf language reached (others rest) last)
      by_quit true next reached alike goes later =
          (reached, (list_all-filter is_unanswered (λ (o : Answered). not (is_line_of language session o.line)) rest goes.0, refl))
      by_quit false next reached alike goes later = later next reached alike goes

      by_own : (own : Bool) → is_line_of language session one.line ≡ own
          → ((next reached : State) → AreSameBut session next reached → RunOf language next rest after → (last : State) × RunOf language reached (others rest) last)
          → (last : State) × RunOf language other (cond (not own) (one ∷ others rest) (others rest)) last
      by_own true mine later =
          later run.0 other (step-unseen state run.0 other one.line one.text mine (effect.no_watch mine) (effect.no_ok mine) same run.1)
          (subst (λ (q : Bool). GoesOn q rest run.0 after (RunOf language run.0 rest after)) (effect.no_quit mine) run.2)
      by_own false none later =
          let step = step-follows state run.0 other one.line one.text none same run.1 in
          let goes = by_quit (is_quit language one.line) run.0 step.0 step.2 run.2 later in
          (goes.0, (step.0, step.1, goes.1))

pub SessionsWithoutEffectAreUnseen-law : SessionsWithoutEffectAreUnseen
SessionsWithoutEffectAreUnseen-law language session state after answered all run =
    let follows = run-follows language session state after state answered
    (record { events = refl; last = refl; drafts = λ k apart. refl; sessions = refl; past = refl; watches = refl }) all run in
    (follows.0, run-from_answered language state follows.0 (without_session language session answered) follows.1)
