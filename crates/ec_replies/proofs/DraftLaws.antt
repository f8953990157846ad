-- What an update, a begin, an abort, a watch and an unwatch leave.
use Rattle.std.proofs.Common.{◌≡◌, ℕ, ◌⊎◌, inl, inr, Bool, true, false, not, ◌||◌, ltb, leb, ◌≤◌, length, List, [], Option, Some, None, Result, Ok, Err, IsTrue, IsFalse, arith, refl, sym, ap, ◌∙◌, subst}
use Rattle.std.proofs.lemmas.Bool.{ltb-true, leb-true, leb-false}
use Rattle.ec_terms.specs.declared.ground.Ground.{Ground}
use Rattle.ec_axioms.specs.declared.event.Cut.{Cut}
use Rattle.ec_commands.specs.declared.limits.TheConstants.{MOST_DRAFTED, MOST_WATCHED}
use Rattle.ec_axioms.specs.Calculus.{PlainEvent}
use Rattle.ec_axioms.specs.Changes.{PlainUpdate, asserting, retracting}
use Rattle.ec_commands.specs.Lines.{is_long}
use Rattle.ec_commands.specs.Commands.{PlainCommand, assert_event, retract_event, begin_draft, abort_draft, watch_prop, unwatch_prop, parsed_of}
use Rattle.ec_replies.specs.State.{Draft, State, draft_of, with_draft, watched_by, with_watched}
use Rattle.ec_replies.specs.Updates.{updated}
use Rattle.ec_replies.specs.Replies.{Language, Reply, noted, is_watched, without_property, reply_to_watch, reply_to_unwatch, session_of, update_reply, drafted_reply, reply_to_update, reply_to_begin, reply_to_abort, command_reply, reply_of}
use Rattle.ec_replies.specs.Laws.{IsUpdated, IsDrafted, IsWatching, WatchesAreKept, UnwatchesEndAWatch, UpdatesAreMadeOrHeld, BeginsOpenADraft, AbortsCloseADraft, IsOpen, asked_update, may_change, is_past_query, line_command, line_prefix}
use Rattle.ec_replies.specs.RunLaws.{is_without_memory}
use Rattle.ec_replies.proofs.RunParts.{step_without_memory}
use Rattle.ec_replies.proofs.ByDraft.{reply_to_update-closed, reply_to_begin-closed, reply_to_abort-closed, reply_to_update-open, reply_to_begin-open, reply_to_abort-open}
use Rattle.ec_replies.proofs.OwnDraft.{reply_of-short}

-- the state after a reply to a line that is not long, by its command
after_command : (language : Language) (state : State) (line : List ℕ) (command : PlainCommand) → IsFalse (is_long line) → line_command language line ≡ command
    → (reply_of language state line).after ≡ (command_reply language (line_prefix language line) (session_of (parsed_of language.spelt line)) state command).after
after_command language state line command short is =
    ap (λ (r : Reply). r.after) (reply_of-short language state line short)
    ∙ ap (λ (c : PlainCommand). (command_reply language (line_prefix language line) (session_of (parsed_of language.spelt line)) state c).after) is

-- ---- updates

command-update : (language : Language) (prefix : Option ℕ) (session : ℕ) (state : State) (command : PlainCommand) (update : PlainUpdate)
    → asked_update command ≡ Some update
    → command_reply language prefix session state command ≡ noted language state (reply_to_update language.theory prefix session state update)
unfolding command_reply
command-update language prefix session state (assert_event id t term) update is =
    let same : asserting (record { id = id; rank = t; term = term }) ≡ update = cc in ap (λ (u : PlainUpdate). noted language state (reply_to_update language.theory prefix session state u)) same
command-update language prefix session state (retract_event id) update is =
    let same : retracting id ≡ update = cc in ap (λ (u : PlainUpdate). noted language state (reply_to_update language.theory prefix session state u)) same
command-update language prefix session state command update is = cc

module _ (language : Language) (prefix : Option ℕ) (session : ℕ) (state : State) (update : PlainUpdate) where
  -- what the state after an update is
  abbrev Ends : State → Type 0
  Ends after = IsUpdated language.theory session update state after ⊎ (IsDrafted session update state after ⊎ (after ≡ state))

  update_ends : Ends (reply_to_update language.theory prefix session state update).after
  update_ends = by_draft (draft_of session state) refl
    where
      by_result : draft_of session state ≡ None → (result : Result (List PlainEvent) Cut) → updated language.theory state.events update ≡ result
          → Ends (update_reply language.theory prefix state result).after
      by_result closed (Ok events) is = inl (record { was_closed = closed; events = is; last = refl; drafts = refl; past = refl; watches = refl })
      by_result closed (Err cut) is = inr (inr refl)

      by_place : (held : List PlainUpdate) → draft_of session state ≡ Some held → (b : Bool) → ltb (length held) MOST_DRAFTED ≡ b
          → Ends (drafted_reply prefix session state held update).after
      by_place held opened true is =
          rw is (inr (inl (record { held = held; was_open = opened; has_room = ltb-true (length held) MOST_DRAFTED is; is_held = refl })))
      by_place held opened false is = rw is (inr (inr refl))

      by_draft : (draft : Draft) → draft_of session state ≡ draft → Ends (reply_to_update language.theory prefix session state update).after
      by_draft None is =
          subst (λ (r : Reply). Ends r.after) (sym (reply_to_update-closed prefix session state language.theory update is))
          (by_result is (updated language.theory state.events update) refl)
      by_draft (Some held) is =
          subst (λ (r : Reply). Ends r.after) (sym (reply_to_update-open prefix session state language.theory update held is))
          (by_place held is (ltb (length held) MOST_DRAFTED) refl)

pub UpdatesAreMadeOrHeld-law : UpdatesAreMadeOrHeld
UpdatesAreMadeOrHeld-law language state after line text update short asks (inr refused) = inr (inr refused.after_is)
UpdatesAreMadeOrHeld-law language state after line text update short asks (inl answered) =
    let prefix = line_prefix language line in
    let session = session_of (parsed_of language.spelt line) in
    let is = answered.after_is ∙ after_command language state line (line_command language line) short refl
    ∙ ap (λ (r : Reply). r.after) (command-update language prefix session state (line_command language line) update asks) in
    subst (Ends language prefix session state update) (sym is) (update_ends language prefix session state update)

-- ---- begins and aborts

module _ (language : Language) (prefix : Option ℕ) (session : ℕ) (state : State) where
  abbrev BeginEnds : State → Type 0
  BeginEnds after = ((draft_of session state ≡ None) × (after ≡ with_draft session (Some []) state)) ⊎ (IsOpen session state × (after ≡ state))

  begin_ends : BeginEnds (command_reply language prefix session state begin_draft).after
  unfolding command_reply
  begin_ends = by_draft (draft_of session state) refl
    where
      by_draft : (draft : Draft) → draft_of session state ≡ draft → BeginEnds (reply_to_begin prefix session state).after
      by_draft None is = subst (λ (r : Reply). BeginEnds r.after) (sym (reply_to_begin-closed prefix session state is)) (inl (is, refl))
      by_draft (Some held) is = subst (λ (r : Reply). BeginEnds r.after) (sym (reply_to_begin-open prefix session state held is)) (inr ((held, is), refl))

  abbrev AbortEnds : State → Type 0
  AbortEnds after = (IsOpen session state × (after ≡ with_draft session None state)) ⊎ ((draft_of session state ≡ None) × (after ≡ state))

  abort_ends : AbortEnds (command_reply language prefix session state abort_draft).after
  unfolding command_reply
  abort_ends = by_draft (draft_of session state) refl
    where
      by_draft : (draft : Draft) → draft_of session state ≡ draft → AbortEnds (reply_to_abort prefix session state).after
      by_draft None is = subst (λ (r : Reply). AbortEnds r.after) (sym (reply_to_abort-closed prefix session state is)) (inr (is, refl))
      by_draft (Some held) is = subst (λ (r : Reply). AbortEnds r.after) (sym (reply_to_abort-open prefix session state held is)) (inl ((held, is), refl))

-- memory is wanting for neither
pub without_memory : (language : Language) (line : List ℕ) (command : PlainCommand) → (may_change command || is_past_query command) ≡ false → line_command language line ≡ command
    → IsTrue (is_without_memory language line)
unfolding is_without_memory
without_memory language line command keeps is =
    or_right (is_long line) (may_change (line_command language line) || is_past_query (line_command language line))
    (ap (λ (c : PlainCommand). may_change c || is_past_query c) is ∙ keeps)
  where
    or_right : (a b : Bool) → b ≡ false → (a || not b) ≡ true
    or_right a b none = grind arith

pub BeginsOpenADraft-law : BeginsOpenADraft
BeginsOpenADraft-law language state after line text short begins step =
    let answered = step_without_memory language state after line text (without_memory language line begin_draft refl begins) step in
    subst (BeginEnds language (line_prefix language line) (session_of (parsed_of language.spelt line)) state)
    (sym (answered.after_is ∙ after_command language state line begin_draft short begins))
    (begin_ends language (line_prefix language line) (session_of (parsed_of language.spelt line)) state)

pub AbortsCloseADraft-law : AbortsCloseADraft
AbortsCloseADraft-law language state after line text short aborts step =
    let answered = step_without_memory language state after line text (without_memory language line abort_draft refl aborts) step in
    subst (AbortEnds language (line_prefix language line) (session_of (parsed_of language.spelt line)) state)
    (sym (answered.after_is ∙ after_command language state line abort_draft short aborts))
    (abort_ends language (line_prefix language line) (session_of (parsed_of language.spelt line)) state)

-- ---- watches

module _ (language : Language) (prefix : Option ℕ) (session : ℕ) (state : State) (p : Ground) where
  abbrev WatchEnds : State → Type 0
  WatchEnds after =
      IsWatching session p state after
      ⊎ ((IsTrue (is_watched p (watched_by session state)) ⊎ (MOST_WATCHED ≤ length (watched_by session state))) × (after ≡ state))

  watch_ends : WatchEnds (command_reply language prefix session state (watch_prop p)).after
  unfolding command_reply reply_to_watch
  watch_ends = by_tests (is_watched p (watched_by session state)) refl (leb MOST_WATCHED (length (watched_by session state))) refl
    where
      by_tests : (watches : Bool) → is_watched p (watched_by session state) ≡ watches → (full : Bool) → leb MOST_WATCHED (length (watched_by session state)) ≡ full
          → WatchEnds (reply_to_watch language prefix session state p).after
      by_tests true is full room = rw is (inr (inl refl, refl))
      by_tests false is true room = rw (is, room) (inr (inr (leb-true MOST_WATCHED (length (watched_by session state)) room), refl))
      by_tests false is false room =
          rw (is, room) (inl (record { was_not = is; has_room = leb-false MOST_WATCHED (length (watched_by session state)) room; is_watching = refl }))

  abbrev UnwatchEnds : State → Type 0
  UnwatchEnds after =
      (IsTrue (is_watched p (watched_by session state)) × (after ≡ with_watched session (without_property p (watched_by session state)) state))
      ⊎ (IsFalse (is_watched p (watched_by session state)) × (after ≡ state))

  unwatch_ends : UnwatchEnds (command_reply language prefix session state (unwatch_prop p)).after
  unfolding command_reply reply_to_unwatch
  unwatch_ends = by_test (is_watched p (watched_by session state)) refl
    where
      by_test : (watches : Bool) → is_watched p (watched_by session state) ≡ watches → UnwatchEnds (reply_to_unwatch prefix session state p).after
      by_test true is = rw is (inl (refl, refl))
      by_test false is = rw is (inr (refl, refl))

pub WatchesAreKept-law : WatchesAreKept
WatchesAreKept-law language state after line text p short watches step =
    let answered = step_without_memory language state after line text (without_memory language line (watch_prop p) refl watches) step in
    subst (WatchEnds language (line_prefix language line) (session_of (parsed_of language.spelt line)) state p)
    (sym (answered.after_is ∙ after_command language state line (watch_prop p) short watches))
    (watch_ends language (line_prefix language line) (session_of (parsed_of language.spelt line)) state p)

pub UnwatchesEndAWatch-law : UnwatchesEndAWatch
UnwatchesEndAWatch-law language state after line text p short ends step =
    let answered = step_without_memory language state after line text (without_memory language line (unwatch_prop p) refl ends) step in
    subst (UnwatchEnds language (line_prefix language line) (session_of (parsed_of language.spelt line)) state p)
    (sym (answered.after_is ∙ after_command language state line (unwatch_prop p) short ends))
    (unwatch_ends language (line_prefix language line) (session_of (parsed_of language.spelt line)) state p)
