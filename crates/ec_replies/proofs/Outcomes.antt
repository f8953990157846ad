-- What a reply does to the state, and by which text it says so.
use Rattle.std.proofs.Common.{◌≡◌, ℕ, replicate, ◌<◌, ◌⊎◌, inl, inr, Bool, true, false, ltb, leb, get_or, length, List, [], ◌∷◌, ◌++◌, ◌+◌, Option, Some, None, Result, Ok, Err, refl, sym, ap, ◌∙◌, subst, arith}
use Rattle.std.proofs.lemmas.Bool.{ltb-true, leb-false}
use Rattle.std.proofs.lemmas.List.{append-nil}
use Rattle.ec_terms.specs.declared.ground.Ground.{Ground}
use Rattle.ec_axioms.specs.declared.event.Cut.{Cut}
use Rattle.ec_axioms.specs.Links.{with_property}
use Rattle.ec_commands.specs.declared.limits.TheConstants.{MOST_DRAFTED, MOST_WATCHED}
use Rattle.ec_axioms.specs.Calculus.{PlainEvent}
use Rattle.ec_axioms.specs.Changes.{PlainUpdate, asserting, retracting, PlacedCut}
use Rattle.ec_commands.specs.Lines.{is_long, line_feed}
use Rattle.ec_commands.specs.Commands.{PlainCommand, silent, bad, assert_event, retract_event, begin_draft, commit_draft, abort_draft, ask, ask_past, ask_pairs, ask_related, watch_prop, unwatch_prop, ask_last, quit, parsed_of}
use Rattle.ec_commands.specs.Answers.{answer_ok, answer_bye, answer_drafted, answer_last, answer_text, refused_syntax, refused_no_draft, refused_in_draft, refused_full_draft, refused_watched, refused_full_watches, refused_not_watched, refused_memory, refused_update, refused_commit}
use Rattle.ec_commands.specs.QueryTexts.{intervals_reply, pairs_reply, related_reply}
use Rattle.ec_replies.specs.Notes.{notes_text}
use Rattle.ec_replies.specs.Past.{commit_weight}
use Rattle.ec_replies.specs.State.{Draft, State, draft_of, with_draft, watched_by, with_watched}
use Rattle.ec_replies.specs.Updates.{updated, updated_by}
use Rattle.ec_replies.specs.Replies.{Language, Reply, session_of, reply_line, answering, revised, noted, update_reply, drafted_reply, commit_reply, reply_to_update, reply_to_begin, reply_to_commit, reply_to_abort, query_text, past_text, is_watched, without_property, reply_to_watch, reply_to_unwatch, command_reply, parsed_reply}
use Rattle.ec_replies.specs.Runs.{Step}
use Rattle.ec_replies.specs.Laws.{BeginsWithOk, may_change, line_command, line_prefix}
use Rattle.ec_replies.proofs.Apart.{not_ok}
use Rattle.ec_replies.proofs.ByDraft.{reply_to_update-closed, reply_to_begin-closed, reply_to_commit-closed, reply_to_abort-closed, reply_to_update-open, reply_to_begin-open, reply_to_commit-open, reply_to_abort-open}
use Rattle.ec_replies.proofs.NoteLemmas.{NoWatchHasNoNote-law, SameEventsHaveNoNote-law}
use Rattle.ec_replies.proofs.OwnDraft.{reply_of-long, reply_of-short}

-- where the events stay a reply has no notes
pub noted-same : (language : Language) (state : State) (reply : Reply) → reply.after.events ≡ state.events → noted language state reply ≡ reply
noted-same language state reply same =
    ap (λ (text : List ℕ). record { text = text; after = reply.after })
    (ap (λ (events : List PlainEvent). reply.text ++ notes_text language.theory language.canon state.watches state.events events) same
    ∙ ap (λ (notes : List ℕ). reply.text ++ notes) (SameEventsHaveNoNote-law language.theory language.canon state.watches state.events)
    ∙ append-nil reply.text)

-- and where no session watches a property
pub noted-unwatched : (language : Language) (state : State) (reply : Reply) (sessions : ℕ) → state.watches ≡ replicate sessions [] → noted language state reply ≡ reply
noted-unwatched language state reply sessions none =
    ap (λ (text : List ℕ). record { text = text; after = reply.after })
    (ap (λ (watches : List (List Ground)). reply.text ++ notes_text language.theory language.canon watches state.events reply.after.events) none
    ∙ ap (λ (notes : List ℕ). reply.text ++ notes) (NoWatchHasNoNote-law language.theory language.canon sessions state.events reply.after.events)
    ∙ append-nil reply.text)

-- A reply leaves the state, or an update is made, or held; a draft is begun, committed or dropped; a watch is begun or ended.
pub data Outcome (language : Language) (prefix : Option ℕ) (session : ℕ) (state : State) (command : PlainCommand) : Reply → Type 0 where
  is_kept : (text : List ℕ) → (may_change command ≡ true → BeginsWithOk prefix text → ⊥)
      → Outcome language prefix session state command (record { text = text; after = state })
  is_updated : (update : PlainUpdate) (events : List PlainEvent) → may_change command ≡ true → draft_of session state ≡ None
      → updated language.theory state.events update ≡ Ok events
      → Outcome language prefix session state command (noted language state (answering prefix answer_ok (revised language.theory 1 state events)))
  is_held : (held : List PlainUpdate) (update : PlainUpdate) → draft_of session state ≡ Some held → length held < MOST_DRAFTED
      → Outcome language prefix session state command (answering prefix (answer_drafted (length held + 1)) (with_draft session (Some (held ++ update ∷ [])) state))
  is_begun : may_change command ≡ false → draft_of session state ≡ None → Outcome language prefix session state command (answering prefix answer_ok (with_draft session (Some []) state))
  is_committed : (held : List PlainUpdate) (events : List PlainEvent) → may_change command ≡ true → draft_of session state ≡ Some held
      → updated_by language.theory state.events held ≡ Ok events
      → Outcome language prefix session state command
      (noted language state (answering prefix answer_ok (with_draft session None (revised language.theory (commit_weight held) state events))))
  is_dropped : (held : List PlainUpdate) → may_change command ≡ false → draft_of session state ≡ Some held
      → Outcome language prefix session state command (answering prefix answer_ok (with_draft session None state))
  is_watching : (p : Ground) → command ≡ watch_prop p → is_watched p (watched_by session state) ≡ false → length (watched_by session state) < MOST_WATCHED
      → Outcome language prefix session state command (record {
        text = reply_line prefix (intervals_reply language.theory state.events language.canon p);
        after = with_watched session (with_property p (watched_by session state)) state;
      })
  is_unwatched : (p : Ground) → command ≡ unwatch_prop p → is_watched p (watched_by session state) ≡ true
      → Outcome language prefix session state command (answering prefix answer_ok (with_watched session (without_property p (watched_by session state)) state))

module _ (language : Language) (prefix : Option ℕ) (session : ℕ) (state : State) (command : PlainCommand) where
  -- an outcome of this command
  abbrev Comes : Reply → Type 0
  Comes reply = Outcome language prefix session state command reply

  Comes-by : (reply other : Reply) → reply ≡ other → Comes other → Comes reply
  Comes-by reply other is comes = subst Comes (sym is) comes

  -- a reply that keeps the state, and has no notes
  Comes-kept : (text : List ℕ) → (may_change command ≡ true → BeginsWithOk prefix text → ⊥) → Comes (noted language state (record { text = text; after = state }))
  Comes-kept text not = Comes-by _ _ (noted-same language state (record { text = text; after = state }) refl) (is_kept text not)

  -- a command that can't change the events
  Comes-quiet : may_change command ≡ false → (text : List ℕ) → Comes (record { text = text; after = state })
  Comes-quiet keeps text = is_kept text (λ changes. let never : true ≡ false = sym changes ∙ keeps in cc)

  update_outcome : may_change command ≡ true → (update : PlainUpdate) → Comes (noted language state (reply_to_update language.theory prefix session state update))
  unfolding answer_text
  update_outcome changes update = by_draft (draft_of session state) refl
    where
      by_result : draft_of session state ≡ None → (result : Result (List PlainEvent) Cut) → updated language.theory state.events update ≡ result
          → Comes (noted language state (update_reply language.theory prefix state result))
      by_result closed (Ok events) is = is_updated update events changes closed is
      by_result closed (Err cut) is = Comes-kept (reply_line prefix (answer_text (refused_update cut))) (λ _. not_ok prefix (answer_text (refused_update cut)) (λ same. omega arith))

      by_place : (held : List PlainUpdate) → draft_of session state ≡ Some held → (b : Bool) → ltb (length held) MOST_DRAFTED ≡ b
          → Comes (noted language state (drafted_reply prefix session state held update))
      by_place held opened true is =
          rw is (Comes-by _ _ (noted-same language state (answering prefix (answer_drafted (length held + 1)) (with_draft session (Some (held ++ update ∷ [])) state)) refl)
          (is_held held update opened (ltb-true (length held) MOST_DRAFTED is)))
      by_place held opened false is =
          rw is (Comes-kept (reply_line prefix (answer_text refused_full_draft)) (λ _. not_ok prefix (answer_text refused_full_draft) (λ same. omega arith)))

      by_draft : (draft : Draft) → draft_of session state ≡ draft → Comes (noted language state (reply_to_update language.theory prefix session state update))
      by_draft None is =
          Comes-by _ _ (ap (noted language state) (reply_to_update-closed prefix session state language.theory update is))
          (by_result is (updated language.theory state.events update) refl)
      by_draft (Some held) is =
          Comes-by _ _ (ap (noted language state) (reply_to_update-open prefix session state language.theory update held is))
          (by_place held is (ltb (length held) MOST_DRAFTED) refl)

  begin_outcome : may_change command ≡ false → Comes (reply_to_begin prefix session state)
  begin_outcome keeps = by_draft (draft_of session state) refl
    where
      by_draft : (draft : Draft) → draft_of session state ≡ draft → Comes (reply_to_begin prefix session state)
      by_draft None is = Comes-by _ _ (reply_to_begin-closed prefix session state is) (is_begun keeps is)
      by_draft (Some held) is = Comes-by _ _ (reply_to_begin-open prefix session state held is) (Comes-quiet keeps (reply_line prefix (answer_text refused_in_draft)))

  commit_outcome : may_change command ≡ true → Comes (noted language state (reply_to_commit language.theory prefix session state))
  unfolding answer_text
  commit_outcome changes = by_draft (draft_of session state) refl
    where
      by_result : (held : List PlainUpdate) → draft_of session state ≡ Some held → (result : Result (List PlainEvent) PlacedCut)
          → updated_by language.theory state.events held ≡ result → Comes (noted language state (commit_reply language.theory prefix session state (commit_weight held) result))
      by_result held opened (Ok events) is = is_committed held events changes opened is
      by_result held opened (Err placed) is =
          Comes-kept (reply_line prefix (answer_text (refused_commit placed.0 placed.1))) (λ _. not_ok prefix (answer_text (refused_commit placed.0 placed.1)) (λ same. omega arith))

      by_draft : (draft : Draft) → draft_of session state ≡ draft → Comes (noted language state (reply_to_commit language.theory prefix session state))
      by_draft None is =
          Comes-by _ _ (ap (noted language state) (reply_to_commit-closed prefix session state language.theory is))
          (Comes-kept (reply_line prefix (answer_text refused_no_draft)) (λ _. not_ok prefix (answer_text refused_no_draft) (λ same. omega arith)))
      by_draft (Some held) is =
          Comes-by _ _ (ap (noted language state) (reply_to_commit-open prefix session state language.theory held is))
          (by_result held is (updated_by language.theory state.events held) refl)

  abort_outcome : may_change command ≡ false → Comes (reply_to_abort prefix session state)
  abort_outcome keeps = by_draft (draft_of session state) refl
    where
      by_draft : (draft : Draft) → draft_of session state ≡ draft → Comes (reply_to_abort prefix session state)
      by_draft None is = Comes-by _ _ (reply_to_abort-closed prefix session state is) (Comes-quiet keeps (reply_line prefix (answer_text refused_no_draft)))
      by_draft (Some held) is = Comes-by _ _ (reply_to_abort-open prefix session state held is) (is_dropped held keeps is)

  watch_outcome : (p : Ground) → command ≡ watch_prop p → Comes (reply_to_watch language prefix session state p)
  unfolding reply_to_watch
  watch_outcome p asks = by_tests (is_watched p (watched_by session state)) refl (leb MOST_WATCHED (length (watched_by session state))) refl
    where
      by_tests : (watches : Bool) → is_watched p (watched_by session state) ≡ watches → (full : Bool) → leb MOST_WATCHED (length (watched_by session state)) ≡ full
          → Comes (reply_to_watch language prefix session state p)
      by_tests true is full room = rw is (Comes-quiet (ap may_change asks) (reply_line prefix (answer_text refused_watched)))
      by_tests false is true room = rw (is, room) (Comes-quiet (ap may_change asks) (reply_line prefix (answer_text refused_full_watches)))
      by_tests false is false room = rw (is, room) (is_watching p asks is (leb-false MOST_WATCHED (length (watched_by session state)) room))

  unwatch_outcome : (p : Ground) → command ≡ unwatch_prop p → Comes (reply_to_unwatch prefix session state p)
  unfolding reply_to_unwatch
  unwatch_outcome p asks = by_test (is_watched p (watched_by session state)) refl
    where
      by_test : (watches : Bool) → is_watched p (watched_by session state) ≡ watches → Comes (reply_to_unwatch prefix session state p)
      by_test true is = rw is (is_unwatched p asks is)
      by_test false is = rw is (Comes-quiet (ap may_change asks) (reply_line prefix (answer_text refused_not_watched)))

-- what the reply to a command does
pub command_outcome : (language : Language) (prefix : Option ℕ) (session : ℕ) (state : State) (command : PlainCommand)
    → Outcome language prefix session state command (command_reply language prefix session state command)
unfolding command_reply
command_outcome language prefix session state silent = Comes-quiet language prefix session state silent refl []
command_outcome language prefix session state bad = Comes-quiet language prefix session state bad refl (reply_line prefix (answer_text refused_syntax))
command_outcome language prefix session state (assert_event id t term) =
    update_outcome language prefix session state (assert_event id t term) refl (asserting (record { id = id; rank = t; term = term }))
command_outcome language prefix session state (retract_event id) = update_outcome language prefix session state (retract_event id) refl (retracting id)
command_outcome language prefix session state begin_draft = begin_outcome language prefix session state begin_draft refl
command_outcome language prefix session state commit_draft = commit_outcome language prefix session state commit_draft refl
command_outcome language prefix session state abort_draft = abort_outcome language prefix session state abort_draft refl
command_outcome language prefix session state (ask query) = Comes-quiet language prefix session state (ask query) refl (reply_line prefix (query_text language state.events query))
command_outcome language prefix session state (ask_past k query) = Comes-quiet language prefix session state (ask_past k query) refl (reply_line prefix (past_text language state k query))
command_outcome language prefix session state (ask_pairs p r q) =
    Comes-quiet language prefix session state (ask_pairs p r q) refl (reply_line prefix (pairs_reply language.theory state.events language.canon p r q))
command_outcome language prefix session state (ask_related p t r q) =
    Comes-quiet language prefix session state (ask_related p t r q) refl (reply_line prefix (related_reply language.theory state.events language.canon p t r q))
command_outcome language prefix session state (watch_prop p) = watch_outcome language prefix session state (watch_prop p) p refl
command_outcome language prefix session state (unwatch_prop p) = unwatch_outcome language prefix session state (unwatch_prop p) p refl
command_outcome language prefix session state ask_last = Comes-quiet language prefix session state ask_last refl (reply_line prefix (answer_text (answer_last state.last)))
command_outcome language prefix session state quit = Comes-quiet language prefix session state quit refl (reply_line prefix (answer_text answer_bye))

-- ---- steps

-- what a line that is not long does
abbrev pub LineOutcome : Language → State → List ℕ → List ℕ → State → Type 0
LineOutcome language state line text after =
    Outcome language (line_prefix language line) (session_of (parsed_of language.spelt line)) state (line_command language line) (record { text = text; after = after })

-- what a step does: a long line keeps the state
pub step_outcome : (language : Language) (state after : State) (line text : List ℕ) → Step language state line text after
    → ((is_long line ≡ true) × (after ≡ state)) ⊎ ((is_long line ≡ false) × LineOutcome language state line text after)
unfolding answer_text
step_outcome language state after line text step = by_length (is_long line) refl step
  where
    memory : get_or ((answer_text refused_memory ++ line_feed ∷ []) ++ []) 0 0 ≡ 111 → ⊥
    memory same = omega arith

    by_short : is_long line ≡ false → Step language state line text after → LineOutcome language state line text after
    by_short short (inl answered) =
        let is = reply_of-short language state line short in
        subst (λ (s : State). LineOutcome language state line text s) (sym (answered.after_is ∙ ap (λ (r : Reply). r.after) is))
        (subst (λ (t : List ℕ). LineOutcome language state line t (parsed_reply language state (parsed_of language.spelt line)).after)
        (sym (answered.text_is ∙ ap (λ (r : Reply). r.text) is))
        (command_outcome language (line_prefix language line) (session_of (parsed_of language.spelt line)) state (line_command language line)))
    by_short short (inr refused) =
        subst (λ (s : State). LineOutcome language state line text s) (sym refused.after_is)
        (is_kept text (λ _ begins. not_ok (line_prefix language line) (answer_text refused_memory) memory (subst (BeginsWithOk (line_prefix language line)) refused.text_is begins)))

    by_long : is_long line ≡ true → Step language state line text after → after ≡ state
    by_long long (inl answered) = answered.after_is ∙ ap (λ (r : Reply). r.after) (reply_of-long language state line long)
    by_long long (inr refused) = refused.after_is

    by_length : (b : Bool) → is_long line ≡ b → Step language state line text after
        → ((is_long line ≡ true) × (after ≡ state)) ⊎ ((is_long line ≡ false) × LineOutcome language state line text after)
    by_length true is step = inl (is, by_long is step)
    by_length false is step = inr (is, by_short is step)
