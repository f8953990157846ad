-- Each reply ends with a line end, or is empty.
use Rattle.std.proofs.Common.{◌≡◌, ℕ, Bool, true, false, ltb, length, List, [], ◌∷◌, ◌++◌, ◌+◌, Option, Some, None, Result, Ok, Err, refl, sym, ap, ap₂, ◌∙◌, subst, append-nil}
use Rattle.std.specs.Prelude.{nat_le, codes, decimal, map}
use Rattle.std.proofs.lemmas.Bool.{cond_both}
use Rattle.ec_terms.specs.declared.ground.Ground.{Ground}
use Rattle.ec_terms.specs.declared.theory.Theory.{Theory}
use Rattle.ec_terms.specs.Term.{term_text}
use Rattle.ec_axioms.specs.Timeline.{Interval}
use Rattle.ec_axioms.specs.declared.event.Cut.{Cut}
use Rattle.ec_commands.specs.declared.limits.TheConstants.{MOST_DRAFTED, MOST_WATCHED}
use Rattle.ec_commands.specs.Answers.{answer_ok, answer_bye, answer_drafted, answer_last, answer_text, front_text, refused_commit, refused_full_draft, refused_in_draft, refused_long_line, refused_no_draft, refused_not_watched, refused_full_watches, refused_syntax, refused_update, refused_watched}
use Rattle.ec_commands.specs.QueryTexts.{Canon, counted_text, interval_text, intervals_reply, pairs_reply, related_reply}
use Rattle.ec_axioms.specs.Calculus.{PlainEvent, intervals_of}
use Rattle.ec_axioms.specs.Changes.{PlacedCut, PlainUpdate, asserting, retracting, has_other_intervals}
use Rattle.ec_commands.specs.Commands.{PlainCommand, silent, bad, assert_event, retract_event, begin_draft, commit_draft, abort_draft, ask, ask_past, ask_pairs, ask_related, watch_prop, unwatch_prop, ask_last, quit, parsed_of}
use Rattle.ec_commands.specs.Lines.{CutText, cut_of, is_long, line_feed}
use Rattle.ec_lines.proofs.CutLines.{behind, cut_of-append}
use Rattle.ec_replies.specs.Replies.{Language, Reply, noted, past_text, is_watched, reply_to_watch, reply_to_unwatch, commit_reply, command_reply, drafted_reply, query_text, reply_line, reply_of, reply_to_abort, reply_to_begin, reply_to_commit, reply_to_update, session_of, update_reply}
use Rattle.ec_replies.specs.Notes.{missing_from, note_between, note_text, notes_from, session_notes}
use Rattle.ec_replies.specs.Past.{commit_weight}
use Rattle.ec_replies.specs.State.{Draft, State, draft_of, watched_by}
use Rattle.ec_replies.specs.Updates.{updated, updated_by}
use Rattle.ec_replies.proofs.ByDraft.{reply_to_abort-closed, reply_to_abort-open, reply_to_begin-closed, reply_to_begin-open, reply_to_commit-closed, reply_to_commit-open, reply_to_update-closed, reply_to_update-open}
use Rattle.ec_replies.proofs.OwnDraft.{reply_of-long, reply_of-short}

-- nothing stands behind the last line end of a text
abbrev pub IsEnded : List ℕ → Type 0
IsEnded text = (cut_of text).rest ≡ []

IsEnded-nil : IsEnded []
unfolding cut_of
IsEnded-nil = refl

IsEnded-line : (text : List ℕ) → IsEnded (text ++ line_feed ∷ [])
unfolding cut_of
IsEnded-line text = ap (λ (c : CutText). c.rest) (cut_of-append text (line_feed ∷ []))

-- the ended parts of a text behind one that is ended
pub ended-append : (text more : List ℕ) → IsEnded text → (cut_of (text ++ more)).ended ≡ (cut_of text).ended ++ (cut_of more).ended
ended-append text more is =
    ap (λ (c : CutText). c.ended) (cut_of-append text more) ∙ by_parts (cut_of more).ended
  where
    by_parts : (parts : List (List ℕ)) → (behind (cut_of text) parts (cut_of more).rest).ended ≡ (cut_of text).ended ++ parts
    by_parts [] = sym (append-nil (cut_of text).ended)
    by_parts (part ∷ parts) = ap (λ (r : List ℕ). (cut_of text).ended ++ (r ++ part) ∷ parts) is

-- two texts that are ended, joined
IsEnded-append : (text more : List ℕ) → IsEnded text → IsEnded more → IsEnded (text ++ more)
IsEnded-append text more first second =
    ap (λ (c : CutText). c.rest) (cut_of-append text more) ∙ by_parts (cut_of more).ended
  where
    by_parts : (parts : List (List ℕ)) → (behind (cut_of text) parts (cut_of more).rest).rest ≡ []
    by_parts [] = ap₂ (λ (a b : List ℕ). a ++ b) first second
    by_parts (part ∷ parts) = second

-- ---- notes

note_text_ended : (canon : Canon) (session : ℕ) (p : Ground) (lost gained : List Interval) → IsEnded (note_text canon session p lost gained)
unfolding note_text
note_text_ended canon session p lost gained =
    IsEnded-line (codes "note " ++ decimal session ++ codes " " ++ term_text p ++ codes " lost " ++ counted_text (map (interval_text canon) lost)
    ++ codes " gained " ++ counted_text (map (interval_text canon) gained))

note_ended : (theory : Theory) (canon : Canon) (session : ℕ) (p : Ground) (old new : List PlainEvent) → IsEnded (note_between theory canon session p old new)
unfolding note_between
note_ended theory canon session p old new =
    cond_both (has_other_intervals theory old new p) _ [] IsEnded (λ _. note_text_ended canon session p (missing_from (intervals_of theory new p) (intervals_of theory old p)) (missing_from (intervals_of theory old p) (intervals_of theory new p))) (λ _. IsEnded-nil)

session_notes_ended : (theory : Theory) (canon : Canon) (session : ℕ) (watched : List Ground) (old new : List PlainEvent)
    → IsEnded (session_notes theory canon session watched old new)
unfolding session_notes
session_notes_ended theory canon session [] old new = IsEnded-nil
session_notes_ended theory canon session (p ∷ watched) old new =
    IsEnded-append (note_between theory canon session p old new) (session_notes theory canon session watched old new) (note_ended theory canon session p old new)
    (session_notes_ended theory canon session watched old new)

notes_ended : (theory : Theory) (canon : Canon) (session : ℕ) (watches : List (List Ground)) (old new : List PlainEvent)
    → IsEnded (notes_from theory canon session watches old new)
unfolding notes_from
notes_ended theory canon session [] old new = IsEnded-nil
notes_ended theory canon session (watched ∷ watches) old new =
    IsEnded-append (session_notes theory canon session watched old new) (notes_from theory canon (session + 1) watches old new)
    (session_notes_ended theory canon session watched old new) (notes_ended theory canon (session + 1) watches old new)

-- ---- replies

module _ (prefix : Option ℕ) where
  reply_ended : (text : List ℕ) → IsEnded (reply_line prefix text)
  reply_ended text = IsEnded-line (front_text prefix ++ text)

  module _ (language : Language) (session : ℕ) (state : State) where
    -- a reply that is another one, which is ended
    by_reply : {reply other : Reply} → reply ≡ other → IsEnded other.text → IsEnded reply.text
    by_reply same is = subst (λ (r : Reply). IsEnded r.text) (sym same) is

    -- a reply with its notes
    noted_ended : (reply : Reply) → IsEnded reply.text → IsEnded (noted language state reply).text
    noted_ended reply is =
        IsEnded-append reply.text (notes_from language.theory language.canon 0 state.watches state.events reply.after.events) is
        (notes_ended language.theory language.canon 0 state.watches state.events reply.after.events)

    update_ended : (update : PlainUpdate) → IsEnded (reply_to_update language.theory prefix session state update).text
    update_ended update = by_draft (draft_of session state) refl
      where
        by_result : (result : Result (List PlainEvent) Cut) → IsEnded (update_reply language.theory prefix state result).text
        by_result (Ok events) = reply_ended (answer_text answer_ok)
        by_result (Err cut) = reply_ended (answer_text (refused_update cut))

        by_place : (held : List PlainUpdate) (b : Bool) → ltb (length held) MOST_DRAFTED ≡ b → IsEnded (drafted_reply prefix session state held update).text
        by_place held true is = rw is (reply_ended (answer_text (answer_drafted (length held + 1))))
        by_place held false is = rw is (reply_ended (answer_text refused_full_draft))

        by_draft : (draft : Draft) → draft_of session state ≡ draft → IsEnded (reply_to_update language.theory prefix session state update).text
        by_draft None is = by_reply (reply_to_update-closed prefix session state language.theory update is) (by_result (updated language.theory state.events update))
        by_draft (Some held) is = by_reply (reply_to_update-open prefix session state language.theory update held is) (by_place held (ltb (length held) MOST_DRAFTED) refl)

    begin_ended : IsEnded (reply_to_begin prefix session state).text
    begin_ended = by_draft (draft_of session state) refl
      where
        by_draft : (draft : Draft) → draft_of session state ≡ draft → IsEnded (reply_to_begin prefix session state).text
        by_draft None is = by_reply (reply_to_begin-closed prefix session state is) (reply_ended (answer_text answer_ok))
        by_draft (Some held) is = by_reply (reply_to_begin-open prefix session state held is) (reply_ended (answer_text refused_in_draft))

    commit_ended : IsEnded (reply_to_commit language.theory prefix session state).text
    commit_ended = by_draft (draft_of session state) refl
      where
        by_result : (weight : ℕ) (result : Result (List PlainEvent) PlacedCut) → IsEnded (commit_reply language.theory prefix session state weight result).text
        by_result weight (Ok events) = reply_ended (answer_text answer_ok)
        by_result weight (Err placed) = reply_ended (answer_text (refused_commit placed.0 placed.1))

        by_draft : (draft : Draft) → draft_of session state ≡ draft → IsEnded (reply_to_commit language.theory prefix session state).text
        by_draft None is = by_reply (reply_to_commit-closed prefix session state language.theory is) (reply_ended (answer_text refused_no_draft))
        by_draft (Some held) is = by_reply (reply_to_commit-open prefix session state language.theory held is) (by_result (commit_weight held) (updated_by language.theory state.events held))

    abort_ended : IsEnded (reply_to_abort prefix session state).text
    abort_ended = by_draft (draft_of session state) refl
      where
        by_draft : (draft : Draft) → draft_of session state ≡ draft → IsEnded (reply_to_abort prefix session state).text
        by_draft None is = by_reply (reply_to_abort-closed prefix session state is) (reply_ended (answer_text refused_no_draft))
        by_draft (Some held) is = by_reply (reply_to_abort-open prefix session state held is) (reply_ended (answer_text answer_ok))

    watch_ended : (p : Ground) → IsEnded (reply_to_watch language prefix session state p).text
    unfolding reply_to_watch
    watch_ended p =
        cond_both (is_watched p (watched_by session state)) _ _ (λ (r : Reply). IsEnded r.text) (λ _. reply_ended (answer_text refused_watched))
        (λ _. cond_both (nat_le MOST_WATCHED (length (watched_by session state))) _ _ (λ (r : Reply). IsEnded r.text)
        (λ _. reply_ended (answer_text refused_full_watches)) (λ _. reply_ended (intervals_reply language.theory state.events language.canon p)))

    unwatch_ended : (p : Ground) → IsEnded (reply_to_unwatch prefix session state p).text
    unfolding reply_to_unwatch
    unwatch_ended p =
        cond_both (is_watched p (watched_by session state)) _ _ (λ (r : Reply). IsEnded r.text) (λ _. reply_ended (answer_text answer_ok))
        (λ _. reply_ended (answer_text refused_not_watched))

    command_ended : (command : PlainCommand) → IsEnded (command_reply language prefix session state command).text
    unfolding command_reply
    command_ended silent = IsEnded-nil
    command_ended bad = reply_ended (answer_text refused_syntax)
    command_ended (assert_event id t term) =
        let update = asserting (record { id = id; rank = t; term = term }) in noted_ended (reply_to_update language.theory prefix session state update) (update_ended update)
    command_ended (retract_event id) = noted_ended (reply_to_update language.theory prefix session state (retracting id)) (update_ended (retracting id))
    command_ended begin_draft = begin_ended
    command_ended commit_draft = noted_ended (reply_to_commit language.theory prefix session state) commit_ended
    command_ended abort_draft = abort_ended
    command_ended (ask query) = reply_ended (query_text language state.events query)
    command_ended (ask_past k query) = reply_ended (past_text language state k query)
    command_ended (ask_pairs p r q) = reply_ended (pairs_reply language.theory state.events language.canon p r q)
    command_ended (ask_related p t r q) = reply_ended (related_reply language.theory state.events language.canon p t r q)
    command_ended (watch_prop p) = watch_ended p
    command_ended (unwatch_prop p) = unwatch_ended p
    command_ended ask_last = reply_ended (answer_text (answer_last state.last))
    command_ended quit = reply_ended (answer_text answer_bye)

-- the reply to a line is ended
pub reply_of-ended : (language : Language) (state : State) (line : List ℕ) → IsEnded (reply_of language state line).text
reply_of-ended language state line = by_length (is_long line) refl
  where
    by_length : (b : Bool) → is_long line ≡ b → IsEnded (reply_of language state line).text
    by_length true long = subst (λ (r : Reply). IsEnded r.text) (sym (reply_of-long language state line long)) (reply_ended None (answer_text refused_long_line))
    by_length false short =
        let parsed = parsed_of language.spelt line in
        subst (λ (r : Reply). IsEnded r.text) (sym (reply_of-short language state line short)) (command_ended parsed.session language (session_of parsed) state parsed.command)
