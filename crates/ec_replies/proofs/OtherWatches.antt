-- Of the watches of other sessions a reply shows the notes alone.
use Rattle.std.proofs.Common.{◌≡◌, ℕ, Bool, true, false, ltb, leb, length, get_or, List, [], ◌++◌, Option, Some, None, Result, Ok, Err, refl, sym, ap, ◌∙◌, subst}
use Rattle.std.specs.Prelude.{slice_set}
use Rattle.std.proofs.lemmas.List.{append-nil}
use Rattle.ec_terms.specs.declared.ground.Ground.{Ground}
use Rattle.ec_axioms.specs.declared.event.Cut.{Cut}
use Rattle.ec_axioms.specs.Calculus.{PlainEvent}
use Rattle.ec_axioms.specs.Changes.{PlainUpdate, asserting, retracting, PlacedCut}
use Rattle.ec_axioms.specs.Links.{with_property}
use Rattle.ec_commands.specs.declared.limits.TheConstants.{MOST_DRAFTED, MOST_WATCHED}
use Rattle.ec_commands.specs.Commands.{PlainCommand, silent, bad, assert_event, retract_event, begin_draft, commit_draft, abort_draft, ask, ask_past, ask_pairs, ask_related, watch_prop, unwatch_prop, ask_last, quit, parsed_of}
use Rattle.ec_replies.specs.Notes.{notes_text}
use Rattle.ec_replies.specs.Past.{commit_weight}
use Rattle.ec_replies.specs.State.{Draft, State, draft_of, watched_by}
use Rattle.ec_replies.specs.Updates.{updated, updated_by}
use Rattle.ec_replies.specs.Replies.{Language, Reply, noted, past_text, is_watched, without_property, update_reply, drafted_reply, commit_reply, reply_to_update, reply_to_begin, reply_to_commit, reply_to_abort, reply_to_watch, reply_to_unwatch, command_reply, parsed_reply, reply_of}
use Rattle.ec_replies.specs.Laws.{DifferInNotes, WatchesShowInNotesAlone, line_command, line_prefix, with_watches}
use Rattle.ec_replies.proofs.ByDraft.{reply_to_update-closed, reply_to_begin-closed, reply_to_commit-closed, reply_to_abort-closed, reply_to_update-open, reply_to_begin-open, reply_to_commit-open, reply_to_abort-open}
use Rattle.ec_replies.proofs.Drafts.{get_or-set_both}
use Rattle.ec_replies.proofs.NoteLemmas.{SameEventsHaveNoNote-law}
use Rattle.ec_replies.proofs.OwnDraft.{is_line_of-parts, reply_of-short}

module _ (language : Language) (prefix : Option ℕ) (session : ℕ) (state : State) (watches : List (List Ground))
    (agrees : get_or watches session [] ≡ watched_by session state) (as_many : length watches ≡ length state.watches) where
  -- the state with other watches
  abbrev other : State
  other = with_watches watches state

  -- two replies with one text, that keep the watches
  record IsAlike (reply further : Reply) : Type 0 where
    text : further.text ≡ reply.text
    after : further.after ≡ with_watches watches reply.after
    kept : reply.after.watches ≡ state.watches

  IsAlike-by : (reply further first second : Reply) → reply ≡ first → further ≡ second → IsAlike first second → IsAlike reply further
  IsAlike-by reply further first second is_first is_second alike =
      subst (λ (r : Reply). IsAlike r further) (sym is_first) (subst (λ (r : Reply). IsAlike first r) (sym is_second) alike)

  -- what a session watches stays
  own : (after : State) → after.watches ≡ state.watches → watched_by session (with_watches watches after) ≡ watched_by session after
  own after kept = agrees ∙ ap (λ (w : List (List Ground)). get_or w session []) (sym kept)

  -- a reply with its notes
  differ-noted : (reply further : Reply) → IsAlike reply further → DifferInNotes language session state watches (noted language state reply) (noted language other further)
  differ-noted reply further alike = record {
    common = reply.text;
    text = refl;
    other_text = ap (λ (text : List ℕ). text ++ notes_text language.theory language.canon watches state.events further.after.events) alike.text;
    later = watches;
    after = alike.after;
    own = subst (λ (s : State). watched_by session s ≡ watched_by session reply.after) (sym alike.after) (own reply.after alike.kept);
  }

  -- a reply that keeps the events has none
  no_notes : (text : List ℕ) (those : List (List Ground)) (events : List PlainEvent) → events ≡ state.events
      → text ≡ text ++ notes_text language.theory language.canon those state.events events
  no_notes text those events same =
      sym (ap (λ (es : List PlainEvent). text ++ notes_text language.theory language.canon those state.events es) same
      ∙ ap (λ (notes : List ℕ). text ++ notes) (SameEventsHaveNoNote-law language.theory language.canon those state.events) ∙ append-nil text)

  differ-quiet : (reply further : Reply) → IsAlike reply further → reply.after.events ≡ state.events → DifferInNotes language session state watches reply further
  differ-quiet reply further alike same = record {
    common = reply.text;
    text = no_notes reply.text state.watches reply.after.events same;
    other_text = alike.text ∙ no_notes reply.text watches further.after.events (ap (λ (s : State). s.events) alike.after ∙ same);
    later = watches;
    after = alike.after;
    own = subst (λ (s : State). watched_by session s ≡ watched_by session reply.after) (sym alike.after) (own reply.after alike.kept);
  }

  -- the same text, and the state as it was
  alike-kept : (text : List ℕ) → IsAlike (record { text = text; after = state }) (record { text = text; after = other })
  alike-kept text = record { text = refl; after = refl; kept = refl }

  differ-kept : (text : List ℕ) → DifferInNotes language session state watches (record { text = text; after = state }) (record { text = text; after = other })
  differ-kept text = differ-quiet _ _ (alike-kept text) refl

  -- ---- updates and drafts

  alike-update : (update : PlainUpdate) → IsAlike (reply_to_update language.theory prefix session state update) (reply_to_update language.theory prefix session other update)
  alike-update update = by_draft (draft_of session state) refl
    where
      by_result : (result : Result (List PlainEvent) Cut) → IsAlike (update_reply language.theory prefix state result) (update_reply language.theory prefix other result)
      by_result (Ok events) = record { text = refl; after = refl; kept = refl }
      by_result (Err cut) = record { text = refl; after = refl; kept = refl }

      by_place : (held : List PlainUpdate) (b : Bool) → ltb (length held) MOST_DRAFTED ≡ b
          → IsAlike (drafted_reply prefix session state held update) (drafted_reply prefix session other held update)
      by_place held true is = rw is (record { text = refl; after = refl; kept = refl })
      by_place held false is = rw is (record { text = refl; after = refl; kept = refl })

      by_draft : (draft : Draft) → draft_of session state ≡ draft
          → IsAlike (reply_to_update language.theory prefix session state update) (reply_to_update language.theory prefix session other update)
      by_draft None is =
          IsAlike-by _ _ _ _ (reply_to_update-closed prefix session state language.theory update is) (reply_to_update-closed prefix session other language.theory update is)
          (by_result (updated language.theory state.events update))
      by_draft (Some held) is =
          IsAlike-by _ _ _ _ (reply_to_update-open prefix session state language.theory update held is) (reply_to_update-open prefix session other language.theory update held is)
          (by_place held (ltb (length held) MOST_DRAFTED) refl)

  differ-begin : DifferInNotes language session state watches (reply_to_begin prefix session state) (reply_to_begin prefix session other)
  differ-begin = by_draft (draft_of session state) refl
    where
      by_draft : (draft : Draft) → draft_of session state ≡ draft
          → DifferInNotes language session state watches (reply_to_begin prefix session state) (reply_to_begin prefix session other)
      by_draft None is = rw (reply_to_begin-closed prefix session state is, reply_to_begin-closed prefix session other is) (differ-quiet _ _ (record { text = refl; after = refl; kept = refl }) refl)
      by_draft (Some held) is = rw (reply_to_begin-open prefix session state held is, reply_to_begin-open prefix session other held is) (differ-kept _)

  alike-commit : IsAlike (reply_to_commit language.theory prefix session state) (reply_to_commit language.theory prefix session other)
  alike-commit = by_draft (draft_of session state) refl
    where
      by_result : (weight : ℕ) (result : Result (List PlainEvent) PlacedCut)
          → IsAlike (commit_reply language.theory prefix session state weight result) (commit_reply language.theory prefix session other weight result)
      by_result weight (Ok events) = record { text = refl; after = refl; kept = refl }
      by_result weight (Err placed) = record { text = refl; after = refl; kept = refl }

      by_draft : (draft : Draft) → draft_of session state ≡ draft → IsAlike (reply_to_commit language.theory prefix session state) (reply_to_commit language.theory prefix session other)
      by_draft None is =
          IsAlike-by _ _ _ _ (reply_to_commit-closed prefix session state language.theory is) (reply_to_commit-closed prefix session other language.theory is)
          (record { text = refl; after = refl; kept = refl })
      by_draft (Some held) is =
          IsAlike-by _ _ _ _ (reply_to_commit-open prefix session state language.theory held is) (reply_to_commit-open prefix session other language.theory held is)
          (by_result (commit_weight held) (updated_by language.theory state.events held))

  differ-abort : DifferInNotes language session state watches (reply_to_abort prefix session state) (reply_to_abort prefix session other)
  differ-abort = by_draft (draft_of session state) refl
    where
      by_draft : (draft : Draft) → draft_of session state ≡ draft
          → DifferInNotes language session state watches (reply_to_abort prefix session state) (reply_to_abort prefix session other)
      by_draft None is = rw (reply_to_abort-closed prefix session state is, reply_to_abort-closed prefix session other is) (differ-kept _)
      by_draft (Some held) is =
          rw (reply_to_abort-open prefix session state held is, reply_to_abort-open prefix session other held is)
          (differ-quiet _ _ (record { text = refl; after = refl; kept = refl }) refl)

  -- ---- watches

  -- other watches of the session, in both states
  differ-watched : (text : List ℕ) (watched : List Ground)
      → DifferInNotes language session state watches
      (record { text = text; after = record state { watches = slice_set state.watches session watched } })
      (record { text = text; after = record state { watches = slice_set watches session watched } })
  differ-watched text watched = record {
    common = text;
    text = no_notes text state.watches state.events refl;
    other_text = no_notes text watches state.events refl;
    later = slice_set watches session watched;
    after = refl;
    own = get_or-set_both watches state.watches session watched [] as_many;
  }

  differ-watch : (p : Ground) → DifferInNotes language session state watches (reply_to_watch language prefix session state p) (reply_to_watch language prefix session other p)
  unfolding reply_to_watch
  differ-watch p = by_tests (is_watched p (watched_by session state)) refl (leb MOST_WATCHED (length (watched_by session state))) refl
    where
      by_tests : (watches_it : Bool) → is_watched p (watched_by session state) ≡ watches_it → (full : Bool) → leb MOST_WATCHED (length (watched_by session state)) ≡ full
          → DifferInNotes language session state watches (reply_to_watch language prefix session state p) (reply_to_watch language prefix session other p)
      by_tests true is full room = rw (agrees, is) (differ-kept _)
      by_tests false is true room = rw (agrees, is, room) (differ-kept _)
      by_tests false is false room = rw (agrees, is, room) (differ-watched _ (with_property p (watched_by session state)))

  differ-unwatch : (p : Ground) → DifferInNotes language session state watches (reply_to_unwatch prefix session state p) (reply_to_unwatch prefix session other p)
  unfolding reply_to_unwatch
  differ-unwatch p = by_test (is_watched p (watched_by session state)) refl
    where
      by_test : (watches_it : Bool) → is_watched p (watched_by session state) ≡ watches_it
          → DifferInNotes language session state watches (reply_to_unwatch prefix session state p) (reply_to_unwatch prefix session other p)
      by_test true is = rw (agrees, is) (differ-watched _ (without_property p (watched_by session state)))
      by_test false is = rw (agrees, is) (differ-kept _)

  -- ---- commands

  differ-command : (command : PlainCommand)
      → DifferInNotes language session state watches (command_reply language prefix session state command) (command_reply language prefix session other command)
  unfolding command_reply past_text
  differ-command silent = differ-kept _
  differ-command bad = differ-kept _
  differ-command (assert_event id t term) = differ-noted _ _ (alike-update (asserting (record { id = id; rank = t; term = term })))
  differ-command (retract_event id) = differ-noted _ _ (alike-update (retracting id))
  differ-command begin_draft = differ-begin
  differ-command commit_draft = differ-noted _ _ alike-commit
  differ-command abort_draft = differ-abort
  differ-command (ask query) = differ-kept _
  differ-command (ask_past k query) = differ-kept _
  differ-command (ask_pairs p r q) = differ-kept _
  differ-command (ask_related p t r q) = differ-kept _
  differ-command (watch_prop p) = differ-watch p
  differ-command (unwatch_prop p) = differ-unwatch p
  differ-command ask_last = differ-kept _
  differ-command quit = differ-kept _

pub WatchesShowInNotesAlone-law : WatchesShowInNotesAlone
WatchesShowInNotesAlone-law language session state watches line mine agrees as_many =
    let parts = is_line_of-parts language session line mine in
    let here = reply_of-short language state line parts.0 in
    let there = reply_of-short language (with_watches watches state) line parts.0 in
    subst (λ (r : Reply). DifferInNotes language session state watches r (reply_of language (with_watches watches state) line)) (sym here)
    (subst (λ (r : Reply). DifferInNotes language session state watches (parsed_reply language state (parsed_of language.spelt line)) r) (sym there)
    (subst (λ (k : ℕ). DifferInNotes language session state watches (command_reply language (line_prefix language line) k state (line_command language line))
    (command_reply language (line_prefix language line) k (with_watches watches state) (line_command language line))) (sym parts.1)
    (differ-command language (line_prefix language line) session state watches agrees as_many (line_command language line))))
