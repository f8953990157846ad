-- Notes of a run: each is told, and whoever follows them has the present intervals.
use Rattle.std.proofs.Common.{◌≡◌, ◌<◌, ◌⊎◌, inl, inr, ℕ, ◌+◌, zero, suc, Bool, true, false, ◌||◌, length, get_or, List, [], ◌∷◌, ◌++◌, Option, IsTrue, refl, sym, ap, ◌∙◌, subst, append_assoc, append-nil, arith}
use Rattle.std.proofs.lemmas.Bool.{cond-false, false≢true}
use Rattle.ec_terms.specs.declared.ground.Ground.{Ground}
use Rattle.ec_terms.specs.declared.theory.Theory.{Theory}
use Rattle.ec_terms.specs.Term.{term_eq}
use Rattle.ec_terms.proofs.OrderLemmas.{term_eq-Decides}
use Rattle.ec_axioms.specs.Timeline.{Interval}
use Rattle.ec_axioms.specs.Calculus.{PlainEvent, intervals_of}
use Rattle.ec_axioms.specs.Changes.{has_other_intervals}
use Rattle.ec_changes.proofs.SameList.{has_other_intervals-none}
use Rattle.ec_commands.specs.Answers.{answer_ok, answer_text}
use Rattle.ec_commands.specs.Commands.{PlainCommand, parsed_of}
use Rattle.ec_commands.specs.Lines.{is_long}
use Rattle.ec_commands.specs.QueryTexts.{Canon}
use Rattle.ec_replies.specs.Notes.{missing_from, note_between, notes_from, session_notes, with_note}
use Rattle.ec_replies.specs.State.{State, watched_by}
use Rattle.ec_replies.specs.Replies.{Language, Reply, is_watched, reply_line, session_of}
use Rattle.ec_replies.specs.Laws.{line_command, line_prefix}
use Rattle.ec_replies.specs.RunLaws.{Answered, IsStateWithinLimits}
use Rattle.ec_replies.specs.NoteLaws.{AreFollowed, FollowedNotesTellTheIntervals, HasWithin, NotesAreTold}
use Rattle.ec_replies.proofs.Limits.{step-within}
use Rattle.ec_replies.proofs.NoteLemmas.{NotesTellTheIntervals-law}
use Rattle.ec_replies.proofs.Outcomes.{Outcome, is_kept, is_updated, is_held, is_begun, is_committed, is_dropped, is_watching, is_unwatched, LineOutcome, step_outcome}

-- ---- within a text

HasWithin-itself : (text : List ℕ) → HasWithin text text
HasWithin-itself text = ([], [], sym (append-nil text))

HasWithin-none : (text part : List ℕ) → part ≡ [] → HasWithin text part
HasWithin-none text part none = (text, [], sym (append-nil (text ++ part) ∙ ap (λ (t : List ℕ). text ++ t) none ∙ append-nil text))

HasWithin-behind : (text more part : List ℕ) → HasWithin more part → HasWithin (text ++ more) part
HasWithin-behind text more part has =
    (text ++ has.0, has.1, ap (λ (t : List ℕ). text ++ t) has.2 ∙ regrouped text has.0 part has.1)
  where
    regrouped : (a b c d : List ℕ) → a ++ (b ++ c ++ d) ≡ (a ++ b) ++ c ++ d
    regrouped a b c d = simp append_assoc

HasWithin-before : (text more part : List ℕ) → HasWithin text part → HasWithin (text ++ more) part
HasWithin-before text more part has =
    (has.0, has.1 ++ more, ap (λ (t : List ℕ). t ++ more) has.2 ∙ append_assoc (has.0 ++ part) has.1 more)

-- ---- each note

module _ (theory : Theory) (canon : Canon) (p : Ground) (old new : List PlainEvent) where
  session_notes-has : (session : ℕ) (watched : List Ground) → IsTrue (is_watched p watched)
      → HasWithin (session_notes theory canon session watched old new) (note_between theory canon session p old new)
  unfolding session_notes
  session_notes-has session [] watches = absurd (false≢true watches)
  session_notes-has session (q ∷ watched) watches = by_test (term_eq p q) refl watches (λ later. session_notes-has session watched later)
    where
      by_test : (here : Bool) → term_eq p q ≡ here → (here || is_watched p watched) ≡ true
          → (is_watched p watched ≡ true → HasWithin (session_notes theory canon session watched old new) (note_between theory canon session p old new))
          → HasWithin (note_between theory canon session q old new ++ session_notes theory canon session watched old new) (note_between theory canon session p old new)
      by_test true same found rest =
          HasWithin-before (note_between theory canon session q old new) (session_notes theory canon session watched old new) (note_between theory canon session p old new)
          (subst (λ (g : Ground). HasWithin (note_between theory canon session g old new) (note_between theory canon session p old new)) ((term_eq-Decides p q).0 same)
          (HasWithin-itself (note_between theory canon session p old new)))
      by_test false other found rest =
          HasWithin-behind (note_between theory canon session q old new) (session_notes theory canon session watched old new) (note_between theory canon session p old new) (rest found)

  notes_from-has : (first session : ℕ) (watches : List (List Ground)) → session < length watches → IsTrue (is_watched p (get_or watches session []))
      → HasWithin (notes_from theory canon first watches old new) (note_between theory canon (first + session) p old new)
  unfolding notes_from
  notes_from-has first session [] within watched = absurd (omega arith)
  notes_from-has first zero (own ∷ watches) within watched =
      HasWithin-before (session_notes theory canon first own old new) (notes_from theory canon (first + 1) watches old new) (note_between theory canon (first + 0) p old new)
      (subst (λ (n : ℕ). HasWithin (session_notes theory canon first own old new) (note_between theory canon n p old new)) (omega arith) (session_notes-has first own watched))
  notes_from-has first (suc session) (own ∷ watches) within watched =
      HasWithin-behind (session_notes theory canon first own old new) (notes_from theory canon (first + 1) watches old new) (note_between theory canon (first + suc session) p old new)
      (subst (λ (n : ℕ). HasWithin (notes_from theory canon (first + 1) watches old new) (note_between theory canon n p old new)) (omega arith)
      (notes_from-has (first + 1) session watches (omega arith) watched))

  notes_text-has : (session : ℕ) (watches : List (List Ground)) → session < length watches → IsTrue (is_watched p (get_or watches session []))
      → HasWithin (notes_from theory canon 0 watches old new) (note_between theory canon session p old new)
  notes_text-has session watches within watched =
      subst (λ (n : ℕ). HasWithin (notes_from theory canon 0 watches old new) (note_between theory canon n p old new)) (omega arith) (notes_from-has 0 session watches within watched)

  -- none where the events stay
  note_between-same : new ≡ old → (session : ℕ) → note_between theory canon session p old new ≡ []
  unfolding note_between
  note_between-same same session =
      cond-false (has_other_intervals theory old new p) _ _ (ap (λ (events : List PlainEvent). has_other_intervals theory old events p) same ∙ has_other_intervals-none theory old p)

Outcome-noted : (language : Language) (prefix : Option ℕ) (own : ℕ) (state : State) (command : PlainCommand) (reply : Reply) (session : ℕ) (p : Ground)
    → session < length state.watches → IsTrue (is_watched p (watched_by session state)) → Outcome language prefix own state command reply
    → HasWithin reply.text (note_between language.theory language.canon session p state.events reply.after.events)
Outcome-noted language prefix own state command reply session p within watched (is_kept text none) =
    HasWithin-none text _ (note_between-same language.theory language.canon p state.events state.events refl session)
Outcome-noted language prefix own state command reply session p within watched (is_updated update events changes closed is) =
    HasWithin-behind (reply_line prefix (answer_text answer_ok)) _ _ (notes_text-has language.theory language.canon p state.events events session state.watches within watched)
Outcome-noted language prefix own state command reply session p within watched (is_held held update opened room) =
    HasWithin-none _ _ (note_between-same language.theory language.canon p state.events state.events refl session)
Outcome-noted language prefix own state command reply session p within watched (is_begun keeps closed) =
    HasWithin-none _ _ (note_between-same language.theory language.canon p state.events state.events refl session)
Outcome-noted language prefix own state command reply session p within watched (is_committed held events changes opened is) =
    HasWithin-behind (reply_line prefix (answer_text answer_ok)) _ _ (notes_text-has language.theory language.canon p state.events events session state.watches within watched)
Outcome-noted language prefix own state command reply session p within watched (is_dropped held keeps opened) =
    HasWithin-none _ _ (note_between-same language.theory language.canon p state.events state.events refl session)
Outcome-noted language prefix own state command reply session p within watched (is_watching q asks new room) =
    HasWithin-none _ _ (note_between-same language.theory language.canon p state.events state.events refl session)
Outcome-noted language prefix own state command reply session p within watched (is_unwatched q asks was) =
    HasWithin-none _ _ (note_between-same language.theory language.canon p state.events state.events refl session)

pub NotesAreTold-law : NotesAreTold
NotesAreTold-law language state after line text session p step within watched = by_length (step_outcome language state after line text step)
  where
    by_length : ((is_long line ≡ true) × (after ≡ state)) ⊎ ((is_long line ≡ false) × LineOutcome language state line text after)
        → HasWithin text (note_between language.theory language.canon session p state.events after.events)
    by_length (inl long) =
        HasWithin-none text _ (note_between-same language.theory language.canon p state.events after.events (ap (λ (s : State). s.events) long.1) session)
    by_length (inr short) =
        Outcome-noted language (line_prefix language line) (session_of (parsed_of language.spelt line)) state (line_command language line)
        (record { text = text; after = after }) session p within watched short.1

-- ---- over a run

follow : (language : Language) (session : ℕ) (p : Ground) (state after : State) (answered : List Answered) (held last : List Interval)
    → IsStateWithinLimits language.theory state → held ≡ intervals_of language.theory state.events p → AreFollowed language session p state answered after held last
    → last ≡ intervals_of language.theory after.events p
follow language session p state after [] held last within is followed = followed.1 ∙ is ∙ ap (λ (s : State). intervals_of language.theory s.events p) (sym followed.0)
follow language session p state after (one ∷ rest) held last within is followed =
    let next = followed.0 in
    let later = step-within language state next one.line one.text within followed.1 in
    let lost = missing_from (intervals_of language.theory next.events p) (intervals_of language.theory state.events p) in
    let gained = missing_from (intervals_of language.theory state.events p) (intervals_of language.theory next.events p) in
    follow language session p next after rest (with_note lost gained held) last later
    (ap (λ (h : List Interval). with_note lost gained h) is ∙ NotesTellTheIntervals-law language.theory p state.events next.events within.list.history later.list.history) followed.3

pub FollowedNotesTellTheIntervals-law : FollowedNotesTellTheIntervals
FollowedNotesTellTheIntervals-law language session p state after answered last within followed =
    follow language session p state after answered (intervals_of language.theory state.events p) last within refl followed
