-- A reply to an update or a commit is never the refusal for memory, so the output tells the states.
use Rattle.std.proofs.Common.{◌≡◌, ℕ, inl, inr, Bool, true, false, not, ltb, length, get_or, ◌<◌, ◌&&◌, List, [], ◌∷◌, ◌++◌, ◌+◌, Option, Some, None, Result, Ok, Err, IsTrue, refl, sym, ap, ◌∙◌, subst, append_assoc, arith}
use Rattle.std.specs.Prelude.{nat_le}
use Rattle.std.proofs.lemmas.Bool.{and_parts, not-true, false≢true, le-ltb, leb-true}
use Rattle.std.proofs.lemmas.List.{append_cancel_left}
use Rattle.ec_terms.specs.declared.ground.Ground.{Ground}
use Rattle.ec_terms.specs.declared.theory.Theory.{Theory}
use Rattle.ec_axioms.specs.declared.event.Cut.{Cut}
use Rattle.ec_axioms.specs.declared.event.Cut.TheVariants.{Duplicate, Unknown, FullEvents, FullMentions, FullLinks}
use Rattle.ec_commands.specs.declared.limits.TheConstants.{MOST_DRAFTED}
use Rattle.ec_axioms.specs.Timeline.{Reason, reason_yes, reason_never, reason_ended, reason_broken}
use Rattle.ec_axioms.specs.Calculus.{PlainEvent, holds_at, holds_through, reason_of}
use Rattle.ec_axioms.specs.Changes.{PlainUpdate, asserting, retracting, PlacedCut}
use Rattle.ec_commands.specs.Lines.{is_long, line_feed}
use Rattle.ec_commands.specs.Commands.{PlainQuery, ask_holds, ask_through, ask_intervals, ask_broken, ask_at, ask_clashes, ask_events, ask_why}
use Rattle.ec_commands.specs.Commands.{PlainCommand, silent, bad, assert_event, retract_event, begin_draft, commit_draft, abort_draft, ask, ask_past, ask_pairs, ask_related, watch_prop, unwatch_prop, ask_last, quit, parsed_of}
use Rattle.ec_commands.specs.Answers.{answer_ok, answer_drafted, refused_memory, refused_no_draft, refused_full_draft, refused_update, refused_commit, answer_text, cut_text}
use Rattle.ec_commands.specs.QueryTexts.{Canon, reason_text, intervals_reply, broken_reply, at_reply, clashes_reply, events_reply, why_reply}
use Rattle.ec_replies.specs.Notes.{notes_text}
use Rattle.ec_replies.specs.Past.{commit_weight, first_kept, list_after}
use Rattle.ec_replies.specs.State.{Draft, State, draft_of}
use Rattle.ec_replies.specs.Updates.{updated, updated_by}
use Rattle.ec_replies.specs.Replies.{Language, Reply, noted, yes_or_no, is_backwards, query_text, past_text, session_of, reply_line, update_reply, drafted_reply, commit_reply, reply_to_update, reply_to_commit, command_reply, reply_of}
use Rattle.ec_replies.specs.Runs.{Step, Run, RunsOn, is_quit, may_want_memory, past_may_want_memory, command_may_want_memory, memory_text}
use Rattle.ec_replies.specs.Laws.{line_command, line_prefix}
use Rattle.ec_replies.specs.RunLaws.{OutputTellsTheState}
use Rattle.ec_replies.proofs.Apart.{BeginsWithDigit, decimal-first, differ_at}
use Rattle.ec_replies.proofs.ByDraft.{reply_to_update-closed, reply_to_update-open, reply_to_commit-closed, reply_to_commit-open}
use Rattle.ec_replies.proofs.OwnDraft.{reply_of-short}

-- ---- texts

module _ (prefix : Option ℕ) (rest more : List ℕ) where
  -- a text, whatever follows it, is not the refusal for memory with what follows that
  abbrev IsOther : List ℕ → Type 0
  IsOther text = text ++ rest ≡ reply_line prefix (answer_text refused_memory) ++ more → ⊥

  -- two replies with one prefix, where the texts differ
  other_at : (i : ℕ) (text : List ℕ)
      → (get_or ((text ++ line_feed ∷ []) ++ rest) i 0 ≡ get_or ((answer_text refused_memory ++ line_feed ∷ []) ++ more) i 0 → ⊥) → IsOther (reply_line prefix text)
  other_at i text differ same = differ_at prefix i text (answer_text refused_memory) rest more differ same

  ok_other : IsOther (reply_line prefix (answer_text answer_ok))
  unfolding answer_text
  ok_other = other_at 0 (answer_text answer_ok) (λ same. omega arith)

  drafted_other : (k : ℕ) → IsOther (reply_line prefix (answer_text (answer_drafted k)))
  unfolding answer_text
  drafted_other k = other_at 0 (answer_text (answer_drafted k)) (λ same. omega arith)

  full_draft_other : IsOther (reply_line prefix (answer_text refused_full_draft))
  unfolding answer_text
  full_draft_other = other_at 8 (answer_text refused_full_draft) (λ same. omega arith)

  no_draft_other : IsOther (reply_line prefix (answer_text refused_no_draft))
  unfolding answer_text
  no_draft_other = other_at 8 (answer_text refused_no_draft) (λ same. omega arith)

  commit_other : (place : ℕ) (cut : Cut) → IsOther (reply_line prefix (answer_text (refused_commit place cut)))
  unfolding answer_text
  commit_other place cut = other_at 8 (answer_text (refused_commit place cut)) (λ same. omega arith)

  update_other : (cut : Cut) → IsOther (reply_line prefix (answer_text (refused_update cut)))
  unfolding answer_text cut_text
  update_other (Duplicate id) = other_at 8 (answer_text (refused_update (Duplicate id))) (λ same. omega arith)
  update_other (Unknown id) = other_at 8 (answer_text (refused_update (Unknown id))) (λ same. omega arith)
  update_other FullEvents = other_at 8 (answer_text (refused_update FullEvents)) (λ same. omega arith)
  update_other FullMentions = other_at 8 (answer_text (refused_update FullMentions)) (λ same. omega arith)
  update_other FullLinks = other_at 8 (answer_text (refused_update FullLinks)) (λ same. omega arith)

  -- ---- queries of the past

  -- a text that begins with a digit, or with another byte that is not that of `refused`
  digit_other : (text : List ℕ) → BeginsWithDigit text → IsOther (reply_line prefix text)
  unfolding answer_text
  digit_other text first =
      other_at 0 text (λ same. below first.0 first.2 (sym (ap (λ (t : List ℕ). get_or ((t ++ line_feed ∷ []) ++ rest) 0 0) first.3) ∙ same))
    where
      below : (d : ℕ) → d < 10 → 48 + d ≡ 114 → ⊥
      below d small same = omega arith

  yes_or_no-other : (b : Bool) → IsOther (reply_line prefix (yes_or_no b))
  unfolding answer_text
  yes_or_no-other true = other_at 0 (yes_or_no true) (λ same. omega arith)
  yes_or_no-other false = other_at 0 (yes_or_no false) (λ same. omega arith)

  reason_text-other : (theory : Theory) (events : List PlainEvent) (canon : Canon) (p : Ground) (reason : Reason) → IsOther (reply_line prefix (reason_text theory events canon p reason))
  unfolding reason_text answer_text
  reason_text-other theory events canon p (reason_yes begin None) = other_at 0 _ (λ same. omega arith)
  reason_text-other theory events canon p (reason_yes begin (Some x)) = other_at 0 _ (λ same. omega arith)
  reason_text-other theory events canon p reason_never = other_at 0 _ (λ same. omega arith)
  reason_text-other theory events canon p (reason_ended begin x) = other_at 0 _ (λ same. omega arith)
  reason_text-other theory events canon p (reason_broken begin x) = other_at 0 _ (λ same. omega arith)

  query_text-other : (language : Language) (events : List PlainEvent) (query : PlainQuery) → is_backwards query ≡ false → IsOther (reply_line prefix (query_text language events query))
  unfolding query_text intervals_reply broken_reply at_reply clashes_reply events_reply why_reply
  query_text-other language events (ask_holds p t) forwards = yes_or_no-other (holds_at language.theory events p t)
  query_text-other language events (ask_through p s e) forwards = rw forwards (yes_or_no-other (holds_through language.theory events p s e))
  query_text-other language events (ask_intervals p) forwards = digit_other _ (decimal-first _ _)
  query_text-other language events (ask_broken p) forwards = digit_other _ (decimal-first _ _)
  query_text-other language events (ask_at t) forwards = digit_other _ (decimal-first _ _)
  query_text-other language events ask_clashes forwards = digit_other _ (decimal-first _ _)
  query_text-other language events ask_events forwards = digit_other _ (decimal-first _ _)
  query_text-other language events (ask_why p t) forwards = reason_text-other language.theory events language.canon p (reason_of language.theory events p t)

  past_text-other : (language : Language) (state : State) (k : ℕ) (query : PlainQuery) → IsTrue (past_may_want_memory state k query)
      → IsOther (reply_line prefix (past_text language state k query))
  unfolding past_text
  past_text-other language state k query may =
      let parts = and_parts (not (is_backwards query) && nat_le k state.past.count) (nat_le (first_kept state.past) k) may in
      let first = and_parts (not (is_backwards query)) (nat_le k state.past.count) parts.0 in
      let forwards = not-true (is_backwards query) first.0 in
      let past = le-ltb state.past.count k (leb-true k state.past.count first.1) in
      let kept = le-ltb k (first_kept state.past) (leb-true (first_kept state.past) k parts.1) in
      rw (forwards, past, kept) (query_text-other language (list_after k state.events state.past) query forwards)

  -- ---- replies

  reply_to_update-other : (language : Language) (session : ℕ) (state : State) (update : PlainUpdate)
      → IsOther (reply_to_update language.theory prefix session state update).text
  reply_to_update-other language session state update = by_draft (draft_of session state) refl
    where
      by_result : (result : Result (List PlainEvent) Cut) → IsOther (update_reply language.theory prefix state result).text
      by_result (Ok events) = ok_other
      by_result (Err cut) = update_other cut

      by_place : (held : List PlainUpdate) (b : Bool) → ltb (length held) MOST_DRAFTED ≡ b → IsOther (drafted_reply prefix session state held update).text
      by_place held true is = rw is (drafted_other (length held + 1))
      by_place held false is = rw is full_draft_other

      by_draft : (draft : Draft) → draft_of session state ≡ draft → IsOther (reply_to_update language.theory prefix session state update).text
      by_draft None is =
          subst (λ (r : Reply). IsOther r.text) (sym (reply_to_update-closed prefix session state language.theory update is)) (by_result (updated language.theory state.events update))
      by_draft (Some held) is =
          subst (λ (r : Reply). IsOther r.text) (sym (reply_to_update-open prefix session state language.theory update held is))
          (by_place held (ltb (length held) MOST_DRAFTED) refl)

  reply_to_commit-other : (language : Language) (session : ℕ) (state : State) → IsOther (reply_to_commit language.theory prefix session state).text
  reply_to_commit-other language session state = by_draft (draft_of session state) refl
    where
      by_result : (weight : ℕ) (result : Result (List PlainEvent) PlacedCut) → IsOther (commit_reply language.theory prefix session state weight result).text
      by_result weight (Ok events) = ok_other
      by_result weight (Err placed) = commit_other placed.0 placed.1

      by_draft : (draft : Draft) → draft_of session state ≡ draft → IsOther (reply_to_commit language.theory prefix session state).text
      by_draft None is = subst (λ (r : Reply). IsOther r.text) (sym (reply_to_commit-closed prefix session state language.theory is)) no_draft_other
      by_draft (Some held) is =
          subst (λ (r : Reply). IsOther r.text) (sym (reply_to_commit-open prefix session state language.theory held is)) (by_result (commit_weight held) (updated_by language.theory state.events held))

-- ---- commands

-- a reply with its notes is another text where it is, whatever follows it
noted-other : (prefix : Option ℕ) (rest more : List ℕ) (language : Language) (before : State) (reply : Reply)
    → ((behind : List ℕ) → IsOther prefix behind more reply.text) → IsOther prefix rest more (noted language before reply).text
noted-other prefix rest more language before reply other same =
    let notes = notes_text language.theory language.canon before.watches before.events reply.after.events in
    other (notes ++ rest) (sym (append_assoc reply.text notes rest) ∙ same)

command_reply-other : (prefix : Option ℕ) (rest more : List ℕ) (language : Language) (session : ℕ) (state : State) (command : PlainCommand)
    → IsTrue (command_may_want_memory language.theory session state command) → IsOther prefix rest more (command_reply language prefix session state command).text
unfolding command_reply command_may_want_memory
command_reply-other prefix rest more language session state silent may = absurd (false≢true may)
command_reply-other prefix rest more language session state bad may = absurd (false≢true may)
command_reply-other prefix rest more language session state (assert_event id t term) may =
    noted-other prefix rest more language state (reply_to_update language.theory prefix session state (asserting (record { id = id; rank = t; term = term })))
    (λ behind. reply_to_update-other prefix behind more language session state (asserting (record { id = id; rank = t; term = term })))
command_reply-other prefix rest more language session state (retract_event id) may =
    noted-other prefix rest more language state (reply_to_update language.theory prefix session state (retracting id)) (λ behind. reply_to_update-other prefix behind more language session state (retracting id))
command_reply-other prefix rest more language session state begin_draft may = absurd (false≢true may)
command_reply-other prefix rest more language session state commit_draft may =
    noted-other prefix rest more language state (reply_to_commit language.theory prefix session state) (λ behind. reply_to_commit-other prefix behind more language session state)
command_reply-other prefix rest more language session state abort_draft may = absurd (false≢true may)
command_reply-other prefix rest more language session state (ask query) may = absurd (false≢true may)
command_reply-other prefix rest more language session state (ask_past k query) may = past_text-other prefix rest more language state k query may
command_reply-other prefix rest more language session state (ask_pairs p r q) may = absurd (false≢true may)
command_reply-other prefix rest more language session state (ask_related p t r q) may = absurd (false≢true may)
command_reply-other prefix rest more language session state (watch_prop p) may = absurd (false≢true may)
command_reply-other prefix rest more language session state (unwatch_prop p) may = absurd (false≢true may)
command_reply-other prefix rest more language session state ask_last may = absurd (false≢true may)
command_reply-other prefix rest more language session state quit may = absurd (false≢true may)

-- the reply to a line for which memory may be wanting is not that refusal
reply_of-other : (language : Language) (state : State) (line rest more : List ℕ) → IsTrue (may_want_memory language state line)
    → (reply_of language state line).text ++ rest ≡ memory_text language line ++ more → ⊥
unfolding may_want_memory
reply_of-other language state line rest more may same =
    let session = session_of (parsed_of language.spelt line) in
    let parts = and_parts (not (is_long line)) (command_may_want_memory language.theory session state (line_command language line)) may in
    command_reply-other (line_prefix language line) rest more language session state (line_command language line) parts.1
    (sym (ap (λ (r : Reply). r.text ++ rest) (reply_of-short language state line (not-true (is_long line) parts.0))) ∙ same)

-- ---- steps and runs

-- where two steps of a line, and what follows them, are written alike, they are the same step
step_told : (language : Language) (state after next : State) (line text other rest more : List ℕ) → Step language state line text after
    → Step language state line other next → text ++ rest ≡ other ++ more → (text ≡ other) × (after ≡ next)
step_told language state after next line text other rest more (inl one) (inl two) same = (one.text_is ∙ sym two.text_is, one.after_is ∙ sym two.after_is)
step_told language state after next line text other rest more (inr one) (inr two) same = (one.text_is ∙ sym two.text_is, one.after_is ∙ sym two.after_is)
step_told language state after next line text other rest more (inl one) (inr two) same =
    absurd (reply_of-other language state line rest more two.may
    (sym (ap (λ (t : List ℕ). t ++ rest) one.text_is) ∙ same ∙ ap (λ (t : List ℕ). t ++ more) two.text_is))
step_told language state after next line text other rest more (inr one) (inl two) same =
    absurd (reply_of-other language state line more rest one.may
    (sym (ap (λ (t : List ℕ). t ++ more) two.text_is) ∙ sym same ∙ ap (λ (t : List ℕ). t ++ rest) one.text_is))

pub OutputTellsTheState-law : OutputTellsTheState
OutputTellsTheState-law language state after next [] out run further = run.1 ∙ sym further.1
OutputTellsTheState-law language state after next (line ∷ lines) out run further =
    by_quit (is_quit language line) run.0 further.0 run.1 further.1 run.2 further.2 run.3 further.3
    (λ s o here there. OutputTellsTheState-law language s after next lines o here there)
  where
    by_quit : (quits : Bool) (text told : List ℕ) (first second : State) → Step language state line text first → Step language state line told second
        → RunsOn quits text first out after (λ rest. Run language first lines rest after)
        → RunsOn quits told second out next (λ rest. Run language second lines rest next)
        → ((s : State) (o : List ℕ) → Run language s lines o after → Run language s lines o next → after ≡ next) → after ≡ next
    by_quit true text told first second one two here there later =
        let same = step_told language state first second line text told [] [] one two (ap (λ (t : List ℕ). t ++ []) (sym here.0 ∙ there.0)) in
        here.1 ∙ same.1 ∙ sym there.1
    by_quit false text told first second one two here there later =
        let same = step_told language state first second line text told here.0 there.0 one two (sym here.1 ∙ there.1) in
        let rest : there.0 ≡ here.0 =
        append_cancel_left told there.0 here.0 (sym there.1 ∙ here.1 ∙ ap (λ (t : List ℕ). t ++ here.0) same.0) in
        later first here.0 here.2
        (subst (λ (o : List ℕ). Run language first lines o next) rest
        (subst (λ (s : State). Run language s lines there.0 next) (sym same.1) there.2))
