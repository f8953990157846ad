-- Runs go on for ever, so what was written before a fault is a first part of the replies to all lines taken.
use Rattle.std.proofs.Common.{◌≡◌, ℕ, Bool, true, false, List, [], ◌∷◌, ◌++◌, refl, sym, ap, ◌∙◌, subst, append_assoc, append-nil, inl}
use Rattle.ec_commands.specs.Lines.{whole_lines, lines_of}
use Rattle.ec_replies.specs.State.{State, empty_state}
use Rattle.ec_replies.specs.Runs.{Run, RunsOn, is_quit}
use Rattle.ec_replies.specs.Replies.{reply_of, Language}
use Rattle.ec_sessions.specs.Handling.{IsCutShort}
use Rattle.ec_server.specs.Answered.{AnswersLines, AnswersPart, BreaksOff, HasQuit, IsServing}
use Rattle.ec_replies.proofs.RunParts.{step_run, run-append}
use Rattle.ec_outside.specs.Streams.{NothingAppended}
use Rattle.ec_outside.proofs.Streams.{Appended-then-part, AppendedPart-all, AppendedPart-longer, AppendedPart-then-NothingAppended}
use Rattle.ec_server.proofs.Serving.{lines_of-append, whole_lines-append, AnswersLines-so_far}

module _ (language : Language) where
  -- the bytes and the state with which a run from a state over some lines can go on behind other bytes
  Goes : State → List (List ℕ) → List ℕ → Type 0
  Goes state lines out = (rest : List ℕ) × (last : State) × Run language state lines (out ++ rest) last

  -- there is a run from each state over all lines
  pub run_exists : (state : State) (lines : List (List ℕ)) → (out : List ℕ) × (last : State) × Run language state lines out last
  run_exists state [] = ([], state, (refl, refl))
  run_exists state (line ∷ lines) =
      let reply = reply_of language state line in
      let rest = run_exists reply.after lines in
      let on = by_quit (is_quit language line) reply.text reply.after lines rest in
      (on.0, on.1, (reply.text, reply.after, inl (record { text_is = refl; after_is = refl }), on.2))
    where
      by_quit : (quits : Bool) (text : List ℕ) (next : State) (lines : List (List ℕ)) → (out : List ℕ) × (last : State) × Run language next lines out last
          → (out : List ℕ) × (last : State) × RunsOn quits text next out last (λ rest. Run language next lines rest last)
      by_quit true text next lines rest = (text, next, (refl, refl))
      by_quit false text next lines rest = (text ++ rest.0, rest.1, (rest.0, refl, rest.2))

  -- each run goes on over further lines
  pub run_goes_on : (state after : State) (lines more : List (List ℕ)) (out : List ℕ) → Run language state lines out after
      → (rest : List ℕ) × (last : State) × Run language state (lines ++ more) (out ++ rest) last
  run_goes_on state after [] more out run =
      let further = run_exists state more in
      (further.0, further.1, subst (λ (o : List ℕ). Run language state more (o ++ further.0) further.1) (sym run.0) further.2)
  run_goes_on state after (line ∷ lines) more out run =
      let on = by_quit (is_quit language line) run.0 out run.1 after lines more run.3 (λ o r. run_goes_on run.1 after lines more o r) in
      (on.0, on.1, (run.0, run.1, run.2, on.2))
    where
      by_quit : (quits : Bool) (text out : List ℕ) (next after : State) (lines more : List (List ℕ)) → RunsOn quits text next out after (λ rest. Run language next lines rest after)
          → ((o : List ℕ) → Run language next lines o after → (rest : List ℕ) × (last : State) × Run language next (lines ++ more) (o ++ rest) last)
          → (rest : List ℕ) × (last : State) × RunsOn quits text next (out ++ rest) last (λ rest. Run language next (lines ++ more) rest last)
      by_quit true text out next after lines more on go = ([], next, (append-nil out ∙ on.0, refl))
      by_quit false text out next after lines more on go =
          let further = go on.0 on.2 in
          (further.0, further.1, (on.0 ++ further.0, ap (λ (o : List ℕ). o ++ further.0) on.1 ∙ append_assoc text on.0 further.0, further.2))

module _ {K : Type 0} {stands : K → List ℕ → Type 0} {language : Language} where
  -- a first part of the replies to some lines is one of the replies to more lines
  pub AnswersPart-more : {lines all : List (List ℕ)} {start now : K} (more : List (List ℕ)) → all ≡ lines ++ more → AnswersPart stands language lines start now → AnswersPart stands language all start now
  AnswersPart-more {lines} {all} more same answers =
      let further = run_goes_on language empty_state answers.run.0 lines more answers.out answers.run.1 in record {
        out = answers.out ++ further.0;
        run = (further.1, subst (λ (l : List (List ℕ)). Run language empty_state l (answers.out ++ further.0) further.1) (sym same) further.2);
        part = AppendedPart-longer answers.part further.0;
      }

  -- all of the replies are a first part of them
  pub AnswersPart-all : {lines : List (List ℕ)} {start now : K} → AnswersLines stands language lines start now → AnswersPart stands language lines start now
  AnswersPart-all answers = record { out = answers.out; run = answers.run; part = AppendedPart-all answers.appended }

  pub AnswersPart-kept : {lines : List (List ℕ)} {start now next : K} → AnswersPart stands language lines start now → NothingAppended stands now next → AnswersPart stands language lines start next
  AnswersPart-kept answers kept = record { out = answers.out; run = answers.run; part = AppendedPart-then-NothingAppended answers.part kept }

  -- the lines so far are answered, and one more is cut short
  pub AnswersPart-line : {taken line : List ℕ} {lines : List (List ℕ)} {state after : State} {start now next : K} → lines ≡ whole_lines taken ++ line ∷ []
      → IsServing stands language taken state start now → IsCutShort stands language line state after now next → AnswersPart stands language lines start next
  AnswersPart-line {taken} {line} {state = state} {after} same serving short = record {
    out = serving.out ++ short.text;
    run = (
      after,
      subst (λ (l : List (List ℕ)). Run language empty_state l (serving.out ++ short.text) after) (sym same)
          (run-append language empty_state state after (whole_lines taken) (line ∷ []) serving.out short.text serving.going serving.run
          (step_run language state after line short.text short.step)),
    );
    part = Appended-then-part serving.appended short.part;
  }

  -- what was served of the bytes so far is a first part of the replies to their whole lines
  pub AnswersPart-so_far : {taken : List ℕ} {state : State} {start now : K} → IsServing stands language taken state start now → AnswersPart stands language (whole_lines taken) start now
  AnswersPart-so_far serving = AnswersPart-all (AnswersLines-so_far refl serving)

  -- what broke off within a first part of the bytes is a first part of the replies to all their whole lines
  pub AnswersPart-broken : {taken : List ℕ} {start now : K} → BreaksOff stands language taken start now → AnswersPart stands language (whole_lines taken) start now
  AnswersPart-broken broken =
      let tail = whole_lines-append broken.done broken.rest in
      AnswersPart-more tail.0 (ap whole_lines broken.split ∙ tail.1) broken.part

  -- so is what was written up to a `quit`
  pub AnswersPart-quit : {taken : List ℕ} {start now : K} → HasQuit stands language taken start now → AnswersPart stands language (whole_lines taken) start now
  AnswersPart-quit has = AnswersPart-broken (record { done = has.done; rest = has.rest; split = has.split; part = AnswersPart-all has.answers })

  -- a first part of the replies to the whole lines of some bytes is one of the replies to all lines of more bytes
  pub AnswersPart-longer : {all : List ℕ} {start now : K} (taken more : List ℕ) → all ≡ taken ++ more → AnswersPart stands language (whole_lines taken) start now
      → AnswersPart stands language (lines_of all) start now
  AnswersPart-longer taken more split part =
      let tail = lines_of-append taken more in
      AnswersPart-more tail.0 (ap lines_of split ∙ tail.1) part
