-- How a run over lines and more lines falls into parts, and that it is one where memory is never wanting.
use Rattle.std.proofs.Common.{◌≡◌, ℕ, inl, inr, Bool, true, false, not, ◌&&◌, ◌||◌, List, [], ◌∷◌, ◌++◌, IsTrue, refl, sym, ap, ap₂, ◌∙◌, subst, append_assoc}
use Rattle.std.proofs.lemmas.Bool.{and_parts, false≢true}
use Rattle.std.proofs.lemmas.List.{append-nil}
use Rattle.std.specs.List.{list_all}
use Rattle.ec_commands.specs.Lines.{is_long}
use Rattle.ec_commands.specs.Commands.{PlainCommand, silent, bad, assert_event, retract_event, begin_draft, commit_draft, abort_draft, ask, ask_past, ask_pairs, ask_related, watch_prop, unwatch_prop, ask_last, quit, parsed_of}
use Rattle.ec_replies.specs.State.{State}
use Rattle.ec_replies.specs.Replies.{Language, session_of}
use Rattle.ec_replies.specs.Runs.{Step, IsReply, is_quit, has_quit, Run, RunsOn, may_want_memory, command_may_want_memory}
use Rattle.ec_replies.specs.Laws.{may_change, is_past_query, line_command}
use Rattle.ec_replies.specs.RunLaws.{RunsGoOn, is_without_memory, WithoutMemoryARunIsOne}

module _ (language : Language) where
  -- ---- a run over lines and more lines

  -- what a run over lines and more lines falls into
  abbrev Parts : State → List (List ℕ) → List (List ℕ) → List ℕ → State → Type 0
  Parts state lines more out after =
      (first : List ℕ) × (middle : State) × Run language state lines first middle
      × RunsOn (has_quit language lines) first middle out after (λ rest. Run language middle more rest after)

  -- a text in front of what goes on
  runs_on-front : (quits : Bool) (text first out : List ℕ) (middle after : State) (R : List ℕ → Type 0) → RunsOn quits first middle out after R
      → RunsOn quits (text ++ first) middle (text ++ out) after R
  runs_on-front true text first out middle after R on = (ap (λ (o : List ℕ). text ++ o) on.0, on.1)
  runs_on-front false text first out middle after R on = (on.0, ap (λ (o : List ℕ). text ++ o) on.1 ∙ sym (append_assoc text first on.0), on.2)

  runs_on-behind : (quits : Bool) (text first out : List ℕ) (middle after : State) (R : List ℕ → Type 0) → RunsOn quits (text ++ first) middle out after R
      → (rest : List ℕ) × (out ≡ text ++ rest) × RunsOn quits first middle rest after R
  runs_on-behind true text first out middle after R on = (first, on.0, (refl, on.1))
  runs_on-behind false text first out middle after R on = (first ++ on.0, on.1 ∙ append_assoc text first on.0, (on.0, refl, on.2))

  run-split : (state after : State) (lines more : List (List ℕ)) (out : List ℕ) → Run language state (lines ++ more) out after → Parts state lines more out after
  run-split state after [] more out run = ([], state, (refl, refl), (out, refl, run))
  run-split state after (line ∷ lines) more out run =
      by_quit (is_quit language line) run.3 (λ rest. run-split run.1 after lines more rest)
    where
      by_quit : (quits : Bool) → RunsOn quits run.0 run.1 out after (λ rest. Run language run.1 (lines ++ more) rest after)
          → ((rest : List ℕ) → Run language run.1 (lines ++ more) rest after → Parts run.1 lines more rest after)
          → (first : List ℕ) × (middle : State)
          × ((text : List ℕ) × (next : State) × Step language state line text next × RunsOn quits text next first middle (λ rest. Run language next lines rest middle))
          × RunsOn (quits || has_quit language lines) first middle out after (λ rest. Run language middle more rest after)
      by_quit true on parts_of = (run.0, run.1, (run.0, run.1, run.2, (refl, refl)), on)
      by_quit false on parts_of =
          let parts = parts_of on.0 on.2 in (
            run.0 ++ parts.0,
            parts.1,
            (run.0, run.1, run.2, (parts.0, refl, parts.2)),
            subst (λ (o : List ℕ). RunsOn (has_quit language lines) (run.0 ++ parts.0) parts.1 o after (λ rest. Run language parts.1 more rest after)) (sym on.1)
                (runs_on-front (has_quit language lines) run.0 parts.0 on.0 parts.1 after (λ rest. Run language parts.1 more rest after) parts.3),
          )

  run-join : (state after : State) (lines more : List (List ℕ)) (out : List ℕ) → Parts state lines more out after → Run language state (lines ++ more) out after
  run-join state after [] more out parts =
      let run = parts.2 in
      let on = parts.3 in
      subst (λ (o : List ℕ). Run language state more o after) (sym (on.1 ∙ ap (λ (o : List ℕ). o ++ on.0) run.0))
      (subst (λ (s : State). Run language s more on.0 after) run.1 on.2)
  run-join state after (line ∷ lines) more out parts =
      let run = parts.2 in (
        run.0,
        run.1,
        run.2,
        by_quit (is_quit language line) run.0 run.1 parts.0 parts.1 run.3 parts.3 (λ next rest. run-join next after lines more rest),
      )
    where
      by_quit : (quits : Bool) (text : List ℕ) (next : State) (first : List ℕ) (middle : State)
          → RunsOn quits text next first middle (λ rest. Run language next lines rest middle)
          → RunsOn (quits || has_quit language lines) first middle out after (λ rest. Run language middle more rest after)
          → ((s : State) (rest : List ℕ) → Parts s lines more rest after → Run language s (lines ++ more) rest after)
          → RunsOn quits text next out after (λ rest. Run language next (lines ++ more) rest after)
      by_quit true text next first middle here on join = (on.0 ∙ here.0, on.1 ∙ here.1)
      by_quit false text next first middle here on join =
          let behind = runs_on-behind (has_quit language lines) text here.0 out middle after (λ rest. Run language middle more rest after)
          (subst (λ (f : List ℕ). RunsOn (has_quit language lines) f middle out after (λ rest. Run language middle more rest after)) here.1 on) in
          (behind.0, behind.1, join next behind.0 (here.0, middle, here.2, behind.2))

pub RunsGoOn-law : RunsGoOn
RunsGoOn-law language state after lines more out = (run-split language state after lines more out, run-join language state after lines more out)

-- ---- as runs grow

module _ (language : Language) where
  -- one step is a run of its line
  pub step_run : (state next : State) (line text : List ℕ) → Step language state line text next → Run language state (line ∷ []) text next
  step_run state next line text step = (text, next, step, ends (is_quit language line))
    where
      ends : (quits : Bool) → RunsOn quits text next text next (λ rest. (rest ≡ []) × (next ≡ next))
      ends true = (refl, refl)
      ends false = ([], sym (append-nil text), (refl, refl))

  -- a run without `quit` goes on by a run of further lines
  pub run-append : (state middle after : State) (lines more : List (List ℕ)) (out rest : List ℕ) → has_quit language lines ≡ false
      → Run language state lines out middle → Run language middle more rest after → Run language state (lines ++ more) (out ++ rest) after
  run-append state middle after lines more out rest no_quit run further =
      run-join language state after lines more (out ++ rest) (
        out,
        middle,
        run,
        subst (λ (q : Bool). RunsOn q out middle (out ++ rest) after (λ r. Run language middle more r after)) (sym no_quit) (rest, refl, further),
      )

  -- behind a `quit` further lines change nothing
  pub run-quit : (state after : State) (lines more : List (List ℕ)) (out : List ℕ) → has_quit language lines ≡ true
      → Run language state lines out after → Run language state (lines ++ more) out after
  run-quit state after lines more out quits run =
      run-join language state after lines more out (
        out,
        after,
        run,
        subst (λ (q : Bool). RunsOn q out after out after (λ r. Run language after more r after)) (sym quits) (refl, refl),
      )

-- ---- memory

-- memory is wanting for no command but an assert, a retract, a commit or a question about the past
command_without_memory : (language : Language) (session : ℕ) (state : State) (command : PlainCommand) → (may_change command || is_past_query command) ≡ false
    → command_may_want_memory language.theory session state command ≡ false
unfolding command_may_want_memory
command_without_memory language session state silent keeps = refl
command_without_memory language session state bad keeps = refl
command_without_memory language session state (assert_event id t term) keeps = cc
command_without_memory language session state (retract_event id) keeps = cc
command_without_memory language session state begin_draft keeps = refl
command_without_memory language session state commit_draft keeps = cc
command_without_memory language session state abort_draft keeps = refl
command_without_memory language session state (ask query) keeps = refl
command_without_memory language session state (ask_past k query) keeps = cc
command_without_memory language session state (ask_pairs p r q) keeps = refl
command_without_memory language session state (ask_related p t r q) keeps = refl
command_without_memory language session state (watch_prop p) keeps = refl
command_without_memory language session state (unwatch_prop p) keeps = refl
command_without_memory language session state ask_last keeps = refl
command_without_memory language session state quit keeps = refl

-- a step on such a line is its reply
pub step_without_memory : (language : Language) (state after : State) (line text : List ℕ) → IsTrue (is_without_memory language line) → Step language state line text after
    → IsReply language state line text after
unfolding is_without_memory may_want_memory
step_without_memory language state after line text without (inl answered) = answered
step_without_memory language state after line text without (inr refused) =
    absurd (false≢true (sym (none (is_long line) (may_change (line_command language line) || is_past_query (line_command language line)) without
    (command_without_memory language (session_of (parsed_of language.spelt line)) state (line_command language line))) ∙ refused.may))
  where
    none : (long changes : Bool) → (long || not changes) ≡ true
        → (changes ≡ false → command_may_want_memory language.theory (session_of (parsed_of language.spelt line)) state (line_command language line) ≡ false)
        → (not long && command_may_want_memory language.theory (session_of (parsed_of language.spelt line)) state (line_command language line)) ≡ false
    none true changes without wants = refl
    none false true without wants = absurd (false≢true without)
    none false false without wants = wants refl

pub WithoutMemoryARunIsOne-law : WithoutMemoryARunIsOne
WithoutMemoryARunIsOne-law language state after next [] out other all run further = (run.0 ∙ sym further.0, run.1 ∙ sym further.1)
WithoutMemoryARunIsOne-law language state after next (line ∷ lines) out other all run further =
    let parts = and_parts (is_without_memory language line) (list_all (is_without_memory language) lines) all in
    let one = step_without_memory language state run.1 line run.0 parts.0 run.2 in
    let two = step_without_memory language state further.1 line further.0 parts.0 further.2 in
    by_quit (is_quit language line) run.0 further.0 run.1 further.1 (one.text_is ∙ sym two.text_is) (one.after_is ∙ sym two.after_is) run.3 further.3
    (λ s o p here there. WithoutMemoryARunIsOne-law language s after next lines o p parts.1 here there)
  where
    by_quit : (quits : Bool) (text told : List ℕ) (first second : State) → text ≡ told → first ≡ second
        → RunsOn quits text first out after (λ rest. Run language first lines rest after)
        → RunsOn quits told second other next (λ rest. Run language second lines rest next)
        → ((s : State) (o p : List ℕ) → Run language s lines o after → Run language s lines p next → (o ≡ p) × (after ≡ next))
        → (out ≡ other) × (after ≡ next)
    by_quit true text told first second same_text same here there later = (here.0 ∙ same_text ∙ sym there.0, here.1 ∙ same ∙ sym there.1)
    by_quit false text told first second same_text same here there later =
        let rests = later first here.0 there.0 here.2 (subst (λ (s : State). Run language s lines there.0 next) (sym same) there.2) in
        (here.1 ∙ ap₂ (λ (a b : List ℕ). a ++ b) same_text rests.0 ∙ sym there.1, rests.1)
