-- A run and the same run line by line.
use Rattle.std.proofs.Common.{◌≡◌, ℕ, Bool, true, false, List, [], ◌∷◌, ◌++◌, IsTrue, refl, sym, ap, ap₂, ◌∙◌, subst}
use Rattle.std.proofs.lemmas.Bool.{and_parts, false≢true}
use Rattle.std.proofs.lemmas.List.{append-nil}
use Rattle.std.specs.List.{list_all}
use Rattle.ec_replies.specs.State.{State}
use Rattle.ec_replies.specs.Replies.{Language}
use Rattle.ec_replies.specs.Runs.{Run, RunsOn, is_quit}
use Rattle.ec_replies.specs.RunLaws.{Answered, lines_in, texts_in, is_unanswered, GoesOn, RunOf, RunsAreOfLines}

-- ---- lines behind a `quit`

-- lines for which nothing is written
unanswered : List (List ℕ) → List Answered
unanswered [] = []
unanswered (line ∷ lines) = record { line = line; text = [] } ∷ unanswered lines

lines_in-unanswered : (lines : List (List ℕ)) → lines_in (unanswered lines) ≡ lines
unfolding unanswered
lines_in-unanswered [] = refl
lines_in-unanswered (line ∷ lines) = ap (λ (ls : List (List ℕ)). line ∷ ls) (lines_in-unanswered lines)

all-unanswered : (lines : List (List ℕ)) → IsTrue (list_all is_unanswered (unanswered lines))
unfolding unanswered
all-unanswered [] = refl
all-unanswered (line ∷ lines) = all-unanswered lines

no_text : (line text : List ℕ) → IsTrue (is_unanswered (record { line = line; text = text })) → text ≡ []
no_text line [] none = refl
no_text line (b ∷ text) none = absurd (false≢true none)

texts_in-unanswered : (answered : List Answered) → IsTrue (list_all is_unanswered answered) → texts_in answered ≡ []
texts_in-unanswered [] all = refl
texts_in-unanswered (one ∷ rest) all =
    let parts = and_parts (is_unanswered one) (list_all is_unanswered rest) all in
    ap₂ (λ (a b : List ℕ). a ++ b) (no_text one.line one.text parts.0) (texts_in-unanswered rest parts.1)

module _ (language : Language) where
  -- ---- from a run

  -- a run line by line over these lines, with this output
  abbrev RunByLine : State → List (List ℕ) → List ℕ → State → Type 0
  RunByLine state lines out after =
      (answered : List Answered) × (lines_in answered ≡ lines) × (texts_in answered ≡ out) × RunOf language state answered after

  run-by_line : (state after : State) (lines : List (List ℕ)) (out : List ℕ) → Run language state lines out after → RunByLine state lines out after
  run-by_line state after [] out run = ([], refl, sym run.0, run.1)
  run-by_line state after (line ∷ lines) out run = by_quit (is_quit language line) refl run.3 (λ rest. run-by_line run.1 after lines rest)
    where
      by_quit : (quits : Bool) → is_quit language line ≡ quits → RunsOn quits run.0 run.1 out after (λ rest. Run language run.1 lines rest after)
          → ((rest : List ℕ) → Run language run.1 lines rest after → RunByLine run.1 lines rest after) → RunByLine state (line ∷ lines) out after
      by_quit true is on later = (
        record { line = line; text = run.0 } ∷ unanswered lines,
        ap (λ (ls : List (List ℕ)). line ∷ ls) (lines_in-unanswered lines),
        ap (λ (t : List ℕ). run.0 ++ t) (texts_in-unanswered (unanswered lines) (all-unanswered lines)) ∙ append-nil run.0 ∙ sym on.0,
        (
          run.1,
          run.2,
          subst (λ (q : Bool). GoesOn q (unanswered lines) run.1 after (RunOf language run.1 (unanswered lines) after)) (sym is) (all-unanswered lines, on.1),
        ),
      )
      by_quit false is on later =
          let rest = later on.0 on.2 in (
            record { line = line; text = run.0 } ∷ rest.0,
            ap (λ (ls : List (List ℕ)). line ∷ ls) rest.1,
            ap (λ (t : List ℕ). run.0 ++ t) rest.2 ∙ sym on.1,
            (run.1, run.2, subst (λ (q : Bool). GoesOn q rest.0 run.1 after (RunOf language run.1 rest.0 after)) (sym is) rest.3),
          )

  -- ---- to a run

  pub run-from_answered : (state after : State) (answered : List Answered) → RunOf language state answered after
      → Run language state (lines_in answered) (texts_in answered) after
  run-from_answered state after [] run = (refl, run)
  run-from_answered state after (one ∷ rest) run = (
    one.text,
    run.0,
    run.1,
    by_quit (is_quit language one.line) run.2 (λ further. run-from_answered run.0 after rest further),
  )
    where
      by_quit : (quits : Bool) → GoesOn quits rest run.0 after (RunOf language run.0 rest after)
          → (RunOf language run.0 rest after → Run language run.0 (lines_in rest) (texts_in rest) after)
          → RunsOn quits one.text run.0 (one.text ++ texts_in rest) after (λ out. Run language run.0 (lines_in rest) out after)
      by_quit true goes later = (ap (λ (t : List ℕ). one.text ++ t) (texts_in-unanswered rest goes.0) ∙ append-nil one.text, goes.1)
      by_quit false goes later = (texts_in rest, refl, later goes)

pub RunsAreOfLines-law : RunsAreOfLines
RunsAreOfLines-law language state after lines out = (
  run-by_line language state after lines out,
  λ answered. subst (λ (ls : List (List ℕ)). Run language state ls out after) answered.1
      (subst (λ (o : List ℕ). Run language state (lines_in answered.0) o after) answered.2 (run-from_answered language state after answered.0 answered.3)),
)
