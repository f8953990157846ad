-- How serving goes on: line by line, through flushes, and at its ends.
use Rattle.std.proofs.Common.{◌≡◌, ℕ, Bool, true, false, ◌||◌, List, [], ◌∷◌, ◌++◌, map, refl, sym, ap, ◌∙◌, subst, append_assoc, append-nil}
use Rattle.std.proofs.lemmas.List.{map-append}
use Rattle.ec_commands.specs.Lines.{CutText, cut_of, whole_lines, lines_of, last_line, without_return}
use Rattle.ec_replies.specs.State.{State, empty_state}
use Rattle.ec_replies.specs.Runs.{Run, is_quit, has_quit}
use Rattle.ec_replies.specs.Replies.{Language}
use Rattle.ec_sessions.specs.Handling.{IsAnswered}
use Rattle.ec_server.specs.Answered.{AnswersLines, IsServing, HasQuit}
use Rattle.ec_replies.proofs.RunParts.{step_run, run-append, run-quit}
use Rattle.ec_lines.proofs.CutLines.{behind, cut_of-append}
use Rattle.ec_outside.specs.Streams.{NothingAppended}
use Rattle.ec_outside.proofs.Streams.{Appended-then, Appended-then-NothingAppended, Appended-nil}

-- ---- lines

-- the whole lines of a text come first among those of a longer one
pub whole_lines-append : (text more : List ℕ) → (tail : List (List ℕ)) × (whole_lines (text ++ more) ≡ whole_lines text ++ tail)
unfolding whole_lines
whole_lines-append text more = by_parts (cut_of more).ended (cut_of more).rest (cut_of-append text more)
  where
    by_parts : (parts : List (List ℕ)) (rest : List ℕ) → cut_of (text ++ more) ≡ behind (cut_of text) parts rest
        → (tail : List (List ℕ)) × (map without_return (cut_of (text ++ more)).ended ≡ map without_return (cut_of text).ended ++ tail)
    by_parts [] rest is = ([], ap (λ (c : CutText). map without_return c.ended) is ∙ sym (append-nil (map without_return (cut_of text).ended)))
    by_parts (part ∷ parts) rest is = (
      map without_return (((cut_of text).rest ++ part) ∷ parts),
      ap (λ (c : CutText). map without_return c.ended) is ∙ map-append without_return (cut_of text).ended (((cut_of text).rest ++ part) ∷ parts),
    )

-- and first among the lines of a longer input
pub lines_of-append : (text more : List ℕ) → (tail : List (List ℕ)) × (lines_of (text ++ more) ≡ whole_lines text ++ tail)
unfolding lines_of
lines_of-append text more =
    let whole = whole_lines-append text more in (
      whole.0 ++ last_line (cut_of (text ++ more)).rest,
      ap (λ (lines : List (List ℕ)). lines ++ last_line (cut_of (text ++ more)).rest) whole.1 ∙ append_assoc (whole_lines text) whole.0 (last_line (cut_of (text ++ more)).rest),
    )

-- the lines of an input with a last line without its end, and of one without
pub lines_of-rest : (text : List ℕ) (b : ℕ) (rest : List ℕ) → (cut_of text).rest ≡ b ∷ rest → lines_of text ≡ whole_lines text ++ (b ∷ rest) ∷ []
unfolding lines_of last_line
lines_of-rest text b rest is = ap (λ (r : List ℕ). whole_lines text ++ last_line r) is

pub lines_of-whole : (text : List ℕ) → (cut_of text).rest ≡ [] → lines_of text ≡ whole_lines text
unfolding lines_of last_line
lines_of-whole text none = ap (λ (r : List ℕ). whole_lines text ++ last_line r) none ∙ append-nil (whole_lines text)

-- nothing taken has no lines
whole_lines-nil : whole_lines [] ≡ []
unfolding whole_lines cut_of
whole_lines-nil = refl

-- `quit` among the lines that another one follows
has_quit-append : (language : Language) (lines : List (List ℕ)) (line : List ℕ) → has_quit language (lines ++ line ∷ []) ≡ (has_quit language lines || is_quit language line)
has_quit-append language [] line = or_false (is_quit language line)
  where
    or_false : (b : Bool) → (b || false) ≡ b
    or_false true = refl
    or_false false = refl
has_quit-append language (first ∷ lines) line =
    ap (λ (b : Bool). is_quit language first || b) (has_quit-append language lines line)
    ∙ or_assoc (is_quit language first) (has_quit language lines) (is_quit language line)
  where
    or_assoc : (a b c : Bool) → (a || (b || c)) ≡ ((a || b) || c)
    or_assoc true b c = refl
    or_assoc false b c = refl

-- `quit` stays among more lines
pub has_quit-more : (language : Language) (lines more : List (List ℕ)) → has_quit language lines ≡ true → has_quit language (lines ++ more) ≡ true
has_quit-more language [] more quits = cc
has_quit-more language (line ∷ lines) more quits = by_test (is_quit language line) quits (has_quit-more language lines more)
  where
    by_test : (b : Bool) → (b || has_quit language lines) ≡ true → (has_quit language lines ≡ true → has_quit language (lines ++ more) ≡ true)
        → (b || has_quit language (lines ++ more)) ≡ true
    by_test true quits later = refl
    by_test false quits later = later quits

module _ {K : Type 0} {stands : K → List ℕ → Type 0} {language : Language} where
  -- ---- the beginning, and what keeps the sink

  pub IsServing-start : (start : K) → NothingAppended stands start start → IsServing stands language [] empty_state start start
  IsServing-start start kept = record {
    out = [];
    run = subst (λ (lines : List (List ℕ)). Run language empty_state lines [] empty_state) (sym whole_lines-nil) (refl, refl);
    going = ap (has_quit language) whole_lines-nil;
    appended = Appended-nil kept;
  }

  pub IsServing-kept : {taken : List ℕ} {state : State} {start now next : K} → IsServing stands language taken state start now → NothingAppended stands now next
      → IsServing stands language taken state start next
  IsServing-kept serving kept = record { out = serving.out; run = serving.run; going = serving.going; appended = Appended-then-NothingAppended serving.appended kept }

  -- ---- more bytes

  -- bytes that end no line
  pub IsServing-piece : {taken longer : List ℕ} {state : State} {start now : K} → whole_lines longer ≡ whole_lines taken
      → IsServing stands language taken state start now → IsServing stands language longer state start now
  IsServing-piece {state = state} same serving = record {
    out = serving.out;
    run = subst (λ (lines : List (List ℕ)). Run language empty_state lines serving.out state) (sym same) serving.run;
    going = ap (has_quit language) same ∙ serving.going;
    appended = serving.appended;
  }

  -- the lines so far and one more are answered
  answers_more : {taken line : List ℕ} {state after : State} {start now next : K} {quits : Bool} (serving : IsServing stands language taken state start now)
      (answered : IsAnswered stands language quits line state after now next)
      → Run language empty_state (whole_lines taken ++ line ∷ []) (serving.out ++ answered.text) after
  answers_more {taken} {line} {state} {after} serving answered =
      run-append language empty_state state after (whole_lines taken) (line ∷ []) serving.out answered.text serving.going serving.run
      (step_run language state after line answered.text answered.step)

  -- bytes that end a line, which is answered and is not `quit`
  pub IsServing-line : {taken longer line : List ℕ} {state after : State} {start now next : K} → whole_lines longer ≡ whole_lines taken ++ line ∷ []
      → IsServing stands language taken state start now → IsAnswered stands language false line state after now next
      → IsServing stands language longer after start next
  IsServing-line {taken} {longer} {line} {after = after} same serving answered = record {
    out = serving.out ++ answered.text;
    run = subst (λ (lines : List (List ℕ)). Run language empty_state lines (serving.out ++ answered.text) after) (sym same) (answers_more serving answered);
    going = ap (has_quit language) same ∙ has_quit-append language (whole_lines taken) line ∙ ap (λ (b : Bool). b || is_quit language line) serving.going ∙ answered.quit;
    appended = Appended-then serving.appended answered.appended;
  }

  -- the lines so far and one more, whatever it is
  pub AnswersLines-line : {taken line : List ℕ} {lines : List (List ℕ)} {state after : State} {start now next : K} {quits : Bool} → lines ≡ whole_lines taken ++ line ∷ []
      → IsServing stands language taken state start now → IsAnswered stands language quits line state after now next → AnswersLines stands language lines start next
  AnswersLines-line {after = after} same serving answered = record {
    out = serving.out ++ answered.text;
    run = (after, subst (λ (lines : List (List ℕ)). Run language empty_state lines (serving.out ++ answered.text) after) (sym same) (answers_more serving answered));
    appended = Appended-then serving.appended answered.appended;
  }

  -- the lines so far
  pub AnswersLines-so_far : {taken : List ℕ} {lines : List (List ℕ)} {state : State} {start now : K} → lines ≡ whole_lines taken
      → IsServing stands language taken state start now → AnswersLines stands language lines start now
  AnswersLines-so_far {state = state} same serving = record {
    out = serving.out;
    run = (state, subst (λ (lines : List (List ℕ)). Run language empty_state lines serving.out state) (sym same) serving.run);
    appended = serving.appended;
  }

  pub AnswersLines-kept : {lines : List (List ℕ)} {start now next : K} → AnswersLines stands language lines start now → NothingAppended stands now next → AnswersLines stands language lines start next
  AnswersLines-kept answers kept = record { out = answers.out; run = answers.run; appended = Appended-then-NothingAppended answers.appended kept }

  -- bytes that end a line, which is `quit`
  pub HasQuit-line : {taken all line : List ℕ} {state after : State} {start now next : K} (longer rest : List ℕ) → whole_lines longer ≡ whole_lines taken ++ line ∷ [] → all ≡ longer ++ rest
      → IsServing stands language taken state start now → IsAnswered stands language true line state after now next → HasQuit stands language all start next
  HasQuit-line {taken} {line = line} longer rest same split serving answered = record {
    done = longer;
    rest = rest;
    split = split;
    quit = ap (has_quit language) same ∙ has_quit-append language (whole_lines taken) line ∙ ap (λ (b : Bool). b || is_quit language line) serving.going ∙ answered.quit;
    answers = AnswersLines-line same serving answered;
  }

  pub HasQuit-kept : {taken : List ℕ} {start now next : K} → HasQuit stands language taken start now → NothingAppended stands now next → HasQuit stands language taken start next
  HasQuit-kept has kept = record { done = has.done; rest = has.rest; split = has.split; quit = has.quit; answers = AnswersLines-kept has.answers kept }

  -- where `quit` is among the bytes taken, the lines of the whole input are answered, however it goes on
  pub AnswersLines-quit : {taken all : List ℕ} {start now : K} (more : List ℕ) → all ≡ taken ++ more → HasQuit stands language taken start now
      → AnswersLines stands language (lines_of all) start now
  AnswersLines-quit {taken} {all} more split has =
      let whole : all ≡ has.done ++ (has.rest ++ more) = split ∙ ap (λ (t : List ℕ). t ++ more) has.split ∙ append_assoc has.done has.rest more in
      let tail = lines_of-append has.done (has.rest ++ more) in record {
        out = has.answers.out;
        run = (
          has.answers.run.0,
          subst (λ (lines : List (List ℕ)). Run language empty_state lines has.answers.out has.answers.run.0) (sym (ap lines_of whole ∙ tail.1))
              (run-quit language empty_state has.answers.run.0 (whole_lines has.done) tail.0 has.answers.out has.quit has.answers.run.1),
        );
        appended = has.answers.appended;
      }

  -- and `quit` is among the whole lines of all that was taken
  pub has_quit-taken : {taken : List ℕ} {start now : K} → HasQuit stands language taken start now → has_quit language (whole_lines taken) ≡ true
  has_quit-taken has =
      let tail = whole_lines-append has.done has.rest in
      ap (λ (t : List ℕ). has_quit language (whole_lines t)) has.split ∙ ap (has_quit language) tail.1
      ∙ has_quit-more language (whole_lines has.done) tail.0 has.quit
