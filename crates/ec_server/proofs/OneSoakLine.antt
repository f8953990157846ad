-- One line sums up a run over generated lines in which memory ran out for none of them.
use Rattle.std.proofs.Common.{◌≡◌, ◌+◌, ℕ, Bool, true, false, cond, ◌||◌, List, [], ◌∷◌, ◌++◌, map, ℤ, Option, None, min, refl, sym, ap, ap₂, ◌∙◌, subst, inl, inr, append-nil, true≢false, arith}
use Rattle.std.specs.Prelude.{count_by}
use Rattle.std.specs.List.{list_any}
use Rattle.std.proofs.lemmas.Bool.{or_parts}
use Rattle.std.proofs.lemmas.List.Folds.{list_any-append}
use Rattle.std.proofs.lemmas.List.Sums.{sum_by-cons}
use Rattle.ec_terms.specs.Pieces.{pieces_between}
use Rattle.ec_commands.specs.Answers.{answer_text, front_text, refused_memory}
use Rattle.ec_commands.specs.Commands.{parsed_of, parsed_words}
use Rattle.ec_commands.specs.Lines.{cut_of, is_blank, lines_of, words_of}
use Rattle.ec_outside.specs.Counts.{last_count}
use Rattle.ec_replies.specs.Replies.{Language, reply_line}
use Rattle.ec_replies.specs.Runs.{IsReply, Run, RunsOn, Step, is_quit, memory_text}
use Rattle.ec_replies.specs.State.{State, empty_state}
use Rattle.ec_soak.specs.declared.counts.Counts.{Counts}
use Rattle.ec_soak.specs.declared.generated_line.GeneratedLine.{GeneratedLine}
use Rattle.ec_soak.specs.declared.generated_line.GeneratedLine.TheVariants.{Assert, Retract, HoldsLit, HoldsAt, Intervals, Last}
use Rattle.ec_soak.specs.Load.{generated_lines, generated_load, line_text}
use Rattle.ec_soak.specs.Tally.{counts_of, is_memory, summary_line}
use Rattle.ec_soak.proofs.CutLoads.{lines_of-load}
use Rattle.ec_files.specs.Languages.{language_of}
use Rattle.ec_server.specs.Soaking.{IsSoaked, IsSoakLine, soak_theory}
use Rattle.ec_server.proofs.ReplyEnds.{IsEnded, ended-append, reply_of-ended}

-- ---- outputs without the refusal for memory

-- no line of an output is that refusal
abbrev HasNoRefusal : List ℕ → Type 0
HasNoRefusal out = list_any is_memory (cut_of out).ended ≡ false

none_counted : (p : List ℕ → Bool) (lines : List (List ℕ)) → count_by p lines ≡ 0 → list_any p lines ≡ false
none_counted p [] none = refl
none_counted p (line ∷ lines) none = by_test (p line) (sym (sum_by-cons (λ x. cond (p x) 1 0) line lines) ∙ none) (none_counted p lines)
  where
    by_test : (b : Bool) → cond b 1 0 + count_by p lines ≡ 0 → (count_by p lines ≡ 0 → list_any p lines ≡ false) → (b || list_any p lines) ≡ false
    by_test true none later = absurd (omega (arith, none))
    by_test false none later = later (omega (arith, none))

HasNoRefusal-of : (out : List ℕ) → (counts_of out).memory ≡ 0 → HasNoRefusal out
unfolding counts_of
HasNoRefusal-of out none = none_counted is_memory (cut_of out).ended (below (count_by is_memory (cut_of out).ended) none)
  where
    below : (n : ℕ) → min n last_count ≡ 0 → n ≡ 0
    below n none = omega (arith, none)

-- what stands behind an ended text has none where both together have none
behind_text : (text rest : List ℕ) → IsEnded text → HasNoRefusal (text ++ rest) → HasNoRefusal rest
behind_text text rest is none =
    (or_parts (list_any is_memory (cut_of text).ended) (list_any is_memory (cut_of rest).ended)
    (sym (list_any-append is_memory (cut_of text).ended (cut_of rest).ended) ∙ ap (list_any is_memory) (sym (ended-append text rest is)) ∙ none)).1

-- the refusal in front is seen
seen_in_front : (rest : List ℕ) → list_any is_memory (cut_of (reply_line None (answer_text refused_memory) ++ rest)).ended ≡ true
unfolding cut_of answer_text front_text
seen_in_front rest = refl

-- ---- generated lines

-- a generated line has no prefix
no_prefix : (spelt : List ℕ → Option ℤ) (line : GeneratedLine) → (parsed_of spelt (line_text line)).session ≡ None
unfolding parsed_of parsed_words words_of is_blank pieces_between line_text
no_prefix spelt (Assert number time event) = refl
no_prefix spelt (Retract number) = refl
no_prefix spelt (HoldsLit lamp time) = refl
no_prefix spelt (HoldsAt person hall time) = refl
no_prefix spelt (Intervals lamp) = refl
no_prefix spelt Last = refl

memory_text-line : (language : Language) (line : GeneratedLine) → memory_text language (line_text line) ≡ reply_line None (answer_text refused_memory)
memory_text-line language line = ap (λ (prefix : Option ℕ). reply_line prefix (answer_text refused_memory)) (no_prefix language.spelt line)

-- ---- one run

module _ (language : Language) where
  -- a generated line whose refusal would be seen is answered by its reply
  replied : (state next after : State) (line : GeneratedLine) (text out : List ℕ) (quits : Bool) (R : List ℕ → Type 0) → Step language state (line_text line) text next
      → RunsOn quits text next out after R → HasNoRefusal out → IsReply language state (line_text line) text next
  replied state next after line text out quits R (inl answered) on none = answered
  replied state next after line text out quits R (inr refused) on none = absurd (true≢false (sym (seen (whole quits on)) ∙ none))
    where
      whole : (quits : Bool) → RunsOn quits text next out after R → (rest : List ℕ) × (out ≡ text ++ rest)
      whole true on = ([], on.0 ∙ sym (append-nil text))
      whole false on = (on.0, on.1)

      seen : (rest : List ℕ) × (out ≡ text ++ rest) → list_any is_memory (cut_of out).ended ≡ true
      seen split =
          ap (λ (o : List ℕ). list_any is_memory (cut_of o).ended) (split.1 ∙ ap (λ (t : List ℕ). t ++ split.0) (refused.text_is ∙ memory_text-line language line))
          ∙ seen_in_front split.0

  -- two such runs have one output
  one_output : (state after last : State) (lines : List GeneratedLine) (out other : List ℕ) → HasNoRefusal out → HasNoRefusal other
      → Run language state (map line_text lines) out after → Run language state (map line_text lines) other last → out ≡ other
  one_output state after last [] out other none neither run further = run.0 ∙ sym further.0
  one_output state after last (line ∷ lines) out other none neither run further =
      let first = replied state run.1 after line run.0 out (is_quit language (line_text line)) (λ rest. Run language run.1 (map line_text lines) rest after) run.2 run.3 none in
      let second = replied state further.1 last line further.0 other (is_quit language (line_text line)) (λ rest. Run language further.1 (map line_text lines) rest last) further.2 further.3 neither in
      by_quit (is_quit language (line_text line)) run.0 further.0 run.1 further.1 (first.text_is ∙ sym second.text_is) (first.after_is ∙ sym second.after_is)
      (subst IsEnded (sym first.text_is) (reply_of-ended language state (line_text line))) run.3 further.3
      (λ next o p fine good here there. one_output next after last lines o p fine good here there)
    where
      by_quit : (quits : Bool) (text told : List ℕ) (next following : State) → text ≡ told → next ≡ following → IsEnded text
          → RunsOn quits text next out after (λ rest. Run language next (map line_text lines) rest after)
          → RunsOn quits told following other last (λ rest. Run language following (map line_text lines) rest last)
          → ((s : State) (o p : List ℕ) → HasNoRefusal o → HasNoRefusal p → Run language s (map line_text lines) o after → Run language s (map line_text lines) p last → o ≡ p) → out ≡ other
      by_quit true text told next following same_text same is here there later = here.0 ∙ same_text ∙ sym there.0
      by_quit false text told next following same_text same is here there later =
          here.1 ∙ ap₂ (λ (a b : List ℕ). a ++ b) same_text
          (later next here.0 there.0 (behind_text text here.0 is (subst HasNoRefusal here.1 none))
          (behind_text told there.0 (subst IsEnded same_text is) (subst HasNoRefusal there.1 neither)) here.2
          (subst (λ (s : State). Run language s (map line_text lines) there.0 last) (sym same) there.2)) ∙ sym there.1

-- ---- one line

lines_of_load : (lines seed : ℕ) → lines_of (generated_load lines seed) ≡ map line_text (generated_lines lines seed)
unfolding generated_load
lines_of_load lines seed = lines_of-load (generated_lines lines seed)

-- the counts are those of one run
same_counts : (lines seed : ℕ) (counts other : Counts) → IsSoaked lines seed counts → IsSoaked lines seed other → counts ≡ other
same_counts lines seed counts other one two =
    let load = lines_of_load lines seed in
    let run = subst (λ (l : List (List ℕ)). Run (language_of soak_theory) empty_state l one.out one.run.0) load one.run.1 in
    let further = subst (λ (l : List (List ℕ)). Run (language_of soak_theory) empty_state l two.out two.run.0) load two.run.1 in
    let same = one_output (language_of soak_theory) empty_state one.run.0 two.run.0 (generated_lines lines seed) one.out two.out
    (HasNoRefusal-of one.out (sym (ap (λ (c : Counts). c.memory) one.counts_are) ∙ one.no_memory))
    (HasNoRefusal-of two.out (sym (ap (λ (c : Counts). c.memory) two.counts_are) ∙ two.no_memory)) run further in
    one.counts_are ∙ ap counts_of same ∙ sym two.counts_are

pub one_soak_line : (lines seed : ℕ) (text other : List ℕ) → IsSoakLine lines seed text → IsSoakLine lines seed other → text ≡ other
one_soak_line lines seed text other one two = one.2 ∙ ap (summary_line lines) (same_counts lines seed one.0 two.0 one.1 two.1) ∙ sym two.2
