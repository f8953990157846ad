-- What is known of a run over generated lines once it was served.
use Rattle.std.proofs.Common.{◌≡◌, ◌*◌, ◌<◌, ◌≤◌, ℕ, List, [], ◌∷◌, length, Some, Result, Ok, Err, IfOk, sym, subst, ap, ◌∙◌, length-append, arith}
use Rattle.std.proofs.lemmas.Bool.Decides.{nat_tests}
use Rattle.ec_terms.specs.declared.theory.Theory.{Theory}
use Rattle.ec_commands.specs.Lines.{is_long, lines_of}
use Rattle.ec_soak.specs.declared.counts.Counts.{Counts}
use Rattle.ec_soak.specs.declared.generated_line.GeneratedLine.{GeneratedLine}
use Rattle.ec_soak.specs.Load.{ended_text, generated_load, generated_lines, line_text, load_of}
use Rattle.ec_soak.specs.Tally.{Tally, counts_of, stands_for_tally, tally_of}
use Rattle.ec_soak.proofs.CutLoads.{is_long-line_text, length-drawn_lines}
use Rattle.ec_theory.specs.Accepted.{IsAccepted}
use Rattle.ec_files.specs.declared.status.Status.{Status}
use Rattle.ec_files.specs.declared.status.Status.TheVariants as status
use Rattle.ec_server.specs.Answered.{AnswersLines}
use Rattle.ec_files.specs.Languages.{language_of}
use Rattle.ec_server.specs.CommandEnds.{SaysBytes}
use Rattle.ec_server.specs.Ending.{SaysServed}
use Rattle.ec_server.specs.Soaking.{IsSoaked, soak_text, soak_theory}
use Rattle.ec_server.proofs.ServedBytes.{SaysBytes-of, zero_stays}
use Rattle.ec_server.proofs.SoakTheory.{soak_accepted}
use Rattle.ec_files.proofs.TheoryTexts.{accepted_same}

-- ---- how many bytes generated lines have

length-ended_text : (line : GeneratedLine) → length (ended_text line) ≤ 4097
unfolding is_long
length-ended_text line =
    let short : length (line_text line) ≤ 4096 = let fits = is_long-line_text line in grind (arith, nat_tests) in
    omega (arith, length-append (line_text line) (10 ∷ []), short)

length-load_of : (lines : List GeneratedLine) → length (load_of lines) ≤ 4097 * length lines
length-load_of [] = omega arith
length-load_of (line ∷ lines) = omega (arith, length-append (ended_text line) (load_of lines), length-ended_text line, length-load_of lines)

pub length-generated_load : (lines seed : ℕ) → length (generated_load lines seed) ≤ 4097 * lines
unfolding generated_load
length-generated_load lines seed = omega (arith, length-load_of (generated_lines lines seed), length-drawn_lines lines 1 seed)

-- ---- the counts

-- what was served to the end was counted
pub IsSoaked-of : (lines seed limit : ℕ) (theory : Theory) (text before left : List ℕ) (blank tally : Tally) (s : Status) (counts : Counts) → length (generated_load lines seed) < limit
    → text ≡ soak_text → IsAccepted text theory → before ≡ generated_load lines seed → blank ≡ tally_of [] → s ≡ status.Done
    → SaysServed (λ (bytes : List ℕ). Some bytes) (λ (bytes : List ℕ). 0) stands_for_tally (λ (t : Tally). 0) (language_of theory) limit before left blank tally s
    → ((output : List ℕ) → stands_for_tally tally output → counts ≡ counts_of output) → counts.memory ≡ 0 → IsSoaked lines seed counts
IsSoaked-of lines seed limit theory text before left blank tally s counts below is_text accepted is_load is_blank done served counted none =
    let same : theory ≡ soak_theory = accepted_same (subst (λ (t : List ℕ). IsAccepted t theory) is_text accepted) soak_accepted in
    let answers : AnswersLines stands_for_tally (language_of soak_theory) (lines_of (generated_load lines seed)) blank tally =
    subst (λ (t : Theory). AnswersLines stands_for_tally (language_of t) (lines_of (generated_load lines seed)) blank tally) same
    (subst (λ (t : Status). SaysBytes stands_for_tally (λ (t : Tally). 0) (language_of theory) blank tally (generated_load lines seed) t) done
    (SaysBytes-of (λ (bytes : List ℕ). Some bytes) (λ (bytes : List ℕ). 0) stands_for_tally (λ (t : Tally). 0) (language_of theory) limit before left blank tally
    (generated_load lines seed) (ap (λ (b : List ℕ). Some b) is_load) below zero_stays s served)).0 in
    record {
      out = answers.out;
      run = answers.run;
      counts_are = counted answers.out (answers.appended.follows [] (sym is_blank));
      no_memory = none;
    }

-- and counts that are told only without a refusal are those of such a run
pub IsSoaked-told : {E : Type 0} (lines seed : ℕ) (counts : Counts) (told : Result Counts E) → IfOk told (λ all. all ≡ counts) → IfOk told (λ all. all.memory ≡ 0)
    → (counts.memory ≡ 0 → IsSoaked lines seed counts) → IfOk told (λ all. IsSoaked lines seed all)
IsSoaked-told lines seed counts (Ok all) same none soaked =
    subst (λ (c : Counts). IsSoaked lines seed c) (sym same) (soaked (ap (λ (c : Counts). c.memory) (sym same) ∙ none))
IsSoaked-told lines seed counts (Err e) same none soaked = tt
