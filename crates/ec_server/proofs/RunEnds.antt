-- What a command says by its status is what the run says by its exit status.
use Rattle.std.proofs.Common.{◌≡◌, ◌≤◌, ◌⊎◌, ℕ, ℤ, true, false, List, [], length, take, drop, Option, Some, None, IsSome, IsTrue, refl, sym, ap, ◌∙◌, subst, inl, inr, arith}
use Rattle.ec_terms.specs.declared.theory.Theory.{Theory}
use Rattle.ec_axioms.specs.Calculus.{PlainEvent}
use Rattle.ec_cert.specs.declared.event_fault.EventName.{EventName}
use Rattle.ec_cert.specs.EventFile.{events_line}
use Rattle.ec_commands.specs.Lines.{lines_of, whole_lines}
use Rattle.ec_outside.specs.Counts.{Rose}
use Rattle.ec_outside.specs.Files.{Files, IsMissing}
use Rattle.ec_outside.specs.Streams.{Appended, AppendedPart, IsAtEnd, Took}
use Rattle.ec_outside.proofs.Streams.{Took-nil}
use Rattle.ec_replies.specs.Runs.{has_quit}
use Rattle.ec_files.specs.declared.status.Status.{Status}
use Rattle.ec_files.specs.declared.status.Status.TheVariants as status
use Rattle.ec_server.specs.Answered.{AnswersLines}
use Rattle.ec_files.specs.Languages.{language_of}
use Rattle.ec_server.specs.ByShape.{HasLongLines, HasLongTheory, IsReady, IsRefused, LacksFile, Serves, TellsServed, WrotePart, reads_lines, takes_input}
use Rattle.ec_files.specs.CommandEnds.{Wrote}
use Rattle.ec_server.specs.Ending.{GoesOn}
use Rattle.ec_server.specs.Ends.{Ends}
use Rattle.ec_files.specs.ExitStatus.{code_of}
use Rattle.ec_server.specs.InputLimits.{most_input, IsShort, IsLong}
use Rattle.ec_files.specs.Claims.{Claim, HasOutcome, IsAnswer, IsDecided, IsPut, Outcome, answer, bad_events, long_file, no_time as outcome_no_time, verified_text, written_text}
use Rattle.ec_files.specs.LineFiles.{HasLines}
use Rattle.ec_files.proofs.Certified.{answered_by, certified_told, never_certified, no_certified, outcome_status, same_certified, unanswered_by}
use Rattle.ec_files.proofs.Claims.{HasOutcome-no_time, HasOutcome-told}
use Rattle.ec_server.specs.Soaking.{IsSoakLine}
use Rattle.ec_files.specs.TheoryFiles.{HasTheory, accepted_line, theory_line}
use Rattle.ec_files.specs.Words.{Shape, certify, check_theory, replay_lines, serve_theory, soak_lines, usage_line}
use Rattle.ec_files.proofs.CommandEnds.{IsInputStatus, IsUntouched, line_done, no_line, no_refusal, only_memory, refuses_with, same_line, same_refusal, told_refused}
use Rattle.ec_server.proofs.CommandEnds.{IsOneLine, never_served, done_if_short, limit_if_long, never_replayed, no_replay, replay_done, replay_long, same_replay, same_serve}
use Rattle.ec_files.proofs.StatusCodes.{by_either, either_code, first_of_two, second_of_two, some_of, status_same, told_code}
use Rattle.ec_files.proofs.TheoryTexts.{HasFile-told, HasTheory-not_refused, HasTheory-same}
use Rattle.ec_files.proofs.ToldFaults.{line_told, refusal_told}
use Rattle.ec_server.proofs.ToldFaults.{read_told, replay_told, write_told}
use Rattle.ec_server.proofs.WholeInput.{left_at_limit, lines_done, read_done, taken_within}

-- the input that ends early does so with the theory in the file
same_short : {told : Option Files} {name : List ℕ} {theory other : Theory} (text : List ℕ) → HasTheory told name theory → (IsSome told → HasTheory told name other)
    → IsShort (language_of theory) most_input text → IsShort (language_of other) most_input text
same_short text has tells short = subst (λ (t : Theory). IsShort (language_of t) most_input text) (HasTheory-same has (tells (HasFile-told has.file))) short

-- and the one that does not
same_long : {told : Option Files} {name : List ℕ} {theory other : Theory} (text : List ℕ) → HasTheory told name theory → (IsSome told → HasTheory told name other)
    → IsLong (language_of theory) most_input text → IsLong (language_of other) most_input text
same_long text has tells long = subst (λ (t : Theory). IsLong (language_of t) most_input text) (HasTheory-same has (tells (HasFile-told has.file))) long

-- what a claim comes to
same_outcome : {told : Option Files} {claim : Claim} {theory other : Theory} {outcome : Outcome} → HasTheory told claim.theory theory
    → (IsSome told → HasTheory told claim.theory other) → HasOutcome told (language_of theory) claim outcome → HasOutcome told (language_of other) claim outcome
same_outcome {told} {claim} {theory} {other} {outcome} has tells is =
    subst (λ (t : Theory). HasOutcome told (language_of t) claim outcome) (HasTheory-same has (tells (HasFile-told has.file))) is

-- ---- how a run ends

module _ {S K : Type 0} {left : S → Option (List ℕ)} {read_faults : S → ℕ} {stands : K → List ℕ → Type 0} {write_faults : K → ℕ}
    {told : Option Files} {before after : ℕ} {input_before input : S} {output_before output : K} where
  -- how a run ends is what the words ask for
  pub Ends-asked : {asks words : Option Shape} {ended : Status} → asks ≡ words → Ends left read_faults stands write_faults told before after input_before input output_before output words ended → Ends left read_faults stands write_faults told before after input_before input output_before output asks ended
  Ends-asked {ended = ended} same ends = subst (λ (a : Option Shape). Ends left read_faults stands write_faults told before after input_before input output_before output a ended) (sym same) ends

-- ---- the run

-- the exit status is that of a run which ended so
pub record IsRan {S K : Type 0} (left : S → Option (List ℕ)) (read_faults : S → ℕ) (stands : K → List ℕ → Type 0) (write_faults : K → ℕ)
    (told : Option Files) (before after : ℕ) (input_before input : S) (output_before output : K) (asks : Option Shape) (code : ℕ) : Type 0 where
  pub ended : Status
  pub is : code ≡ code_of ended
  pub ends : Ends left read_faults stands write_faults told before after input_before input output_before output asks ended

module _ {S K : Type 0} {left : S → Option (List ℕ)} {read_faults : S → ℕ} {stands : K → List ℕ → Type 0} {write_faults : K → ℕ}
    {told : Option Files} {before after : ℕ} {input_before input : S} {output_before output : K} {asks : Option Shape} {code : ℕ} where
  -- what the run says by the status that is known
  ends_by : IsRan left read_faults stands write_faults told before after input_before input output_before output asks code → (t : Status) → code ≡ code_of t → Ends left read_faults stands write_faults told before after input_before input output_before output asks t
  ends_by run t is = subst (λ (s : Status). Ends left read_faults stands write_faults told before after input_before input output_before output asks s) (status_same t run.is is) run.ends

  -- and by the shape
  ends_at : IsRan left read_faults stands write_faults told before after input_before input output_before output asks code → (t : Status) → code ≡ code_of t → (shape : Shape) → asks ≡ Some shape → Ends left read_faults stands write_faults told before after input_before input output_before output (Some shape) t
  ends_at run t is shape asked = subst (λ (a : Option Shape). Ends left read_faults stands write_faults told before after input_before input output_before output a t) asked (ends_by run t is)

  ends_of : (run : IsRan left read_faults stands write_faults told before after input_before input output_before output asks code) → (shape : Shape) → asks ≡ Some shape → Ends left read_faults stands write_faults told before after input_before input output_before output (Some shape) run.ended
  ends_of run shape asked = subst (λ (a : Option Shape). Ends left read_faults stands write_faults told before after input_before input output_before output a run.ended) asked run.ends

  -- a claim that comes to no answer, by an outcome that is known
  by_outcome : (run : IsRan left read_faults stands write_faults told before after input_before input output_before output asks code) (claim : Claim) (theory : Theory) (outcome : Outcome) → asks ≡ Some (certify claim) → HasTheory told claim.theory theory
      → HasOutcome told (language_of theory) claim outcome → ¬ Rose before after → ((text : List ℕ) → outcome ≡ answer text → ⊥)
      → (run.ended ≡ outcome_status outcome) ⊎ (run.ended ≡ status.NoMemory)
  by_outcome run claim theory outcome asked has is fine never =
      by_either (ends_of run (certify claim) asked).says.0.says
      (λ with. unanswered_by stands write_faults told (language_of with.0) claim before after output_before output fine outcome (same_outcome has with.1 is) never run.ended with.2)
      (λ none. inr (only_memory stands write_faults told claim.theory before after output_before output has.bytes has.file fine
      (λ text why. HasTheory-not_refused has why) run.ended none.0))

  -- ---- 0

  pub replies : IsRan left read_faults stands write_faults told before after input_before input output_before output asks code → code ≡ 0 → (shape : Shape) → asks ≡ Some shape → TellsServed told (left input_before) shape
      → (theory : Theory) × (text : List ℕ) × Serves told (left input_before) shape theory text × AnswersLines stands (language_of theory) (lines_of text) output_before output
  unfolding code_of
  replies run is shape asked tells = by_shape shape (ends_at run status.Done is shape asked) tells
    where
      by_shape : (shape : Shape) → Ends left read_faults stands write_faults told before after input_before input output_before output (Some shape) status.Done → TellsServed told (left input_before) shape
          → (theory : Theory) × (text : List ℕ) × Serves told (left input_before) shape theory text × AnswersLines stands (language_of theory) (lines_of text) output_before output
      by_shape (check_theory name) ends tells = absurd tells
      by_shape (serve_theory name) ends tells =
          let with = first_of_two ends.says.says (λ none. none.0) in
          let text = some_of (left input_before) tells.1 in
          (with.0, text.0, (with.1 tells.0, text.1), lines_done with.2 text.0 text.1)
      by_shape (replay_lines name lines) ends tells =
          let with = first_of_two ends.says.0.says (λ none. none.0) in
          let read = first_of_two with.2 (λ unread. unread) in
          (with.0, read.0, (with.1 tells, read.1 tells), read.2.0)
      by_shape (soak_lines lines seed) ends tells = absurd tells
      by_shape (certify claim) ends tells = absurd tells

  pub completes : IsRan left read_faults stands write_faults told before after input_before input output_before output asks code → (shape : Shape) → asks ≡ Some shape → IsReady told (left input_before) shape → ¬ Rose before after
      → ¬ Rose (read_faults input_before) (read_faults input) → ¬ Rose (write_faults output_before) (write_faults output) → (code ≡ 0) ⊎ (code ≡ 6)
  unfolding code_of
  completes run shape asked ready fine reads writes = either_code status.Done status.NoMemory run.is (by_shape shape (ends_of run shape asked) ready)
    where
      by_shape : (shape : Shape) → Ends left read_faults stands write_faults told before after input_before input output_before output (Some shape) run.ended → IsReady told (left input_before) shape → (run.ended ≡ status.Done) ⊎ (run.ended ≡ status.NoMemory)
      by_shape (check_theory name) ends ready =
          by_either ends.says.0.says
          (λ with. line_done stands write_faults output_before output writes (λ text. text ≡ accepted_line with.0) run.ended with.2)
          (λ none. inr (only_memory stands write_faults told name before after output_before output ready.1.bytes ready.1.file fine
          (λ text why. HasTheory-not_refused ready.1 why) run.ended none.0))
      by_shape (serve_theory name) ends ready =
          by_either ends.says.says
          (λ with. done_if_short left read_faults stands write_faults with.0 ready.1 input_before input output_before output ready.3 reads writes (same_short ready.1 ready.2 with.1 ready.4) run.ended with.2)
          (λ none. inr (only_memory stands write_faults told name before after output_before output ready.2.bytes ready.2.file fine
          (λ text why. HasTheory-not_refused ready.2 why) run.ended none.0))
      by_shape (replay_lines name lines) ends ready =
          by_either ends.says.0.says
          (λ with. replay_done stands write_faults output_before output writes told lines before after with.0 fine ready.1 ready.3 run.ended with.2)
          (λ none. inr (only_memory stands write_faults told name before after output_before output ready.2.bytes ready.2.file fine
          (λ text why. HasTheory-not_refused ready.2 why) run.ended none.0))
      by_shape (soak_lines lines seed) ends ready = line_done stands write_faults output_before output writes (IsSoakLine lines seed) run.ended ends.says.0
      by_shape (certify claim) ends ready =
          by_either ends.says.0.says
          (λ with. answered_by stands write_faults told (language_of with.0) claim before after output_before output fine (answer ready.1) (same_outcome ready.2 with.1 ready.3) writes run.ended with.2)
          (λ none. inr (only_memory stands write_faults told claim.theory before after output_before output ready.2.bytes ready.2.file fine
          (λ text why. HasTheory-not_refused ready.2 why) run.ended none.0))

  pub ended : IsRan left read_faults stands write_faults told before after input_before input output_before output asks code → code ≡ 0 → (name : List ℕ) → asks ≡ Some (serve_theory name)
      → (theory : Theory) × (IsSome told → HasTheory told name theory)
      × ((taken : List ℕ) × Took (left input_before) (left input) taken × (IsAtEnd (left input) ⊎ (has_quit (language_of theory) (whole_lines taken) ≡ true)))
  unfolding code_of
  ended run is name asked =
      let with = first_of_two (ends_at run status.Done is (serve_theory name) asked).says.says (λ none. none.0) in
      (with.0, with.1, read_done with.2)

  pub accepted : IsRan left read_faults stands write_faults told before after input_before input output_before output asks code → code ≡ 0 → (name : List ℕ) → asks ≡ Some (check_theory name)
      → (theory : Theory) × (IsSome told → HasTheory told name theory) × Appended stands output_before output (accepted_line theory)
  unfolding code_of
  accepted run is name asked =
      let with = first_of_two (ends_at run status.Done is (check_theory name) asked).says.0.says (λ none. none.0) in
      (with.0, with.1, subst (λ (t : List ℕ). Appended stands output_before output t) with.2.1 with.2.2)

  pub soaks : IsRan left read_faults stands write_faults told before after input_before input output_before output asks code → code ≡ 0 → (lines seed : ℕ) → asks ≡ Some (soak_lines lines seed) → (text : List ℕ) × IsSoakLine lines seed text × Appended stands output_before output text
  unfolding code_of
  soaks run is lines seed asked = let line = (ends_at run status.Done is (soak_lines lines seed) asked).says.0 in (line.0, line.1, line.2)

  -- the answer of a claim
  answered : IsRan left read_faults stands write_faults told before after input_before input output_before output asks code → code ≡ 0 → (claim : Claim) → asks ≡ Some (certify claim)
      → (theory : Theory) × (IsSome told → HasTheory told claim.theory theory) × ((text : List ℕ) × IsAnswer told (language_of theory) claim text × Appended stands output_before output text)
  unfolding code_of
  answered run is claim asked =
      let with = first_of_two (ends_at run status.Done is (certify claim) asked).says.0.says (λ none. none.0) in
      let line = first_of_two with.2 (λ unanswered. unanswered) in
      (with.0, with.1, (line.0, line.1, line.2))

  pub proves : IsRan left read_faults stands write_faults told before after input_before input output_before output asks code → code ≡ 0 → (claim : Claim) → asks ≡ Some (certify claim) → claim.certificate ≡ None
      → (theory : Theory) × (t : ℤ) × (events : List PlainEvent) × IsPut told claim theory t events
      × Appended stands output_before output (written_text (language_of theory) claim.prop t events)
  proves run is claim asked none =
      let all = answered run is claim asked in
      let it = all.2.1 in
      let decides = subst (λ (c : Option (List ℕ)). IsDecided told (language_of all.0) claim.prop it.t it.events c all.2.0) none it.decides in
      (all.0, it.t, it.events, record { accepted = all.1; spelt = it.spelt; has = it.has }, subst (λ (t : List ℕ). Appended stands output_before output t) decides all.2.2)

  pub verifies : IsRan left read_faults stands write_faults told before after input_before input output_before output asks code → code ≡ 0 → (claim : Claim) (name : List ℕ) → asks ≡ Some (certify claim) → claim.certificate ≡ Some name
      → (theory : Theory) × (t : ℤ) × (events : List PlainEvent) × (certificate : List ℕ) × IsPut told claim theory t events
      × (IsSome told → HasLines told name certificate) × Appended stands output_before output (verified_text (language_of theory) claim.prop t events certificate)
  verifies run is claim name asked some =
      let all = answered run is claim asked in
      let it = all.2.1 in
      let decides = subst (λ (c : Option (List ℕ)). IsDecided told (language_of all.0) claim.prop it.t it.events c all.2.0) some it.decides in
      (all.0, it.t, it.events, decides.0, record { accepted = all.1; spelt = it.spelt; has = it.has }, decides.1, subst (λ (t : List ℕ). Appended stands output_before output t) decides.2 all.2.2)

  -- ---- 2

  pub no_shape : IsRan left read_faults stands write_faults told before after input_before input output_before output asks code → asks ≡ None → code ≡ 2
  unfolding code_of
  no_shape run none = let ends = subst (λ (a : Option Shape). Ends left read_faults stands write_faults told before after input_before input output_before output a run.ended) none run.ends in run.is ∙ ap code_of ends.says.0

  pub why_usage : IsRan left read_faults stands write_faults told before after input_before input output_before output asks code → code ≡ 2
      → (asks ≡ None) ⊎ ((claim : Claim) × (theory : Theory) × (asks ≡ Some (certify claim)) × (IsSome told → HasTheory told claim.theory theory) × ((language_of theory).spelt claim.at ≡ None))
  unfolding code_of
  why_usage run is = by_words asks refl (ends_by run status.NoShape is)
    where
      by_words : (words : Option Shape) → asks ≡ words → Ends left read_faults stands write_faults told before after input_before input output_before output asks status.NoShape
          → (asks ≡ None) ⊎ ((claim : Claim) × (theory : Theory) × (asks ≡ Some (certify claim)) × (IsSome told → HasTheory told claim.theory theory) × ((language_of theory).spelt claim.at ≡ None))
      by_words None same ends = inl same
      by_words (Some shape) same ends = inr (by_shape shape same (subst (λ (a : Option Shape). Ends left read_faults stands write_faults told before after input_before input output_before output a status.NoShape) same ends))
        where
          by_shape : (shape : Shape) → asks ≡ Some shape → Ends left read_faults stands write_faults told before after input_before input output_before output (Some shape) status.NoShape
              → (claim : Claim) × (theory : Theory) × (asks ≡ Some (certify claim)) × (IsSome told → HasTheory told claim.theory theory) × ((language_of theory).spelt claim.at ≡ None)
          by_shape (check_theory name) asked ends = absurd (first_of_two ends.says.0.says (λ none. none.0)).2
          by_shape (serve_theory name) asked ends = absurd (first_of_two ends.says.says (λ none. none.0)).2
          by_shape (replay_lines name lines) asked ends = absurd (by_either (first_of_two ends.says.0.says (λ none. none.0)).2 (λ read. read.2) (λ unread. unread))
          by_shape (soak_lines lines seed) asked ends = absurd ends.says.0
          by_shape (certify claim) asked ends =
              let with = first_of_two ends.says.0.says (λ none. none.0) in
              (claim, with.0, asked, with.1, (second_of_two with.2 (λ line. line)).0)

  pub usage : IsRan left read_faults stands write_faults told before after input_before input output_before output asks code → code ≡ 2 → Wrote stands write_faults output_before output usage_line
  unfolding code_of
  usage run is = by_words asks (ends_by run status.NoShape is)
    where
      by_words : (words : Option Shape) → Ends left read_faults stands write_faults told before after input_before input output_before output words status.NoShape → Wrote stands write_faults output_before output usage_line
      by_words None ends = ends.says.1
      by_words (Some (check_theory name)) ends = absurd (first_of_two ends.says.0.says (λ none. none.0)).2
      by_words (Some (serve_theory name)) ends = absurd (first_of_two ends.says.says (λ none. none.0)).2
      by_words (Some (replay_lines name lines)) ends = absurd (by_either (first_of_two ends.says.0.says (λ none. none.0)).2 (λ read. read.2) (λ unread. unread))
      by_words (Some (soak_lines lines seed)) ends = absurd ends.says.0
      by_words (Some (certify claim)) ends = (second_of_two (first_of_two ends.says.0.says (λ none. none.0)).2 (λ line. line)).1

  pub no_time : IsRan left read_faults stands write_faults told before after input_before input output_before output asks code → (claim : Claim) (theory : Theory) → asks ≡ Some (certify claim) → HasTheory told claim.theory theory
      → (language_of theory).spelt claim.at ≡ None → ¬ Rose before after → (code ≡ 2) ⊎ (code ≡ 6)
  unfolding code_of
  no_time run claim theory asked has none fine =
      either_code status.NoShape status.NoMemory run.is
      (by_outcome run claim theory outcome_no_time asked has (HasOutcome-no_time none (HasFile-told has.file)) fine (λ text same. cc))

  -- with any other status the words have a shape
  shape_there : IsRan left read_faults stands write_faults told before after input_before input output_before output asks code → (t : Status) → (t ≡ status.NoShape → ⊥) → code ≡ code_of t → (shape : Shape) × (asks ≡ Some shape) × Ends left read_faults stands write_faults told before after input_before input output_before output (Some shape) t
  shape_there run t other is = by_words asks refl (ends_by run t is)
    where
      by_words : (words : Option Shape) → asks ≡ words → Ends left read_faults stands write_faults told before after input_before input output_before output asks t → (shape : Shape) × (asks ≡ Some shape) × Ends left read_faults stands write_faults told before after input_before input output_before output (Some shape) t
      by_words None same ends = let none = subst (λ (a : Option Shape). Ends left read_faults stands write_faults told before after input_before input output_before output a t) same ends in absurd (other none.says.0)
      by_words (Some shape) same ends = (shape, same, subst (λ (a : Option Shape). Ends left read_faults stands write_faults told before after input_before input output_before output a t) same ends)

  -- ---- 3

  pub refused : IsRan left read_faults stands write_faults told before after input_before input output_before output asks code → code ≡ 3 → (shape : Shape) → asks ≡ Some shape
      → (text : List ℕ) × (IsSome told → IsRefused shape told text) × Wrote stands write_faults output_before output (theory_line text)
  unfolding code_of
  refused run is shape asked = by_shape shape (ends_at run status.BadTheory is shape asked)
    where
      by_shape : (shape : Shape) → Ends left read_faults stands write_faults told before after input_before input output_before output (Some shape) status.BadTheory → (text : List ℕ) × (IsSome told → IsRefused shape told text) × Wrote stands write_faults output_before output (theory_line text)
      by_shape (check_theory name) ends = told_refused stands write_faults told _ before after output_before output (λ theory says. says) ends.says.0
      by_shape (serve_theory name) ends = told_refused stands write_faults told _ before after output_before output (λ theory says. says) ends.says
      by_shape (replay_lines name lines) ends = told_refused stands write_faults told _ before after output_before output (never_replayed stands write_faults told lines before after output_before output) ends.says.0
      by_shape (soak_lines lines seed) ends = absurd ends.says.0
      by_shape (certify claim) ends =
          told_refused stands write_faults told _ before after output_before output (λ theory. never_certified stands write_faults told (language_of theory) claim before after output_before output) ends.says.0

  pub refuses : IsRan left read_faults stands write_faults told before after input_before input output_before output asks code → (shape : Shape) (text : List ℕ) → asks ≡ Some shape → IsRefused shape told text → ¬ Rose before after → (code ≡ 3) ⊎ (code ≡ 6)
  unfolding code_of
  refuses run shape text asked why fine = either_code status.BadTheory status.NoMemory run.is (by_shape shape (ends_of run shape asked) why)
    where
      by_shape : (shape : Shape) → Ends left read_faults stands write_faults told before after input_before input output_before output (Some shape) run.ended → IsRefused shape told text → (run.ended ≡ status.BadTheory) ⊎ (run.ended ≡ status.NoMemory)
      by_shape (check_theory name) ends why = refuses_with stands write_faults told _ before after output_before output fine why ends.says.0
      by_shape (serve_theory name) ends why = refuses_with stands write_faults told _ before after output_before output fine why ends.says
      by_shape (replay_lines name lines) ends why = refuses_with stands write_faults told _ before after output_before output fine why ends.says.0
      by_shape (soak_lines lines seed) ends why = absurd why
      by_shape (certify claim) ends why = refuses_with stands write_faults told _ before after output_before output fine why ends.says.0

  pub long_theory : IsRan left read_faults stands write_faults told before after input_before input output_before output asks code → code ≡ 3 → (shape : Shape) → asks ≡ Some shape → HasLongTheory shape told → ¬ Rose before after
  unfolding code_of
  long_theory run is shape asked = by_shape shape (ends_at run status.BadTheory is shape asked)
    where
      by_shape : (shape : Shape) → Ends left read_faults stands write_faults told before after input_before input output_before output (Some shape) status.BadTheory → HasLongTheory shape told → ¬ Rose before after
      by_shape (check_theory name) ends long = (second_of_two ends.says.0.says (λ with. with.2)).0.long long
      by_shape (serve_theory name) ends long = (second_of_two ends.says.says (λ with. with.2)).0.long long
      by_shape (replay_lines name lines) ends long = (second_of_two ends.says.0.says (λ with. never_replayed stands write_faults told lines before after output_before output with.0 with.2)).0.long long
      by_shape (soak_lines lines seed) ends long = absurd long
      by_shape (certify claim) ends long =
          (second_of_two ends.says.0.says (λ with. never_certified stands write_faults told (language_of with.0) claim before after output_before output with.2)).0.long long

  -- ---- 4 and 8

  serving_alone : IsRan left read_faults stands write_faults told before after input_before input output_before output asks code → (s : Status) → IsInputStatus s → (s ≡ status.NoShape → ⊥) → code ≡ code_of s → (name : List ℕ) × (asks ≡ Some (serve_theory name))
  serving_alone run s input_status other is = let there = shape_there run s other is in by_shape there.0 there.1 there.2
    where
      by_shape : (shape : Shape) → asks ≡ Some shape → Ends left read_faults stands write_faults told before after input_before input output_before output (Some shape) s → (name : List ℕ) × (asks ≡ Some (serve_theory name))
      by_shape (check_theory name) asked ends = absurd (by_either ends.says.0.says (λ with. no_line stands write_faults output_before output _ s input_status with.2) (λ none. no_refusal stands write_faults told name before after output_before output s input_status none.0))
      by_shape (serve_theory name) asked ends = (name, asked)
      by_shape (replay_lines name lines) asked ends = absurd (by_either ends.says.0.says (λ with. no_replay stands write_faults told lines before after output_before output with.0 s input_status with.2) (λ none. no_refusal stands write_faults told name before after output_before output s input_status none.0))
      by_shape (soak_lines lines seed) asked ends = absurd (no_line stands write_faults output_before output _ s input_status ends.says.0)
      by_shape (certify claim) asked ends =
          absurd (by_either ends.says.0.says (λ with. no_certified stands write_faults told (language_of with.0) claim before after output_before output s input_status with.2)
          (λ none. no_refusal stands write_faults told claim.theory before after output_before output s input_status none.0))

  pub serves_alone : IsRan left read_faults stands write_faults told before after input_before input output_before output asks code → (code ≡ 4) ⊎ (code ≡ 8) → (name : List ℕ) × (asks ≡ Some (serve_theory name))
  unfolding code_of
  serves_alone run (inl is) = serving_alone run status.ReadFault tt (λ same. cc) is
  serves_alone run (inr is) = serving_alone run status.LimitReached tt (λ same. cc) is

  pub read_fault : IsRan left read_faults stands write_faults told before after input_before input output_before output asks code → code ≡ 4 → Rose (read_faults input_before) (read_faults input)
  unfolding code_of
  read_fault run is =
      let alone = serves_alone run (inl is) in
      (first_of_two (ends_at run status.ReadFault is (serve_theory alone.0) alone.1).says.says (λ none. none.0)).2.read_fault refl

  pub whole : IsRan left read_faults stands write_faults told before after input_before input output_before output asks code → code ≡ 4 → (name : List ℕ) → asks ≡ Some (serve_theory name)
      → (theory : Theory) × (IsSome told → HasTheory told name theory) × ((taken : List ℕ) × Took (left input_before) (left input) taken × GoesOn stands (language_of theory) taken output_before output)
  unfolding code_of
  whole run is name asked =
      let with = first_of_two (ends_at run status.ReadFault is (serve_theory name) asked).says.says (λ none. none.0) in
      (with.0, with.1, (with.2.taken, with.2.took, with.2.ended.says))

  pub limit : IsRan left read_faults stands write_faults told before after input_before input output_before output asks code → code ≡ 8 → (name : List ℕ) → asks ≡ Some (serve_theory name)
      → (theory : Theory) × (IsSome told → HasTheory told name theory)
      × ((taken : List ℕ) × Took (left input_before) (left input) taken × (length taken ≡ most_input) × GoesOn stands (language_of theory) taken output_before output)
  unfolding code_of
  limit run is name asked =
      let with = first_of_two (ends_at run status.LimitReached is (serve_theory name) asked).says.says (λ none. none.0) in
      (with.0, with.1, (with.2.taken, with.2.took, with.2.ended.says.1, with.2.ended.says.0))

  pub rest : IsRan left read_faults stands write_faults told before after input_before input output_before output asks code → code ≡ 8 → (text : List ℕ) → left input_before ≡ Some text → left input ≡ Some (drop most_input text)
  unfolding code_of
  rest run is text is_text =
      let alone = serves_alone run (inr is) in
      left_at_limit (first_of_two (ends_at run status.LimitReached is (serve_theory alone.0) alone.1).says.says (λ none. none.0)).2 text is_text

  pub stops : IsRan left read_faults stands write_faults told before after input_before input output_before output asks code → (name text : List ℕ) (theory : Theory) → asks ≡ Some (serve_theory name) → HasTheory told name theory → left input_before ≡ Some text
      → IsLong (language_of theory) most_input text → ¬ Rose before after → ¬ Rose (read_faults input_before) (read_faults input)
      → ¬ Rose (write_faults output_before) (write_faults output) → (code ≡ 8) ⊎ (code ≡ 6)
  unfolding code_of
  stops run name text theory asked has is_text long fine reads writes =
      either_code status.LimitReached status.NoMemory run.is (by_either (ends_of run (serve_theory name) asked).says.says
      (λ with. limit_if_long left read_faults stands write_faults with.0 text input_before input output_before output is_text reads writes (same_long text has with.1 long) run.ended with.2)
      (λ none. inr (only_memory stands write_faults told name before after output_before output has.bytes has.file fine
      (λ said why. HasTheory-not_refused has why) run.ended none.0)))

  -- ---- 5

  pub write_fault : IsRan left read_faults stands write_faults told before after input_before input output_before output asks code → code ≡ 5 → Rose (write_faults output_before) (write_faults output)
  unfolding code_of
  write_fault run is = let there = shape_there run status.WriteFault (λ same. cc) is in by_shape there.0 there.2
    where
      by_shape : (shape : Shape) → Ends left read_faults stands write_faults told before after input_before input output_before output (Some shape) status.WriteFault → Rose (write_faults output_before) (write_faults output)
      by_shape (check_theory name) ends = (first_of_two ends.says.0.says (λ none. none.0)).2.0
      by_shape (serve_theory name) ends = (first_of_two ends.says.says (λ none. none.0)).2.write_fault refl
      by_shape (replay_lines name lines) ends =
          let with = first_of_two ends.says.0.says (λ none. none.0) in
          let read = first_of_two with.2 (λ unread. unread) in read.2.0
      by_shape (soak_lines lines seed) ends = ends.says.0.0
      by_shape (certify claim) ends = (first_of_two (first_of_two ends.says.0.says (λ none. none.0)).2 (λ unanswered. unanswered)).0

  pub part : IsRan left read_faults stands write_faults told before after input_before input output_before output asks code → code ≡ 5 → (shape : Shape) → asks ≡ Some shape
      → WrotePart stands told (left input_before) (left input) shape output_before output
  unfolding code_of
  part run is shape asked = by_shape shape (ends_at run status.WriteFault is shape asked)
    where
      by_shape : (shape : Shape) → Ends left read_faults stands write_faults told before after input_before input output_before output (Some shape) status.WriteFault
          → WrotePart stands told (left input_before) (left input) shape output_before output
      by_shape (check_theory name) ends =
          let with = first_of_two ends.says.0.says (λ none. none.0) in
          (with.0, with.1, subst (λ (t : List ℕ). AppendedPart stands output_before output t) with.2.1.1 with.2.1.2)
      by_shape (serve_theory name) ends =
          let with = first_of_two ends.says.says (λ none. none.0) in
          (with.0, with.1, (with.2.taken, with.2.took, with.2.ended.says))
      by_shape (replay_lines name lines) ends =
          let with = first_of_two ends.says.0.says (λ none. none.0) in
          let read = first_of_two with.2 (λ unread. unread) in
          (with.0, with.1, (read.0, read.1, read.2.1))
      by_shape (soak_lines lines seed) ends = ends.says.0.1
      by_shape (certify claim) ends =
          let with = first_of_two ends.says.0.says (λ none. none.0) in
          (with.0, with.1, (first_of_two with.2 (λ unanswered. unanswered)).1)

  -- ---- 7 and 9

  pub folder_fault : IsRan left read_faults stands write_faults told before after input_before input output_before output asks code → code ≡ 7 → (shape : Shape) × (asks ≡ Some shape) × (Rose before after ⊎ LacksFile shape told)
  unfolding code_of
  folder_fault run is = let there = shape_there run status.FolderFault (λ same. cc) is in (there.0, there.1, by_shape there.0 there.2)
    where
      by_lines : {name lines : List ℕ} → Rose before after ⊎ IsMissing told lines → Rose before after ⊎ (IsMissing told name ⊎ IsMissing told lines)
      by_lines (inl rose) = inl rose
      by_lines (inr missing) = inr (inr missing)

      by_name : {name lines : List ℕ} → Rose before after ⊎ IsMissing told name → Rose before after ⊎ (IsMissing told name ⊎ IsMissing told lines)
      by_name (inl rose) = inl rose
      by_name (inr missing) = inr (inl missing)

      by_shape : (shape : Shape) → Ends left read_faults stands write_faults told before after input_before input output_before output (Some shape) status.FolderFault → Rose before after ⊎ LacksFile shape told
      by_shape (check_theory name) ends = (second_of_two ends.says.0.says (λ with. with.2)).0.1
      by_shape (serve_theory name) ends = (second_of_two ends.says.says (λ with. with.2)).0.1
      by_shape (replay_lines name lines) ends =
          by_either ends.says.0.says (λ with. by_lines (second_of_two with.2 (λ read. read.2)).1) (λ none. by_name none.0.1)
      by_shape (soak_lines lines seed) ends = absurd ends.says.0
      by_shape (certify claim) ends =
          by_either ends.says.0.says
          (λ with. by_either (second_of_two with.2 (λ line. line)).1 (λ rose. inl rose) (λ none. inr (inr (with.0, with.1 (HasOutcome-told none), none))))
          (λ none. by_either none.0.1 (λ rose. inl rose) (λ missing. inr (inl missing)))

  pub long_lines : IsRan left read_faults stands write_faults told before after input_before input output_before output asks code → code ≡ 9 → (shape : Shape) × (asks ≡ Some shape) × IsTrue (reads_lines shape) × (IsSome told → HasLongLines shape told)
  unfolding code_of
  long_lines run is = let there = shape_there run status.LongLines (λ same. cc) is in by_shape there.0 there.1 there.2
    where
      by_shape : (shape : Shape) → asks ≡ Some shape → Ends left read_faults stands write_faults told before after input_before input output_before output (Some shape) status.LongLines
          → (shape : Shape) × (asks ≡ Some shape) × IsTrue (reads_lines shape) × (IsSome told → HasLongLines shape told)
      by_shape (check_theory name) asked ends = absurd (by_either ends.says.0.says (λ with. with.2) (λ none. none.0))
      by_shape (serve_theory name) asked ends = absurd (by_either ends.says.says (λ with. with.2) (λ none. none.0))
      by_shape (replay_lines name lines) asked ends =
          let with = first_of_two ends.says.0.says (λ none. none.0) in
          let unread = second_of_two with.2 (λ read. read.2) in
          (replay_lines name lines, asked, refl, (λ tells. ((with.0, with.1 tells), unread.1 tells)))
      by_shape (soak_lines lines seed) asked ends = absurd ends.says.0
      by_shape (certify claim) asked ends =
          let with = first_of_two ends.says.0.says (λ none. none.0) in
          let unread = second_of_two with.2 (λ line. line) in
          (certify claim, asked, refl, (λ tells. (with.0, with.1 tells, unread.1 tells)))

  pub finds_long : IsRan left read_faults stands write_faults told before after input_before input output_before output asks code → (shape : Shape) → asks ≡ Some shape → HasLongLines shape told → ¬ Rose before after → (code ≡ 9) ⊎ (code ≡ 6)
  unfolding code_of
  finds_long run shape asked long fine = either_code status.LongLines status.NoMemory run.is (by_shape shape asked long)
    where
      by_shape : (shape : Shape) → asks ≡ Some shape → HasLongLines shape told → (run.ended ≡ status.LongLines) ⊎ (run.ended ≡ status.NoMemory)
      by_shape (check_theory name) asked long = absurd long
      by_shape (serve_theory name) asked long = absurd long
      by_shape (replay_lines name lines) asked long =
          let has = long.0.1 in
          by_either (ends_of run (replay_lines name lines) asked).says.0.says
          (λ with. replay_long stands write_faults told lines before after output_before output with.0 fine long.1 run.ended with.2)
          (λ none. inr (only_memory stands write_faults told name before after output_before output has.bytes has.file fine
          (λ said why. HasTheory-not_refused has why) run.ended none.0))
      by_shape (soak_lines lines seed) asked long = absurd long
      by_shape (certify claim) asked long = by_outcome run claim long.0 long_file asked long.1 long.2 fine (λ text same. cc)

  -- ---- 10

  pub refused_events : IsRan left read_faults stands write_faults told before after input_before input output_before output asks code → code ≡ 10 → (claim : Claim) × (theory : Theory) × (line : ℕ) × (name : EventName) × (asks ≡ Some (certify claim))
      × (IsSome told → HasTheory told claim.theory theory × HasOutcome told (language_of theory) claim (bad_events line name))
      × Wrote stands write_faults output_before output (events_line line name)
  unfolding code_of
  refused_events run is = let there = shape_there run status.BadEvents (λ same. cc) is in by_shape there.0 there.1 there.2
    where
      by_shape : (shape : Shape) → asks ≡ Some shape → Ends left read_faults stands write_faults told before after input_before input output_before output (Some shape) status.BadEvents
          → (claim : Claim) × (theory : Theory) × (line : ℕ) × (name : EventName) × (asks ≡ Some (certify claim))
          × (IsSome told → HasTheory told claim.theory theory × HasOutcome told (language_of theory) claim (bad_events line name))
          × Wrote stands write_faults output_before output (events_line line name)
      by_shape (check_theory name) asked ends = absurd (by_either ends.says.0.says (λ with. with.2) (λ none. none.0))
      by_shape (serve_theory name) asked ends = absurd (by_either ends.says.says (λ with. with.2) (λ none. none.0))
      by_shape (replay_lines name lines) asked ends =
          absurd (by_either ends.says.0.says (λ with. by_either with.2 (λ read. read.2) (λ unread. unread)) (λ none. none.0))
      by_shape (soak_lines lines seed) asked ends = absurd ends.says.0
      by_shape (certify claim) asked ends =
          let with = first_of_two ends.says.0.says (λ none. none.0) in
          let events = second_of_two with.2 (λ line. line) in
          (claim, with.0, events.line, events.name, asked, (λ tells. (with.1 tells, events.why tells)), events.wrote)

  pub refuses_events : IsRan left read_faults stands write_faults told before after input_before input output_before output asks code → (claim : Claim) (theory : Theory) (line : ℕ) (name : EventName) → asks ≡ Some (certify claim) → HasTheory told claim.theory theory
      → HasOutcome told (language_of theory) claim (bad_events line name) → ¬ Rose before after → (code ≡ 10) ⊎ (code ≡ 6)
  unfolding code_of
  refuses_events run claim theory line name asked has is fine =
      either_code status.BadEvents status.NoMemory run.is (by_outcome run claim theory (bad_events line name) asked has is fine (λ text same. cc))

  -- ---- what is taken and left

  pub within : IsRan left read_faults stands write_faults told before after input_before input output_before output asks code → (taken : List ℕ) × Took (left input_before) (left input) taken × (length taken ≤ most_input)
  within run = by_words asks run.ends
    where
      none_taken : input ≡ input_before → (taken : List ℕ) × Took (left input_before) (left input) taken × (length taken ≤ most_input)
      none_taken same = ([], Took-nil (ap left same), omega arith)

      by_words : (words : Option Shape) → Ends left read_faults stands write_faults told before after input_before input output_before output words run.ended → (taken : List ℕ) × Took (left input_before) (left input) taken × (length taken ≤ most_input)
      by_words None ends = none_taken ends.says.2
      by_words (Some (check_theory name)) ends = none_taken ends.says.1
      by_words (Some (serve_theory name)) ends =
          by_either ends.says.says (λ with. taken_within left read_faults stands write_faults (language_of with.0) most_input input_before input output_before output run.ended with.2)
          (λ none. none_taken none.1)
      by_words (Some (replay_lines name lines)) ends = none_taken ends.says.1
      by_words (Some (soak_lines lines seed)) ends = none_taken ends.says.1
      by_words (Some (certify claim)) ends = none_taken ends.says.1

  pub unasked : IsRan left read_faults stands write_faults told before after input_before input output_before output asks code → (shape : Shape) → asks ≡ Some shape → takes_input shape ≡ false → input ≡ input_before
  unasked run shape asked takes = by_shape shape (ends_of run shape asked) takes
    where
      by_shape : (shape : Shape) → Ends left read_faults stands write_faults told before after input_before input output_before output (Some shape) run.ended → takes_input shape ≡ false → input ≡ input_before
      by_shape (check_theory name) ends takes = ends.says.1
      by_shape (serve_theory name) ends takes = cc
      by_shape (replay_lines name lines) ends takes = ends.says.1
      by_shape (soak_lines lines seed) ends takes = ends.says.1
      by_shape (certify claim) ends takes = ends.says.1

  touches_nothing : IsRan left read_faults stands write_faults told before after input_before input output_before output asks code → (s : Status) → IsUntouched s → (s ≡ status.NoShape → ⊥) → code ≡ code_of s → (output ≡ output_before) × (input ≡ input_before)
  touches_nothing run s untouched other is = let there = shape_there run s other is in by_shape there.0 there.2
    where
      by_shape : (shape : Shape) → Ends left read_faults stands write_faults told before after input_before input output_before output (Some shape) s → (output ≡ output_before) × (input ≡ input_before)
      by_shape (check_theory name) ends = (by_either ends.says.0.says (λ with. same_line stands write_faults output_before output _ s untouched with.2) (λ none. same_refusal stands write_faults told name before after output_before output s untouched none.0), ends.says.1)
      by_shape (serve_theory name) ends =
          by_either ends.says.says (λ with. same_serve left read_faults stands write_faults with.0 input_before input output_before output s untouched with.2) (λ none. (same_refusal stands write_faults told name before after output_before output s untouched none.0, none.1))
      by_shape (replay_lines name lines) ends = (by_either ends.says.0.says (λ with. same_replay stands write_faults told lines before after output_before output with.0 s untouched with.2) (λ none. same_refusal stands write_faults told name before after output_before output s untouched none.0), ends.says.1)
      by_shape (soak_lines lines seed) ends = (same_line stands write_faults output_before output _ s untouched ends.says.0, ends.says.1)
      by_shape (certify claim) ends = (by_either ends.says.0.says (λ with. same_certified stands write_faults told (language_of with.0) claim before after output_before output s untouched with.2) (λ none. same_refusal stands write_faults told claim.theory before after output_before output s untouched none.0), ends.says.1)

  pub untouched : IsRan left read_faults stands write_faults told before after input_before input output_before output asks code → (code ≡ 6) ⊎ ((code ≡ 7) ⊎ (code ≡ 9)) → (output ≡ output_before) × (input ≡ input_before)
  unfolding code_of
  untouched run (inl is) = touches_nothing run status.NoMemory tt (λ same. cc) is
  untouched run (inr (inl is)) = touches_nothing run status.FolderFault tt (λ same. cc) is
  untouched run (inr (inr is)) = touches_nothing run status.LongLines tt (λ same. cc) is

  untaken : IsRan left read_faults stands write_faults told before after input_before input output_before output asks code → (s : Status) → IsOneLine s → code ≡ code_of s → input ≡ input_before
  untaken run s one_line is = by_words asks (ends_by run s is)
    where
      by_words : (words : Option Shape) → Ends left read_faults stands write_faults told before after input_before input output_before output words s → input ≡ input_before
      by_words None ends = ends.says.2
      by_words (Some (check_theory name)) ends = ends.says.1
      by_words (Some (serve_theory name)) ends =
          (second_of_two ends.says.says (λ with. never_served left read_faults stands write_faults with.0 input_before input output_before output s one_line with.2)).1
      by_words (Some (replay_lines name lines)) ends = ends.says.1
      by_words (Some (soak_lines lines seed)) ends = ends.says.1
      by_words (Some (certify claim)) ends = ends.says.1

  pub unread : IsRan left read_faults stands write_faults told before after input_before input output_before output asks code → (code ≡ 2) ⊎ ((code ≡ 3) ⊎ (code ≡ 10)) → input ≡ input_before
  unfolding code_of
  unread run (inl is) = untaken run status.NoShape tt is
  unread run (inr (inl is)) = untaken run status.BadTheory tt is
  unread run (inr (inr is)) = untaken run status.BadEvents tt is

  -- ---- failed calls are told

  pub input_told : IsRan left read_faults stands write_faults told before after input_before input output_before output asks code → (code ≡ 4) ⊎ (read_faults input ≡ read_faults input_before)
  unfolding code_of
  input_told run = told_code status.ReadFault run.is (by_words asks run.ends)
    where
      by_words : (words : Option Shape) → Ends left read_faults stands write_faults told before after input_before input output_before output words run.ended → (run.ended ≡ status.ReadFault) ⊎ (read_faults input ≡ read_faults input_before)
      by_words None ends = inr (ap read_faults ends.says.2)
      by_words (Some (check_theory name)) ends = inr (ap read_faults ends.says.1)
      by_words (Some (serve_theory name)) ends =
          by_either ends.says.says (λ with. read_told left read_faults stands write_faults (language_of with.0) most_input input_before input output_before output run.ended with.2)
          (λ none. inr (ap read_faults none.1))
      by_words (Some (replay_lines name lines)) ends = inr (ap read_faults ends.says.1)
      by_words (Some (soak_lines lines seed)) ends = inr (ap read_faults ends.says.1)
      by_words (Some (certify claim)) ends = inr (ap read_faults ends.says.1)

  pub files_told : IsRan left read_faults stands write_faults told before after input_before input output_before output asks code → (code ≡ 7) ⊎ (after ≡ before)
  unfolding code_of
  files_told run = told_code status.FolderFault run.is (by_words asks run.ends)
    where
      by_words : (words : Option Shape) → Ends left read_faults stands write_faults told before after input_before input output_before output words run.ended → (run.ended ≡ status.FolderFault) ⊎ (after ≡ before)
      by_words None ends = inr ends.says.3
      by_words (Some (check_theory name)) ends = ends.says.0.files_told
      by_words (Some (serve_theory name)) ends = ends.says.files_told
      by_words (Some (replay_lines name lines)) ends = ends.says.0.files_told
      by_words (Some (soak_lines lines seed)) ends = inr ends.says.2
      by_words (Some (certify claim)) ends = ends.says.0.files_told

  pub output_told : IsRan left read_faults stands write_faults told before after input_before input output_before output asks code → ((code ≡ 5) ⊎ ((code ≡ 2) ⊎ ((code ≡ 3) ⊎ (code ≡ 10)))) ⊎ (write_faults output ≡ write_faults output_before)
  unfolding code_of
  output_told run = by_words asks run.ends
    where
      broken : (run.ended ≡ status.WriteFault) ⊎ (write_faults output ≡ write_faults output_before)
          → ((code ≡ 5) ⊎ ((code ≡ 2) ⊎ ((code ≡ 3) ⊎ (code ≡ 10)))) ⊎ (write_faults output ≡ write_faults output_before)
      broken either = by_either (told_code status.WriteFault run.is either) (λ five. inl (inl five)) (λ quiet. inr quiet)

      refused_line : (run.ended ≡ status.BadTheory) ⊎ (write_faults output ≡ write_faults output_before)
          → ((code ≡ 5) ⊎ ((code ≡ 2) ⊎ ((code ≡ 3) ⊎ (code ≡ 10)))) ⊎ (write_faults output ≡ write_faults output_before)
      refused_line either = by_either (told_code status.BadTheory run.is either) (λ three. inl (inr (inr (inl three)))) (λ quiet. inr quiet)

      certified : (run.ended ≡ status.WriteFault) ⊎ ((run.ended ≡ status.NoShape) ⊎ ((run.ended ≡ status.BadEvents) ⊎ (write_faults output ≡ write_faults output_before)))
          → ((code ≡ 5) ⊎ ((code ≡ 2) ⊎ ((code ≡ 3) ⊎ (code ≡ 10)))) ⊎ (write_faults output ≡ write_faults output_before)
      certified (inl five) = broken (inl five)
      certified (inr (inl two)) = inl (inr (inl (run.is ∙ ap code_of two)))
      certified (inr (inr (inl ten))) = inl (inr (inr (inr (run.is ∙ ap code_of ten))))
      certified (inr (inr (inr quiet))) = inr quiet

      by_words : (words : Option Shape) → Ends left read_faults stands write_faults told before after input_before input output_before output words run.ended
          → ((code ≡ 5) ⊎ ((code ≡ 2) ⊎ ((code ≡ 3) ⊎ (code ≡ 10)))) ⊎ (write_faults output ≡ write_faults output_before)
      by_words None ends = inl (inr (inl (run.is ∙ ap code_of ends.says.0)))
      by_words (Some (check_theory name)) ends =
          by_either ends.says.0.says (λ with. broken (line_told stands write_faults output_before output _ run.ended with.2))
          (λ none. refused_line (refusal_told stands write_faults output_before output told name before after run.ended none.0))
      by_words (Some (serve_theory name)) ends =
          by_either ends.says.says
          (λ with. broken (write_told left read_faults stands write_faults (language_of with.0) most_input input_before input output_before output run.ended with.2))
          (λ none. refused_line (refusal_told stands write_faults output_before output told name before after run.ended none.0))
      by_words (Some (replay_lines name lines)) ends =
          by_either ends.says.0.says (λ with. broken (replay_told stands write_faults output_before output told lines before after with.0 run.ended with.2))
          (λ none. refused_line (refusal_told stands write_faults output_before output told name before after run.ended none.0))
      by_words (Some (soak_lines lines seed)) ends = broken (line_told stands write_faults output_before output _ run.ended ends.says.0)
      by_words (Some (certify claim)) ends =
          by_either ends.says.0.says
          (λ with. certified (certified_told stands write_faults told (language_of with.0) claim before after output_before output run.ended with.2))
          (λ none. refused_line (refusal_told stands write_faults output_before output told claim.theory before after run.ended none.0))
