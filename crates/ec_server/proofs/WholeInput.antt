-- What the ending of a serving says of the whole input.
use Rattle.std.proofs.Common.{◌≡◌, ◌≤◌, ◌+◌, ◌-◌, ◌⊎◌, ℕ, true, false, List, [], ◌++◌, length, take, drop, Option, Some, sym, ap, ◌∙◌, subst, inl, inr, append-nil, length-append, true≢false, arith}
use Rattle.std.proofs.lemmas.List.{take_at, drop_at}
use Rattle.std.proofs.Math.Seq.{take-append-add}
use Rattle.ec_commands.specs.Lines.{whole_lines, lines_of}
use Rattle.ec_replies.specs.Runs.{has_quit}
use Rattle.ec_replies.specs.Replies.{Language}
use Rattle.ec_server.specs.Answered.{AnswersLines}
use Rattle.ec_outside.specs.Streams.{Took, IsAtEnd}
use Rattle.ec_outside.proofs.Streams.{Took-nil}
use Rattle.ec_server.specs.declared.ending.Ending.TheVariants as ending
use Rattle.ec_files.specs.declared.status.Status.{Status}
use Rattle.ec_files.specs.declared.status.Status.TheVariants as status
use Rattle.ec_server.specs.Ending.{HasEnded, SaysServed}
use Rattle.ec_server.specs.InputLimits.{IsShort}
use Rattle.ec_server.proofs.Serving.{AnswersLines-quit, whole_lines-append, has_quit-more, has_quit-taken}

-- `quit` among the whole lines of a first part is among those of all
has_quit-longer : (language : Language) (text more : List ℕ) → has_quit language (whole_lines text) ≡ true → has_quit language (whole_lines (text ++ more)) ≡ true
has_quit-longer language text more quits =
    let tail = whole_lines-append text more in
    ap (has_quit language) tail.1 ∙ has_quit-more language (whole_lines text) tail.0 quits

-- a first part of a text as long as the limit is what the limit takes of it
first_taken : (text taken more : List ℕ) (limit : ℕ) → text ≡ taken ++ more → length taken ≡ limit → take limit text ≡ taken
first_taken text taken more limit split full = ap (λ (t : List ℕ). take limit t) split ∙ take_at taken more limit full

-- and what is behind it is what the limit leaves
first_left : (text taken more : List ℕ) (limit : ℕ) → text ≡ taken ++ more → length taken ≡ limit → drop limit text ≡ more
first_left text taken more limit split full = ap (λ (t : List ℕ). drop limit t) split ∙ drop_at taken more limit full

first_within : (text taken more : List ℕ) (limit : ℕ) → text ≡ taken ++ more → length taken ≡ limit → limit ≤ length text
first_within text taken more limit split full = omega (arith, ap length split, length-append taken more, full)

-- a limit is what was taken and what might still be
up_to : (taken : List ℕ) (limit : ℕ) → length taken ≤ limit → limit ≡ length taken + (limit - length taken)
up_to taken limit within = omega (arith, within)

module _ {S K : Type 0} {left : S → Option (List ℕ)} {read_faults : S → ℕ} {stands : K → List ℕ → Type 0} {write_faults : K → ℕ} {language : Language} {limit : ℕ}
    {input_before input : S} {output_before output : K} where
  -- the input was read to its end or to `quit`: all its lines are answered
  pub lines_done : HasEnded left read_faults stands write_faults language limit input_before input output_before output ending.End ⊎ HasEnded left read_faults stands write_faults language limit input_before input output_before output ending.Quit → (text : List ℕ) → left input_before ≡ Some text
      → AnswersLines stands language (lines_of text) output_before output
  lines_done (inl has) text told =
      let rest = has.took.rest text told in
      let none : rest.0 ≡ [] = has.ended.says.at_end.empty rest.0 rest.1 in
      let whole : text ≡ has.taken = rest.2 ∙ ap (λ (more : List ℕ). has.taken ++ more) none ∙ append-nil has.taken in
      subst (λ (t : List ℕ). AnswersLines stands language (lines_of t) output_before output) (sym whole) has.ended.says.answers
  lines_done (inr has) text told = let rest = has.took.rest text told in AnswersLines-quit rest.0 rest.2 has.ended.says

  -- so nothing is left, or `quit` is among the whole lines of what was taken
  pub read_done : HasEnded left read_faults stands write_faults language limit input_before input output_before output ending.End ⊎ HasEnded left read_faults stands write_faults language limit input_before input output_before output ending.Quit
      → (taken : List ℕ) × Took (left input_before) (left input) taken × (IsAtEnd (left input) ⊎ (has_quit language (whole_lines taken) ≡ true))
  read_done (inl has) = (has.taken, has.took, inl has.ended.says.at_end)
  read_done (inr has) = (has.taken, has.took, inr (has_quit-taken has.ended.says))

  -- as many bytes were taken as the limit allows: they are gone from the input
  pub left_at_limit : HasEnded left read_faults stands write_faults language limit input_before input output_before output ending.Limit → (text : List ℕ) → left input_before ≡ Some text → left input ≡ Some (drop limit text)
  left_at_limit has text told =
      let rest = has.took.rest text told in
      rest.1 ∙ ap (λ (more : List ℕ). Some more) (sym (first_left text has.taken rest.0 limit rest.2 has.ended.says.1))

  -- a short input does not reach the limit
  pub short_not_limit : HasEnded left read_faults stands write_faults language limit input_before input output_before output ending.Limit → (text : List ℕ) → left input_before ≡ Some text → IsShort language limit text → ⊥
  short_not_limit has text told (inl less) =
      let rest = has.took.rest text told in
      let within = first_within text has.taken rest.0 limit rest.2 has.ended.says.1 in
      omega (arith, less, within)
  short_not_limit has text told (inr quits) =
      let rest = has.took.rest text told in
      let same = first_taken text has.taken rest.0 limit rest.2 has.ended.says.1 in
      true≢false (sym quits ∙ ap (λ (t : List ℕ). has_quit language (whole_lines t)) same ∙ has.ended.says.0.going)

  -- a long one ends behind it
  pub long_not_done : HasEnded left read_faults stands write_faults language limit input_before input output_before output ending.End ⊎ HasEnded left read_faults stands write_faults language limit input_before input output_before output ending.Quit → (text : List ℕ) → left input_before ≡ Some text → limit ≤ length text
      → has_quit language (whole_lines (take limit text)) ≡ false → ⊥
  long_not_done (inl has) text told long going =
      let rest = has.took.rest text told in
      let none : rest.0 ≡ [] = has.ended.says.at_end.empty rest.0 rest.1 in
      let size : length text ≡ length has.taken = ap length (rest.2 ∙ ap (λ (more : List ℕ). has.taken ++ more) none ∙ append-nil has.taken) in
      let below = has.ended.says.below in
      omega (arith, size, long, below)
  long_not_done (inr has) text told long going =
      let rest = has.took.rest text told in
      let first : take limit text ≡ has.taken ++ take (limit - length has.taken) rest.0 =
      ap (λ (t : List ℕ). take limit t) rest.2 ∙ ap (λ (n : ℕ). take n (has.taken ++ rest.0)) (up_to has.taken limit has.ended.within)
      ∙ take-append-add has.taken rest.0 (limit - length has.taken) in
      true≢false (sym (ap (λ (t : List ℕ). has_quit language (whole_lines t)) first
      ∙ has_quit-longer language has.taken (take (limit - length has.taken) rest.0) (has_quit-taken has.ended.says)) ∙ going)

module _ {S K : Type 0} (left : S → Option (List ℕ)) (read_faults : S → ℕ) (stands : K → List ℕ → Type 0) (write_faults : K → ℕ) (language : Language) (limit : ℕ)
    (input_before input : S) (output_before output : K) where
  -- whatever the status, no more is taken than the limit allows
  pub taken_within : (s : Status) → SaysServed left read_faults stands write_faults language limit input_before input output_before output s
      → (taken : List ℕ) × Took (left input_before) (left input) taken × (length taken ≤ limit)
  taken_within status.Done (inl has) = (has.taken, has.took, has.ended.within)
  taken_within status.Done (inr has) = (has.taken, has.took, has.ended.within)
  taken_within status.NoShape says = absurd says
  taken_within status.BadTheory says = absurd says
  taken_within status.ReadFault has = (has.taken, has.took, has.ended.within)
  taken_within status.WriteFault has = (has.taken, has.took, has.ended.within)
  taken_within status.NoMemory says = ([], Took-nil (ap left says.1), omega arith)
  taken_within status.FolderFault says = absurd says
  taken_within status.LimitReached has = (has.taken, has.took, has.ended.within)
  taken_within status.LongLines says = absurd says
  taken_within status.BadEvents says = absurd says
