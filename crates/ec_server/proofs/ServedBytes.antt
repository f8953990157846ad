-- Serving an input whose bytes are told, that never fails and stays below the limit.
use Rattle.std.proofs.Common.{◌≡◌, ◌<◌, ℕ, List, [], ◌++◌, length, Option, Some, refl, sym, ap, ◌∙◌, subst, inl, inr, append-nil, length-append, arith}
use Rattle.ec_commands.specs.Lines.{lines_of}
use Rattle.ec_outside.specs.Counts.{Rose}
use Rattle.ec_replies.specs.Replies.{Language}
use Rattle.ec_server.specs.declared.ending.Ending.TheVariants as ending
use Rattle.ec_files.specs.declared.status.Status.{Status}
use Rattle.ec_files.specs.declared.status.Status.TheVariants as status
use Rattle.ec_server.specs.Answered.{AnswersPart}
use Rattle.ec_server.specs.CommandEnds.{SaysBytes}
use Rattle.ec_server.specs.Ending.{HasEnded, IsBroken, SaysServed}
use Rattle.ec_server.proofs.PartialReplies.{AnswersPart-longer}
use Rattle.ec_files.proofs.StatusCodes.{second_of_two}
use Rattle.ec_server.proofs.ToldFaults.{write_told}
use Rattle.ec_server.proofs.WholeInput.{lines_done}

-- a count that stays 0 does not rise
pub zero_stays : ¬ Rose 0 0
zero_stays (inl up) = absurd (omega arith)
zero_stays (inr last) = absurd (omega arith)

module _ {S K : Type 0} (left : S → Option (List ℕ)) (read_faults : S → ℕ) (stands : K → List ℕ → Type 0) (write_faults : K → ℕ) (language : Language) (limit : ℕ)
    (input_before input : S) (output_before output : K) (bytes : List ℕ) (told : left input_before ≡ Some bytes) where
  -- the sink failed within the replies to the lines of the bytes
  part_of_all : HasEnded left read_faults stands write_faults language limit input_before input output_before output ending.WriteFault
      → AnswersPart stands language (lines_of bytes) output_before output
  part_of_all has = by_end has.ended.says
    where
      by_end : IsBroken stands language (left input) has.taken output_before output → AnswersPart stands language (lines_of bytes) output_before output
      by_end (inl part) = let rest = has.took.rest bytes told in AnswersPart-longer has.taken rest.0 rest.2 part
      by_end (inr last) =
          let rest = has.took.rest bytes told in
          let none : rest.0 ≡ [] = last.0.empty rest.0 rest.1 in
          let whole : bytes ≡ has.taken = rest.2 ∙ ap (λ (more : List ℕ). has.taken ++ more) none ∙ append-nil has.taken in
          subst (λ (t : List ℕ). AnswersPart stands language (lines_of t) output_before output) (sym whole) last.1

  -- so many bytes were not taken
  below_limit : length bytes < limit → HasEnded left read_faults stands write_faults language limit input_before input output_before output ending.Limit → ⊥
  below_limit below has =
      let rest = has.took.rest bytes told in
      omega (arith, below, ap length rest.2, length-append has.taken rest.0, has.ended.says.1)

  -- so the lines of the bytes are answered, or the sink failed within their replies
  pub SaysBytes-of : length bytes < limit → ¬ Rose (read_faults input_before) (read_faults input) → (s : Status)
      → SaysServed left read_faults stands write_faults language limit input_before input output_before output s → SaysBytes stands write_faults language output_before output bytes s
  SaysBytes-of below fine status.Done says = (
    lines_done says bytes told,
    second_of_two (write_told left read_faults stands write_faults language limit input_before input output_before output status.Done says) (λ same. cc),
  )
  SaysBytes-of below fine status.NoShape says = absurd says
  SaysBytes-of below fine status.BadTheory says = absurd says
  SaysBytes-of below fine status.ReadFault says = absurd (fine (says.read_fault refl))
  SaysBytes-of below fine status.WriteFault says = (says.write_fault refl, part_of_all says)
  SaysBytes-of below fine status.NoMemory says = says.0
  SaysBytes-of below fine status.FolderFault says = absurd says
  SaysBytes-of below fine status.LimitReached says = absurd (below_limit below says)
  SaysBytes-of below fine status.LongLines says = absurd says
  SaysBytes-of below fine status.BadEvents says = absurd says
