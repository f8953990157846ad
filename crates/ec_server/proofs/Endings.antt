-- How the serving of an input ends.
use Rattle.std.proofs.Common.{◌≡◌, ◌≤◌, ◌<◌, ℕ, ◌+◌, arith, Bool, true, false, ◌⊎◌, List, [], ◌∷◌, ◌++◌, length, refl, sym, ◌∙◌, subst, inl, inr}
use Rattle.std.specs.Prelude.{Option}
use Rattle.ec_commands.specs.Lines.{lines_of, whole_lines}
use Rattle.ec_replies.specs.State.{State}
use Rattle.ec_replies.specs.Replies.{Language}
use Rattle.ec_sessions.specs.Handling.{IsHandled}
use Rattle.ec_server.specs.Answered.{IsServing, HasQuit, AnswersLines, AnswersPart}
use Rattle.ec_lines.specs.FeedState.{FeedState, IsReady, Finishes}
use Rattle.ec_sessions.specs.declared.handled.Handled.{Handled}
use Rattle.ec_sessions.specs.declared.handled.Handled.TheVariants.{Go, Bye, WriteFault}
use Rattle.ec_outside.specs.Counts.{Rose}
use Rattle.ec_outside.specs.Streams.{IsAtEnd, NothingAppended}
use Rattle.ec_outside.proofs.Counts.{Rose-earlier}
use Rattle.ec_server.specs.declared.ending.Ending.{Ending}
use Rattle.ec_server.specs.declared.ending.Ending.TheVariants.{End, Quit, Limit, ReadFault, WriteFault as Broken}
use Rattle.ec_server.specs.Ending.{GoesOn, IsEnding, HasEnded, SaysServed}
use Rattle.ec_server.specs.Ending.{status_of}
use Rattle.ec_server.specs.Serving.{IsLast}
use Rattle.ec_server.proofs.Serving.{AnswersLines-line, AnswersLines-so_far, AnswersLines-kept, HasQuit-kept}
use Rattle.ec_server.proofs.PartialReplies.{AnswersPart-all, AnswersPart-kept, AnswersPart-line, AnswersPart-quit}

-- where handing on failed or did not, the serving ended so or the sink failed
pub ending_either : {R : Type 0} (ending : Ending) → (ending ≡ End) ⊎ ((ending ≡ Broken) × R) → (ending ≡ End) ⊎ (ending ≡ Broken)
ending_either ending (inl ended) = inl ended
ending_either ending (inr failed) = inr failed.0

-- and a fault of the sink was counted
pub ending_fault : {before middle after : ℕ} (ending : Ending) → before ≤ middle → (ending ≡ End) ⊎ ((ending ≡ Broken) × Rose middle after) → ending ≡ Broken → Rose before after
ending_fault ending counted (inl ended) fault = cc
ending_fault ending counted (inr failed) fault = Rose-earlier counted failed.1

-- where handing on ended so or failed, a fault was counted if it failed
pub either_fault : {before middle after : ℕ} (ending so : Ending) → (so ≡ Broken → ⊥) → middle ≡ before → (ending ≡ so) ⊎ ((ending ≡ Broken) × Rose middle after) → ending ≡ Broken → Rose before after
either_fault ending so other same (inl ended) fault = absurd (other (sym ended ∙ fault))
either_fault {after = after} ending so other same (inr failed) fault = subst (λ (n : ℕ). Rose n after) same failed.1

module _ {K : Type 0} (stands : K → List ℕ → Type 0) (language : Language) where
  -- the line behind the last line end was handled
  pub IsLast-handled : (handled : Handled) (taken line : List ℕ) (state after : State) (start now then_ : K) → lines_of taken ≡ whole_lines taken ++ line ∷ []
      → IsHandled stands language handled line state after now then_ → IsServing stands language taken state start now → IsLast stands language handled (lines_of taken) start then_
  IsLast-handled Go taken line state after start now then_ same answered serving = AnswersLines-line same serving answered
  IsLast-handled Bye taken line state after start now then_ same answered serving = AnswersLines-line same serving answered
  IsLast-handled WriteFault taken line state after start now then_ same short serving = AnswersPart-line same serving short

  -- a line stood behind the last line end
  pub IsLast-line : (handled : Handled) (is_ready : Bool) (taken : List ℕ) (state after : State) (feed : FeedState) (start now then_ : K) → is_ready ≡ true
      → Finishes is_ready feed taken → ((line : List ℕ) → IsReady feed line → IsHandled stands language handled line state after now then_)
      → IsServing stands language taken state start now → IsLast stands language handled (lines_of taken) start then_
  IsLast-line handled true taken state after feed start now then_ ready finishes says serving =
      IsLast-handled handled taken finishes.0 state after start now then_ finishes.2 (says finishes.0 finishes.1) serving
  IsLast-line handled false taken state after feed start now then_ ready finishes says serving = cc

  -- none did
  pub AnswersLines-none : (is_ready : Bool) (taken : List ℕ) (state : State) (feed : FeedState) (start now : K) → is_ready ≡ false
      → Finishes is_ready feed taken → IsServing stands language taken state start now → AnswersLines stands language (lines_of taken) start now
  AnswersLines-none false taken state feed start now ready finishes serving = AnswersLines-so_far finishes.1 serving
  AnswersLines-none true taken state feed start now ready finishes serving = cc

  handed_on : (faults : K → ℕ) (ending : Ending) (lines : List (List ℕ)) (start now next : K) → AnswersLines stands language lines start now → NothingAppended stands now next
      → (ending ≡ End) ⊎ ((ending ≡ Broken) × Rose (faults now) (faults next))
      → ((ending ≡ End) × AnswersLines stands language lines start next) ⊎ ((ending ≡ Broken) × AnswersPart stands language lines start next)
  handed_on faults ending lines start now next answers kept (inl ended) = inl (ended, AnswersLines-kept answers kept)
  handed_on faults ending lines start now next answers kept (inr failed) = inr (failed.0, AnswersPart-kept (AnswersPart-all answers) kept)

  -- where the sink did not fail, all lines are answered, and that is handed on, unless the sink fails then
  pub answered_and_handed_on : (faults : K → ℕ) (handled : Handled) (ending : Ending) (lines : List (List ℕ)) (start now next : K)
      → IsLast stands language handled lines start now → (handled ≡ WriteFault → ⊥) → NothingAppended stands now next
      → (ending ≡ End) ⊎ ((ending ≡ Broken) × Rose (faults now) (faults next))
      → ((ending ≡ End) × AnswersLines stands language lines start next) ⊎ ((ending ≡ Broken) × AnswersPart stands language lines start next)
  answered_and_handed_on faults Go ending lines start now next answers other kept either = handed_on faults ending lines start now next answers kept either
  answered_and_handed_on faults Bye ending lines start now next answers other kept either = handed_on faults ending lines start now next answers kept either
  answered_and_handed_on faults WriteFault ending lines start now next answers other kept either = absurd (other refl)

  -- the sink failed
  pub IsEnding-broken : (limit : ℕ) (left : Option (List ℕ)) (taken : List ℕ) (start now : K) → length taken ≤ limit → AnswersPart stands language (whole_lines taken) start now
      → IsEnding stands language Broken limit left taken start now
  IsEnding-broken limit left taken start now within part = record { within = within; says = inl part }

  -- the whole lines are answered so far
  GoesOn-so_far : (taken : List ℕ) (state : State) (start now : K) → IsServing stands language taken state start now → GoesOn stands language taken start now
  GoesOn-so_far taken state start now serving = record { answers = AnswersLines-so_far refl serving; going = serving.going }

  -- all that the limit allows was taken
  pub IsEnding-limit : (limit remaining : ℕ) (left : Option (List ℕ)) (taken : List ℕ) (state : State) (start now : K) → length taken + remaining ≡ limit → remaining ≡ 0
      → IsServing stands language taken state start now → IsEnding stands language Limit limit left taken start now
  IsEnding-limit limit remaining left taken state start now within none serving =
      record { within = omega (arith, within); says = (GoesOn-so_far taken state start now serving, omega (arith, within, none)) }

  -- a read failed
  pub IsEnding-unread : (limit remaining : ℕ) (left : Option (List ℕ)) (taken : List ℕ) (state : State) (start now : K) → length taken + remaining ≡ limit
      → IsServing stands language taken state start now → IsEnding stands language ReadFault limit left taken start now
  IsEnding-unread limit remaining left taken state start now within serving = record { within = omega (arith, within); says = GoesOn-so_far taken state start now serving }

  -- nothing is left, and all lines are answered or the sink failed within their replies
  pub IsEnding-last : (ending : Ending) (limit : ℕ) (left : Option (List ℕ)) (taken : List ℕ) (start now : K) → IsAtEnd left → length taken < limit
      → ((ending ≡ End) × AnswersLines stands language (lines_of taken) start now) ⊎ ((ending ≡ Broken) × AnswersPart stands language (lines_of taken) start now)
      → IsEnding stands language ending limit left taken start now
  IsEnding-last ending limit left taken start now at_end below (inl ended) =
      subst (λ (e : Ending). IsEnding stands language e limit left taken start now) (sym ended.0)
      (record { within = omega (arith, below); says = record { at_end = at_end; below = below; answers = ended.1 } })
  IsEnding-last ending limit left taken start now at_end below (inr failed) =
      subst (λ (e : Ending). IsEnding stands language e limit left taken start now) (sym failed.0)
      (record { within = omega (arith, below); says = inr (at_end, failed.1) })

  -- `quit` is among the bytes taken, and the output was handed on or the sink failed
  pub IsEnding-quit : {R : Type 0} (ending : Ending) (limit : ℕ) (left : Option (List ℕ)) (taken : List ℕ) (start now next : K) → (ending ≡ Quit) ⊎ ((ending ≡ Broken) × R)
      → length taken ≤ limit → HasQuit stands language taken start now → NothingAppended stands now next → IsEnding stands language ending limit left taken start next
  IsEnding-quit ending limit left taken start now next (inl quits) within has kept =
      subst (λ (e : Ending). IsEnding stands language e limit left taken start next) (sym quits) (record { within = within; says = HasQuit-kept has kept })
  IsEnding-quit ending limit left taken start now next (inr failed) within has kept =
      subst (λ (e : Ending). IsEnding stands language e limit left taken start next) (sym failed.0)
      (IsEnding-broken limit left taken start next within (AnswersPart-kept (AnswersPart-quit has) kept))

-- what an ending says is what its status says
pub SaysServed-of : {S K : Type 0} (left : S → Option (List ℕ)) (read_faults : S → ℕ) (stands : K → List ℕ → Type 0) (write_faults : K → ℕ) (language : Language) (limit : ℕ)
    (input_before input : S) (output_before output : K) (ending : Ending) → HasEnded left read_faults stands write_faults language limit input_before input output_before output ending
    → SaysServed left read_faults stands write_faults language limit input_before input output_before output (status_of ending)
unfolding status_of
SaysServed-of left read_faults stands write_faults language limit input_before input output_before output End has = inl has
SaysServed-of left read_faults stands write_faults language limit input_before input output_before output Quit has = inr has
SaysServed-of left read_faults stands write_faults language limit input_before input output_before output Limit has = has
SaysServed-of left read_faults stands write_faults language limit input_before input output_before output ReadFault has = has
SaysServed-of left read_faults stands write_faults language limit input_before input output_before output Broken has = has
