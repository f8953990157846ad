-- What the status of a claim says.
use Rattle.std.proofs.Common.{◌≡◌, ◌≤◌, ◌⊎◌, ℕ, List, Option, refl, sym, ap, subst, inl, inr}
use Rattle.ec_outside.specs.Counts.{Rose}
use Rattle.ec_outside.proofs.Counts.{Rose-earlier}
use Rattle.ec_outside.specs.Files.{Files}
use Rattle.ec_replies.specs.Replies.{Language}
use Rattle.ec_files.specs.declared.no_answer.NoAnswer.{NoAnswer}
use Rattle.ec_files.specs.declared.no_answer.NoAnswer.TheVariants.{FolderFault, NoMemory, LongFile, BadEvents}
use Rattle.ec_files.specs.declared.status.Status.{Status}
use Rattle.ec_files.specs.declared.status.Status.TheVariants as status
use Rattle.ec_files.specs.Answering.{IsReason, IsTold}
use Rattle.ec_files.specs.Certifying.{SaysCertified, SaysUnanswered}
use Rattle.ec_files.specs.Claims.{Claim, HasOutcome, IsAnswer, Outcome, answer, bad_events, claim_outcome, long_file, no_file, no_time}
use Rattle.ec_files.specs.CommandEnds.{SaysLine}
use Rattle.ec_files.proofs.Claims.{HasOutcome-answer, HasOutcome-no_time, HasOutcome-reason, HasOutcome-same, HasOutcome-told}
use Rattle.ec_files.proofs.CommandEnds.{IsInputStatus, IsUntouched}
use Rattle.ec_files.proofs.StatusCodes.{by_either, second_of_two}
use Rattle.ec_files.proofs.ToldFaults.{line_told}

-- what is said of a line is said of what it is too
pub SaysLine-weaker : {K : Type 0} (stands : K → List ℕ → Type 0) (faults : K → ℕ) (old new : K) (One Other : List ℕ → Type 0) → ((text : List ℕ) → One text → Other text)
    → (s : Status) → SaysLine stands faults old new One s → SaysLine stands faults old new Other s
SaysLine-weaker stands faults old new One Other weaker status.Done says = (says.0, weaker says.0 says.1, says.2, says.3)
SaysLine-weaker stands faults old new One Other weaker status.NoShape says = absurd says
SaysLine-weaker stands faults old new One Other weaker status.BadTheory says = absurd says
SaysLine-weaker stands faults old new One Other weaker status.ReadFault says = absurd says
SaysLine-weaker stands faults old new One Other weaker status.WriteFault says = (says.0, (says.1.0, weaker says.1.0 says.1.1, says.1.2))
SaysLine-weaker stands faults old new One Other weaker status.NoMemory says = says
SaysLine-weaker stands faults old new One Other weaker status.FolderFault says = absurd says
SaysLine-weaker stands faults old new One Other weaker status.LimitReached says = absurd says
SaysLine-weaker stands faults old new One Other weaker status.LongLines says = absurd says
SaysLine-weaker stands faults old new One Other weaker status.BadEvents says = absurd says

-- the status of an outcome
abbrev pub outcome_status : Outcome → Status
outcome_status no_time = status.NoShape
outcome_status no_file = status.FolderFault
outcome_status long_file = status.LongLines
outcome_status (bad_events line name) = status.BadEvents
outcome_status (answer text) = status.Done

module _ {K : Type 0} (stands : K → List ℕ → Type 0) (faults : K → ℕ) (told : Option Files) (language : Language) (claim : Claim) (before after : ℕ) (old new : K) where
  -- the status of a claim that is not answered
  pub SaysUnanswered-of : (reason : NoAnswer) (ended : Status) → IsReason told (claim_outcome language claim) before after reason → IsTold stands faults reason ended old new
      → SaysUnanswered stands faults told language claim before after old new ended
  SaysUnanswered-of FolderFault ended (inl rose) is =
      subst (λ (s : Status). SaysUnanswered stands faults told language claim before after old new s) (sym is.0) (is.1, inl rose)
  SaysUnanswered-of FolderFault ended (inr none) is =
      subst (λ (s : Status). SaysUnanswered stands faults told language claim before after old new s) (sym is.0)
      (is.1, inr (record { files = none.0; is_told = none.1; comes = none.2 }))
  SaysUnanswered-of NoMemory ended why is = subst (λ (s : Status). SaysUnanswered stands faults told language claim before after old new s) (sym is.0) is.1
  SaysUnanswered-of LongFile ended why is =
      subst (λ (s : Status). SaysUnanswered stands faults told language claim before after old new s) (sym is.0) (is.1, HasOutcome-reason long_file why)
  SaysUnanswered-of (BadEvents line event_name) ended why is =
      subst (λ (s : Status). SaysUnanswered stands faults told language claim before after old new s) (sym is.0)
      (record { line = line; name = event_name; why = HasOutcome-reason (bad_events line event_name) why; wrote = is.1 })

  -- ---- by the outcome

  -- where no call on the folder failed, the status is that of the outcome, or memory ran out, or the sink failed within the answer
  abbrev pub IsOfOutcome : Outcome → Status → Type 0
  IsOfOutcome outcome s =
      (s ≡ outcome_status outcome) ⊎ ((s ≡ status.NoMemory) ⊎ ((s ≡ status.WriteFault) × ((text : List ℕ) × (outcome ≡ answer text)) × Rose (faults old) (faults new)))

  module _ (fine : ¬ Rose before after) (outcome : Outcome) (has : HasOutcome told language claim outcome) where
    of_other : (other : Outcome) → HasOutcome told language claim other → IsOfOutcome outcome (outcome_status other)
    of_other other is = inl (ap outcome_status (HasOutcome-same is has))

    of_line : (s : Status) → SaysLine stands faults old new (IsAnswer told language claim) s → IsOfOutcome outcome s
    of_line status.Done says = of_other (answer says.0) (HasOutcome-answer says.1 (HasOutcome-told has))
    of_line status.NoShape says = absurd says
    of_line status.BadTheory says = absurd says
    of_line status.ReadFault says = absurd says
    of_line status.WriteFault says =
        inr (inr (refl, (says.1.0, HasOutcome-same has (HasOutcome-answer says.1.1 (HasOutcome-told has))), says.0))
    of_line status.NoMemory says = inr (inl refl)
    of_line status.FolderFault says = absurd says
    of_line status.LimitReached says = absurd says
    of_line status.LongLines says = absurd says
    of_line status.BadEvents says = absurd says

    of_unanswered : (s : Status) → SaysUnanswered stands faults told language claim before after old new s → IsOfOutcome outcome s
    of_unanswered status.Done says = absurd says
    of_unanswered status.NoShape says = of_other no_time (HasOutcome-no_time says.0 (HasOutcome-told has))
    of_unanswered status.BadTheory says = absurd says
    of_unanswered status.ReadFault says = absurd says
    of_unanswered status.WriteFault says = absurd says
    of_unanswered status.NoMemory says = inr (inl refl)
    of_unanswered status.FolderFault says = by_either says.1 (λ rose. absurd (fine rose)) (λ none. of_other no_file none)
    of_unanswered status.LimitReached says = absurd says
    of_unanswered status.LongLines says = of_other long_file (says.1 (HasOutcome-told has))
    of_unanswered status.BadEvents says = of_other (bad_events says.line says.name) (says.why (HasOutcome-told has))

    pub certified_by : (s : Status) → SaysCertified stands faults told language claim before after old new s → IsOfOutcome outcome s
    certified_by s (inl line) = of_line s line
    certified_by s (inr unanswered) = of_unanswered s unanswered

    -- the same, where the outcome is no answer
    pub unanswered_by : ((text : List ℕ) → outcome ≡ answer text → ⊥) → (s : Status) → SaysCertified stands faults told language claim before after old new s
        → (s ≡ outcome_status outcome) ⊎ (s ≡ status.NoMemory)
    unanswered_by never s says = by_case (certified_by s says)
      where
        by_case : IsOfOutcome outcome s → (s ≡ outcome_status outcome) ⊎ (s ≡ status.NoMemory)
        by_case (inl is) = inl is
        by_case (inr (inl memory)) = inr memory
        by_case (inr (inr broken)) = absurd (never broken.1.0 broken.1.1)

    -- and where it is one, and the sink did not fail
    pub answered_by : ¬ Rose (faults old) (faults new) → (s : Status) → SaysCertified stands faults told language claim before after old new s
        → (s ≡ outcome_status outcome) ⊎ (s ≡ status.NoMemory)
    answered_by writes s says = by_case (certified_by s says)
      where
        by_case : IsOfOutcome outcome s → (s ≡ outcome_status outcome) ⊎ (s ≡ status.NoMemory)
        by_case (inl is) = inl is
        by_case (inr (inl memory)) = inr memory
        by_case (inr (inr broken)) = absurd (writes broken.2)

  -- ---- by the status

  pub never_certified : SaysCertified stands faults told language claim before after old new status.BadTheory → ⊥
  never_certified (inl line) = line
  never_certified (inr unanswered) = unanswered

  pub no_certified : (s : Status) → IsInputStatus s → SaysCertified stands faults told language claim before after old new s → ⊥
  no_certified status.ReadFault input_status says = by_either says (λ line. line) (λ unanswered. unanswered)
  no_certified status.LimitReached input_status says = by_either says (λ line. line) (λ unanswered. unanswered)
  no_certified s input_status says = absurd input_status

  pub same_certified : (s : Status) → IsUntouched s → SaysCertified stands faults told language claim before after old new s → new ≡ old
  same_certified status.NoMemory untouched says = by_either says (λ line. line) (λ unanswered. unanswered)
  same_certified status.FolderFault untouched says = (second_of_two says (λ line. line)).0
  same_certified status.LongLines untouched says = (second_of_two says (λ line. line)).0
  same_certified s untouched says = absurd untouched

  -- a write that failed is told, or was within the line about a time or an event file
  pub certified_told : (s : Status) → SaysCertified stands faults told language claim before after old new s
      → (s ≡ status.WriteFault) ⊎ ((s ≡ status.NoShape) ⊎ ((s ≡ status.BadEvents) ⊎ (faults new ≡ faults old)))
  certified_told s (inl line) = by_either (line_told stands faults old new (IsAnswer told language claim) s line) (λ told. inl told) (λ quiet. inr (inr (inr quiet)))
  certified_told s (inr unanswered) = by_case s unanswered
    where
      by_case : (s : Status) → SaysUnanswered stands faults told language claim before after old new s
          → (s ≡ status.WriteFault) ⊎ ((s ≡ status.NoShape) ⊎ ((s ≡ status.BadEvents) ⊎ (faults new ≡ faults old)))
      by_case status.Done says = absurd says
      by_case status.NoShape says = inr (inl refl)
      by_case status.BadTheory says = absurd says
      by_case status.ReadFault says = absurd says
      by_case status.WriteFault says = absurd says
      by_case status.NoMemory says = inr (inr (inr (ap faults says)))
      by_case status.FolderFault says = inr (inr (inr (ap faults says.0)))
      by_case status.LimitReached says = absurd says
      by_case status.LongLines says = inr (inr (inr (ap faults says.0)))
      by_case status.BadEvents says = inr (inr (inl refl))

-- ---- behind the file of the theory

module _ {K : Type 0} (stands : K → List ℕ → Type 0) (faults : K → ℕ) (told : Option Files) (language : Language) (claim : Claim) (before middle after : ℕ) (old new : K) (on : before ≤ middle) where
  unanswered_earlier : (s : Status) → SaysUnanswered stands faults told language claim middle after old new s → SaysUnanswered stands faults told language claim before after old new s
  unanswered_earlier status.Done says = says
  unanswered_earlier status.NoShape says = says
  unanswered_earlier status.BadTheory says = says
  unanswered_earlier status.ReadFault says = says
  unanswered_earlier status.WriteFault says = says
  unanswered_earlier status.NoMemory says = says
  unanswered_earlier status.FolderFault says = (says.0, by_either says.1 (λ rose. inl (Rose-earlier on rose)) (λ none. inr none))
  unanswered_earlier status.LimitReached says = says
  unanswered_earlier status.LongLines says = says
  unanswered_earlier status.BadEvents says = record { line = says.line; name = says.name; why = says.why; wrote = says.wrote }

  same_folder : (s : Status) → SaysCertified stands faults told language claim middle after old new s → SaysCertified stands faults told language claim before after old new s
  same_folder s (inl line) = inl line
  same_folder s (inr unanswered) = inr (unanswered_earlier s unanswered)

-- what is said since a call on the folder is said since an earlier one that changed no file
pub SaysCertified-earlier : {K : Type 0} (stands : K → List ℕ → Type 0) (faults : K → ℕ) (language : Language) (claim : Claim) (after : ℕ) (old new : K) (s : Status)
    (told seen : Option Files) (before middle : ℕ) → seen ≡ told → before ≤ middle → SaysCertified stands faults seen language claim middle after old new s
    → SaysCertified stands faults told language claim before after old new s
SaysCertified-earlier stands faults language claim after old new s told seen before middle same on says =
    subst (λ (t : Option Files). SaysCertified stands faults t language claim before after old new s) same
    (same_folder stands faults seen language claim before middle after old new on s says)
