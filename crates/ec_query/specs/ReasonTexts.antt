-- The text of a reason with its causes, byte for byte.
use Rattle.std.specs.Prelude.{ℕ, ℤ, List, ◌++◌, Some, None, codes}
use Rattle.ec_commands.specs.QueryTexts.{Canon, begin_text, cause_text}
use Rattle.ec_intervals.specs.Table.{plain_begin}
use Rattle.ec_query.specs.declared.reason.Cause.{Cause}
use Rattle.ec_query.specs.declared.reason.Origin.{Origin}
use Rattle.ec_query.specs.declared.reason.Origin.TheVariants.{Initial, At}
use Rattle.ec_query.specs.declared.reason.Reason.{Reason}
use Rattle.ec_query.specs.declared.reason.Reason.TheVariants.{Yes, Never, Ended, Broken}
use Rattle.ec_query.specs.Reasons.{plain_cause, plain_origin}

-- a cause: its event and the number of its rule
abbrev pub told_cause : Cause → List ℕ
told_cause cause = cause_text (Some (plain_cause cause))

-- what a begin came by
abbrev pub told_origin : {T : Type 0} → Origin T → List ℕ
told_origin Initial = codes "initially"
told_origin (At t cause) = codes "by " ++ told_cause cause

-- a reason with its causes; a yes that ends is told with the cause of its end
abbrev pub told_reason : {T : Type 0} → (T → ℤ) → Canon → Reason T → List ℕ
told_reason rank canon (Yes from None) = codes "yes " ++ begin_text canon (plain_origin rank from) ++ codes " inf " ++ told_origin from
told_reason rank canon (Yes from (Some until)) =
    codes "yes " ++ begin_text canon (plain_origin rank from) ++ codes " " ++ canon (rank until.0) ++ codes " " ++ told_origin from ++ codes " until "
    ++ told_cause until.1
told_reason rank canon Never = codes "no never"
told_reason rank canon (Ended from until by) =
    codes "no ended " ++ begin_text canon (plain_begin rank from) ++ codes " " ++ canon (rank until) ++ codes " by " ++ told_cause by
told_reason rank canon (Broken from until by) =
    codes "no broken " ++ begin_text canon (plain_begin rank from) ++ codes " " ++ canon (rank until) ++ codes " by " ++ told_cause by
