-- What an instant does to a property that is current there.
use Rattle.std.specs.Prelude.{Bool, if◌then◌else◌}
use Rattle.ec_pass.specs.declared.outcome.Outcome.{Outcome}
use Rattle.ec_pass.specs.declared.outcome.Outcome.TheVariants.{Terminated, Broken, Unbroken}

-- by whether it is terminated there, and whether it is broken there otherwise
abbrev pub outcome_of : Bool → Bool → Outcome
outcome_of terminated broken = if terminated then Terminated else (if broken then Broken else Unbroken)
