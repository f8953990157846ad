-- Two lists without doubles and with the same members have the same length.
use Rattle.ec_changes.proofs.OtherIntervals.{PropertiesInAnyList-law}
use Rattle.ec_changes.proofs.laws_counts.properties_in_any_list_law.Goals as goal

pub returns : goal.returns
returns c = PropertiesInAnyList-law
