-- The language of the worked files.
use Rattle.ec_moment.specs.Number.{number_value}
use Rattle.ec_axioms.specs.Examples.{short_number, theory_a}
use Rattle.ec_replies.specs.Replies.{Language}

-- lamps that are plugged and pushed, at times that are whole numbers
abbrev pub lamps : Language
lamps = record { theory = theory_a; spelt = number_value; canon = short_number }
