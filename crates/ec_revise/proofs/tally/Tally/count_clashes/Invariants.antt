-- The properties up to the index are counted.
use Rattle.std.proofs.Common.{take}
use Rattle.ec_revise.specs.declared.tally.Part.TheVariants.{Clashes}
use Rattle.ec_revise.specs.TurnCounts.{CountsEach}
use Rattle.ec_revise.proofs.tally.Tally.count_clashes.Given as goal

abbrev pub invariant-loop-q : goal.invariant-loop-q
invariant-loop-q l = CountsEach (take l.q-index l.props) Clashes l.up l.initial.self l.self
