-- One bit of the word is set or taken out.
use Rattle.ec_sweep.proofs.Bits.{is_bit_set-clear, is_bit_set-set}
use Rattle.ec_sweep.proofs.words.with_bit.Goals as goal

pub returns-then-on : goal.returns-then-on
returns-then-on c = λ i. rw c.if-on.true (is_bit_set-set c.args.word c.args.k c.requires i)

pub returns-else-on : goal.returns-else-on
returns-else-on c = λ i. rw c.if-on.false (is_bit_set-clear c.args.word c.args.k c.ranges.word.fits c.requires i)
