-- What is taken out was read at its place.
use Rattle.std.proofs.lemmas.Option.{slice_get_read}
use Rattle.ec_blocks.proofs.chain.remove_within.Goals as goal

pub returns-clause-member : goal.returns-clause-member
returns-clause-member g c = slice_get_read c.args.block.now.items c.args.block.now.len c.args.place c.remove.result c.args.block.now.ok.0 c.requires c.remove.ensures.value
