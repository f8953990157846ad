-- Terms find the same numbers.
use Rattle.std.proofs.Common.{refl}
use Rattle.ec_store.proofs.FoundLemmas.{IsFoundByKey-mentions}
use Rattle.ec_store.proofs.prop_table.PropTable.mention.Goals as goal

pub invariant_of-self : goal.invariant_of-self
invariant_of-self c =
    IsFoundByKey-mentions c.self.inside.by_key.items _ c.self.inside.records.items c.set_mentions.new.self.items c.self.invariant c.set_mentions.ensures.numbers
    c.args.p.0 _ c.set_mentions.ensures.props c.set_mentions.ensures.terms c.set_mentions.ensures.lookups refl
