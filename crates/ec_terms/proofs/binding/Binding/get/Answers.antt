use Rattle.std.proofs.Common.{sym}
use Rattle.ec_terms.proofs.BindingLemmas.{values_of-shown, named-at}
use Rattle.ec_terms.proofs.binding.Binding.get.Goals as goal

pub returns-clause-value : goal.returns-clause-value
returns-clause-value c = rw (← c.self.view_is) (sym (values_of-shown c.self.inside.places c.args.variable))

pub returns-clause-named : goal.returns-clause-named
returns-clause-named c = named-at c.self.inside.places c.args.variable c.self.invariant.named
