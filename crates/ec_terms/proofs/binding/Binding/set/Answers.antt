use Rattle.std.proofs.Common.{◌<◌, ◌∙◌, sym, length, arith, length-set}
use Rattle.std.proofs.lemmas.List.{length-map}
use Rattle.ec_terms.specs.Binding.{shown}
use Rattle.ec_terms.proofs.BindingLemmas.{values_of-set, named-set}
use Rattle.ec_terms.proofs.binding.Binding.set.Goals as goal

pub invariant_of-self : goal.invariant_of-self
invariant_of-self c =
    record {
      count = simp (length-map, length-set) (sym (length-map c.self.inside.places shown) ∙ c.self.invariant.count);
      named = named-set c.self.inside.places c.args.variable c.args.value c.requires.named c.self.invariant.named;
    }

pub returns : goal.returns
returns c =
    let there : c.args.variable < length c.self.inside.places = omega (arith, length-map c.self.inside.places shown, c.self.invariant.count) in
    rw (← c.self.view_is) (values_of-set c.self.inside.places c.args.variable c.args.value there)
