-- What the index has under the key.
use Rattle.std.proofs.Common.{length, None, Some, ap, ◌∙◌, arith}
use Rattle.ec_terms.specs.declared.theory.Theory.{Theory}
use Rattle.ec_store.specs.ByText.{found_at}
use Rattle.ec_context.specs.RulePlaces.{places_for}
use Rattle.ec_context.proofs.IndexLemmas.{listed-found}
use Rattle.ec_context.proofs.Limits.{few_places}
use Rattle.ec_context.proofs.rules.Rules.places_for.Goals as goal

pub returns-in-Some-clause-places : goal.returns-in-Some-clause-places
returns-in-Some-clause-places c =
    c.as_slice-in-Some.ensures.value
    ∙ listed-found (found_at c.self.inside.index) c.self.inside.checked.rules c.as_slice.result.now (Some c.in-Some.places.now) c.args.name.now c.args.arity
    (c.self.invariant.1 c.args.name.now c.args.arity) (c.as_slice.ensures.value ∙ c.key_of.ensures) c.in-Some.ensures.value
    ∙ ap (λ (t : Theory). places_for c.args.name.now c.args.arity t.rules) c.self.view_is

pub returns-in-None-clause-places : goal.returns-in-None-clause-places
returns-in-None-clause-places c =
    listed-found (found_at c.self.inside.index) c.self.inside.checked.rules c.as_slice.result.now None c.args.name.now c.args.arity
    (c.self.invariant.1 c.args.name.now c.args.arity) (c.as_slice.ensures.value ∙ c.key_of.ensures) c.in-None.ensures.value
    ∙ ap (λ (t : Theory). places_for c.args.name.now c.args.arity t.rules) c.self.view_is

pub returns-in-Some-clause-few : goal.returns-in-Some-clause-few
returns-in-Some-clause-few c =
    let few = few_places c.self.inside.checked c.self.invariant.0 c.args.name.now c.args.arity in
    let as_many =
    ap length
    (c.as_slice-in-Some.ensures.value
    ∙ listed-found (found_at c.self.inside.index) c.self.inside.checked.rules c.as_slice.result.now (Some c.in-Some.places.now) c.args.name.now c.args.arity
    (c.self.invariant.1 c.args.name.now c.args.arity) (c.as_slice.ensures.value ∙ c.key_of.ensures) c.in-Some.ensures.value) in
    omega (arith, few, as_many)
