-- What is found is right, and where nothing is found no rule so far is for such events.
use Rattle.std.proofs.Common.{◌≡◌, ℕ, List, [], ◌∷◌, None, IsSome, take}
use Rattle.ec_store.specs.ByText.{found_at}
use Rattle.ec_context.specs.RulePlaces.{listed, places_for}
use Rattle.ec_context.proofs.rules.index_of.Given as goal

abbrev pub invariant-loop-rule : goal.invariant-loop-rule
invariant-loop-rule l = record {
  exact : (name : List ℕ) (arity : ℕ) → IsSome (found_at l.index (arity ∷ name)) → listed (found_at l.index (arity ∷ name)) ≡ places_for name arity l.rules;
  none : (name : List ℕ) (arity : ℕ) → found_at l.index (arity ∷ name) ≡ None → places_for name arity (take l.rule-index l.rules) ≡ [];
}
