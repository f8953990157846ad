-- Under the key of the rule its places are found, and under other keys what was.
use Rattle.std.proofs.Common.{ℕ, List, ◌∷◌, Some, sym, ap₂, ◌∙◌}
use Rattle.ec_store.specs.ByText.{found_at}
use Rattle.ec_store.proofs.ByTextLemmas.{found_at-updates}
use Rattle.ec_context.specs.RulePlaces.{places_for}
use Rattle.ec_context.proofs.IndexLemmas.{exact-added, is_for-added, is_for-found, none-added}
use Rattle.ec_context.proofs.rules.add.Goals as goal

pub returns-then-contains_key-clause-here : goal.returns-then-contains_key-clause-here
returns-then-contains_key-clause-here c =
    is_for-found (found_at c.args.index.now) c.args.rule.now c.as_slice.result.now
    (c.as_slice.ensures.value ∙ c.key_of-key.ensures ∙ ap₂ {C = List ℕ} (λ n ns. n ∷ ns) c.len-arity.ensures c.as_bytes-name.ensures.bytes)
    (sym c.contains_key.ensures ∙ c.if-contains_key.true)

pub returns-clause-exact : goal.returns-clause-exact
returns-clause-exact c =
    exact-added (found_at c.args.index.now) (found_at c.insert.new.self) c.args.rules.now c.args.rule.now c.in_ok-owned_key.owned_key.items c.in_ok-places.places
    (c.in_ok-owned_key.ensures.items ∙ c.as_slice-2.ensures.value ∙ c.key_of-key.ensures
    ∙ ap₂ {C = List ℕ} (λ n ns. n ∷ ns) c.len-arity.ensures c.as_bytes-name.ensures.bytes)
    (found_at-updates c.in_ok-owned_key.owned_key.items c.args.index.now c.insert.new.self (Some c.in_ok-places.places) c.in_ok-insert.ensures.updates)
    (c.in_ok-places.ensures ∙ ap₂ (λ (ns : List ℕ) (n : ℕ). places_for ns n c.args.rules.now) c.as_bytes-name.ensures.bytes c.len-arity.ensures) c.requires.exact

pub returns-clause-kept : goal.returns-clause-kept
returns-clause-kept c =
    none-added (found_at c.args.index.now) (found_at c.insert.new.self) c.args.rules.now c.args.rule.now c.in_ok-owned_key.owned_key.items c.in_ok-places.places
    (c.in_ok-owned_key.ensures.items ∙ c.as_slice-2.ensures.value ∙ c.key_of-key.ensures
    ∙ ap₂ {C = List ℕ} (λ n ns. n ∷ ns) c.len-arity.ensures c.as_bytes-name.ensures.bytes)
    (found_at-updates c.in_ok-owned_key.owned_key.items c.args.index.now c.insert.new.self (Some c.in_ok-places.places) c.in_ok-insert.ensures.updates)

pub returns-clause-here : goal.returns-clause-here
returns-clause-here c =
    is_for-added (found_at c.args.index.now) (found_at c.insert.new.self) c.args.rules.now c.args.rule.now c.in_ok-owned_key.owned_key.items c.in_ok-places.places
    (c.in_ok-owned_key.ensures.items ∙ c.as_slice-2.ensures.value ∙ c.key_of-key.ensures
    ∙ ap₂ {C = List ℕ} (λ n ns. n ∷ ns) c.len-arity.ensures c.as_bytes-name.ensures.bytes)
    (found_at-updates c.in_ok-owned_key.owned_key.items c.args.index.now c.insert.new.self (Some c.in_ok-places.places) c.in_ok-insert.ensures.updates)
