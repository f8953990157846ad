-- Terms and their numbers in a table: each leads to the other.
use Rattle.std.proofs.Common.{◌≡◌, ℕ, true, List, Option, Some, None, refl, sym, ap, ◌∙◌}
use Rattle.std.specs.Prelude.{option_map}
use Rattle.ec_terms.specs.declared.ground.Ground.{Ground}
use Rattle.ec_store.specs.Table.{KeptProp, is_in_order, prop_at, prop_of, term_at}
use Rattle.ec_store.proofs.PropLemmas.{find-term, place-prop_at, prop_at-id}

-- a kept term finds its number
pub prop_of-term_at : (table : List KeptProp) (n : ℕ) (p : Ground) → is_in_order table ≡ true → term_at n table ≡ Some p → prop_of p table ≡ Some n
prop_of-term_at table n p order kept = of (prop_at n table) refl kept
  where
    of : (o : Option KeptProp) → prop_at n table ≡ o → option_map (λ (k : KeptProp). k.term) o ≡ Some p → prop_of p table ≡ Some n
    of None is none = cc
    of (Some k) is some =
        let place = place-prop_at n table k is in
        let term : k.term ≡ p = cc in
        ap (λ t. prop_of t table) (sym term) ∙ ap (option_map (λ (j : KeptProp). j.id)) (find-term table place.0 k order place.1) ∙ ap Some (prop_at-id n table k is)
