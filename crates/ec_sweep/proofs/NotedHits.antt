-- Hits, once one more is noted.
use Rattle.std.proofs.Common.{◌≡◌, ℕ, cond, ◌&&◌, ◌||◌, List, Some, sym, ap, ap₂, ◌∙◌}
use Rattle.std.specs.Prelude.{is_some}
use Rattle.std.specs.Map.{keys_of, lookup}
use Rattle.std.proofs.lemmas.Map.Made.{is_some-lookup}
use Rattle.ec_lists.proofs.Booleans.{is_some-cond}
use Rattle.ec_lists.proofs.Numbers.{eqb_comm}
use Rattle.ec_lists.proofs.Tests.{list_any-same}
use Rattle.ec_sweep.specs.declared.hits.Hit.{Hit}
use Rattle.ec_sweep.specs.Hits.{has_hit, is_hit, same_hit}

-- the entry at a place of a slot is a hit where it is found
has_hit-found : {X : Type 0} (slot place : ℕ) (rows : List (Hit × X)) → has_hit slot place (keys_of rows) ≡ is_some (lookup (same_hit (record { slot = record { 0 = slot }; place = place })) rows)
has_hit-found slot place rows =
    list_any-same (is_hit slot place) (same_hit (record { slot = record { 0 = slot }; place = place }))
    (λ hit. ap₂ (λ a b. a && b) (eqb_comm hit.slot.0 slot) (eqb_comm hit.place place)) (keys_of rows)
    ∙ sym (is_some-lookup (same_hit (record { slot = record { 0 = slot }; place = place })) rows)

pub has_hit-noted : {X : Type 0} (hit : Hit) (value : X) (before after : List (Hit × X))
    → ((k : Hit) → lookup (same_hit k) after ≡ cond (same_hit hit k) (Some value) (lookup (same_hit k) before))
    → (slot place : ℕ) → has_hit slot place (keys_of after) ≡ (is_hit slot place hit || has_hit slot place (keys_of before))
has_hit-noted hit value before after put slot place =
    has_hit-found slot place after
    ∙ ap is_some (put (record { slot = record { 0 = slot }; place = place }))
    ∙ sym (is_some-cond (is_hit slot place hit) value (lookup (same_hit (record { slot = record { 0 = slot }; place = place })) before))
    ∙ ap (λ b. is_hit slot place hit || b) (sym (has_hit-found slot place before))
