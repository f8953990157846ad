-- The hits with one property more that is due.
use Rattle.std.proofs.Common.{◌≡◌, ◌<◌, ◌+◌, ℕ, ℤ, Bool, true, false, not, ◌&&◌, ◌||◌, List, [], ◌∷◌, ◌++◌, length, take, get_or, refl, sym, ap, ◌∙◌}
use Rattle.std.specs.Prelude.{is_some}
use Rattle.std.specs.List.{IsDistinct, list_any}
use Rattle.std.proofs.lemmas.List.{take_more}
use Rattle.std.proofs.lemmas.List.Folds.{list_any-append}
use Rattle.std.proofs.Math.Bool.{or-false}
use Rattle.ec_terms.specs.declared.ids.PropId.{PropId}
use Rattle.ec_revise.specs.declared.change.Removal.{Removal}
use Rattle.ec_revise.specs.Change.{has_slot}
use Rattle.ec_sweep.specs.declared.hits.Hit.{Hit}
use Rattle.ec_sweep.specs.Hits.{AreHits, Slots, depends_at, depends_on_due, has_hit, same_hit}
use Rattle.ec_sweep.specs.State.{DirtyRows, dirty_at}

module _ {T : Type 0} (rank : T → ℤ) (slots : Slots T) (t : ℤ) (dirty : DirtyRows) (due : List PropId) (removals : List (Removal T)) (i : ℕ) (p none : PropId) (within : i < length due)
    (here : get_or due i none ≡ p) (before : List Hit) (were : AreHits rank slots t dirty (take i due) removals before) where
  -- an entry reads one of them, if it reads one of those before it, or it
  depends-more : (s q : ℕ) → depends_on_due rank slots t dirty (take (i + 1) due) s q
      ≡ (depends_on_due rank slots t dirty (take i due) s q || (is_some (dirty_at p.0 dirty) && depends_at rank slots t s q p.0))
  depends-more s q =
      let reads : PropId → Bool = λ o. is_some (dirty_at o.0 dirty) && depends_at rank slots t s q o.0 in
      ap (list_any reads) (take_more due i none within ∙ ap (λ o. take i due ++ o ∷ []) here)
      ∙ list_any-append reads (take i due) (p ∷ [])
      ∙ ap (λ b. list_any reads (take i due) || b) (or-false (reads p))

  -- its dependents are taken in where it is dirty
  pub AreHits-dirty : is_some (dirty_at p.0 dirty) ≡ true → (after : List Hit)
      → ((s q : ℕ) → has_hit s q after ≡ (has_hit s q before || (not (has_slot (record { 0 = s }) removals) && depends_at rank slots t s q p.0)))
      → (IsDistinct same_hit before → IsDistinct same_hit after) → AreHits rank slots t dirty (take (i + 1) due) removals after
  AreHits-dirty on after noted once = record {
    once = once were.once;
    hit = λ s q.
        noted s q
        ∙ ap (λ b. b || (not (has_slot (record { 0 = s }) removals) && depends_at rank slots t s q p.0)) (were.hit s q)
        ∙ either (not (has_slot (record { 0 = s }) removals)) (depends_on_due rank slots t dirty (take i due) s q) (depends_at rank slots t s q p.0)
        ∙ ap (λ b. not (has_slot (record { 0 = s }) removals) && b)
        (sym (depends-more s q ∙ ap (λ b. depends_on_due rank slots t dirty (take i due) s q || (b && depends_at rank slots t s q p.0)) on));
  }
    where
      either : (stays old new : Bool) → ((stays && old) || (stays && new)) ≡ (stays && (old || new))
      either true old new = refl
      either false old new = refl

  -- and passed over where it is not
  pub AreHits-clean : is_some (dirty_at p.0 dirty) ≡ false → AreHits rank slots t dirty (take (i + 1) due) removals before
  AreHits-clean off = record {
    once = were.once;
    hit = λ s q.
        were.hit s q
        ∙ ap (λ b. not (has_slot (record { 0 = s }) removals) && b)
        (sym (depends-more s q ∙ ap (λ b. depends_on_due rank slots t dirty (take i due) s q || (b && depends_at rank slots t s q p.0)) off ∙ or-false (depends_on_due rank slots t dirty (take i due) s q)));
  }
