-- What a map from texts finds after an insertion or a removal.
use Rattle.std.proofs.Common.{◌≡◌, ℕ, Bool, true, false, cond, List, refl, Option, Vec, sym, subst, ◌∙◌, ⊎_elim}
use Rattle.std.specs.Prelude.{bytes_eq}
use Rattle.std.specs.Map.{lookup, KeepsOthers, IsKeyTest, AreApart}
use Rattle.std.proofs.lemmas.Bool.{cases_Bool}
use Rattle.std.proofs.lemmas.Slice.Eq.{bytes_eq-Decides}
use Rattle.std.proofs.lemmas.Cmp.{nat_list_eq_equiv}
use Rattle.indexmap.specs.IndexMap.{IndexMap, UpdatesBy}
use Rattle.ec_store.specs.ByText.{found_at}

module _ {Z X S : Type 0} (text : List ℕ) (old new : IndexMap (Vec ℕ Z) X S) (w : Option X) (updates : UpdatesBy (λ x y. bytes_eq x.items y.items) (λ k. bytes_eq text k.items) old new w) where
  -- what stands under other texts stays
  others : {K V : Type 0} (eq : K → K → Bool) (test : K → Bool) (xs ys : List (K × V)) → KeepsOthers eq test xs ys → (other : K → Bool) → IsKeyTest eq other → AreApart test other →
      lookup other ys ≡ lookup other xs
  unfolding KeepsOthers
  others eq test xs ys keeps = keeps

  apart : (asked key : List ℕ) → bytes_eq text asked ≡ false → bytes_eq text key ≡ true → bytes_eq asked key ≡ false
  apart asked key differs same = nat_list_eq_equiv.symm asked key ∙ sym (nat_list_eq_equiv.congr text key asked same) ∙ differs

  pub found_at-updates : (asked : List ℕ) → found_at new asked ≡ cond (bytes_eq text asked) w (found_at old asked)
  found_at-updates asked =
      ⊎_elim
      (λ e. subst (λ t. found_at new t ≡ w) ((bytes_eq-Decides text asked).0 e) updates.1 ∙ sym (rw e refl))
      (λ e. others _ _ _ _ updates.3 (λ k. bytes_eq asked k.items) (λ x y. nat_list_eq_equiv.congr asked x.items y.items) (λ k. apart asked k.items e) ∙ sym (rw e refl))
      (cases_Bool (bytes_eq text asked))
