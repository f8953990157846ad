-- Numbers that ascend, one after the other.
use Rattle.std.proofs.Common.{◌≡◌, ℕ, ◌+◌, ◌<◌, true, not, List, [], ◌∷◌, ◌++◌, take, get_or, length, refl, sym, ap₂, ◌∙◌, arith, suc, zero}
use Rattle.std.specs.Prelude.{nat_lt}
use Rattle.std.specs.List.{list_all}
use Rattle.std.proofs.lemmas.Bool.{and_from}
use Rattle.std.proofs.lemmas.List.{take_more}
use Rattle.ec_lists.proofs.Filters.{filter-none}
use Rattle.ec_lists.proofs.Tests.{list_any-none, list_all-weaker, list_all-get_or}
use Rattle.ec_axioms.proofs.Members.{filter_all, list_all-member}
use Rattle.ec_terms.specs.declared.ids.PropId.{PropId}
use Rattle.ec_rows.proofs.OrderedLemmas.{ascending-first, ascending-rest}
use Rattle.ec_numbered.specs.PropSet.{comes_before, are_ascending, with_number}

-- those in front of a place come before the one there
before-get : (ps : List PropId) (i : ℕ) (d : PropId) → are_ascending ps ≡ true → i < length ps → list_all (λ q. comes_before q (get_or ps i d)) (take i ps) ≡ true
before-get [] i d ascend below = absurd (omega arith)
before-get (q ∷ ps) zero d ascend below = refl
before-get (q ∷ ps) (suc i) d ascend below =
    let later : i < length ps = omega arith in
    and_from _ _ (list_all-get_or (comes_before q) ps i d (ascending-first comes_before q ps ascend) later) (before-get ps i d (ascending-rest comes_before q ps ascend) later)

-- and its place is behind them
pub with_number-get : (ps : List PropId) (i : ℕ) (d : PropId) → are_ascending ps ≡ true → i < length ps → with_number (get_or ps i d) (take i ps) ≡ take (i + 1) ps
with_number-get ps i d ascend below =
    let all = before-get ps i d ascend below in
    let p = get_or ps i d in
    ap₂ {C = List PropId} (λ xs ys. xs ++ p ∷ ys)
    (filter_all (λ q. comes_before q p) (take i ps) (λ q member. list_all-member (λ r. comes_before r p) (take i ps) q all member))
    (filter-none (λ q. comes_before p q) (take i ps) (list_any-none (λ q. comes_before p q) (take i ps) (list_all-weaker (λ q. comes_before q p) (λ q. not (comes_before p q)) (λ q before. other q.0 p.0 before) (take i ps) all)))
    ∙ sym (take_more ps i d below)
  where
    other : (a b : ℕ) → nat_lt a b ≡ true → not (nat_lt b a) ≡ true
    other a b less = grind arith
