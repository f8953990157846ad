-- Whether intervals are others now, and how many properties have others.
use Rattle.std.proofs.Common.{◌≡◌, ◌≢◌, Bool, true, false, not, List, IsTrue, refl, sym, ap, ◌∙◌, ⊎_elim}
use Rattle.std.specs.Prelude.{◌↔◌}
use Rattle.std.specs.Cmp.Lexicographic.{pointwise}
use Rattle.std.proofs.lemmas.Bool.{cases_Bool, false≢true}
use Rattle.ec_axioms.specs.Changes.{interval_eq}
use Rattle.ec_axioms.specs.Timeline.{Interval}
use Rattle.ec_changes.proofs.OtherIntervals.{intervals_eq-Decides}

-- a test that tells apart two lists of intervals is the test of intervals
pub are_moved-from : (b : Bool) (xs ys : List Interval) → (IsTrue b ↔ (xs ≢ ys)) → b ≡ not (pointwise interval_eq xs ys)
are_moved-from true xs ys differ =
    ⊎_elim (λ same. absurd (differ.0 refl ((intervals_eq-Decides xs ys).0 same))) (λ other. sym (ap not other)) (cases_Bool (pointwise interval_eq xs ys))
are_moved-from false xs ys differ =
    ⊎_elim (λ same. sym (ap not same)) (λ other. absurd (false≢true (differ.1 (λ same. false≢true (sym other ∙ (intervals_eq-Decides xs ys).1 same))))) (cases_Bool (pointwise interval_eq xs ys))
