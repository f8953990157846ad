-- No property is listed twice where the numbers are distinct.
use Rattle.std.proofs.Common.{◌≡◌, false, not, List, [], ◌∷◌, IsTrue, refl, ap}
use Rattle.std.specs.Prelude.{◌==◌}
use Rattle.std.specs.List.{list_all, AllByRecursion, IsDistinct}
use Rattle.std.specs.Map.{keys_of}
use Rattle.std.proofs.lemmas.Bool.{and_from}
use Rattle.ec_rows.specs.Ordered.{is_ascending}
use Rattle.ec_delta.specs.Touched.{Row, are_once}

module _ {T : Type 0} where
  -- rows with distinct numbers list no property twice
  pub are_once-distinct : (rows : List (Row T)) → IsDistinct (λ a b. a == b) (keys_of rows) → IsTrue (are_once rows)
  unfolding is_ascending IsDistinct
  are_once-distinct [] distinct = refl
  are_once-distinct (row ∷ rows) distinct = and_from _ _ (apart rows distinct.0) (are_once-distinct rows distinct.1)
    where
      apart : (others : List (Row T)) → AllByRecursion (λ n. (row.0 == n) ≡ false) (keys_of others) → IsTrue (list_all (λ (r : Row T). not (row.0 == r.0)) others)
      apart [] all = refl
      apart (r ∷ others) all = and_from _ _ (ap not all.0) (apart others all.1)
