-- The order of two points, and the relation that it tells.
use Rattle.std.proofs.Common.{◌≡◌, ◌≢◌, Bool, true, false, cond, [], ◌∷◌, filter, IsTrue, refl, sym, ap, ◌∙◌, arith}
use Rattle.std.specs.Prelude.{ℤ}
use Rattle.std.specs.Ordering.{int_cmp}
use Rattle.std.specs.declared.cmp.Ordering.TheVariants.{Less, Equal, Greater}
use Rattle.std.proofs.lemmas.Bool.{false_from_ne_true}
use Rattle.std.proofs.lemmas.Int.{ints}
use Rattle.ec_lists.proofs.Integers.{int_lt-same}
use Rattle.ec_axioms.specs.Timeline.{Interval}
use Rattle.ec_commands.specs.declared.relation.Relation.{Relation}
use Rattle.ec_commands.specs.Relations.{Point, below, instant, above, point_lt, point_eq, is_proper, stands_in}
use Rattle.ec_commands.proofs.RelationLaws.{IntervalsStandInOneRelation-law}
use Rattle.ec_compare.specs.Points.{point_cmp}

-- ---- the order of points

-- two times are ordered as their points
pub point_cmp-instants : (s t : ℤ) → int_cmp s t ≡ point_cmp (instant s) (instant t)
point_cmp-instants s t = grind (arith, ints)

pub point_cmp-less : (p q : Point) → point_cmp p q ≡ Less → point_lt p q ≡ true
point_cmp-less p q is = by_less (point_lt p q) (point_eq p q) is
  where
    by_less : (a b : Bool) → cond a Less (cond b Equal Greater) ≡ Less → a ≡ true
    by_less true b is = refl
    by_less false true is = cc
    by_less false false is = cc

pub point_cmp-same : (p q : Point) → point_cmp p q ≡ Equal → point_eq p q ≡ true
point_cmp-same p q is = by_same (point_lt p q) (point_eq p q) is
  where
    by_same : (a b : Bool) → cond a Less (cond b Equal Greater) ≡ Equal → b ≡ true
    by_same true b is = cc
    by_same false true is = refl
    by_same false false is = cc

-- one of two points that are not the same comes first
point_lt-other : (p q : Point) → point_lt p q ≡ false → point_eq p q ≡ false → point_lt q p ≡ true
point_lt-other below below before same = cc
point_lt-other below (instant t) before same = cc
point_lt-other below above before same = cc
point_lt-other (instant s) below before same = refl
point_lt-other (instant s) (instant t) before same = grind (arith, ints)
point_lt-other (instant s) above before same = cc
point_lt-other above below before same = refl
point_lt-other above (instant t) before same = refl
point_lt-other above above before same = cc

pub point_cmp-more : (p q : Point) → point_cmp p q ≡ Greater → point_lt q p ≡ true
point_cmp-more p q is = let both = by_more (point_lt p q) (point_eq p q) is in point_lt-other p q both.0 both.1
  where
    by_more : (a b : Bool) → cond a Less (cond b Equal Greater) ≡ Greater → (a ≡ false) × (b ≡ false)
    by_more true b is = cc
    by_more false true is = cc
    by_more false false is = (refl, refl)

-- no point comes before itself
pub point_lt-same : (p : Point) → point_lt p p ≡ false
point_lt-same below = refl
point_lt-same (instant t) = int_lt-same t
point_lt-same above = refl

-- ---- relations

-- an interval stands in a relation where that is the one in which it stands, and in no other
pub stands_in-found : (found wanted : Relation) (i j : Interval) → IsTrue (is_proper i) → IsTrue (is_proper j) → IsTrue (stands_in found i j) → stands_in wanted i j ≡ true
    → wanted ≡ found
stands_in-found found wanted i j proper other stands is =
    let one = IntervalsStandInOneRelation-law i j proper other in
    one.2 wanted is ∙ sym (one.2 found stands)

-- one interval passes where the relation in which it stands is the wanted one, and else it does not
pub one-found : (found wanted : Relation) (i j : Interval) → IsTrue (stands_in found i j) → found ≡ wanted → filter (stands_in wanted i) (j ∷ []) ≡ j ∷ []
one-found found wanted i j stands same = ap (λ b. cond b (j ∷ []) []) (ap (λ r. stands_in r i j) (sym same) ∙ stands)

pub none-found : (found wanted : Relation) (i j : Interval) → IsTrue (is_proper i) → IsTrue (is_proper j) → IsTrue (stands_in found i j) → found ≢ wanted
    → filter (stands_in wanted i) (j ∷ []) ≡ []
none-found found wanted i j proper other stands apart =
    ap (λ b. cond b (j ∷ []) []) (false_from_ne_true (stands_in wanted i j) (λ is. apart (sym (stands_in-found found wanted i j proper other stands is))))
