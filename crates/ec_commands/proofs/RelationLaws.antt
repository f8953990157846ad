-- Two proper intervals stand in one relation alone, and relations have inverses.
use Rattle.std.proofs.Common.{◌≡◌, ◌⊎◌, inl, inr, Bool, true, false, ◌&&◌, IsTrue, refl, sym, ap, ◌∙◌, subst}
use Rattle.std.specs.Prelude.{ℤ, int_lt}
use Rattle.std.specs.Ordering.{int_eq}
use Rattle.std.proofs.lemmas.Bool.{false≢true}
use Rattle.ec_lists.proofs.Integers.{int_lt-trans, int_lt-not_after, int_eq-is, int_eq-same, int_lt-same, cases_int, int_eq-from_lt, int_eq-from_gt}
use Rattle.ec_axioms.specs.Timeline.{Interval}
use Rattle.ec_commands.specs.declared.relation.Relation.{Relation}
use Rattle.ec_commands.specs.declared.relation.Relation.TheVariants.{Before, Meets, Overlaps, Starts, During, Finishes, Equals, After, MetBy, OverlappedBy, StartedBy, Contains, FinishedBy}
use Rattle.ec_commands.specs.Relations.{Point, below, instant, above, point_lt, point_eq, begin_point, end_point, points_stand_in, stands_in, inverse, IntervalsStandInOneRelation, RelationsHaveInverses}

-- ---- points

pub point_lt-trans : (p q r : Point) → point_lt p q ≡ true → point_lt q r ≡ true → point_lt p r ≡ true
point_lt-trans below below below first second = absurd (false≢true first)
point_lt-trans below below (instant u) first second = absurd (false≢true first)
point_lt-trans below below above first second = absurd (false≢true first)
point_lt-trans below (instant t) below first second = absurd (false≢true second)
point_lt-trans below (instant t) (instant u) first second = refl
point_lt-trans below (instant t) above first second = refl
point_lt-trans below above below first second = absurd (false≢true second)
point_lt-trans below above (instant u) first second = absurd (false≢true second)
point_lt-trans below above above first second = absurd (false≢true second)
point_lt-trans (instant s) below below first second = absurd (false≢true first)
point_lt-trans (instant s) below (instant u) first second = absurd (false≢true first)
point_lt-trans (instant s) below above first second = absurd (false≢true first)
point_lt-trans (instant s) (instant t) below first second = absurd (false≢true second)
point_lt-trans (instant s) (instant t) (instant u) first second = int_lt-trans s t u first second
point_lt-trans (instant s) (instant t) above first second = refl
point_lt-trans (instant s) above below first second = absurd (false≢true second)
point_lt-trans (instant s) above (instant u) first second = absurd (false≢true second)
point_lt-trans (instant s) above above first second = absurd (false≢true second)
point_lt-trans above below below first second = absurd (false≢true first)
point_lt-trans above below (instant u) first second = absurd (false≢true first)
point_lt-trans above below above first second = absurd (false≢true first)
point_lt-trans above (instant t) below first second = absurd (false≢true first)
point_lt-trans above (instant t) (instant u) first second = absurd (false≢true first)
point_lt-trans above (instant t) above first second = absurd (false≢true first)
point_lt-trans above above below first second = absurd (false≢true first)
point_lt-trans above above (instant u) first second = absurd (false≢true first)
point_lt-trans above above above first second = absurd (false≢true first)

pub point_eq-is : (p q : Point) → point_eq p q ≡ true → p ≡ q
point_eq-is below below same = refl
point_eq-is (instant s) (instant t) same = ap instant (int_eq-is s t same)
point_eq-is above above same = refl
point_eq-is p q same = cc

-- how one point lies to another
data Side : Type 0 where
  less : Side
  same : Side
  more : Side

abbrev is_less : Side → Bool
is_less less = true
is_less same = false
is_less more = false

abbrev is_same : Side → Bool
is_same less = false
is_same same = true
is_same more = false

abbrev is_more : Side → Bool
is_more less = false
is_more same = false
is_more more = true

record LiesBy (p q : Point) (side : Side) : Type 0 where
  lt : point_lt p q ≡ is_less side
  eq : point_eq p q ≡ is_same side
  turned : point_eq q p ≡ is_same side
  gt : point_lt q p ≡ is_more side

LiesBy-less : (p q : Point) → point_lt p q ≡ true → LiesBy p q less
LiesBy-less below (instant t) is = record { lt = refl; eq = refl; turned = refl; gt = refl }
LiesBy-less below above is = record { lt = refl; eq = refl; turned = refl; gt = refl }
LiesBy-less (instant s) (instant t) is = record { lt = is; eq = int_eq-from_lt s t is; turned = int_eq-from_gt t s is; gt = int_lt-not_after s t is }
LiesBy-less (instant s) above is = record { lt = refl; eq = refl; turned = refl; gt = refl }
LiesBy-less below below is = absurd (false≢true is)
LiesBy-less (instant s) below is = absurd (false≢true is)
LiesBy-less above below is = absurd (false≢true is)
LiesBy-less above (instant t) is = absurd (false≢true is)
LiesBy-less above above is = absurd (false≢true is)

LiesBy-more : (p q : Point) → point_lt q p ≡ true → LiesBy p q more
LiesBy-more p q is = let turned = LiesBy-less q p is in record { lt = turned.gt; eq = turned.turned; turned = turned.eq; gt = turned.lt }

LiesBy-same : (p : Point) → LiesBy p p same
LiesBy-same below = record { lt = refl; eq = refl; turned = refl; gt = refl }
LiesBy-same (instant s) = record { lt = int_lt-same s; eq = int_eq-same s; turned = int_eq-same s; gt = int_lt-same s }
LiesBy-same above = record { lt = refl; eq = refl; turned = refl; gt = refl }

-- two points lie in some way
lies : (p q : Point) → (side : Side) × LiesBy p q side
lies below below = (same, LiesBy-same below)
lies below (instant t) = (less, LiesBy-less below (instant t) refl)
lies below above = (less, LiesBy-less below above refl)
lies (instant s) below = (more, LiesBy-more (instant s) below refl)
lies (instant s) (instant t) = by_order (cases_int s t)
  where
    by_order : (s ≡ t) ⊎ ((int_lt s t ≡ true) ⊎ (int_lt t s ≡ true)) → (side : Side) × LiesBy (instant s) (instant t) side
    by_order (inl one) = (same, subst (λ (u : ℤ). LiesBy (instant s) (instant u) same) one (LiesBy-same (instant s)))
    by_order (inr (inl before)) = (less, LiesBy-less (instant s) (instant t) before)
    by_order (inr (inr behind)) = (more, LiesBy-more (instant s) (instant t) behind)
lies (instant s) above = (less, LiesBy-less (instant s) above refl)
lies above below = (more, LiesBy-more above below refl)
lies above (instant t) = (more, LiesBy-more above (instant t) refl)
lies above above = (same, LiesBy-same above)

-- ---- the relations, by how the ends lie: b to c, d to a, a to c and b to d

abbrev table : Relation → Side → Side → Side → Side → Bool
table Before x y z w = is_less x
table Meets x y z w = is_same x
table Overlaps x y z w = is_less z && (is_more x && is_less w)
table Starts x y z w = is_same z && is_less w
table During x y z w = is_more z && is_less w
table Finishes x y z w = is_more z && is_same w
table Equals x y z w = is_same z && is_same w
table After x y z w = is_less y
table MetBy x y z w = is_same y
table OverlappedBy x y z w = is_more z && (is_more y && is_more w)
table StartedBy x y z w = is_same z && is_more w
table Contains x y z w = is_less z && is_more w
table FinishedBy x y z w = is_less z && is_same w

module _ (a b c d : Point) where
  stands-table : (r : Relation) (x y z w : Side) → LiesBy b c x → LiesBy d a y → LiesBy a c z → LiesBy b d w → points_stand_in r a b c d ≡ table r x y z w
  stands-table Before x y z w bc da ac bd = bc.lt
  stands-table Meets x y z w bc da ac bd = bc.eq
  stands-table Overlaps x y z w bc da ac bd = rw (ac.lt, bc.gt, bd.lt) refl
  stands-table Starts x y z w bc da ac bd = rw (ac.eq, bd.lt) refl
  stands-table During x y z w bc da ac bd = rw (ac.gt, bd.lt) refl
  stands-table Finishes x y z w bc da ac bd = rw (ac.gt, bd.eq) refl
  stands-table Equals x y z w bc da ac bd = rw (ac.eq, bd.eq) refl
  stands-table After x y z w bc da ac bd = da.lt
  stands-table MetBy x y z w bc da ac bd = da.eq
  stands-table OverlappedBy x y z w bc da ac bd = rw (ac.gt, da.gt, bd.gt) refl
  stands-table StartedBy x y z w bc da ac bd = rw (ac.turned, bd.gt) refl
  stands-table Contains x y z w bc da ac bd = rw (ac.lt, bd.gt) refl
  stands-table FinishedBy x y z w bc da ac bd = rw (ac.lt, bd.turned) refl

  -- they stand in one relation, and in no other
  abbrev StandsInOne : Type 0
  StandsInOne = (r : Relation) × (points_stand_in r a b c d ≡ true) × ((s : Relation) → points_stand_in s a b c d ≡ true → s ≡ r)

  found : (r : Relation) (x y z w : Side) → LiesBy b c x → LiesBy d a y → LiesBy a c z → LiesBy b d w → table r x y z w ≡ true
      → ((s : Relation) → table s x y z w ≡ true → s ≡ r) → StandsInOne
  found r x y z w bc da ac bd is only =
      (r, stands-table r x y z w bc da ac bd ∙ is, λ s stands. only s (sym (stands-table s x y z w bc da ac bd) ∙ stands))

-- what else than the relation that the sides tell is false
only_before : (s : Relation) → table s less more less less ≡ true → s ≡ Before
only_before Before is = refl
only_before s is = cc

only_meets : (s : Relation) → table s same more less less ≡ true → s ≡ Meets
only_meets Meets is = refl
only_meets s is = cc

only_after : (s : Relation) → table s more less more more ≡ true → s ≡ After
only_after After is = refl
only_after s is = cc

only_met_by : (s : Relation) → table s more same more more ≡ true → s ≡ MetBy
only_met_by MetBy is = refl
only_met_by s is = cc

only_overlaps : (s : Relation) → table s more more less less ≡ true → s ≡ Overlaps
only_overlaps Overlaps is = refl
only_overlaps s is = cc

only_finished_by : (s : Relation) → table s more more less same ≡ true → s ≡ FinishedBy
only_finished_by FinishedBy is = refl
only_finished_by s is = cc

only_contains : (s : Relation) → table s more more less more ≡ true → s ≡ Contains
only_contains Contains is = refl
only_contains s is = cc

only_starts : (s : Relation) → table s more more same less ≡ true → s ≡ Starts
only_starts Starts is = refl
only_starts s is = cc

only_equals : (s : Relation) → table s more more same same ≡ true → s ≡ Equals
only_equals Equals is = refl
only_equals s is = cc

only_started_by : (s : Relation) → table s more more same more ≡ true → s ≡ StartedBy
only_started_by StartedBy is = refl
only_started_by s is = cc

only_during : (s : Relation) → table s more more more less ≡ true → s ≡ During
only_during During is = refl
only_during s is = cc

only_finishes : (s : Relation) → table s more more more same ≡ true → s ≡ Finishes
only_finishes Finishes is = refl
only_finishes s is = cc

only_overlapped_by : (s : Relation) → table s more more more more ≡ true → s ≡ OverlappedBy
only_overlapped_by OverlappedBy is = refl
only_overlapped_by s is = cc

-- ---- the laws

module _ (a b c d : Point) (proper : point_lt a b ≡ true) (other : point_lt c d ≡ true) where
  -- where the two cross, by how their begins and their ends lie
  by_ends : (z w : Side) → LiesBy b c more → LiesBy d a more → LiesBy a c z → LiesBy b d w → StandsInOne a b c d
  by_ends less less bc da ac bd = found a b c d Overlaps more more less less bc da ac bd refl only_overlaps
  by_ends less same bc da ac bd = found a b c d FinishedBy more more less same bc da ac bd refl only_finished_by
  by_ends less more bc da ac bd = found a b c d Contains more more less more bc da ac bd refl only_contains
  by_ends same less bc da ac bd = found a b c d Starts more more same less bc da ac bd refl only_starts
  by_ends same same bc da ac bd = found a b c d Equals more more same same bc da ac bd refl only_equals
  by_ends same more bc da ac bd = found a b c d StartedBy more more same more bc da ac bd refl only_started_by
  by_ends more less bc da ac bd = found a b c d During more more more less bc da ac bd refl only_during
  by_ends more same bc da ac bd = found a b c d Finishes more more more same bc da ac bd refl only_finishes
  by_ends more more bc da ac bd = found a b c d OverlappedBy more more more more bc da ac bd refl only_overlapped_by

  by_da : (y : Side) → LiesBy b c more → LiesBy d a y → StandsInOne a b c d
  by_da less bc da =
      let ca = point_lt-trans c d a other da.lt in
      found a b c d After more less more more bc da (LiesBy-more a c ca) (LiesBy-more b d (point_lt-trans d a b da.lt proper)) refl only_after
  by_da same bc da =
      let one = point_eq-is d a da.eq in
      found a b c d MetBy more same more more bc da (LiesBy-more a c (subst (λ (p : Point). point_lt c p ≡ true) one other))
      (LiesBy-more b d (subst (λ (p : Point). point_lt p b ≡ true) (sym one) proper)) refl only_met_by
  by_da more bc da = let ac = lies a c in let bd = lies b d in by_ends ac.0 bd.0 bc da ac.1 bd.1

  by_bc : (x : Side) → LiesBy b c x → StandsInOne a b c d
  by_bc less bc =
      let ac = point_lt-trans a b c proper bc.lt in
      found a b c d Before less more less less bc (LiesBy-more d a (point_lt-trans a c d ac other)) (LiesBy-less a c ac)
      (LiesBy-less b d (point_lt-trans b c d bc.lt other)) refl only_before
  by_bc same bc =
      let one = point_eq-is b c bc.eq in
      let ac = subst (λ (p : Point). point_lt a p ≡ true) one proper in
      found a b c d Meets same more less less bc (LiesBy-more d a (point_lt-trans a c d ac other)) (LiesBy-less a c ac)
      (LiesBy-less b d (subst (λ (p : Point). point_lt p d ≡ true) (sym one) other)) refl only_meets
  by_bc more bc = let da = lies d a in by_da da.0 bc da.1

  points_in_one : StandsInOne a b c d
  points_in_one = let bc = lies b c in by_bc bc.0 bc.1

pub IntervalsStandInOneRelation-law : IntervalsStandInOneRelation
IntervalsStandInOneRelation-law i j proper other = points_in_one (begin_point i.from) (end_point i.until) (begin_point j.from) (end_point j.until) proper other

point_eq-comm : (p q : Point) → point_eq p q ≡ point_eq q p
point_eq-comm p q = let side = lies p q in side.1.eq ∙ sym side.1.turned

pub RelationsHaveInverses-law : RelationsHaveInverses
RelationsHaveInverses-law Before i j = refl
RelationsHaveInverses-law Meets i j = refl
RelationsHaveInverses-law Overlaps i j = refl
RelationsHaveInverses-law Starts i j = refl
RelationsHaveInverses-law During i j = refl
RelationsHaveInverses-law Finishes i j = refl
RelationsHaveInverses-law Equals i j =
    ap (λ (t : Bool). t && point_eq (end_point j.until) (end_point i.until)) (point_eq-comm (begin_point j.from) (begin_point i.from))
    ∙ ap (λ (t : Bool). point_eq (begin_point i.from) (begin_point j.from) && t) (point_eq-comm (end_point j.until) (end_point i.until))
RelationsHaveInverses-law After i j = refl
RelationsHaveInverses-law MetBy i j = refl
RelationsHaveInverses-law OverlappedBy i j = refl
RelationsHaveInverses-law StartedBy i j = refl
RelationsHaveInverses-law Contains i j = refl
RelationsHaveInverses-law FinishedBy i j = refl
