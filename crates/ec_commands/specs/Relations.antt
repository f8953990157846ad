-- Relations between two intervals: which of the thirteen they stand in. After Allen (1983), in outline.
use Rattle.std.specs.Prelude.{◌≡◌, ℕ, Bool, true, false, ◌&&◌, List, [], ◌∷◌, ℤ, int_lt, Option, Some, None, option_map, codes, bytes_eq, find, map, filter, flat_map, IsTrue}
use Rattle.std.specs.Ordering.{int_eq}
use Rattle.ec_terms.specs.declared.ground.Ground.{Ground}
use Rattle.ec_terms.specs.declared.theory.Theory.{Theory}
use Rattle.ec_axioms.specs.Timeline.{Begin, before_all, begin_at, Interval}
use Rattle.ec_axioms.specs.Calculus.{PlainEvent, intervals_of}
use Rattle.ec_commands.specs.declared.relation.Relation.{Relation}
use Rattle.ec_commands.specs.declared.relation.Relation.TheVariants.{Before, Meets, Overlaps, Starts, During, Finishes, Equals, After, MetBy, OverlappedBy, StartedBy, Contains, FinishedBy}

-- ---- words

-- each relation with its word
unfoldable pub relation_words : List (List ℕ × Relation)
relation_words =
    (codes "before", Before) ∷ (codes "meets", Meets) ∷ (codes "overlaps", Overlaps) ∷ (codes "starts", Starts)
    ∷ (codes "during", During) ∷ (codes "finishes", Finishes) ∷ (codes "equals", Equals) ∷ (codes "after", After)
    ∷ (codes "met_by", MetBy) ∷ (codes "overlapped_by", OverlappedBy) ∷ (codes "started_by", StartedBy)
    ∷ (codes "contains", Contains) ∷ (codes "finished_by", FinishedBy) ∷ []

-- the relation that a word spells, or none
unfoldable pub relation_spelt : List ℕ → Option Relation
relation_spelt word = option_map (λ (known : List ℕ × Relation). known.1) (find (λ known. bytes_eq known.0 word) relation_words)

-- ---- points

-- where an interval begins or ends: below all instants, at one, or above all
pub data Point : Type 0 where
  below : Point
  instant : ℤ → Point
  above : Point

-- a point lies before another
abbrev pub point_lt : Point → Point → Bool
point_lt below below = false
point_lt below (instant t) = true
point_lt below above = true
point_lt (instant s) below = false
point_lt (instant s) (instant t) = int_lt s t
point_lt (instant s) above = true
point_lt above below = false
point_lt above (instant t) = false
point_lt above above = false

-- two points are one
abbrev pub point_eq : Point → Point → Bool
point_eq below below = true
point_eq below (instant t) = false
point_eq below above = false
point_eq (instant s) below = false
point_eq (instant s) (instant t) = int_eq s t
point_eq (instant s) above = false
point_eq above below = false
point_eq above (instant t) = false
point_eq above above = true

-- where an interval begins: `-inf` lies below all instants
abbrev pub begin_point : Begin → Point
begin_point before_all = below
begin_point (begin_at s) = instant s

-- where it ends: `inf` lies above all instants
abbrev pub end_point : Option ℤ → Point
end_point None = above
end_point (Some x) = instant x

-- it begins before it ends
abbrev pub is_proper : Interval → Bool
is_proper i = point_lt (begin_point i.from) (end_point i.until)

-- ---- relations

-- an interval from a to b stands in a relation to one from c to d
abbrev pub points_stand_in : Relation → Point → Point → Point → Point → Bool
points_stand_in Before a b c d = point_lt b c
points_stand_in Meets a b c d = point_eq b c
points_stand_in Overlaps a b c d = point_lt a c && (point_lt c b && point_lt b d)
points_stand_in Starts a b c d = point_eq a c && point_lt b d
points_stand_in During a b c d = point_lt c a && point_lt b d
points_stand_in Finishes a b c d = point_lt c a && point_eq b d
points_stand_in Equals a b c d = point_eq a c && point_eq b d
points_stand_in After a b c d = point_lt d a
points_stand_in MetBy a b c d = point_eq d a
points_stand_in OverlappedBy a b c d = point_lt c a && (point_lt a d && point_lt d b)
points_stand_in StartedBy a b c d = point_eq c a && point_lt d b
points_stand_in Contains a b c d = point_lt a c && point_lt d b
points_stand_in FinishedBy a b c d = point_lt a c && point_eq d b

-- the first interval stands in the relation to the second
abbrev pub stands_in : Relation → Interval → Interval → Bool
stands_in r i j = points_stand_in r (begin_point i.from) (end_point i.until) (begin_point j.from) (end_point j.until)

-- the relation that the second has to the first where the first has this one to the second
abbrev pub inverse : Relation → Relation
inverse Before = After
inverse Meets = MetBy
inverse Overlaps = OverlappedBy
inverse Starts = StartedBy
inverse During = Contains
inverse Finishes = FinishedBy
inverse Equals = Equals
inverse After = Before
inverse MetBy = Meets
inverse OverlappedBy = Overlaps
inverse StartedBy = Starts
inverse Contains = During
inverse FinishedBy = Finishes

-- ---- pairs

-- the pairs of an interval of p and one of q that stand in the relation, by the first, then by the second
abbrev pub pairs_of : Theory → List PlainEvent → Ground → Relation → Ground → List (Interval × Interval)
pairs_of theory events p r q =
    flat_map (λ i. map (λ j. (i, j)) (filter (stands_in r i) (intervals_of theory events q))) (intervals_of theory events p)

-- ---- laws

-- Two proper intervals stand in one of the relations, and in no other.
abbrev pub IntervalsStandInOneRelation : Type 0
IntervalsStandInOneRelation =
    (i j : Interval) → IsTrue (is_proper i) → IsTrue (is_proper j)
    → (r : Relation) × IsTrue (stands_in r i j) × ((s : Relation) → IsTrue (stands_in s i j) → s ≡ r)

-- The first stands in a relation to the second as the second stands in its inverse to the first.
abbrev pub RelationsHaveInverses : Type 0
RelationsHaveInverses = (r : Relation) (i j : Interval) → stands_in (inverse r) j i ≡ stands_in r i j
