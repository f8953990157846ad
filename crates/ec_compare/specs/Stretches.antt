-- Parts of a list of intervals, the pairs of two such lists, and how members of a reply are put together.
use Rattle.std.specs.Prelude.{ℕ, ◌-◌, List, [], ◌∷◌, ◌++◌, length, take, drop, map, filter, flat_map}
use Rattle.ec_axioms.specs.Timeline.{Interval}
use Rattle.ec_commands.specs.QueryTexts.{Canon, interval_text}
use Rattle.ec_commands.specs.Relations.{begin_point, end_point, point_lt, stands_in}
use Rattle.ec_commands.specs.declared.relation.Relation.{Relation}
use Rattle.ec_compare.specs.declared.fronted.Shown.{Shown}
use Rattle.ec_compare.specs.declared.fronted.Shown.TheVariants.{Right, Both}

-- the members from one place up to another
abbrev pub stretch : {X : Type 0} → ℕ → ℕ → List X → List X
stretch from to xs = take (to - from) (drop from xs)

-- how many of some intervals end before another one begins
abbrev pub count_ahead : Interval → List Interval → ℕ
count_ahead i intervals = length (filter (λ (j : Interval). point_lt (end_point j.until) (begin_point i.from)) intervals)

-- how many of some intervals end before another one ends
abbrev pub count_ending_first : Interval → List Interval → ℕ
count_ending_first i intervals = length (filter (λ (j : Interval). point_lt (end_point j.until) (end_point i.until)) intervals)

-- the pairs of one of some intervals and one of others that stand in a relation, by the first, then by the second
abbrev pub pairs_between : Relation → List Interval → List Interval → List (Interval × Interval)
pairs_between r lefts rights = flat_map (λ i. map (λ j. (i, j)) (filter (stands_in r i) rights)) lefts

-- each interval as a member, behind some bytes
abbrev pub fronted_text : List ℕ → Canon → List Interval → List ℕ
fronted_text front canon intervals = flat_map (λ i. front ++ 32 ∷ interval_text canon i) intervals

-- what is written of the first interval of a pair: nothing, or the interval as a member
abbrev pub front_text : Shown → Canon → Interval → List ℕ
front_text Right canon i = []
front_text Both canon i = 32 ∷ interval_text canon i
