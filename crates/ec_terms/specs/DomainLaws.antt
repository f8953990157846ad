-- What the laws of a theory's declarations and entries say.
use Rattle.std.specs.Prelude.{◌≡◌, ◌≢◌, ◌↔◌, ◌⊎◌, false, map, IsTrue}
use Rattle.std.specs.List.{Any}
use Rattle.std.specs.List.Sorted.{IsStrictlyIncreasing}
use Rattle.ec_terms.specs.declared.ground.Ground.{Ground}
use Rattle.ec_terms.specs.declared.theory.Theory.{Theory}
use Rattle.ec_terms.specs.declared.pattern.Pattern.{Pattern}
use Rattle.ec_terms.specs.Domain.{are_exclusive, both_fit, entries_of}
use Rattle.ec_terms.specs.Matching.{Values, fits}

-- a property is exclusive to another exactly where the other is exclusive to it
abbrev pub ExcludesBothWays : Theory → Type 0
ExcludesBothWays theory = (p q : Ground) → are_exclusive theory p q ≡ are_exclusive theory q p

-- no property is exclusive to itself
abbrev pub NeverExcludesItself : Theory → Type 0
NeverExcludesItself theory = (p : Ground) → are_exclusive theory p p ≡ false

-- there is one binding under which the first pattern fits the first property, and the second the second
abbrev pub HaveBinding : Pattern → Pattern → Ground → Ground → Type 0
HaveBinding left right p q = (values : Values) × IsTrue (fits values left p) × IsTrue (fits values right q)

-- two patterns fit two properties together exactly where they have a binding for them
abbrev pub FitTogether : Pattern → Pattern → Ground → Ground → Type 0
FitTogether left right p q = IsTrue (both_fit left right p q) ↔ HaveBinding left right p q

-- properties are exclusive exactly where they differ and some declaration has a binding for them, in this order or the other
abbrev pub OneExcludes : Theory → Ground → Ground → Type 0
OneExcludes theory p q =
    IsTrue (are_exclusive theory p q) ↔ ((p ≢ q) × Any (λ d. HaveBinding d.left d.right p q ⊎ HaveBinding d.left d.right q p) theory.exclusives)

-- the entries of an event are in the order of the rules' numbers, with no number twice
abbrev pub EntriesAscend : Theory → Ground → Type 0
EntriesAscend theory event = IsStrictlyIncreasing (map (λ e. e.rule) (entries_of theory event))
