-- The updates that lead from one list of a past to another, and how many they are.
use Rattle.std.specs.Prelude.{ℕ, ◌-◌, nat_le, if◌then◌else◌, List, [], ◌∷◌, ◌++◌, map, take, drop}
use Rattle.ec_axioms.specs.Changes.{PlainUpdate}
use Rattle.ec_replies.specs.Past.{Past, total_weight}
use Rattle.ec_past.specs.Records.{PlainRecord, redo_of, undos_of}
use Rattle.ec_past.specs.Journals.{PlainJournal}

-- the updates that take accepted updates back, the latest of which is the first
abbrev pub undos_of_all : List (List PlainRecord) → List PlainUpdate
undos_of_all [] = []
undos_of_all (records ∷ earlier) = undos_of records ++ undos_of_all earlier

-- the updates that make them again
abbrev pub redos_of_all : List (List PlainRecord) → List PlainUpdate
redos_of_all [] = []
redos_of_all (records ∷ earlier) = redos_of_all earlier ++ map redo_of records

-- the updates that lead from the list after so many accepted updates to the list after so many others
abbrev pub way_between : PlainJournal → ℕ → ℕ → List PlainUpdate
way_between journal from to =
    if nat_le to from then undos_of_all (drop (journal.count - from) (take (journal.count - to) journal.kept))
    else redos_of_all (drop (journal.count - to) (take (journal.count - from) journal.kept))

-- what the accepted updates between the two weigh
abbrev pub weight_between : Past → ℕ → ℕ → ℕ
weight_between past from to =
    if nat_le to from then total_weight (drop (past.count - from) (take (past.count - to) past.kept))
    else total_weight (drop (past.count - to) (take (past.count - from) past.kept))
