-- What a journal keeps: how many updates were accepted, and the records of the latest of them, from which the past of a list follows.
use Rattle.std.specs.Prelude.{◌≡◌, ℕ, ◌+◌, ◌-◌, ◌≤◌, ◌<◌, ◌==◌, nat_le, if◌then◌else◌, List, [], ◌∷◌, length}
use Rattle.ec_terms.specs.declared.theory.Theory.{Theory}
use Rattle.ec_commands.specs.declared.limits.TheConstants.{MOST_PAST}
use Rattle.ec_axioms.specs.Calculus.{PlainEvent}
use Rattle.ec_replies.specs.Past.{Accepted, Past}
use Rattle.ec_replies.specs.RunLaws.{IsListWithinLimits}
use Rattle.ec_past.specs.Records.{AreMade, PlainRecord, redone, undone}

-- how many updates were accepted, and the records of those that are kept, the latest update first
pub record PlainJournal : Type 0 where
  pub count : ℕ
  pub kept : List (List PlainRecord)

-- the weight of an accepted update with these records: how many they are, or 1 if there are none
abbrev pub weight_of : {X : Type 0} → List X → ℕ
weight_of records = if length records == 0 then 1 else length records

-- what several weigh together
abbrev pub weights_of : {X : Type 0} → List (List X) → ℕ
weights_of [] = 0
weights_of (records ∷ earlier) = weight_of records + weights_of earlier

-- the latest of them, as long as their weights together are no more than there is room for
unfoldable pub latest_within : {X : Type 0} → ℕ → List (List X) → List (List X)
latest_within room [] = []
latest_within room (records ∷ earlier) = if nat_le (weight_of records) room then records ∷ latest_within (room - weight_of records) earlier else []

-- the accepted updates of a past whose last list is this one
abbrev pub kept_from : List PlainEvent → List (List PlainRecord) → List Accepted
kept_from after [] = []
kept_from after (records ∷ earlier) = record { before = undone records after; weight = weight_of records } ∷ kept_from (undone records after) earlier

-- the past of a list, by the journal of the updates that led to it
abbrev pub past_of : List PlainEvent → PlainJournal → Past
past_of events journal = record { count = journal.count; kept = kept_from events journal.kept }

-- the journal with one accepted update more
abbrev pub with_records : List PlainRecord → PlainJournal → PlainJournal
with_records records journal = record { count = journal.count + 1; kept = latest_within MOST_PAST (records ∷ journal.kept) }

-- an accepted update that led from one list to another
pub record IsStep (theory : Theory) (before : List PlainEvent) (records : List PlainRecord) (after : List PlainEvent) : Type 0 where
  pub within : IsListWithinLimits theory before
  pub made : AreMade theory before records
  pub leads : redone records before ≡ after

-- each of the updates led from the list before it to the next one, the last of them to this list
abbrev pub AreSteps : Theory → List PlainEvent → List (List PlainRecord) → Type 0
AreSteps theory after [] = Unit {0}
AreSteps theory after (records ∷ earlier) = IsStep theory (undone records after) records after × AreSteps theory (undone records after) earlier

-- The fields of a journal: what is kept weighs as much as is said, no more than there is room for, and there is room for one more.
pub record IsJournal {X : Type 0} (weight : ℕ) (kept : List (List X)) (capacity : ℕ) : Type 0 where
  pub weighs : weight ≡ weights_of kept
  pub few : weight ≤ MOST_PAST
  pub room : MOST_PAST < capacity
