-- The past of a run: which accepted updates it had, and the lists of events that can still be asked about.
use Rattle.std.specs.Prelude.{ℕ, ◌+◌, ◌-◌, ◌==◌, nat_le, if◌then◌else◌, List, [], ◌∷◌, length}
use Rattle.ec_commands.specs.declared.limits.TheConstants.{MOST_PAST}
use Rattle.ec_axioms.specs.Calculus.{PlainEvent}
use Rattle.ec_axioms.specs.Changes.{PlainUpdate}

-- an accepted update: the list that it was made on, and its weight, which is how many single updates it has, or 1 if it has none
pub record Accepted : Type 0 where
  pub before : List PlainEvent
  pub weight : ℕ

-- how many updates were accepted, and those whose lists can still be asked about, the latest first
pub record Past : Type 0 where
  pub count : ℕ
  pub kept : List Accepted

-- before the first update
unfoldable pub empty_past : Past
empty_past = record { count = 0; kept = [] }

-- the latest updates, as long as their weights together are no more than there is room for
unfoldable pub within_window : ℕ → List Accepted → List Accepted
within_window room [] = []
within_window room (update ∷ earlier) = if nat_le update.weight room then update ∷ within_window (room - update.weight) earlier else []

-- the weights of accepted updates together
abbrev pub total_weight : List Accepted → ℕ
total_weight [] = 0
total_weight (update ∷ earlier) = update.weight + total_weight earlier

-- the weight of a commit of these updates
abbrev pub commit_weight : List PlainUpdate → ℕ
commit_weight held = if length held == 0 then 1 else length held

-- the past with one accepted update more
unfoldable pub with_accepted : Accepted → Past → Past
with_accepted update past = record { count = past.count + 1; kept = within_window MOST_PAST (update ∷ past.kept) }

-- the least number of accepted updates whose list can still be asked about
abbrev pub first_kept : Past → ℕ
first_kept past = past.count - length past.kept

-- the list so many updates back from the present one
unfoldable pub list_back : ℕ → List PlainEvent → List Accepted → List PlainEvent
list_back n events [] = events
list_back n events (update ∷ earlier) = if n == 0 then events else list_back (n - 1) update.before earlier

-- the list after so many accepted updates, where the present one is the list after all of them
abbrev pub list_after : ℕ → List PlainEvent → Past → List PlainEvent
list_after k events past = list_back (past.count - k) events past.kept
