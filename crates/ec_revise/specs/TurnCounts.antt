-- Turns by the numbers of properties, and what is tallied of them for each property.
use Rattle.std.specs.Prelude.{◌≡◌, ℕ, ◌+◌, ◌==◌, Bool, true, false, not, ◌&&◌, ◌||◌, if◌then◌else◌, List, length, filter, Option, unwrap_or, is_some}
use Rattle.std.specs.Map.{lookup}
use Rattle.ec_terms.specs.declared.ids.PropId.{PropId}
use Rattle.ec_terms.specs.declared.theory.Kind.{Kind}
use Rattle.ec_terms.specs.declared.theory.Kind.TheVariants.{Initiates, Terminates}
use Rattle.ec_exclusive.specs.Added.{Added, neighbours_of, stands_in_list}
use Rattle.ec_numbered.specs.PropSet.{has_number}
use Rattle.ec_revise.specs.declared.settled.Counts.{Counts}
use Rattle.ec_revise.specs.declared.settled.Tallied.{Tallied}
use Rattle.ec_revise.specs.declared.tally.Part.{Part}
use Rattle.ec_revise.specs.declared.tally.Part.TheVariants.{Inits, Terms, Clashes}
use Rattle.ec_revise.specs.declared.turn.Turn.{Turn}

-- ---- turns

-- what an entry of this kind does is to initiate
abbrev pub is_initiation : Kind → Bool
is_initiation Initiates = true
is_initiation Terminates = false

-- a turn is of an entry that initiates a property, terminates it, or initiates one of its neighbours
abbrev pub initiates_at : PropId → Turn → Bool
initiates_at p turn = is_initiation turn.kind && turn.head.0 == p.0

abbrev pub terminates_at : PropId → Turn → Bool
terminates_at p turn = not (is_initiation turn.kind) && turn.head.0 == p.0

abbrev pub clashes_at : List Added → PropId → Turn → Bool
clashes_at rows p turn = is_initiation turn.kind && stands_in_list p (neighbours_of turn.head rows)

-- how many turns up pass a test, and how many turns down
abbrev pub up_count : (Turn → Bool) → List Turn → ℕ
up_count test turns = length (filter (λ turn. turn.up && test turn) turns)

abbrev pub down_count : (Turn → Bool) → List Turn → ℕ
down_count test turns = length (filter (λ turn. not turn.up && test turn) turns)

-- ---- tallies

-- nothing tallied
abbrev pub no_counts : Counts
no_counts = record { inits = 0; terms = 0; clashes = 0 }

abbrev pub nothing_tallied : Tallied
nothing_tallied = record { up = no_counts; down = no_counts }

-- what is tallied for the property of a number, if it is in the tally
abbrev pub row_at : ℕ → List (ℕ × Tallied) → Option Tallied
row_at n rows = lookup (λ k. n == k) rows

-- and nothing, if it is not
abbrev pub tallied_at : PropId → List (ℕ × Tallied) → Tallied
tallied_at p rows = unwrap_or (row_at p.0 rows) nothing_tallied

-- what is tallied of a property are the turns that count in its marks
pub record IsTallyAt (neighbours : List Added) (turns : List Turn) (p : PropId) (tallied : Tallied) : Type 0 where
  pub inits_up : tallied.up.inits ≡ up_count (initiates_at p) turns
  pub terms_up : tallied.up.terms ≡ up_count (terminates_at p) turns
  pub clashes_up : tallied.up.clashes ≡ up_count (clashes_at neighbours p) turns
  pub inits_down : tallied.down.inits ≡ down_count (initiates_at p) turns
  pub terms_down : tallied.down.terms ≡ down_count (terminates_at p) turns
  pub clashes_down : tallied.down.clashes ≡ down_count (clashes_at neighbours p) turns

-- ---- one turn more

-- one of three counts
abbrev pub count_in : Part → Counts → ℕ
count_in Inits counts = counts.inits
count_in Terms counts = counts.terms
count_in Clashes counts = counts.clashes

-- the counts of one direction
abbrev pub counts_of : Bool → Tallied → Counts
counts_of true tallied = tallied.up
counts_of false tallied = tallied.down

-- one count is one more
abbrev pub one_more : Part → Counts → Counts
one_more Inits counts = record counts { inits = counts.inits + 1 }
one_more Terms counts = record counts { terms = counts.terms + 1 }
one_more Clashes counts = record counts { clashes = counts.clashes + 1 }

-- and so is that of one direction
abbrev pub with_one : Part → Bool → Tallied → Tallied
with_one part true tallied = record tallied { up = one_more part tallied.up }
with_one part false tallied = record tallied { down = one_more part tallied.down }

-- a turn counts for a property once more, in the count and the direction that are its own, and in no other
pub record CountsTurn (neighbours : List Added) (turn : Turn) (p : PropId) (before after : Tallied) : Type 0 where
  pub inits_up : after.up.inits ≡ before.up.inits + (if turn.up && initiates_at p turn then 1 else 0)
  pub terms_up : after.up.terms ≡ before.up.terms + (if turn.up && terminates_at p turn then 1 else 0)
  pub clashes_up : after.up.clashes ≡ before.up.clashes + (if turn.up && clashes_at neighbours p turn then 1 else 0)
  pub inits_down : after.down.inits ≡ before.down.inits + (if not turn.up && initiates_at p turn then 1 else 0)
  pub terms_down : after.down.terms ≡ before.down.terms + (if not turn.up && terminates_at p turn then 1 else 0)
  pub clashes_down : after.down.clashes ≡ before.down.clashes + (if not turn.up && clashes_at neighbours p turn then 1 else 0)

-- one turn is counted for each property of a list, and none for others
pub record CountsEach (props : List PropId) (part : Part) (up : Bool) (before after : List (ℕ × Tallied)) : Type 0 where
  pub counted : (q : PropId) → tallied_at q after ≡ (if has_number q.0 props then with_one part up (tallied_at q before) else tallied_at q before)
  pub rows : (q : PropId) → is_some (row_at q.0 after) ≡ (has_number q.0 props || is_some (row_at q.0 before))

-- a turn counts for a property, in its own way
abbrev pub counts_at : List Added → PropId → Turn → Bool
counts_at neighbours p turn = turn.head.0 == p.0 || clashes_at neighbours p turn
