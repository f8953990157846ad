-- What it is for the tables to be those of a list of mentions, and what further mentions make of them.
use Rattle.std.specs.Prelude.{◌≡◌, ◌≤◌, ℕ, ℤ, ◌+◌, ◌-◌, nat_lt, Bool, ◌||◌, if◌then◌else◌, List, ◌∷◌, ◌++◌, length, filter, map, flat_map, filter_map, Some, IsSome, IsTrue, IsFalse, unwrap_or}
use Rattle.std.specs.List.{list_any}
use Rattle.std.specs.List.Sorted.{IsPermutation}
use Rattle.ec_terms.specs.declared.ids.PropId.{PropId}
use Rattle.ec_terms.specs.declared.ground.Ground.{Ground}
use Rattle.ec_terms.specs.declared.theory.Theory.{Theory}
use Rattle.ec_terms.specs.Term.{term_eq}
use Rattle.ec_terms.specs.Domain.{is_initial, entries_of}
use Rattle.ec_axioms.specs.Calculus.{PlainEvent}
use Rattle.ec_axioms.specs.Links.{is_live}
use Rattle.ec_axioms.specs.Changes.{is_history, has_event, with_event, without_event}
use Rattle.ec_check.specs.declared.limits.TheConstants.{MOST_INITIALS}
use Rattle.ec_changes.specs.LiveLaws.{ListsInitials}
use Rattle.ec_changes.specs.LinkLaws.{links_of}
use Rattle.ec_store.specs.Table.{KeptProp, prop_of, term_at, mentions_at}
use Rattle.ec_exclusive.specs.Neighbours.{Neighbourhoods}
use Rattle.ec_context.specs.declared.entry.Entry.{Entry}
use Rattle.ec_context.specs.declared.entry.EntryLiteral.{EntryLiteral}
use Rattle.ec_context.specs.Entries.{shown_entries}
use Rattle.ec_points.specs.Table.{PointTable, is_initial_at}
use Rattle.ec_parts.specs.declared.tally.Tally.{Tally}
use Rattle.ec_parts.specs.Tables.{held_mention, AreAllAdded}
use Rattle.ec_parts.specs.Caches.{AreInitialsOf}
use Rattle.ec_parts.specs.StandFor.{AreTables, StandForBoth, View}

-- ---- the tables of some mentions

-- a property is live where these are the mentions
abbrev pub is_live_by : Theory → List Ground → Ground → Bool
is_live_by theory mentions p = is_initial theory p || list_any (term_eq p) mentions

-- the table keeps what the mentions make live, and counts those of each property that it keeps, with the held one
pub record AreKeptBy (theory : Theory) (mentions : List Ground) (table : List KeptProp) : Type 0 where
  pub live : (p : Ground) → IsTrue (is_live_by theory mentions p) → IsSome (prop_of p table)
  pub counts : (id : ℕ) (p : Ground) → term_at id table ≡ Some p → mentions_at id table ≡ Some (length (filter (term_eq p) mentions) + held_mention theory p)

-- the tally counts the mentions and their links
pub record IsTallyBy (theory : Theory) (mentions : List Ground) (tally : Tally) : Type 0 where
  pub mentions_by : tally.mentions ≡ length mentions
  pub links_by : tally.links ≡ links_of theory mentions

-- the tables are those of the mentions
pub record AreTablesBy {T : Type 0} (theory : Theory) (mentions : List Ground) (table : List KeptProp) (around : Neighbourhoods) (points : PointTable T) (tally : Tally) : Type 0 where
  pub kept : AreKeptBy theory mentions table
  pub added : AreAllAdded theory table around
  pub initials : AreInitialsOf theory table points
  pub tally_by : IsTallyBy theory mentions tally

-- ---- what a mention adds to the links

-- how often the table counts a property as mentioned
abbrev pub count_at : ℕ → List KeptProp → ℕ
count_at id table = unwrap_or (mentions_at id table) 0

-- the mentions of a property by events: all but the held one
abbrev pub told_at : {T : Type 0} → ℕ → List KeptProp → PointTable T → ℕ
told_at id table points = count_at id table - (if is_initial_at id points then 1 else 0)

-- what a mention adds to the links by one neighbour: one where the neighbour is live and, where the mention makes its
-- property live, each mention of the neighbour
unfoldable pub links_to : {T : Type 0} → Bool → List KeptProp → PointTable T → PropId → ℕ
links_to fresh table points q = (if nat_lt 0 (count_at q.0 table) then 1 else 0) + (if fresh then told_at q.0 table points else 0)

-- ---- the mentions of entries

-- the properties that an entry mentions: its head, then those of its literals
abbrev pub entry_props : Entry → List PropId
entry_props entry = entry.head ∷ map (λ (literal : EntryLiteral). literal.prop) entry.literals

-- the properties that the entries of an event mention
abbrev pub list_props : List Entry → List PropId
list_props list = flat_map entry_props list

-- the terms that a table keeps under some numbers
abbrev pub terms_of : List KeptProp → List PropId → List Ground
terms_of table props = filter_map (λ p. term_at p.0 table) props

-- these properties are mentioned once more each: the terms stay, and the tables of any mentions become those of the
-- mentions with these
pub record HasMentioned {T : Type 0} (around : Neighbourhoods) (points : PointTable T) (props : List PropId) (before : List KeptProp) (old : Tally) (after : List KeptProp) (new : Tally) : Type 0 where
  pub terms : (id : ℕ) → term_at id after ≡ term_at id before
  pub more : new.mentions ≡ old.mentions + length props
  pub tables :
      (theory : Theory) (mentions all : List Ground) → ListsInitials theory → IsPermutation (terms_of before props ++ mentions) all
      → AreTablesBy theory mentions before around points old → AreTablesBy theory all after around points new

-- these properties are mentioned once less each: the terms stay, and the tables of mentions with these become those of
-- the others
pub record HasReleased {T : Type 0} (around : Neighbourhoods) (points : PointTable T) (props : List PropId) (before : List KeptProp) (old : Tally) (after : List KeptProp) (new : Tally) : Type 0 where
  pub terms : (id : ℕ) → term_at id after ≡ term_at id before
  pub less : new.mentions + length props ≡ old.mentions
  pub tables :
      (theory : Theory) (mentions : List Ground) → ListsInitials theory
      → AreTablesBy theory (terms_of before props ++ mentions) before around points old → AreTablesBy theory mentions after around points new

-- the tables are those of some mentions with these properties, under a theory that lists its few initial properties
pub record AreSomeTables {T : Type 0} (props : List PropId) (table : List KeptProp) (around : Neighbourhoods) (points : PointTable T) (tally : Tally) : Type 0 where
  pub theory : Theory
  pub mentions : List Ground
  pub lists : ListsInitials theory
  pub few : length theory.initials ≤ MOST_INITIALS
  pub tables : AreTablesBy theory (terms_of table props ++ mentions) table around points tally

-- ---- the tables of a list of events

-- the tables are those of some list of events
pub record AreOfEvents {T : Type 0} (theory : Theory) (table : List KeptProp) (around : Neighbourhoods) (points : PointTable T) (tally : Tally) : Type 0 where
  pub events : List PlainEvent
  pub tables : AreTables theory events table around points tally

-- the tables are those of some history, which has an event of these entries
pub record AreOfEventsWith {T : Type 0} (theory : Theory) (entries : List Entry) (table : List KeptProp) (around : Neighbourhoods) (points : PointTable T) (tally : Tally) : Type 0 where
  pub events : List PlainEvent
  pub event : PlainEvent
  pub history : IsTrue (is_history events)
  pub there : IsTrue (has_event events event)
  pub shown : shown_entries table entries ≡ Some (entries_of theory event.term)
  pub tables : AreTables theory events table around points tally

-- the tables of any list of events become those of the list with the event of these entries in its place
abbrev pub TakesEventIn : {T : Type 0} → Theory → List Entry → Neighbourhoods → PointTable T → List KeptProp → Tally → List KeptProp → Tally → Type 0
TakesEventIn theory entries around points before old after new =
    (events : List PlainEvent) (event : PlainEvent) → shown_entries before entries ≡ Some (entries_of theory event.term)
    → AreTables theory events before around points old → AreTables theory (with_event event events) after around points new

-- the tables of any history become those of the history without its event of these entries
abbrev pub TakesEventOut : {T : Type 0} → Theory → List Entry → Neighbourhoods → PointTable T → List KeptProp → Tally → List KeptProp → Tally → Type 0
TakesEventOut theory entries around points before old after new =
    (events : List PlainEvent) (event : PlainEvent) → shown_entries before entries ≡ Some (entries_of theory event.term)
    → IsTrue (is_history events) → IsTrue (has_event events event)
    → AreTables theory events before around points old → AreTables theory (without_event event.id events) after around points new

-- ---- the parts of two lists

-- parts that stand for any two lists stand for them with the event of these entries in its place in the list to come
abbrev pub TakeEventIn : {T : Type 0} → (T → ℤ) → Theory → List Entry → View T → Tally → View T → Tally → Type 0
TakeEventIn rank theory entries before old after new =
    (now soon : List PlainEvent) (event : PlainEvent) → shown_entries before.table entries ≡ Some (entries_of theory event.term)
    → StandForBoth rank theory now soon before old → StandForBoth rank theory now (with_event event soon) after new

-- parts that stand for any two lists stand for them without the event of these entries in the list to come
abbrev pub TakeEventOut : {T : Type 0} → (T → ℤ) → Theory → List Entry → View T → Tally → View T → Tally → Type 0
TakeEventOut rank theory entries before old after new =
    (now soon : List PlainEvent) (event : PlainEvent) → shown_entries before.table entries ≡ Some (entries_of theory event.term)
    → IsTrue (is_history soon) → IsTrue (has_event soon event)
    → StandForBoth rank theory now soon before old → StandForBoth rank theory now (without_event event.id soon) after new

-- ---- properties that are forgotten

-- the term that a table keeps under a number, if there is one, is not live in a list
abbrev pub IsNotLive : Theory → List PlainEvent → ℕ → List KeptProp → Type 0
IsNotLive theory events id table = (p : Ground) → term_at id table ≡ Some p → IsFalse (is_live theory events p)

-- parts that stand for any two lists, in the present one of which the property of a number is not live, stand for them still
abbrev pub ForgetsOne : {T : Type 0} → (T → ℤ) → Theory → PropId → View T → View T → Type 0
ForgetsOne rank theory p before after =
    (now soon : List PlainEvent) (tally : Tally) → IsNotLive theory now p.0 before.table
    → StandForBoth rank theory now soon before tally → StandForBoth rank theory now soon after tally
