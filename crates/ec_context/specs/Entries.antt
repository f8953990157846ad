-- The entries of an event as a table shows them: with the terms that it keeps under the numbers of their properties.
use Rattle.std.specs.Prelude.{◌≡◌, ◌≤◌, ℕ, length, Bool, ◌||◌, ◌==◌, List, [], ◌∷◌, map, Option, Some, None, IsSome, IsTrue, option_map, option_and_then}
use Rattle.std.specs.List.{All, list_any}
use Rattle.std.specs.List.Sorted.{IsStrictlyIncreasing}
use Rattle.ec_terms.specs.declared.theory.Rule.{Rule}
use Rattle.ec_terms.specs.Matching.{Values, filled}
use Rattle.ec_terms.specs.Domain.{GroundLiteral, GroundEntry, ground_literal_of}
use Rattle.ec_store.specs.Table.{KeptProp, prop_at, term_at}
use Rattle.ec_context.specs.declared.entry.Entry.{Entry}
use Rattle.ec_context.specs.declared.entry.EntryLiteral.{EntryLiteral}
use Rattle.ec_context.specs.declared.entry.TheConstants.{MOST_ENTRIES}

-- the entries of one event: so many at most, by ascending numbers of their rules
pub record IsEntryList (entries : List Entry) : Type 0 where
  pub few : length entries ≤ MOST_ENTRIES
  pub order : IsStrictlyIncreasing (map (λ (entry : Entry). entry.rule) entries)

-- what stands in the options, where each of them has something
unfoldable pub each_of : {A : Type 0} → List (Option A) → Option (List A)
each_of [] = Some []
each_of (o ∷ os) = option_and_then (λ a. option_map (λ rest. a ∷ rest) (each_of os)) o

-- the literal with the term that the table keeps under its number, if it keeps one
unfoldable pub shown_literal : List KeptProp → EntryLiteral → Option GroundLiteral
shown_literal table literal = option_map (λ term. record { positive = literal.positive; prop = term }) (term_at literal.prop.0 table)

-- the literals with their terms, if the table keeps each of them
abbrev pub shown_literals : List KeptProp → List EntryLiteral → Option (List GroundLiteral)
shown_literals table literals = each_of (map (shown_literal table) literals)

-- the entry with the terms of its head and its literals, if the table keeps each of them
unfoldable pub shown_entry : List KeptProp → Entry → Option GroundEntry
shown_entry table entry =
    option_and_then
    (λ head. option_map (λ literals. record { rule = entry.rule; kind = entry.kind; head = head; literals = literals }) (shown_literals table entry.literals))
    (term_at entry.head.0 table)

-- the entries with their terms, if the table keeps each of them
abbrev pub shown_entries : List KeptProp → List Entry → Option (List GroundEntry)
shown_entries table entries = each_of (map (shown_entry table) entries)

-- what the rule of this number becomes where its variables have these values
abbrev pub entry_filled : ℕ → Rule → Values → GroundEntry
entry_filled number rule values =
    record { rule = number; kind = rule.kind; head = filled values rule.head; literals = map (ground_literal_of values) rule.literals }

-- the table keeps the head and each literal of the entry
pub record IsKeptEntry (table : List KeptProp) (entry : Entry) : Type 0 where
  pub head : IsSome (prop_at entry.head.0 table)
  pub literals : All (λ (literal : EntryLiteral). IsSome (prop_at literal.prop.0 table)) entry.literals

-- the literal is of the property of this number
abbrev pub is_of : ℕ → EntryLiteral → Bool
is_of id literal = literal.prop.0 == id

-- the number is that of the entry's head or of one of its literals
abbrev pub is_named : ℕ → Entry → Bool
is_named id entry = (entry.head.0 == id) || list_any (is_of id) entry.literals

-- what the second table keeps besides the first is named by one of the entries
abbrev pub NamesAllNew : List KeptProp → List KeptProp → List Entry → Type 0
NamesAllNew before after entries = (id : ℕ) → prop_at id before ≡ None → IsSome (prop_at id after) → IsTrue (list_any (is_named id) entries)
