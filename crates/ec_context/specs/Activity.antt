-- When an entry over the numbers of a table is active, and how that stands to the activity of the calculus.
use Rattle.std.specs.Prelude.{◌≡◌, ℕ, ℤ, Bool, List, Some}
use Rattle.std.specs.Bool.{beq}
use Rattle.std.specs.List.{list_all}
use Rattle.ec_terms.specs.declared.ground.Ground.{Ground}
use Rattle.ec_terms.specs.Domain.{GroundEntry}
use Rattle.ec_axioms.specs.Calculus.{PlainEvent, Currency, is_active}
use Rattle.ec_store.specs.Table.{KeptProp, term_at}
use Rattle.ec_context.specs.declared.entry.Entry.{Entry}
use Rattle.ec_context.specs.declared.entry.EntryLiteral.{EntryLiteral}
use Rattle.ec_context.specs.Entries.{shown_entry}

-- what contexts read, by the numbers of properties: whether the property of a number is current at an instant
abbrev pub NumberCurrency : Type 0
NumberCurrency = ℕ → ℤ → Bool

-- a literal agrees with the currency of its property at the instant
abbrev pub literal_agrees : NumberCurrency → ℤ → EntryLiteral → Bool
literal_agrees current t literal = beq (current literal.prop.0 t) literal.positive

-- each literal agrees
unfoldable pub literals_agree : NumberCurrency → ℤ → List EntryLiteral → Bool
literals_agree current t literals = list_all (literal_agrees current t) literals

-- at an instant the one says of each number what the other says of the term that the table keeps under it
abbrev pub IsCurrencyOfTerms : List KeptProp → NumberCurrency → Currency → ℤ → Type 0
IsCurrencyOfTerms table by_number by_term t = (id : ℕ) (term : Ground) → term_at id table ≡ Some term → by_number id t ≡ by_term term t

-- the literals of an entry agree exactly when the entry that the table shows is active for an event, where the two
-- currencies say the same at the event's time
abbrev pub EvaluatingIsActivity : List KeptProp → Type 0
EvaluatingIsActivity table =
    (by_number : NumberCurrency) (by_term : Currency) (event : PlainEvent) → IsCurrencyOfTerms table by_number by_term event.rank →
    (entry : Entry) (ground_entry : GroundEntry) → shown_entry table entry ≡ Some ground_entry →
    literals_agree by_number event.rank entry.literals ≡ is_active by_term (record { event = event; entry = ground_entry })
