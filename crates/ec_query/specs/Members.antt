-- The members of a reply, as they follow their count.
use Rattle.std.specs.Prelude.{ℕ, ℤ, List, ◌∷◌, flat_map}
use Rattle.ec_commands.specs.QueryTexts.{Canon, interval_text, event_text}
use Rattle.ec_rows.specs.declared.span.Span.{Span}
use Rattle.ec_store.specs.Store.{Kept, plain_of}
use Rattle.ec_intervals.specs.Table.{plain_interval, span_interval}

-- each member behind a space, by its text
abbrev pub members_text : {X : Type 0} → (X → List ℕ) → List X → List ℕ
members_text text members = flat_map (λ member. 32 ∷ text member) members

-- a span as the interval that it is
abbrev pub span_text : {T : Type 0} → (T → ℤ) → Canon → Span T → List ℕ
span_text rank canon span = interval_text canon (plain_interval rank (span_interval span))

-- a kept event as the calculus has it
abbrev pub kept_text : {T : Type 0} → (T → ℤ) → Canon → Kept T → List ℕ
kept_text rank canon kept = event_text canon (plain_of rank kept)
