-- The label of a property and a time: the text that a certificate must be.
use Rattle.std.specs.Prelude.{ℕ, if◌then◌else◌, List, [], ◌∷◌, ◌++◌, ℤ, length, map, flat_map, codes, decimal}
use Rattle.ec_terms.specs.declared.ground.Ground.{Ground}
use Rattle.ec_terms.specs.declared.theory.Theory.{Theory}
use Rattle.ec_terms.specs.Term.{term_text}
use Rattle.ec_axioms.specs.Calculus.{PlainEvent, Effect, Currency, is_active, is_current}
use Rattle.ec_cone.specs.Cone.{cone_effects, cone_events}

-- `1` for an entry that is active, `0` for one that is not
abbrev pub bit_of : Currency → Effect → ℕ
bit_of current effect = if is_active current effect then 49 else 48

-- the line of an event: its identity, a space, and a bit for each cone entry
unfoldable pub event_line : Theory → Currency → Ground → PlainEvent → List ℕ
event_line theory current p e = e.id ++ 32 ∷ map (bit_of current) (cone_effects theory p e) ++ 10 ∷ []

-- the first line: `certificate`, the property and the time
abbrev pub head_line : (ℤ → List ℕ) → Ground → ℤ → List ℕ
head_line canon p t = codes "certificate " ++ term_text p ++ 32 ∷ canon t ++ 10 ∷ []

-- the last line: `end` and the number of lines of events
abbrev pub end_line : ℕ → List ℕ
end_line count = codes "end " ++ decimal count ++ 10 ∷ []

-- The label: the first line, a line for each event with a cone entry, in order, and the last line. Times are written as `canon` says.
unfoldable pub label_text : Theory → List PlainEvent → (ℤ → List ℕ) → Ground → ℤ → List ℕ
label_text theory events canon p t =
    head_line canon p t
    ++ flat_map (event_line theory (is_current theory events) p) (cone_events theory p events)
    ++ end_line (length (cone_events theory p events))
