-- Which entries of an event are active, as the bits of a word.
use Rattle.std.specs.Prelude.{◌≡◌, ℕ, Bool, false, ◌==◌, slice_get}
use Rattle.std.specs.Int.{bit_at}
use Rattle.std.specs.Option.{option_map_or}
use Rattle.ec_terms.specs.declared.theory.Theory.{Theory}
use Rattle.ec_axioms.specs.Calculus.{PlainEvent, Currency, effects_of, is_active}

-- bit k of a word is set
abbrev pub is_bit_set : ℕ → ℕ → Bool
is_bit_set word k = bit_at word k == 1

-- the entry at a place of an event is active where contexts read the given currency; at a place without an entry none is
abbrev pub is_active_at : Theory → Currency → PlainEvent → ℕ → Bool
is_active_at theory current event k = option_map_or (is_active current) (slice_get (effects_of theory event) k) false

-- bit k of the word says whether the entry at place k is active
abbrev pub AreActiveBits : Theory → Currency → PlainEvent → ℕ → Type 0
AreActiveBits theory current event word = (k : ℕ) → is_bit_set word k ≡ is_active_at theory current event k
