-- Which kept properties hold at a time, by their numbers.
use Rattle.std.specs.Prelude.{ℕ, ℤ, List, [], filter}
use Rattle.std.specs.Option.{option_map_or}
use Rattle.ec_terms.specs.declared.ids.PropId.{PropId}
use Rattle.ec_terms.specs.Term.{term_text}
use Rattle.ec_axioms.specs.Timeline.{is_held_at}
use Rattle.ec_store.specs.Table.{KeptProp, term_at}
use Rattle.ec_intervals.specs.Table.{IntervalTable, members_at, plain_intervals}

-- the numbers among these whose intervals cover t
abbrev pub held_numbers : {T : Type 0} → (T → ℤ) → IntervalTable T → ℤ → List PropId → List PropId
held_numbers rank intervals t ps = filter (λ p. is_held_at (plain_intervals rank (members_at p.0 intervals)) t) ps

-- the text of the term that is kept under a number
abbrev pub number_text : List KeptProp → PropId → List ℕ
number_text table p = option_map_or term_text (term_at p.0 table) []
