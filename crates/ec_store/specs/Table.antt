-- A table of properties: distinct terms in term order, each under a number and with a count of its mentions.
use Rattle.std.specs.Prelude.{◌≡◌, ℕ, Bool, not, if◌then◌else◌, ◌==◌, List, length, map, filter, find, filter_map, Option, Some, option_map, IsTrue}
use Rattle.std.specs.List.{All}
use Rattle.std.specs.declared.cmp.Ordering.{Ordering}
use Rattle.std.specs.Ordering.{nat_cmp, is_lt, ordering_then}
use Rattle.ec_terms.specs.declared.ground.Ground.{Ground}
use Rattle.ec_terms.specs.declared.ids.PropId.{PropId}
use Rattle.ec_terms.specs.Term.{name_cmp, names_are_names, term_cmp, term_eq}
use Rattle.ec_store.specs.Held.{AreKeyed, place_to, slot_under}
use Rattle.ec_store.specs.declared.slots.KeyedSlot.{KeyedSlot}
use Rattle.ec_store.specs.PropKeys.{key_of}
use Rattle.ec_rows.specs.Ordered.{is_ascending, with_member}
use Rattle.ec_store.specs.declared.property.Property.{Property}

-- a kept property: its number, its term, and how often it is mentioned
pub record KeptProp : Type 0 where
  pub id : ℕ
  pub term : Ground
  pub mentions : ℕ

-- ---- what is found

-- the kept property of a number, if there is one
abbrev pub prop_at : ℕ → List KeptProp → Option KeptProp
prop_at id table = find (λ kept. kept.id == id) table

-- the term under a number
abbrev pub term_at : ℕ → List KeptProp → Option Ground
term_at id table = option_map (λ kept. kept.term) (prop_at id table)

-- the mentions under a number
abbrev pub mentions_at : ℕ → List KeptProp → Option ℕ
mentions_at id table = option_map (λ kept. kept.mentions) (prop_at id table)

-- the number under which a term is kept, if it is
abbrev pub prop_of : Ground → List KeptProp → Option ℕ
prop_of term table = option_map (λ kept. kept.id) (find (λ kept. term_eq kept.term term) table)

-- ---- the order

-- a kept property stands before another where its term does
abbrev pub prop_before : KeptProp → KeptProp → Bool
prop_before a b = is_lt (term_cmp a.term b.term)

-- each property stands before all that follow it, so that no term is kept twice
abbrev pub is_in_order : List KeptProp → Bool
is_in_order table = is_ascending prop_before table

-- how a term stands to a name and a number of arguments: by the name, then by the number
abbrev pub arity_cmp : Ground → List ℕ → ℕ → Ordering
arity_cmp term name arity = ordering_then (name_cmp term.name name) (nat_cmp (length term.args) arity)

-- ---- changes

-- a property that nothing mentions yet
abbrev pub unmentioned : ℕ → Ground → KeptProp
unmentioned id term = record { id = id; term = term; mentions = 0 }

-- the table with a new property in its place, mentioned 0 times
abbrev pub with_prop : ℕ → Ground → List KeptProp → List KeptProp
with_prop id term table = with_member prop_before (unmentioned id term) table

-- the table without the property of a number
abbrev pub without_prop : ℕ → List KeptProp → List KeptProp
without_prop id table = filter (λ kept. not (kept.id == id)) table

-- the property mentioned so often, if it is the one of a number
abbrev pub mentioned : ℕ → ℕ → KeptProp → KeptProp
mentioned id count kept = if kept.id == id then record kept { mentions = count } else kept

-- the table with that count of mentions under a number
abbrev pub with_mentions : ℕ → ℕ → List KeptProp → List KeptProp
with_mentions id count table = map (mentioned id count) table

-- ---- how a table keeps them

-- a property as it is kept under a number
abbrev pub kept_as : ℕ → Property → KeptProp
kept_as id property = record { id = id; term = property.term; mentions = property.mentions }

-- the number of a kept property
abbrev pub number_of : KeptProp → PropId
number_of kept = record { 0 = kept.id }

-- the properties under these numbers, in this order
abbrev pub kept_of : (ℕ → Option Property) → List PropId → List KeptProp
kept_of property_at order = filter_map (λ p. option_map (kept_as p.0) (property_at p.0)) order

-- Each number of the order has a property; they are in order; and a number finds what is kept under it.
pub record IsTable (property_at : ℕ → Option Property) (order : List PropId) : Type 0 where
  pub numbers : order ≡ map number_of (kept_of property_at order)
  pub in_order : IsTrue (is_in_order (kept_of property_at order))
  pub found : (id : ℕ) → prop_at id (kept_of property_at order) ≡ option_map (kept_as id) (property_at id)

-- ---- how terms find them

-- how the term under a number stands to one that is looked for
abbrev pub term_place : List KeptProp → Ground → ℕ → Ordering
term_place table sought number = place_to term_cmp sought (term_at number table)

-- Each kept property is the one under its number, the names in its term are names, its number stands under the key of its term, and a
-- term finds the number under which it is kept, if it is.
pub record IsFoundByKey (slots : List KeyedSlot) (table : List KeptProp) : Type 0 where
  pub numbers : All (λ (kept : KeptProp). prop_at kept.id table ≡ Some kept) table
  pub names : All (λ (kept : KeptProp). IsTrue (names_are_names kept.term)) table
  pub keyed : AreKeyed key_of term_cmp (λ id. term_at id table) slots
  pub found : (term : Ground) → slot_under term_cmp (λ id. term_at id table) slots term ≡ prop_of term table
