-- What becomes of a table while terms are kept in it: what stays, which numbers are new, and how it is without them.
use Rattle.std.specs.Prelude.{◌≡◌, ℕ, Bool, false, not, ◌||◌, List, [], ◌∷◌, filter, Some, None, IsSome, IfSome, IsTrue}
use Rattle.ec_terms.specs.declared.ids.PropId.{PropId}
use Rattle.ec_numbered.specs.PropSet.{has_number}
use Rattle.ec_store.specs.Table.{KeptProp, prop_at, mentions_at}

-- the second table keeps all that the first keeps, under the same numbers, with the same terms and mentions
abbrev pub KeepsAll : List KeptProp → List KeptProp → Type 0
KeepsAll before after = (id : ℕ) → IsSome (prop_at id before) → prop_at id after ≡ prop_at id before

-- the second table keeps all that the first keeps, and nothing mentions what it keeps besides
pub record IsWidened (before after : List KeptProp) : Type 0 where
  pub kept : KeepsAll before after
  pub unmentioned : (id : ℕ) → prop_at id before ≡ None → IfSome (mentions_at id after) (λ count. count ≡ 0)

-- ---- new numbers

-- the table without the properties of these numbers
abbrev pub without_props : List PropId → List KeptProp → List KeptProp
without_props props table = filter (λ kept. not (has_number kept.id props)) table

-- the numbers are distinct, and the table keeps a property under each that nothing mentions
unfoldable pub AreUnmentioned : List PropId → List KeptProp → Type 0
AreUnmentioned [] table = Unit {0}
AreUnmentioned (p ∷ props) table = (mentions_at p.0 table ≡ Some 0) × ((has_number p.0 props ≡ false) × AreUnmentioned props table)

-- Terms are kept in a table that has some new numbers: the table keeps all that it kept, without the new numbers it is
-- what it was without those of before, and the new numbers are distinct and unmentioned.
pub record HasKept (before : List KeptProp) (added_before : List PropId) (after : List KeptProp) (added_after : List PropId) : Type 0 where
  pub kept : KeepsAll before after
  pub back : without_props added_after after ≡ without_props added_before before
  pub unmentioned : AreUnmentioned added_after after

-- each number that is new now was new before, or passes the test
abbrev pub AddsOnly : (ℕ → Bool) → List PropId → List PropId → Type 0
AddsOnly test added_before added_after = (id : ℕ) → IsTrue (has_number id added_after) → IsTrue (has_number id added_before || test id)
