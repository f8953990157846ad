-- The new currency where it is not the old one: what dirty properties have.
use Rattle.std.proofs.Common.{◌≡◌, ℤ, pos, ◌+ℤ◌, Bool, true, false, not, List, None, refl, sym, ap, ◌∙◌}
use Rattle.std.specs.Prelude.{unwrap_or, is_some}
use Rattle.std.specs.Bool.{beq}
use Rattle.std.proofs.lemmas.Bool.{false≢true}
use Rattle.ec_terms.specs.declared.ground.Ground.{Ground}
use Rattle.ec_terms.specs.declared.theory.Theory.{Theory}
use Rattle.ec_axioms.specs.Calculus.{PlainEvent, is_current}
use Rattle.ec_changes.specs.Differences.{differs}
use Rattle.ec_revise.specs.Sweep.{Found, Swept, other_currency}
use Rattle.ec_revise.specs.Visit.{currency_found}

-- where the two are the same there is none
pub other_currency-same : (before after : Bool) → before ≡ after → other_currency before after ≡ None
other_currency-same true true same = refl
other_currency-same false false same = refl
other_currency-same true false same = absurd (false≢true (sym same))
other_currency-same false true same = absurd (false≢true same)

-- there is one exactly where the two differ
pub is_some-other_currency : (before after : Bool) → is_some (other_currency before after) ≡ not (beq before after)
is_some-other_currency true true = refl
is_some-other_currency true false = refl
is_some-other_currency false true = refl
is_some-other_currency false false = refl

-- with the old one where there is none, it is the new one
pub unwrap_or-other_currency : (before after : Bool) → unwrap_or (other_currency before after) before ≡ after
unwrap_or-other_currency true true = refl
unwrap_or-other_currency true false = refl
unwrap_or-other_currency false true = refl
unwrap_or-other_currency false false = refl

-- dirty are the properties that differ just behind what is swept
pub is_dirty-differs : (theory : Theory) (old new : List PlainEvent) (kept : Ground → Bool) (r : ℤ) (found : Found) → Swept theory old new kept r found
    → (p : Ground) → is_some (found.dirty p) ≡ differs theory old new p (r +ℤ pos 1)
unfolding differs
is_dirty-differs theory old new kept r found swept p = ap is_some (swept.dirty p) ∙ is_some-other_currency _ _

-- the currency that is found is that of the new list, at the next instant
pub currency_found-is : (theory : Theory) (old new : List PlainEvent) (kept : Ground → Bool) (r : ℤ) (found : Found) → Swept theory old new kept r found
    → (p : Ground) → currency_found theory old found p (r +ℤ pos 1) ≡ is_current theory new p (r +ℤ pos 1)
currency_found-is theory old new kept r found swept p =
    ap (λ dirty. unwrap_or dirty (is_current theory old p (r +ℤ pos 1))) (swept.dirty p) ∙ unwrap_or-other_currency _ _
