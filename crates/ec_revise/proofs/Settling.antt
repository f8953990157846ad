-- What a visit settles: the marks at its instant, what is dirty behind it, and what may have changed intervals.
use Rattle.std.proofs.Common.{◌≡◌, ◌⊎◌, ℤ, pos, ◌+ℤ◌, Bool, false, ◌||◌, nat_lt, List, Some, None, IsTrue, IsFalse, refl, sym, ap, ap₂, ◌∙◌, inl, inr, ⊎_elim, arith}
use Rattle.std.specs.Prelude.{unwrap_or, is_some}
use Rattle.std.proofs.lemmas.Bool.{and_parts, cases_Bool, cond-false, cond-true, eqb-true, false≢true, false_from_ne_true, or_parts}
use Rattle.std.proofs.lemmas.Int.{ints}
use Rattle.ec_lists.proofs.Numbers.{zero-from_not_lt}
use Rattle.ec_terms.specs.declared.ground.Ground.{Ground}
use Rattle.ec_terms.specs.declared.theory.Theory.{Theory}
use Rattle.ec_axioms.specs.Calculus.{PlainEvent, is_current}
use Rattle.ec_axioms.specs.Marks.{PlainMark, is_marked, mark_at}
use Rattle.ec_changes.specs.Differences.{differs}
use Rattle.ec_changes.specs.IntervalLaws.{IsInert}
use Rattle.ec_changes.specs.QuietLaws.{current_behind}
use Rattle.ec_changes.proofs.Activity.{differs-not}
use Rattle.ec_changes.proofs.LiveMarks.{WhatDiffersIsLive-law, mark_same}
use Rattle.ec_changes.proofs.Quiet.{CurrencyBehindMarks-law}
use Rattle.ec_revise.specs.Sweep.{AreCompared, Found, Swept, bears_on, mark_found, other_currency}
use Rattle.ec_revise.specs.Visit.{AreTurnsAt, PlainTurn, Settles, counts_same, currency_found, is_turned, mark_after, mark_matters, mark_planned}
use Rattle.ec_revise.proofs.Looking.{due_next}
use Rattle.ec_revise.proofs.OtherCurrency.{currency_found-is, is_dirty-differs, other_currency-same}
use Rattle.ec_revise.proofs.TurnedMarks.{MarksAreAfterTurns-law, mark_after-none}

-- ---- marks that count the same

-- they are the same at one instant
pub counts_same-is : (mark other : PlainMark) → mark.instant ≡ other.instant → IsTrue (counts_same mark other) → mark ≡ other
counts_same-is mark other instant same =
    let parts = and_parts _ _ same in
    let first = and_parts _ _ parts.0 in
    mark_same mark other instant (eqb-true _ _ first.0) (eqb-true _ _ first.1) (eqb-true _ _ parts.1)

-- what is planned, or else the old mark, is the new one
planned-is : (mark other : PlainMark) → mark.instant ≡ other.instant → unwrap_or (mark_planned mark other) mark ≡ other
planned-is mark other instant =
    ⊎_elim
    (λ same. ap (λ o. unwrap_or o mark) (cond-true (counts_same mark other) None (Some other) same) ∙ counts_same-is mark other instant same)
    (λ apart. ap (λ o. unwrap_or o mark) (cond-false (counts_same mark other) None (Some other) apart))
    (cases_Bool (counts_same mark other))

-- ---- a visit

module _ (theory : Theory) (old new : List PlainEvent) (kept : Ground → Bool) (r : ℤ) (turns : List PlainTurn) (settled : Ground → Bool) (before after : Found)
    (compared : AreCompared theory old new kept) (swept : Swept theory old new kept r before) (turned : AreTurnsAt theory old new (r +ℤ pos 1) turns)
    (settles : Settles theory old kept (r +ℤ pos 1) turns settled before after) where
  -- the new marks are the old ones after the turns
  new_mark : (p : Ground) → mark_at theory new p (r +ℤ pos 1) ≡ mark_after theory turns p (mark_at theory old p (r +ℤ pos 1))
  new_mark p = MarksAreAfterTurns-law theory old new kept (r +ℤ pos 1) turns p compared turned

  -- and where a kept property is not settled, the old ones
  left_mark : (p : Ground) → IsTrue (kept p) → IsFalse (settled p) → mark_at theory new p (r +ℤ pos 1) ≡ mark_at theory old p (r +ℤ pos 1)
  left_mark p keeps left =
      new_mark p ∙ mark_after-none theory turns p
      (false_from_ne_true (is_turned theory turns p) (λ turns. absurd (false≢true (sym left ∙ settles.turned p keeps turns)))) (mark_at theory old p (r +ℤ pos 1))

  -- a dirty property that is not settled has nothing that bears on it there
  left_free : (p : Ground) → IsTrue (is_some (before.dirty p)) → IsFalse (settled p) → IsFalse (bears_on theory old p (r +ℤ pos 1))
  left_free p dirty left =
      false_from_ne_true (bears_on theory old p (r +ℤ pos 1))
      (λ bears. absurd (false≢true (sym left ∙ settles.due p dirty (due_next before.agenda p r (swept.due p (r +ℤ pos 1) dirty (omega (arith, ints)) bears)))))

  -- ---- marks

  instant : (p : Ground) → (mark_at theory old p (r +ℤ pos 1)).instant ≡ (mark_after theory turns p (mark_at theory old p (r +ℤ pos 1))).instant
  instant p = refl

  pub marks_here : (p : Ground) → IsTrue (kept p) → mark_found theory old after p (r +ℤ pos 1) ≡ mark_at theory new p (r +ℤ pos 1)
  marks_here p keeps =
      ⊎_elim
      (λ is.
      ap (λ o. unwrap_or o (mark_at theory old p (r +ℤ pos 1))) (settles.each p is).planned
      ∙ planned-is (mark_at theory old p (r +ℤ pos 1)) (mark_after theory turns p (mark_at theory old p (r +ℤ pos 1))) (instant p)
      ∙ sym (new_mark p))
      (λ left.
      ap (λ o. unwrap_or o (mark_at theory old p (r +ℤ pos 1))) ((settles.others p left).planned ∙ swept.none_planned p (r +ℤ pos 1) (omega (arith, ints)))
      ∙ sym (left_mark p keeps left))
      (cases_Bool (settled p))

  -- ---- what is dirty

  behind_old : (p : Ground) → is_current theory old p ((r +ℤ pos 1) +ℤ pos 1) ≡ current_behind (is_current theory old p (r +ℤ pos 1)) (mark_at theory old p (r +ℤ pos 1))
  behind_old p = CurrencyBehindMarks-law theory old p (r +ℤ pos 1)

  behind_new : (p : Ground) → is_current theory new p ((r +ℤ pos 1) +ℤ pos 1) ≡ current_behind (is_current theory new p (r +ℤ pos 1)) (mark_at theory new p (r +ℤ pos 1))
  behind_new p = CurrencyBehindMarks-law theory new p (r +ℤ pos 1)

  -- the property of a visit that is not settled differs as before
  same_other : (p : Ground) → IsTrue (kept p) → IsFalse (settled p)
      → other_currency (is_current theory old p (r +ℤ pos 1)) (is_current theory new p (r +ℤ pos 1))
      ≡ other_currency (is_current theory old p ((r +ℤ pos 1) +ℤ pos 1)) (is_current theory new p ((r +ℤ pos 1) +ℤ pos 1))
  same_other p keeps left =
      ⊎_elim
      (λ differ.
      let free = left_free p (is_dirty-differs theory old new kept r before swept p ∙ differ) left in
      let unmarked : IsFalse (is_marked (mark_at theory old p (r +ℤ pos 1))) = (or_parts _ _ free).0 in
      sym (ap₂ other_currency
      (behind_old p ∙ cond-false (is_marked (mark_at theory old p (r +ℤ pos 1))) _ _ unmarked)
      (behind_new p ∙ ap (current_behind (is_current theory new p (r +ℤ pos 1))) (left_mark p keeps left)
      ∙ cond-false (is_marked (mark_at theory old p (r +ℤ pos 1))) _ _ unmarked)))
      (λ same.
      let now = differs-not theory old new p (r +ℤ pos 1) same in
      other_currency-same _ _ now
      ∙ sym (other_currency-same _ _ (behind_old p ∙ ap₂ current_behind now (sym (left_mark p keeps left)) ∙ sym (behind_new p))))
      (cases_Bool (differs theory old new p (r +ℤ pos 1)))

  -- a property that is not kept never differs
  never_other : (p : Ground) (t : ℤ) → IsFalse (kept p) → other_currency (is_current theory old p t) (is_current theory new p t) ≡ None
  never_other p t unkept =
      other_currency-same _ _
      (differs-not theory old new p t
      (false_from_ne_true (differs theory old new p t) (λ differ. absurd (false≢true (sym unkept ∙ compared.live p (WhatDiffersIsLive-law theory old new p t differ))))))

  pub dirty_behind : (p : Ground) → after.dirty p ≡ other_currency (is_current theory old p ((r +ℤ pos 1) +ℤ pos 1)) (is_current theory new p ((r +ℤ pos 1) +ℤ pos 1))
  dirty_behind p =
      ⊎_elim
      (λ is.
      (settles.each p is).dirty
      ∙ sym (ap₂ other_currency (behind_old p) (behind_new p ∙ ap₂ current_behind (sym (currency_found-is theory old new kept r before swept p)) (new_mark p))))
      (λ left.
      (settles.others p left).dirty ∙ swept.dirty p
      ∙ ⊎_elim
      (λ keeps. same_other p keeps left)
      (λ unkept. never_other p (r +ℤ pos 1) unkept ∙ sym (never_other p ((r +ℤ pos 1) +ℤ pos 1) unkept))
      (cases_Bool (kept p)))
      (cases_Bool (settled p))

  -- ---- what matters

  -- what did not matter does not, up to the instant
  pub mattered : (p : Ground) → IsFalse (after.matters p) → IsFalse (before.matters p)
  mattered p unmattered =
      ⊎_elim
      (λ is. (or_parts _ _ (sym (settles.each p is).matters ∙ unmattered)).0)
      (λ left. sym (settles.others p left).matters ∙ unmattered)
      (cases_Bool (settled p))

  -- a change that does not matter is none, or inert
  unmatter : (b c : Bool) (mark other : PlainMark) → IsFalse (mark_matters b c mark other)
      → IsTrue (counts_same mark other) ⊎ (IsFalse b × IsFalse c × (mark.inits ≡ 0) × (other.inits ≡ 0))
  unmatter b c mark other none =
      ⊎_elim
      (λ same. inl same)
      (λ apart.
      let rest : (b || c || nat_lt 0 mark.inits || nat_lt 0 other.inits) ≡ false = grind arith in
      let last = or_parts (b || c || nat_lt 0 mark.inits) (nat_lt 0 other.inits) rest in
      let third = or_parts (b || c) (nat_lt 0 mark.inits) last.0 in
      let two = or_parts b c third.0 in inr (two.0, two.1, zero-from_not_lt mark.inits third.1, zero-from_not_lt other.inits last.1))
      (cases_Bool (counts_same mark other))

  pub inert_here : (p : Ground) → IsTrue (kept p) → IsFalse (after.matters p)
      → (mark_at theory old p (r +ℤ pos 1) ≡ mark_at theory new p (r +ℤ pos 1)) ⊎ IsInert theory old new p (r +ℤ pos 1)
  inert_here p keeps unmattered =
      ⊎_elim
      (λ is.
      ⊎_elim
      (λ same. inl (counts_same-is (mark_at theory old p (r +ℤ pos 1)) (mark_after theory turns p (mark_at theory old p (r +ℤ pos 1))) (instant p) same ∙ sym (new_mark p)))
      (λ none. inr (record {
        not_in_old = none.0;
        not_in_new = sym (currency_found-is theory old new kept r before swept p) ∙ none.1;
        no_inits_in_old = none.2;
        no_inits_in_new = ap (λ (mark : PlainMark). mark.inits) (new_mark p) ∙ none.3;
      }))
      (unmatter (is_current theory old p (r +ℤ pos 1)) (currency_found theory old before p (r +ℤ pos 1)) (mark_at theory old p (r +ℤ pos 1))
      (mark_after theory turns p (mark_at theory old p (r +ℤ pos 1))) (or_parts _ _ (sym (settles.each p is).matters ∙ unmattered)).1))
      (λ left. inl (sym (left_mark p keeps left)))
      (cases_Bool (settled p))
