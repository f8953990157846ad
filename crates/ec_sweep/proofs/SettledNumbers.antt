-- What the parts of the settling of one property come to.
use Rattle.std.proofs.Common.{◌≡◌, ℕ, ℤ, ◌<ℤ◌, ◌≤ℤ◌, Bool, true, false, ◌&&◌, ◌||◌, List, IsTrue, refl, sym, ap, ap₂, subst, ◌∙◌, inl, inr, ⊎_elim}
use Rattle.std.specs.Prelude.{◌==◌, is_some, if◌then◌else◌}
use Rattle.std.specs.Ordering.{int_eq}
use Rattle.std.proofs.lemmas.Bool.{and_parts, cond-false, cond-true, eq-eqb, eqb-true, or_cases, or_left, or_right}
use Rattle.std.proofs.Math.Bool.{and-false, and-true}
use Rattle.ec_lists.proofs.Integers.{int_eq-is, int_eq-same}
use Rattle.ec_terms.specs.declared.ids.PropId.{PropId}
use Rattle.ec_numbered.specs.Due.{Due, has_due, is_due}
use Rattle.ec_exclusive.specs.Neighbours.{Neighbourhoods}
use Rattle.ec_points.specs.Table.{PointTable}
use Rattle.ec_rows.specs.declared.mark.Mark.{Mark}
use Rattle.ec_revise.specs.declared.settled.Currencies.{Currencies}
use Rattle.ec_revise.specs.declared.settled.Settled.{Settled}
use Rattle.ec_revise.specs.declared.settled.Tallied.{Tallied}
use Rattle.ec_delta.specs.Touched.{touched_at}
use Rattle.ec_sweep.specs.State.{dirty_at}
use Rattle.ec_sweep.specs.Hits.{Slots}
use Rattle.ec_sweep.specs.Settling.{AddsDue, ArePlannedIf, BearsAt, IsDueWithin, IsSettledBy, LeavesNumber, Noted, PlansMark, SettlesNumber, currencies_at, old_mark, own_changes, starts_of, touch_of, touched_if, with_if}
use Rattle.ec_sweep.proofs.OwnChanges.{own_changes-with_if}

-- while one property is settled, all others are left alone
pub LeavesNumber-from : {T : Type 0} (around : Neighbourhoods) (p : PropId) (old : Mark T) (settled : Settled T) (before after : Noted T) → PlansMark around p old settled before.planned after.planned
    → ((n : ℕ) → dirty_at n after.dirty ≡ (if p.0 == n then settled.dirty else dirty_at n before.dirty)) → (n : ℕ) → (p.0 == n) ≡ false → LeavesNumber n before after
LeavesNumber-from around p old settled before after plans dirty n other = record {
  dirty = dirty n ∙ cond-false (p.0 == n) settled.dirty (dirty_at n before.dirty) other;
  marks = ap (own_changes n) plans.marks
      ∙ own_changes-with_if settled.is_changed (p, settled.mark) before.planned.marks n
      ∙ ap (λ b. with_if b (p, settled.mark) (own_changes n before.planned.marks)) (none settled.is_changed);
  initiations = ap (own_changes n) plans.initiations
      ∙ own_changes-with_if plans.starts (p, starts_of settled.mark) before.planned.initiations n
      ∙ ap (λ b. with_if b (p, starts_of settled.mark) (own_changes n before.planned.initiations)) (none plans.starts);
  touched = plans.touched n
      ∙ ap (λ b. touched_if b (touch_of plans.starts old settled) (touched_at n before.planned.touched)) (none settled.is_changed);
}
  where
    none : (b : Bool) → (b && (p.0 == n)) ≡ false
    none b = ap (λ c. b && c) other ∙ and-false b

module _ {T : Type 0} (rank : T → ℤ) (points : PointTable T) (slots : Slots T) (at : T) where
  module _ (p : PropId) (next : T) (old new : List (Due T)) (added : (n : ℕ) (u : ℤ) → has_due rank u n new ≡ (is_due rank u n (next, p) || has_due rank u n old))
      (bears : (rank at <ℤ rank next) × BearsAt rank points slots p.0 (rank next)) where
    -- a property that is made due at the next time adds itself
    pub AddsDue-next : AddsDue rank points slots (rank at) (λ n. p.0 == n) old new
    AddsDue-next = record {
      still = λ n u due. added n u ∙ or_right (is_due rank u n (next, p)) (has_due rank u n old) due;
      only = λ n u due.
          ⊎_elim
          (λ it.
          let both = and_parts (int_eq (rank next) u) (p.0 == n) it in
          let time = int_eq-is (rank next) u both.0 in
          inr (
            both.1,
            subst (λ s. rank at <ℤ s) time bears.0,
            subst (λ s. BearsAt rank points slots n s) time (subst (λ m. BearsAt rank points slots m (rank next)) (eqb-true p.0 n both.1) bears.1),
          ))
          (λ was. inl was)
          (or_cases (is_due rank u n (next, p)) (has_due rank u n old) (sym (added n u) ∙ due));
    }

    -- and is due then
    pub IsDueWithin-next : (u : ℤ) → rank next ≤ℤ u → IsDueWithin rank new p.0 (rank at) u
    IsDueWithin-next u by = record {
      time = rank next;
      after = bears.0;
      by = by;
      due = added p.0 (rank next)
          ∙ or_left (is_due rank (rank next) p.0 (next, p)) (has_due rank (rank next) p.0 old)
          (ap₂ (λ a b. a && b) (int_eq-same (rank next)) (eq-eqb p.0 p.0 refl));
    }

  -- a property is settled by what was planned of it, what it is behind the instant, and when it is due
  pub SettlesNumber-from : (around : Neighbourhoods) (p : PropId) (tallied : Tallied) (old : Mark T) (current : Currencies) (settled : Settled T) (before after : Noted T)
      → old ≡ old_mark rank points at p.0 → current ≡ currencies_at rank points at p.0 (dirty_at p.0 before.dirty) → IsSettledBy rank old tallied current settled
      → PlansMark around p old settled before.planned after.planned → ((n : ℕ) → dirty_at n after.dirty ≡ (if p.0 == n then settled.dirty else dirty_at n before.dirty))
      → ((u : ℤ) → IsTrue (is_some settled.dirty) → rank at <ℤ u → BearsAt rank points slots p.0 u → IsDueWithin rank after.agenda p.0 (rank at) u)
      → SettlesNumber rank around points slots at p tallied before after
  SettlesNumber-from around p tallied old current settled before after old_is current_is is plans dirty due = record {
    settled = settled;
    starts = plans.starts;
    starts_if = subst (λ m. ArePlannedIf around p m settled plans.starts) old_is plans.starts_if;
    is = subst (λ c. IsSettledBy rank (old_mark rank points at p.0) tallied c settled) current_is (subst (λ m. IsSettledBy rank m tallied current settled) old_is is);
    dirty = dirty p.0 ∙ cond-true (p.0 == p.0) settled.dirty (dirty_at p.0 before.dirty) itself;
    marks = ap (own_changes p.0) plans.marks
        ∙ own_changes-with_if settled.is_changed (p, settled.mark) before.planned.marks p.0
        ∙ ap (λ b. with_if b (p, settled.mark) (own_changes p.0 before.planned.marks)) (alone settled.is_changed);
    initiations = ap (own_changes p.0) plans.initiations
        ∙ own_changes-with_if plans.starts (p, starts_of settled.mark) before.planned.initiations p.0
        ∙ ap (λ b. with_if b (p, starts_of settled.mark) (own_changes p.0 before.planned.initiations)) (alone plans.starts);
    touched = plans.touched p.0
        ∙ ap₂ (λ b m. touched_if b (touch_of plans.starts m settled) (touched_at p.0 before.planned.touched)) (alone settled.is_changed) old_is;
    due = due;
  }
    where
      itself : (p.0 == p.0) ≡ true
      itself = eq-eqb p.0 p.0 refl

      alone : (b : Bool) → (b && (p.0 == p.0)) ≡ b
      alone b = ap (λ c. b && c) (eq-eqb p.0 p.0 refl) ∙ and-true b
