-- Groups of numbers: a time outside the reach of a group lies outside that of each of its numbers.
use Rattle.std.proofs.Common.{◌≡◌, ◌≢◌, ℕ, ◌+◌, ◌*◌, ◌/◌, ◌<◌, ◌≤◌, ℤ, Bool, true, false, List, Option, sym, ap, subst, ◌∙◌, ⊎_elim, arith}
use Rattle.std.specs.Prelude.{◌==◌}
use Rattle.std.proofs.lemmas.Bool.{cases_Bool, eqb-true}
use Rattle.ec_numbered.specs.ByNumber.{kept_at}
use Rattle.ec_lists.proofs.Numbers.{eqb-apart}
use Rattle.ec_intervals.specs.declared.near.TheConstants.{GROUP}
use Rattle.ec_intervals.specs.declared.reach.Reach.{Reach}
use Rattle.ec_intervals.specs.Reach.{HasReach, is_outside}
use Rattle.ec_intervals.specs.Near.{AreGrouped, may_hold}

-- the numbers of a group are 16
pub in_group : (n group i : ℕ) → n / 16 ≡ group → 16 ≤ i → n < group * 16 + i
in_group n group i same all = omega (arith, same, all)

module _ {T : Type 0} (rank : T → ℤ) where
  -- one number more has its part in the reach of its group
  pub reach-next : (reach next other : Option (Reach T)) (rows : List (Option (Reach T))) (group i : ℕ) →
      ((n : ℕ) → n / GROUP ≡ group → n < group * GROUP + i → HasReach rank reach (kept_at n rows)) → HasReach rank next reach → HasReach rank next other → other ≡ kept_at (group * GROUP + i) rows →
      (n : ℕ) → n / GROUP ≡ group → n < group * GROUP + (i + 1) → HasReach rank next (kept_at n rows)
  reach-next reach next other rows group i before one more read n same within =
      ⊎_elim (λ here. subst (HasReach rank next) (read ∙ ap (λ k. kept_at k rows) (eqb-true (group * GROUP + i) n here)) more)
      (λ apart. let off : n ≢ group * GROUP + i = eqb-apart (group * GROUP + i) n apart in
      λ t out. before n same (less n (group * GROUP) i off within) t (one t out))
      (cases_Bool ((group * GROUP + i) == n))
    where
      less : (n m i : ℕ) → n ≢ m + i → n < m + (i + 1) → n < m + i
      less n m i off within = omega (arith, off, within)

  -- a group that is left out has no number that may hold
  pub outside-next : (t : ℤ) (groups rows : List (Option (Reach T))) (near next : List Bool) (group : ℕ) → AreGrouped rank groups rows →
      ((n : ℕ) → may_hold n near ≡ false → is_outside rank (kept_at n rows) t ≡ true) → ((n : ℕ) → may_hold n next ≡ false → n / GROUP ≢ group → may_hold n near ≡ false) →
      is_outside rank (kept_at group groups) t ≡ true → (n : ℕ) → may_hold n next ≡ false → is_outside rank (kept_at n rows) t ≡ true
  outside-next t groups rows near next group grouped before left outside n out =
      ⊎_elim (λ here. grouped n t (subst (λ k. is_outside rank (kept_at k groups) t ≡ true) (eqb-true group (n / GROUP) here) outside))
      (λ apart. before n (left n out (eqb-apart group (n / GROUP) apart)))
      (cases_Bool (group == (n / GROUP)))

  -- where one row is written, and its group has the reaches of its numbers, each group has those of its numbers
  pub AreGrouped-set : (groups new_groups rows new_rows : List (Option (Reach T))) (p : ℕ) (joined : Option (Reach T)) → AreGrouped rank groups rows →
      ((n : ℕ) → n ≢ p → kept_at n new_rows ≡ kept_at n rows) → ((n : ℕ) → n / GROUP ≡ p / GROUP → HasReach rank joined (kept_at n new_rows)) →
      kept_at (p / GROUP) new_groups ≡ joined → ((n : ℕ) → n ≢ p / GROUP → kept_at n new_groups ≡ kept_at n groups) → AreGrouped rank new_groups new_rows
  AreGrouped-set groups new_groups rows new_rows p joined grouped others all here stay n =
      ⊎_elim (λ e. let same : n / GROUP ≡ p / GROUP = sym (eqb-true (p / GROUP) (n / GROUP) e) in
      subst (λ reach. HasReach rank reach (kept_at n new_rows)) (sym (ap (λ k. kept_at k new_groups) same ∙ here)) (all n same))
      (λ e. let apart : n / GROUP ≢ p / GROUP = eqb-apart (p / GROUP) (n / GROUP) e in
      subst (λ reach. HasReach rank reach (kept_at n new_rows)) (sym (stay (n / GROUP) apart))
      (subst (HasReach rank (kept_at (n / GROUP) groups)) (sym (others n (λ same. apart (ap (λ k. k / GROUP) same)))) (grouped n)))
      (cases_Bool ((p / GROUP) == (n / GROUP)))
