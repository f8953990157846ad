-- An entry that is noted for the literals so far, or taken out for them, with one literal more.
use Rattle.std.proofs.Common.{◌≡◌, ◌≢◌, ◌+◌, ◌≤◌, ℕ, ℤ, Bool, true, false, cond, ◌||◌, [], ◌∷◌, refl, sym, ap, subst, ◌∙◌, ⊎_elim, arith}
use Rattle.std.specs.Prelude.{◌==◌}
use Rattle.std.specs.Option.{option_to_list}
use Rattle.std.proofs.Math.Bool.{or-false}
use Rattle.std.proofs.lemmas.Bool.{cases_Bool, cases_eq, eq-eqb, eqb-true, ne_eqb}
use Rattle.ec_entries.specs.declared.event_entries.Dependent.{Dependent}
use Rattle.ec_entries.specs.Dependents.{Rows, dependent_if, dependents_of, from_place, is_from, members_of, room_of, spare_of}
use Rattle.ec_entries.specs.Noting.{AreAllInOrder, IsNoted, IsTakenOut}
use Rattle.ec_entries.proofs.Orders.{is_from-itself}
use Rattle.ec_numbered.specs.ByNumber.{kept_at}

-- a test that one number passes besides those that passed
module _ (on more : ℕ → Bool) (p : ℕ) (grown : (q : ℕ) → more q ≡ (on q || (p == q))) where
  passes : on p ≡ false → more p ≡ true
  passes fresh = grown p ∙ ap (λ b. b || (p == p)) fresh ∙ eq-eqb p p refl

  same-apart : (q : ℕ) → q ≢ p → more q ≡ on q
  same-apart q apart = grown q ∙ ap (λ b. on q || b) (ne_eqb p q (λ same. apart (sym same))) ∙ or-false (on q)

  same-again : on p ≡ true → (q : ℕ) → more q ≡ on q
  same-again already q =
      ⊎_elim (λ here. let there : on q ≡ true = ap on (sym (eqb-true p q here)) ∙ already in grown q ∙ ap (λ b. b || (p == q)) there ∙ sym there)
      (λ apart. grown q ∙ ap (λ b. on q || b) apart ∙ or-false (on q)) (cases_Bool (p == q))

module _ {T : Type 0} (rank : T → ℤ) (d : Dependent T) (on more : ℕ → Bool) (p : ℕ) (grown : (q : ℕ) → more q ≡ (on q || (p == q))) (old mid : Rows T)
    (before : IsNoted rank d.at d.slot.0 d.place on old mid) where
  -- a property that it is noted for already
  pub IsNoted-again : on p ≡ true → IsNoted rank d.at d.slot.0 d.place more old mid
  IsNoted-again already = record {
    order = before.order;
    here = λ q. before.here q ∙ ap (λ b. option_to_list (dependent_if b d.at d.slot.0 d.place)) (sym (same-again on more p grown already q));
    others = before.others;
    room = λ q. subst (λ b. room_of q old ≤ room_of q mid + cond b 1 0) (sym (same-again on more p grown already q)) (before.room q);
  }

  -- a property that it is not noted for yet
  pub IsNoted-first : on p ≡ false → (new : Rows T) → AreAllInOrder rank new →
      ((slot place : ℕ) → from_place slot place (dependents_of p new) ≡ cond (is_from slot place d) (d ∷ []) (from_place slot place (dependents_of p mid))) →
      ((q : ℕ) → q ≢ p → kept_at q new ≡ kept_at q mid) → room_of p mid ≤ room_of p new + 1 → IsNoted rank d.at d.slot.0 d.place more old new
  IsNoted-first fresh new order exact others spare = record {
    order = order;
    here = λ q. ⊎_elim (here_same q) (here_other q) (cases_eq q p);
    others = λ q s n apart. ⊎_elim (place_same q s n apart) (place_other q s n apart) (cases_eq q p);
    room = λ q. ⊎_elim (room_same q) (room_other q) (cases_eq q p);
  }
    where
      here_same : (q : ℕ) → q ≡ p → from_place d.slot.0 d.place (dependents_of q new) ≡ option_to_list (dependent_if (more q) d.at d.slot.0 d.place)
      here_same q same =
          subst (λ n. from_place d.slot.0 d.place (dependents_of n new) ≡ option_to_list (dependent_if (more n) d.at d.slot.0 d.place)) (sym same)
          (exact d.slot.0 d.place ∙ ap (λ b. cond b (d ∷ []) (from_place d.slot.0 d.place (dependents_of p mid))) (is_from-itself d)
          ∙ ap (λ b. option_to_list (dependent_if b d.at d.slot.0 d.place)) (sym (passes on more p grown fresh)))

      here_other : (q : ℕ) → q ≢ p → from_place d.slot.0 d.place (dependents_of q new) ≡ option_to_list (dependent_if (more q) d.at d.slot.0 d.place)
      here_other q apart =
          ap (λ row. from_place d.slot.0 d.place (members_of row)) (others q apart) ∙ before.here q ∙ ap (λ b. option_to_list (dependent_if b d.at d.slot.0 d.place)) (sym (same-apart on more p grown q apart))

      place_same : (q s n : ℕ) → is_from s n d ≡ false → q ≡ p → from_place s n (dependents_of q new) ≡ from_place s n (dependents_of q old)
      place_same q s n apart same =
          subst (λ m. from_place s n (dependents_of m new) ≡ from_place s n (dependents_of m old)) (sym same)
          (exact s n ∙ ap (λ b. cond b (d ∷ []) (from_place s n (dependents_of p mid))) apart ∙ before.others p s n apart)

      place_other : (q s n : ℕ) → is_from s n d ≡ false → q ≢ p → from_place s n (dependents_of q new) ≡ from_place s n (dependents_of q old)
      place_other q s n apart other = ap (λ row. from_place s n (members_of row)) (others q other) ∙ before.others q s n apart

      room_same : (q : ℕ) → q ≡ p → room_of q old ≤ room_of q new + cond (more q) 1 0
      room_same q same =
          let first = subst (λ b. room_of p old ≤ room_of p mid + cond b 1 0) fresh (before.room p) in
          subst (λ n. room_of n old ≤ room_of n new + cond (more n) 1 0) (sym same)
          (subst (λ b. room_of p old ≤ room_of p new + cond b 1 0) (sym (passes on more p grown fresh)) (omega (arith, first, spare)))

      room_other : (q : ℕ) → q ≢ p → room_of q old ≤ room_of q new + cond (more q) 1 0
      room_other q apart =
          subst (λ b. room_of q old ≤ room_of q new + cond b 1 0) (sym (same-apart on more p grown q apart))
          (subst (λ row. room_of q old ≤ spare_of row + cond (on q) 1 0) (sym (others q apart)) (before.room q))

module _ {T : Type 0} (rank : T → ℤ) (d : Dependent T) (on more : ℕ → Bool) (p : ℕ) (grown : (q : ℕ) → more q ≡ (on q || (p == q))) (old mid : Rows T)
    (before : IsTakenOut rank d.slot.0 d.place on old mid) where
  -- a property that it is taken out of already
  pub IsTakenOut-again : on p ≡ true → IsTakenOut rank d.slot.0 d.place more old mid
  IsTakenOut-again already = record {
    order = before.order;
    here = λ q. before.here q ∙ ap (λ b. cond b [] (from_place d.slot.0 d.place (dependents_of q old))) (sym (same-again on more p grown already q));
    others = before.others;
    room = before.room;
  }

  -- a property that it is not taken out of yet
  pub IsTakenOut-first : on p ≡ false → (new : Rows T) → AreAllInOrder rank new →
      ((slot place : ℕ) → from_place slot place (dependents_of p new) ≡ cond (is_from slot place d) [] (from_place slot place (dependents_of p mid))) →
      ((q : ℕ) → q ≢ p → kept_at q new ≡ kept_at q mid) → room_of p mid ≤ room_of p new → IsTakenOut rank d.slot.0 d.place more old new
  IsTakenOut-first fresh new order exact others spare = record {
    order = order;
    here = λ q. ⊎_elim (here_same q) (here_other q) (cases_eq q p);
    others = λ q s n apart. ⊎_elim (place_same q s n apart) (place_other q s n apart) (cases_eq q p);
    room = λ q. ⊎_elim (room_same q) (room_other q) (cases_eq q p);
  }
    where
      here_same : (q : ℕ) → q ≡ p → from_place d.slot.0 d.place (dependents_of q new) ≡ cond (more q) [] (from_place d.slot.0 d.place (dependents_of q old))
      here_same q same =
          subst (λ n. from_place d.slot.0 d.place (dependents_of n new) ≡ cond (more n) [] (from_place d.slot.0 d.place (dependents_of n old))) (sym same)
          (exact d.slot.0 d.place ∙ ap (λ b. cond b [] (from_place d.slot.0 d.place (dependents_of p mid))) (is_from-itself d)
          ∙ ap (λ b. cond b [] (from_place d.slot.0 d.place (dependents_of p old))) (sym (passes on more p grown fresh)))

      here_other : (q : ℕ) → q ≢ p → from_place d.slot.0 d.place (dependents_of q new) ≡ cond (more q) [] (from_place d.slot.0 d.place (dependents_of q old))
      here_other q apart =
          ap (λ row. from_place d.slot.0 d.place (members_of row)) (others q apart) ∙ before.here q
          ∙ ap (λ b. cond b [] (from_place d.slot.0 d.place (dependents_of q old))) (sym (same-apart on more p grown q apart))

      place_same : (q s n : ℕ) → is_from s n d ≡ false → q ≡ p → from_place s n (dependents_of q new) ≡ from_place s n (dependents_of q old)
      place_same q s n apart same =
          subst (λ m. from_place s n (dependents_of m new) ≡ from_place s n (dependents_of m old)) (sym same)
          (exact s n ∙ ap (λ b. cond b [] (from_place s n (dependents_of p mid))) apart ∙ before.others p s n apart)

      place_other : (q s n : ℕ) → is_from s n d ≡ false → q ≢ p → from_place s n (dependents_of q new) ≡ from_place s n (dependents_of q old)
      place_other q s n apart other = ap (λ row. from_place s n (members_of row)) (others q other) ∙ before.others q s n apart

      room_same : (q : ℕ) → q ≡ p → room_of q old ≤ room_of q new
      room_same q same =
          let first = before.room p in subst (λ n. room_of n old ≤ room_of n new) (sym same) (omega (arith, first, spare))

      room_other : (q : ℕ) → q ≢ p → room_of q old ≤ room_of q new
      room_other q apart = subst (λ row. room_of q old ≤ spare_of row) (sym (others q apart)) (before.room q)
