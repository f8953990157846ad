-- What is kept of events, with new bits of some slots.
use Rattle.std.proofs.Common.{◌≡◌, ◌≢◌, ℕ, cond, List, [], ◌∷◌, ◌++◌, find, Option, Some, None, option_map, IsSome, refl, sym, ap, subst, ◌∙◌, ⊎_elim}
use Rattle.std.specs.Prelude.{◌==◌, unwrap_or, IfSome}
use Rattle.std.specs.Option.{option_or}
use Rattle.std.proofs.lemmas.Bool.{cases_Bool, false≢true, eq-eqb, eqb-true}
use Rattle.std.proofs.lemmas.List.Folds.{find-append}
use Rattle.ec_terms.specs.declared.ids.Slot.{Slot}
use Rattle.ec_numbered.specs.ByNumber.{kept_at}
use Rattle.ec_entries.specs.declared.event_entries.EventEntries.{EventEntries}
use Rattle.ec_delta.specs.declared.flips.Flip.{Flip}
use Rattle.ec_delta.specs.Looked.{flip_at}
use Rattle.ec_apply.specs.Events.{with_flips}

-- the new bits of a slot, with those of one flip more
flip_at-last : (slot : Slot) (rest : List Flip) (flip : Flip) → flip_at slot (rest ++ flip ∷ [])
    ≡ option_map (λ (f : Flip). f.active) (option_or (find (λ (f : Flip). f.slot.0 == slot.0) rest) (cond (flip.slot.0 == slot.0) (Some flip) None))
flip_at-last slot rest flip = ap (option_map (λ (f : Flip). f.active)) (find-append (λ (f : Flip). f.slot.0 == slot.0) rest (flip ∷ []))

module _ {T : Type 0} where
  -- no new bits leave what is kept
  pub with_flips-none : (slot : Slot) (kept : Option (EventEntries T)) → with_flips slot [] kept ≡ kept
  with_flips-none slot None = refl
  with_flips-none slot (Some k) = refl

  -- the last flip is made first, and the others after it
  module _ (rest : List Flip) (flip : Flip) (before after : List (Option (EventEntries T)))
      (active : IfSome (kept_at flip.slot.0 before) (λ kept. kept_at flip.slot.0 after ≡ Some (record kept { active = flip.active })))
      (others : (other : ℕ) → other ≢ flip.slot.0 → kept_at other after ≡ kept_at other before)
      (live : IsSome (kept_at flip.slot.0 before)) where
    here : (o : Option (EventEntries T)) → kept_at flip.slot.0 before ≡ o → IsSome o → kept_at flip.slot.0 after ≡ option_map (λ (k : EventEntries T). record k { active = flip.active }) o
    here None is some = cc
    here (Some k) is some = subst (λ o. IfSome o (λ kept. kept_at flip.slot.0 after ≡ Some (record kept { active = flip.active }))) is active

    pub with_flips-last : (slot : Slot) → with_flips slot rest (kept_at slot.0 after) ≡ with_flips slot (rest ++ flip ∷ []) (kept_at slot.0 before)
    with_flips-last slot =
        ⊎_elim
        (λ own.
        let number : flip.slot.0 ≡ slot.0 = eqb-true flip.slot.0 slot.0 own in
        let made : kept_at slot.0 after ≡ option_map (λ (k : EventEntries T). record k { active = flip.active }) (kept_at slot.0 before) =
        subst (λ n. kept_at n after ≡ option_map (λ (k : EventEntries T). record k { active = flip.active }) (kept_at n before)) number (here (kept_at flip.slot.0 before) refl live) in
        ap (with_flips slot rest) made ∙ twice (find (λ (f : Flip). f.slot.0 == slot.0) rest) (kept_at slot.0 before)
        ∙ sym (ap (λ w. option_map (λ (k : EventEntries T). record k { active = unwrap_or w k.active }) (kept_at slot.0 before))
        (flip_at-last slot rest flip ∙ ap (λ b. option_map (λ (f : Flip). f.active) (option_or (find (λ (f : Flip). f.slot.0 == slot.0) rest) (cond b (Some flip) None))) own)))
        (λ other.
        ap (with_flips slot rest) (others slot.0 (λ same. false≢true (sym other ∙ eq-eqb flip.slot.0 slot.0 (sym same))))
        ∙ sym (ap (λ w. option_map (λ (k : EventEntries T). record k { active = unwrap_or w k.active }) (kept_at slot.0 before))
        (flip_at-last slot rest flip ∙ ap (λ b. option_map (λ (f : Flip). f.active) (option_or (find (λ (f : Flip). f.slot.0 == slot.0) rest) (cond b (Some flip) None))) other
        ∙ ap (option_map (λ (f : Flip). f.active)) (or-none (find (λ (f : Flip). f.slot.0 == slot.0) rest)))))
        (cases_Bool (flip.slot.0 == slot.0))
      where
        twice : (f : Option Flip) (o : Option (EventEntries T))
            → option_map (λ (k : EventEntries T). record k { active = unwrap_or (option_map (λ (g : Flip). g.active) f) k.active }) (option_map (λ (k : EventEntries T). record k { active = flip.active }) o)
            ≡ option_map (λ (k : EventEntries T). record k { active = unwrap_or (option_map (λ (g : Flip). g.active) (option_or f (Some flip))) k.active }) o
        twice f None = refl
        twice None (Some k) = refl
        twice (Some g) (Some k) = refl

        or-none : (f : Option Flip) → option_or f None ≡ f
        or-none None = refl
        or-none (Some g) = refl

    -- what is kept under each slot is kept still
    pub live-last : (n : ℕ) → IsSome (kept_at n before) → IsSome (kept_at n after)
    live-last n some =
        ⊎_elim
        (λ own. subst (λ m. IsSome (kept_at m after)) (eqb-true flip.slot.0 n own) (still (kept_at flip.slot.0 before) (here (kept_at flip.slot.0 before) refl live) live))
        (λ other. subst IsSome (sym (others n (λ same. false≢true (sym other ∙ eq-eqb flip.slot.0 n (sym same))))) some)
        (cases_Bool (flip.slot.0 == n))
      where
        still : (o : Option (EventEntries T)) → kept_at flip.slot.0 after ≡ option_map (λ (k : EventEntries T). record k { active = flip.active }) o → IsSome o → IsSome (kept_at flip.slot.0 after)
        still None is some = cc
        still (Some k) is some = subst IsSome (sym is) refl
