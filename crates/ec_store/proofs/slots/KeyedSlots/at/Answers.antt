-- The slot at the place alone can be the one that is looked for.
use Rattle.std.proofs.Common.{◌≡◌, Bool, false, cond, ◌&&◌, Some, None, subst, sym, ap, ◌∙◌, ⊎_elim}
use Rattle.std.specs.Prelude.{◌==◌}
use Rattle.std.specs.Ordering.{is_eq}
use Rattle.std.proofs.lemmas.Bool.{cases_Bool, and_right, eqb-true, eq-eqb}
use Rattle.ec_lists.specs.Reserved.{Reserved}
use Rattle.ec_store.specs.Slots.{is_there, slot_of, IsInOrder}
use Rattle.ec_store.proofs.SlotLemmas.{IsCut, slot_of-end, slot_of-at}
use Rattle.ec_store.proofs.slots.KeyedSlots.at.Goals as goal
use Rattle.ec_store.proofs.slots.KeyedSlots.at.Goals.{After-get-member, else-member-key-via-then-member-key+else-is_eq, else-member-key-via-else-member-key}

pub returns-then-place-len : goal.returns-then-place-len
returns-then-place-len g c =
    let cut = subst (λ (v : Reserved _). IsCut c.args.key (g.S.Sought.place c.args.sought.now) v.items c.args.place) (sym c.self.view_is) c.requires.cut in
    subst (λ (v : Reserved _). None ≡ slot_of c.args.key (g.S.Sought.place c.args.sought.now) v.items) c.self.view_is
    (sym (slot_of-end c.args.key (g.S.Sought.place c.args.sought.now) c.self.inside.slots.items c.args.place cut (c.if-place-len.true ∙ c.len.ensures)))

-- what the slot there tells
shown : (g : _) (c : After-get-member g) → slot_of c.args.key (g.S.Sought.place c.args.sought.now) c.args.self.now.items
    ≡ cond (is_there c.args.key (g.S.Sought.place c.args.sought.now) c.get-member.result.now) (Some c.get-member.result.now.slot) None
shown g c =
    let order = subst (λ (v : Reserved _). IsInOrder c.args.key (g.S.Sought.place c.args.sought.now) v.items) (sym c.self.view_is) c.requires.order in
    let cut = subst (λ (v : Reserved _). IsCut c.args.key (g.S.Sought.place c.args.sought.now) v.items c.args.place) (sym c.self.view_is) c.requires.cut in
    ap (λ (v : Reserved _). slot_of c.args.key (g.S.Sought.place c.args.sought.now) v.items) (sym c.self.view_is)
    ∙ slot_of-at c.args.key (g.S.Sought.place c.args.sought.now) c.self.inside.slots.items c.args.place c.get-member.result.now order cut c.get-member.ensures

pub returns-then-is_eq : goal.returns-then-is_eq
returns-then-is_eq g c =
    sym (shown g (goal.at.returns-then-is_eq g c).After-get-member
    ∙ ap (λ b. cond (b && is_eq (g.S.Sought.place c.args.sought.now c.get-member.result.now.slot)) (Some c.get-member.result.now.slot) None)
    (eq-eqb c.get-member.result.now.key c.args.key c.if-member-key.true)
    ∙ ap (λ b. cond b (Some c.get-member.result.now.slot) None) (ap is_eq (sym c.compare.ensures) ∙ sym c.is_eq.ensures ∙ c.if-is_eq.true))

pub returns-else-member-key : goal.returns-else-member-key
returns-else-member-key g c =
    let same : Bool = c.get-member.result.now.key == c.args.key in
    let there : Bool = is_eq (g.S.Sought.place c.args.sought.now c.get-member.result.now.slot) in
    let other : (same && there) ≡ false = elim c.else-member-key.branch [
      | else-member-key-via-then-member-key+else-is_eq w ↦ and_right same there (ap is_eq (sym w.compare.ensures) ∙ sym w.is_eq.ensures ∙ w.if-is_eq.false)
      | else-member-key-via-else-member-key w ↦
          ⊎_elim (λ e. absurd (w.if-member-key.false (eqb-true c.get-member.result.now.key c.args.key e))) (λ e. ap (λ b. b && there) e) (cases_Bool same)
    ] in
    sym (shown g (goal.at.returns-else-member-key g c).After-get-member ∙ ap (λ b. cond b (Some c.get-member.result.now.slot) None) other)
