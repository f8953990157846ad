-- The first slot of the key, where it is the one that is looked for, or where there is no such key.
use Rattle.std.proofs.Common.{◌&&◌, subst, sym, ap, ap₂, ◌∙◌}
use Rattle.std.specs.Ordering.{is_eq}
use Rattle.std.proofs.lemmas.Bool.{eq-eqb}
use Rattle.ec_lists.specs.Reserved.{Reserved}
use Rattle.ec_store.specs.Slots.{slot_of, IsInOrder}
use Rattle.ec_store.proofs.SlotLemmas.{IsCut, IsKeyCut, IsCut-end, IsCut-other, slot_of-end, slot_of-other, slot_of-first}
use Rattle.ec_store.proofs.slots.KeyedSlots.search.Goals as goal

pub returns-then-first-len-clause-cut : goal.returns-then-first-len-clause-cut
returns-then-first-len-clause-cut g c =
    let cut = subst (λ (v : Reserved _). IsKeyCut c.args.key (g.S.Sought.place c.args.sought.now) v.items c.first_of-first.result) (sym c.self.view_is) (c.first_of-first.ensures.cut c.requires.keys) in
    subst (λ (v : Reserved _). IsCut c.args.key (g.S.Sought.place c.args.sought.now) v.items c.first_of-first.result) c.self.view_is
    (IsCut-end c.args.key (g.S.Sought.place c.args.sought.now) c.self.inside.slots.items c.first_of-first.result cut (c.if-first-len.true ∙ c.len.ensures))

pub returns-then-first-len-clause-absent : goal.returns-then-first-len-clause-absent
returns-then-first-len-clause-absent g c =
    let cut = subst (λ (v : Reserved _). IsKeyCut c.args.key (g.S.Sought.place c.args.sought.now) v.items c.first_of-first.result) (sym c.self.view_is) (c.first_of-first.ensures.cut c.requires.keys) in
    let end = c.if-first-len.true ∙ c.len.ensures in
    ap (λ (v : Reserved _). slot_of c.args.key (g.S.Sought.place c.args.sought.now) v.items) (sym c.self.view_is)
    ∙ slot_of-end c.args.key (g.S.Sought.place c.args.sought.now) c.self.inside.slots.items c.first_of-first.result
    (IsCut-end c.args.key (g.S.Sought.place c.args.sought.now) c.self.inside.slots.items c.first_of-first.result cut end) end

pub returns-then-member-key-clause-cut : goal.returns-then-member-key-clause-cut
returns-then-member-key-clause-cut g c =
    let order = subst (λ (v : Reserved _). IsInOrder c.args.key (g.S.Sought.place c.args.sought.now) v.items) (sym c.self.view_is) c.requires in
    let cut = subst (λ (v : Reserved _). IsKeyCut c.args.key (g.S.Sought.place c.args.sought.now) v.items c.first_of-first.result) (sym c.self.view_is) (c.first_of-first.ensures.cut c.requires.keys) in
    subst (λ (v : Reserved _). IsCut c.args.key (g.S.Sought.place c.args.sought.now) v.items c.first_of-first.result) c.self.view_is
    (IsCut-other c.args.key (g.S.Sought.place c.args.sought.now) c.self.inside.slots.items c.first_of-first.result c.get-member.result.now order cut c.get-member.ensures c.if-member-key.true)

pub returns-then-member-key-clause-absent : goal.returns-then-member-key-clause-absent
returns-then-member-key-clause-absent g c =
    let order = subst (λ (v : Reserved _). IsInOrder c.args.key (g.S.Sought.place c.args.sought.now) v.items) (sym c.self.view_is) c.requires in
    let cut = subst (λ (v : Reserved _). IsKeyCut c.args.key (g.S.Sought.place c.args.sought.now) v.items c.first_of-first.result) (sym c.self.view_is) (c.first_of-first.ensures.cut c.requires.keys) in
    ap (λ (v : Reserved _). slot_of c.args.key (g.S.Sought.place c.args.sought.now) v.items) (sym c.self.view_is)
    ∙ slot_of-other c.args.key (g.S.Sought.place c.args.sought.now) c.self.inside.slots.items c.first_of-first.result c.get-member.result.now order cut c.get-member.ensures c.if-member-key.true

pub returns-then-is_eq-clause-found : goal.returns-then-is_eq-clause-found
returns-then-is_eq-clause-found g c =
    let order = subst (λ (v : Reserved _). IsInOrder c.args.key (g.S.Sought.place c.args.sought.now) v.items) (sym c.self.view_is) c.requires in
    let cut = subst (λ (v : Reserved _). IsKeyCut c.args.key (g.S.Sought.place c.args.sought.now) v.items c.first_of-first.result) (sym c.self.view_is) (c.first_of-first.ensures.cut c.requires.keys) in
    ap (λ (v : Reserved _). slot_of c.args.key (g.S.Sought.place c.args.sought.now) v.items) (sym c.self.view_is)
    ∙ slot_of-first c.args.key (g.S.Sought.place c.args.sought.now) c.self.inside.slots.items c.first_of-first.result c.get-member.result.now order cut c.get-member.ensures
    (ap₂ (λ a b. a && b) (eq-eqb c.get-member.result.now.key c.args.key c.if-member-key.false) (ap is_eq (sym c.compare.ensures) ∙ sym c.is_eq.ensures ∙ c.if-is_eq.true))
